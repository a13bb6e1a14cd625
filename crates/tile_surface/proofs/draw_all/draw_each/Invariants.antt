use Rattle.std.proofs.Common.{◌≡◌, ◌+◌, ◌≤◌, drop, length}
use Rattle.draw_ops.specs.Drawing.{state_after_drawings}
use Rattle.draw_ops.specs.Fits.{AllFitState}
use Rattle.surface_parts.specs.Held.{state_of, AreRooms}
use Rattle.surface_parts.specs.Surfaces.{IsSoundSurface}
use Rattle.tile_surface.specs.Cells.{picture_of}
use Rattle.tile_surface.specs.Later.{OwnsAll}
use Rattle.tile_surface.specs.Ownership.{KeepsRest}
use Rattle.tile_surface.proofs.draw_all.draw_each.Given as goal

-- what is left fits, has its memory and its tiles, and makes of the surface what all of it makes of the first one
abbrev pub invariant-loop-d : goal.invariant-loop-d
invariant-loop-d l = record {
  drawn : l.drawn ≡ l.fn.count + l.d-index;
  sound : IsSoundSurface l.fn.size (state_of (picture_of l.fn.size l.cells) l.slots l.drawn);
  fit : AllFitState l.fn.size (state_of (picture_of l.fn.size l.cells) l.slots l.drawn) (drop l.d-index l.ds);
  left : state_after_drawings l.fn.size (state_of (picture_of l.fn.size l.cells) l.slots l.drawn) (drop l.d-index l.ds)
      ≡ state_after_drawings l.fn.size (state_of (picture_of l.fn.size l.initial.cells) l.initial.slots l.fn.count) l.ds;
  rooms : AreRooms l.drawn (drop l.d-index l.ds) l.rooms.items;
  own : OwnsAll l.fn.size l.slots l.cells (drop l.d-index l.ds);
  kept : KeepsRest l.fn.size l.initial.cells l.cells;
  pattern : 2048 ≤ length l.pattern;
  source : 2048 ≤ length l.source;
}
