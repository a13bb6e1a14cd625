use Rattle.std.proofs.Common.{◌≡◌, ◌+◌, ◌<◌, ◌^◌, drop, length}
use Rattle.draw_ops.specs.Fits.{AllFitState}
use Rattle.draw_ops.specs.Drawing.{state_after_drawings}
use Rattle.surface_parts.specs.Held.{AreRooms}
use Rattle.surface_flat.proofs.surface.Surface.draw_each.Given as goal

-- what is left fits, has its memory, and makes of the surface what all of it makes of the first one
abbrev pub invariant-loop-d : goal.invariant-loop-d
invariant-loop-d l = record {
  size : l.self.size ≡ l.fn.self.size;
  fit : AllFitState l.self.size l.self.state (drop l.d-index l.ds);
  left : state_after_drawings l.self.size l.self.state (drop l.d-index l.ds) ≡ state_after_drawings l.fn.self.size l.fn.self.state l.ds;
  rooms : AreRooms l.self.state.count (drop l.d-index l.ds) l.rooms.items;
  count : l.self.state.count + length (drop l.d-index l.ds) < 2 ^ 64;
}
