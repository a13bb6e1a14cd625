use Rattle.std.proofs.Common.{◌≡◌, ◌*◌, ◌≤◌, drop, pos, ◌+ℤ◌}
use Rattle.px_core.specs.Picture.{both, painted}
use Rattle.px_core.specs.Rectangle.{in_clip}
use Rattle.rop3_core.specs.Palette.{session_colors}
use Rattle.draw_ops.specs.Formulas.{run_area, solid}
use Rattle.surface_parts.specs.Texts.{glyphs_held}
use Rattle.tile_surface.specs.Cells.{picture_of}
use Rattle.tile_surface.specs.Needed.{OwnsRun}
use Rattle.tile_surface.specs.Ownership.{KeepsRest}
use Rattle.tile_surface.proofs.texts.write_run.Given as goal

-- what is left of the run makes of the picture what the whole run makes of the first one, its tiles were the surface's own from the start, and
-- the pen went no further than it may
abbrev pub invariant-loop-pair : goal.invariant-loop-pair
invariant-loop-pair l = record {
  left : painted l.fn.window.size (both (in_clip l.fn.window.clip) (run_area (glyphs_held l.slots l.script.font) (l.script.x +ℤ pos l.moved) l.script.y (drop l.pair-index l.run))) (solid session_colors l.script.color) (picture_of l.fn.window.size l.cells)
      ≡ painted l.fn.window.size (both (in_clip l.fn.window.clip) (run_area (glyphs_held l.slots l.script.font) l.script.x l.script.y l.run)) (solid session_colors l.script.color) (picture_of l.fn.window.size l.initial.cells);
  own : OwnsRun l.fn.window.size l.initial.cells (in_clip l.fn.window.clip) (glyphs_held l.slots l.script.font) (l.script.x +ℤ pos l.moved) l.script.y (drop l.pair-index l.run);
  kept : KeepsRest l.fn.window.size l.initial.cells l.cells;
  far : l.moved ≤ 255 * l.pair-index;
}
