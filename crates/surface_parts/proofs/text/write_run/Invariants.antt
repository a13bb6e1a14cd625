use Rattle.std.proofs.Common.{◌≡◌, ◌*◌, ◌≤◌, drop, pos, ◌+ℤ◌}
use Rattle.px_core.specs.Picture.{both, painted}
use Rattle.px_core.specs.Rectangle.{in_clip}
use Rattle.rop3_core.specs.Palette.{session_colors}
use Rattle.draw_ops.specs.Formulas.{run_area, solid}
use Rattle.surface_parts.specs.Parts.{IsCanvas}
use Rattle.surface_parts.specs.Texts.{glyphs_held}
use Rattle.surface_parts.proofs.text.write_run.Given as goal

-- what is left of the run makes of the picture what the whole run makes of the first one, and the pen went no further than it may
abbrev pub invariant-loop-pair : goal.invariant-loop-pair
invariant-loop-pair l = record {
  left : painted l.fn.window.size (both (in_clip l.fn.window.clip) (run_area (glyphs_held l.slots l.script.font) (l.script.x +ℤ pos l.moved) l.script.y (drop l.pair-index l.run))) (solid session_colors l.script.color) l.pixels
      ≡ painted l.fn.window.size (both (in_clip l.fn.window.clip) (run_area (glyphs_held l.slots l.script.font) l.script.x l.script.y l.run)) (solid session_colors l.script.color) l.initial.pixels;
  canvas : IsCanvas l.fn.window.size l.pixels;
  far : l.moved ≤ 255 * l.pair-index;
}
