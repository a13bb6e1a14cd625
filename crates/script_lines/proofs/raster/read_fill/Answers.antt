use Rattle.std.proofs.Common.{◌∷◌, [], refl, sym, ◌∙◌}
use Rattle.script_rules.specs.Fields.{with_clip, fill_by}
use Rattle.script_rules.specs.Fields.Field.{Digits}
use Rattle.script_lines.proofs.Fields.{then_reads, then_none, none_first, no_drawing, drawn}
use Rattle.script_lines.proofs.raster.read_fill.Goals as goal

pub returns-in_err-rect : goal.returns-in_err-rect
returns-in_err-rect c = c.from_residual.ensures ∙ sym (no_drawing with_clip fill_by (none_first (Digits 6 ∷ []) c.in_err-rect.ensures))

pub returns-in_err-color : goal.returns-in_err-color
returns-in_err-color c = c.from_residual-in_err-color.ensures ∙ sym (no_drawing with_clip fill_by (then_none c.in_ok-rect.ensures c.in_err-color.ensures))

pub returns : goal.returns
returns c = c.clipped.ensures ∙ sym (drawn with_clip fill_by (then_reads c.in_ok-rect.ensures c.in_ok-color.ensures) refl)
