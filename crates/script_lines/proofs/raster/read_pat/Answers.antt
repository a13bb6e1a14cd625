use Rattle.std.proofs.Common.{◌∷◌, [], refl, sym, ◌∙◌}
use Rattle.script_rules.specs.Fields.{with_clip, pat_by}
use Rattle.script_rules.specs.Fields.Field.{Small, Digits}
use Rattle.script_lines.proofs.Fields.{then_reads, then_none, none_first, no_drawing, drawn}
use Rattle.script_lines.proofs.raster.read_pat.Goals as goal

pub returns-in_err-rect : goal.returns-in_err-rect
returns-in_err-rect c = c.from_residual.ensures ∙ sym (no_drawing with_clip pat_by (none_first (Digits 2 ∷ Small ∷ []) c.in_err-rect.ensures))

pub returns-in_err-rop : goal.returns-in_err-rop
returns-in_err-rop c = c.from_residual-in_err-rop.ensures ∙ sym (no_drawing with_clip pat_by (none_first (Small ∷ []) (then_none c.in_ok-rect.ensures c.in_err-rop.ensures)))

pub returns-in_err-brush : goal.returns-in_err-brush
returns-in_err-brush c = c.from_residual-in_err-brush.ensures ∙ sym (no_drawing with_clip pat_by (then_none (then_reads c.in_ok-rect.ensures c.in_ok-rop.ensures) c.in_err-brush.ensures))

pub returns : goal.returns
returns c = c.clipped.ensures ∙ sym (drawn with_clip pat_by (then_reads (then_reads c.in_ok-rect.ensures c.in_ok-rop.ensures) c.in_ok-brush.ensures) refl)
