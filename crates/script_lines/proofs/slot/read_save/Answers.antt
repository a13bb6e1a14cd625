use Rattle.std.proofs.Common.{◌∷◌, [], refl, sym, ◌∙◌}
use Rattle.script_rules.specs.Fields.{without_clip, save_by}
use Rattle.script_rules.specs.Fields.Field.{Coordinate, Count}
use Rattle.script_lines.proofs.Fields.{then_reads, then_none, none_first, no_drawing, drawn}
use Rattle.script_lines.proofs.slot.read_save.Goals as goal

pub returns-in_err-slot : goal.returns-in_err-slot
returns-in_err-slot c = c.from_residual.ensures ∙ sym (no_drawing without_clip save_by (none_first (Coordinate ∷ Coordinate ∷ Count ∷ Count ∷ []) c.in_err-slot.ensures))

pub returns-in_err-rect : goal.returns-in_err-rect
returns-in_err-rect c = c.from_residual-in_err-rect.ensures ∙ sym (no_drawing without_clip save_by (then_none c.in_ok-slot.ensures c.in_err-rect.ensures))

pub returns : goal.returns
returns c = c.unclipped.ensures ∙ sym (drawn without_clip save_by (then_reads c.in_ok-slot.ensures c.in_ok-rect.ensures) refl)
