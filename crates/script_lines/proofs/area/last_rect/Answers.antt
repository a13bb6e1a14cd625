use Rattle.std.proofs.Common.{sym, ap, ◌∙◌}
use Rattle.script_rules.specs.Fields.{rect_alone}
use Rattle.script_lines.specs.Reading.{numbers_of}
use Rattle.script_lines.proofs.Fields.{no_rect, rect_read}
use Rattle.script_lines.proofs.area.last_rect.Goals as goal

pub returns-in_err-rect : goal.returns-in_err-rect
returns-in_err-rect c = c.from_residual.ensures ∙ sym (no_rect c.in_err-rect.ensures)

pub returns-in-Some : goal.returns-in-Some
returns-in-Some c = sym (rect_read c.in_ok-rect.ensures ∙ ap (rect_alone (numbers_of c.in_ok-rect.rect)) c.in-Some.ensures)

pub returns-in-None : goal.returns-in-None
returns-in-None c = sym (rect_read c.in_ok-rect.ensures ∙ ap (rect_alone (numbers_of c.in_ok-rect.rect)) c.in-None.ensures.0)
