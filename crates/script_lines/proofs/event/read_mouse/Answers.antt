use Rattle.std.proofs.Common.{◌∷◌, [], sym, ap, ◌∙◌}
use Rattle.std.specs.Prelude.{pos}
use Rattle.script_rules.specs.Fields.Field.{Count}
use Rattle.script_lines.specs.Steps.{mouse_by}
use Rattle.script_lines.proofs.Fields.{then_reads, then_none, none_first}
use Rattle.script_lines.proofs.Events.{no_mouse, mouse_read}
use Rattle.script_lines.proofs.event.read_mouse.Goals as goal

pub returns-in_err-flags : goal.returns-in_err-flags
returns-in_err-flags c = c.from_residual.ensures ∙ sym (no_mouse (none_first (Count ∷ Count ∷ []) c.in_err-flags.ensures))

pub returns-in_err-x : goal.returns-in_err-x
returns-in_err-x c = c.from_residual-in_err-x.ensures ∙ sym (no_mouse (none_first (Count ∷ []) (then_none c.in_ok-flags.ensures c.in_err-x.ensures)))

pub returns-in_err-y : goal.returns-in_err-y
returns-in_err-y c = c.from_residual-in_err-y.ensures ∙ sym (no_mouse (then_none (then_reads c.in_ok-flags.ensures c.in_ok-x.ensures) c.in_err-y.ensures))

pub returns-in-Some : goal.returns-in-Some
returns-in-Some c = sym (mouse_read (then_reads (then_reads c.in_ok-flags.ensures c.in_ok-x.ensures) c.in_ok-y.ensures)
    ∙ ap (mouse_by (pos c.in_ok-flags.flags ∷ pos c.in_ok-x.x ∷ pos c.in_ok-y.y ∷ [])) c.in-Some.ensures)

pub returns-in-None : goal.returns-in-None
returns-in-None c = sym (mouse_read (then_reads (then_reads c.in_ok-flags.ensures c.in_ok-x.ensures) c.in_ok-y.ensures)
    ∙ ap (mouse_by (pos c.in_ok-flags.flags ∷ pos c.in_ok-x.x ∷ pos c.in_ok-y.y ∷ [])) c.in-None.ensures.0)
