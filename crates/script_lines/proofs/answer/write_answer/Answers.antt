use Rattle.std.proofs.Common.{◌≡◌, ◌++◌, subst, sym, ap, ◌∙◌}
use Rattle.std.specs.Prelude.{OnOk, OnErr}
use Rattle.std.proofs.lemmas.Result.{err_from_is_err_and}
use Rattle.line_text.specs.Hexadecimal.{HoldsFront}
use Rattle.script_rules.specs.Capture.{of_viewer}
use Rattle.script_lines.specs.Answers.{line_of}
use Rattle.script_lines.proofs.AnswerLines.{none_of_it, joined_is}
use Rattle.script_lines.proofs.answer.write_answer.Goals as goal

pub returns-in_err-text-in-Refused-clause-front : goal.returns-in_err-text-in-Refused-clause-front
returns-in_err-text-in-Refused-clause-front c =
    let p = err_from_is_err_and c.from_residual-in_err-text-in-Refused.result c.from_residual-in_err-text-in-Refused.ensures.1 in
    rw p.1 (none_of_it _ _)

pub returns-in_ok-text-in-Joined-clause-ok : goal.returns-in_ok-text-in-Joined-clause-ok
returns-in_ok-text-in-Joined-clause-ok c =
    let is : of_viewer c.in-Joined.viewer c.deref.result.now ≡ line_of c.args.answer =
    ap (of_viewer c.in-Joined.viewer) (c.deref.ensures.value ∙ c.in_ok-text-in-Joined.ensures) ∙ joined_is c.in-Joined.size c.in-Joined.viewer c.in-Joined.preset.now ∙ ap line_of (sym c.in-Joined.is) in
    subst (λ line. OnOk c.write_of_viewer.result (c.write_of_viewer.new.out.items ≡ c.args.out.now.items ++ line)) is c.write_of_viewer.ensures.ok

pub returns-in_ok-text-in-Joined-clause-front : goal.returns-in_ok-text-in-Joined-clause-front
returns-in_ok-text-in-Joined-clause-front c =
    let is : of_viewer c.in-Joined.viewer c.deref.result.now ≡ line_of c.args.answer =
    ap (of_viewer c.in-Joined.viewer) (c.deref.ensures.value ∙ c.in_ok-text-in-Joined.ensures) ∙ joined_is c.in-Joined.size c.in-Joined.viewer c.in-Joined.preset.now ∙ ap line_of (sym c.in-Joined.is) in
    subst (λ line. OnErr c.write_of_viewer.result (HoldsFront c.args.out.now.items c.write_of_viewer.new.out.items line)) is c.write_of_viewer.ensures.front
