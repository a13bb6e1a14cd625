use Rattle.std.proofs.Common.{◌∷◌, [], ◌++◌, ap, ◌∙◌}
use Rattle.std.proofs.lemmas.Result.{err_from_is_err_and}
use Rattle.script_lines.proofs.AnswerLines.{none_of_it, after_head, after_space}
use Rattle.script_lines.proofs.answer.write_line.Goals as goal

pub returns-in_err-push-clause-front : goal.returns-in_err-push-clause-front
returns-in_err-push-clause-front c =
    let p = err_from_is_err_and c.from_residual-in_err-push.result c.from_residual-in_err-push.ensures.1 in
    rw p.1 (after_head c.args.head.now c.args.text.now (c.in_err-push.ensures.items ∙ c.in_ok-extend_from_slice.ensures.items))

pub returns-in_err-extend_from_slice-2-clause-front : goal.returns-in_err-extend_from_slice-2-clause-front
returns-in_err-extend_from_slice-2-clause-front c =
    let p = err_from_is_err_and c.from_residual-in_err-extend_from_slice-2.result c.from_residual-in_err-extend_from_slice-2.ensures.1 in
    rw p.1 (after_space c.args.head.now c.args.text.now
    (c.in_err-extend_from_slice-2.ensures.items ∙ c.in_ok-push.ensures.items ∙ ap (λ xs. xs ++ 32 ∷ []) c.in_ok-extend_from_slice.ensures.items)
    (none_of_it c.extend_from_slice-2.new.self.items c.args.text.now))
