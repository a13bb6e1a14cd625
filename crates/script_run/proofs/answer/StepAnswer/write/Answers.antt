use Rattle.std.proofs.Common.{sym, subst}
use Rattle.line_text.specs.Hexadecimal.{HoldsFront, hexadecimal_text}
use Rattle.line_text.specs.Words.{words_of}
use Rattle.script_run.specs.Answers.{answer_text}
use Rattle.std.proofs.lemmas.Result.{err_from_is_err_and}
use Rattle.script_run.proofs.FrameLines.{begun_front}
use Rattle.script_run.proofs.answer.StepAnswer.write.Goals as goal

pub returns-in_err-begin_frame-in-Frame-clause-front : goal.returns-in_err-begin_frame-in-Frame-clause-front
returns-in_err-begin_frame-in-Frame-clause-front c =
    let p = err_from_is_err_and c.from_residual.result c.from_residual.ensures.1 in
    rw p.1 (subst (λ a. HoldsFront c.args.out.now.items c.begin_frame.new.out.items (answer_text c.args.size c.args.viewer (words_of c.args.preset.now) a)) (sym c.in-Frame.is)
    (begun_front c.args.out.now.items c.begin_frame.new.out.items c.args.viewer (hexadecimal_text c.in-Frame.bytes.items) c.in_err-begin_frame-in-Frame.ensures.front))
