use Rattle.std.proofs.Common.{[], ◌∙◌}
use Rattle.std.proofs.lemmas.Result.{IfOk-weaker}
use Rattle.line_text.specs.Words.{words_of}
use Rattle.script_rules.specs.Script.{without_preset}
use Rattle.script_lines.specs.Keywords.{step_of}
use Rattle.script_run.proofs.HostedSteps.{step_stands, has_begun}
use Rattle.script_run.proofs.host.ScriptHostCourse.step.Goals as goal

pub returns : goal.returns
returns c = IfOk-weaker c.write.result _ _
    (λ frame line r run s. step_stands c.args.self.now c.step.new.self (without_preset (step_of c.args.viewer c.args.step))
    c.args.viewer (words_of []) c.in_ok-answer.answer c.size.result c.args.out.now.items _
    (c.in_ok-answer.ensures.begun ∙ has_begun c.args.self.now r run c.args.viewer s c.requires.present) c.in_ok-answer.ensures.head c.size.ensures.size line
    (λ run is. c.in_ok-answer.ensures.done run (words_of []) is) r run s)
    c.write.ensures.ok

pub step-requires-clause-course : goal.step-requires-clause-course
step-requires-clause-course c = record { run = c.requires.course.run; is_run = c.requires.course.standing.is_run }
