use Rattle.std.specs.Prelude.{IfOk}
use Rattle.std.proofs.lemmas.Result.{IfOk-weaker}
use Rattle.line_text.specs.Words.{words_of}
use Rattle.session_rules.specs.Steps.Step.{JoinStep}
use Rattle.script_run.proofs.HostedSteps.{step_stands}
use Rattle.script_run.proofs.host.ScriptHostCourse.join.Goals as goal

pub returns : goal.returns
returns c = IfOk-weaker c.write.result _ _
    (λ frame line r run s. step_stands c.args.self.now c.join.new.self (record { step = JoinStep c.args.name.now; preset = words_of c.args.preset.now; confirmed = c.args.confirmed })
    0 (words_of c.args.preset.now) c.in_ok-answer.answer c.size.result c.args.out.now.items _
    c.in_ok-answer.ensures.begun c.in_ok-answer.ensures.head c.size.ensures.size line (λ run is. c.in_ok-answer.ensures.done run (words_of c.args.preset.now) is) r run s)
    c.write.ensures.ok
