use Rattle.script_rules.specs.Script.{without_preset}
use Rattle.script_lines.specs.Keywords.{step_of}
use Rattle.record_run.proofs.Recorders.{step_stands}
use Rattle.record_run.proofs.recorder.RecorderCourse.step.Goals as goal

pub returns : goal.returns
returns c = step_stands c.args.self.now c.record_step.new.self (without_preset (step_of c.args.viewer c.args.step))
    c.args.out.now.items c.record_step.new.out.items c.in_ok-record_step.ensures
