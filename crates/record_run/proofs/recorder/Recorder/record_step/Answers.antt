use Rattle.script_lines.specs.Keywords.{step_of}
use Rattle.record_run.proofs.Recorders.{on_ok, step_done}
use Rattle.record_run.proofs.recorder.Recorder.record_step.Goals as goal

pub returns : goal.returns
returns c = rw (← c.self.view_is, c.in-Some.is)
    (on_ok c.do_step.result (λ d r keeps. step_done c.in-Some.session c.do_step.new.session r (step_of c.args.viewer c.args.step) c.args.out.now.items c.do_step.new.out.items keeps d) c.do_step.ensures.done)
