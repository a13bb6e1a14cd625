use Rattle.demo_run.specs.Scene.{demo_head}
use Rattle.demo_run.specs.Load.{demo_asked}
use Rattle.host_program.proofs.Changed.{script_changed, steps_changed}
use Rattle.host_program.proofs.host.run.Goals as goal

pub returns-in-Script-clause-mode : goal.returns-in-Script-clause-mode
returns-in-Script-clause-mode g c = rw c.in-Script.is (record {
  answer = c.run_script.result;
  status_is = c.status.ensures;
  capture = c.run_script.ensures.capture;
  changes = script_changed (g.S.Source.left c.args.input.now);
  read_cause = c.run_script.ensures.read;
  write_cause = c.run_script.ensures.write;
})

pub returns-in-Record-clause-mode : goal.returns-in-Record-clause-mode
returns-in-Record-clause-mode g c = rw c.in-Record.is (record {
  answer = c.record_script.result;
  status_is = c.status-in-Record.ensures;
  record_is = c.record_script.ensures.record;
  changes = script_changed (g.S.Source.left c.args.input.now);
  read_cause = c.record_script.ensures.read;
  write_cause = c.record_script.ensures.write;
})

pub returns-in-Demo-clause-mode : goal.returns-in-Demo-clause-mode
returns-in-Demo-clause-mode g c = rw c.in-Demo.is (record {
  answer = c.run_demo.result;
  status_is = c.status-in-Demo.ensures;
  changes = steps_changed demo_head (demo_asked c.in-Demo.load.seed c.in-Demo.load.steps);
  written = c.run_demo.ensures.written;
  front = c.run_demo.ensures.front;
  fault = c.run_demo.ensures.fault;
  write_cause = c.run_demo.ensures.cause;
})
