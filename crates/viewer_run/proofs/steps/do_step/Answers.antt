use Rattle.std.proofs.Common.{refl}
use Rattle.serve_rules.proofs.Handling.{handles_nothing, handles_idle}
use Rattle.serve_rules.proofs.InTurns.{turns_none, turns_idle}
use Rattle.viewer_run.proofs.OneStep.{event_step}
use Rattle.viewer_run.proofs.steps.do_step.Goals as goal

pub returns-in-Refresh-clause-done : goal.returns-in-Refresh-clause-done
returns-in-Refresh-clause-done g c = rw c.in-Refresh.is (handles_idle _ _ _ _ _ c.refresh.ensures.idle, refl)

pub returns-in-Suppress-clause-done : goal.returns-in-Suppress-clause-done
returns-in-Suppress-clause-done g c = rw c.in-Suppress.is (handles_idle _ _ _ _ _ c.suppress.ensures.idle, refl)

pub returns-in-Bye-clause-done : goal.returns-in-Bye-clause-done
returns-in-Bye-clause-done g c = rw c.in-Bye.is (handles_nothing _ _ _ _, refl)

pub returns-in-Shutdown-clause-done : goal.returns-in-Shutdown-clause-done
returns-in-Shutdown-clause-done g c = rw c.in-Shutdown.is (handles_nothing _ _ _ _, refl)

pub returns-in-Named-clause-done : goal.returns-in-Named-clause-done
returns-in-Named-clause-done g c = rw c.in-Named.is (handles_nothing _ _ _ _, refl)

pub returns-in-Ready-clause-done : goal.returns-in-Ready-clause-done
returns-in-Ready-clause-done g c = rw c.in-Ready.is (handles_nothing _ _ _ _, refl)

pub returns-in-Packet-clause-done : goal.returns-in-Packet-clause-done
returns-in-Packet-clause-done g c = rw c.in-Packet.is (handles_nothing _ _ _ _, refl)

pub returns-in-Event-clause-turns : goal.returns-in-Event-clause-turns
returns-in-Event-clause-turns g c = rw c.in-Event.is (event_step c.in-Event.event c.note_event.result.1 c.args.pass c.note_event.result.0 c.note_event.ensures.turns)

pub returns-in-Refresh-clause-turns : goal.returns-in-Refresh-clause-turns
returns-in-Refresh-clause-turns g c = rw c.in-Refresh.is (turns_idle _ _ c.refresh.ensures.idle)

pub returns-in-Suppress-clause-turns : goal.returns-in-Suppress-clause-turns
returns-in-Suppress-clause-turns g c = rw c.in-Suppress.is (turns_idle _ _ c.suppress.ensures.idle)

pub returns-in-Bye-clause-turns : goal.returns-in-Bye-clause-turns
returns-in-Bye-clause-turns g c = rw c.in-Bye.is (turns_none c.args.pass)

pub returns-in-Shutdown-clause-turns : goal.returns-in-Shutdown-clause-turns
returns-in-Shutdown-clause-turns g c = rw c.in-Shutdown.is (turns_none c.args.pass)

pub returns-in-Named-clause-turns : goal.returns-in-Named-clause-turns
returns-in-Named-clause-turns g c = rw c.in-Named.is (turns_none c.args.pass)

pub returns-in-Ready-clause-turns : goal.returns-in-Ready-clause-turns
returns-in-Ready-clause-turns g c = rw c.in-Ready.is (turns_none c.args.pass)

pub returns-in-Packet-clause-turns : goal.returns-in-Packet-clause-turns
returns-in-Packet-clause-turns g c = rw c.in-Packet.is (turns_none c.args.pass)
