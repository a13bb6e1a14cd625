use Rattle.std.proofs.Common.{◌≡◌, ◌≤◌, length}
use Rattle.edge_io.specs.Outside.{output_of}
use Rattle.viewer_sender.specs.Senders.{IsIdle}
use Rattle.grow_lock.specs.Passes.{IsPassOf}
use Rattle.serve_rules.specs.declared.ends.SideEnd.TheVariants.{Stopped}
use Rattle.viewer_run.specs.Sending.{SendsOn}
use Rattle.viewer_run.proofs.sends.send_side.Given as goal

-- what was due so far was sent, and no fault was met
abbrev pub invariant-loop : goal.invariant-loop
invariant-loop g l = record {
  lock : IsPassOf l.lock l.now;
  viewer : l.seat.sender.v ≡ l.v;
  idle : IsIdle l.seat.sender;
  seen : l.seat.sender.number ≤ length l.now.seen;
  mine : l.now.mine ≡ l.fn.pass.mine;
  share : l.now.share ≡ l.fn.pass.share;
  sends : SendsOn l.lock.head l.fn.seat.sender l.seat.sender l.fn.seat.desk l.seat.desk l.fn.pass l.now (output_of g.K.Sink l.fn.output) (output_of g.K.Sink l.output) Stopped;
}
