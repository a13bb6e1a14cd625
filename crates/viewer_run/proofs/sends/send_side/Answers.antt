use Rattle.std.proofs.Common.{◌≡◌, ◌≤◌, length, sym, refl, ◌∙◌, subst, arith}
use Rattle.edge_io.specs.Outside.{output_of}
use Rattle.viewer_run.specs.Sending.{SendsOn}
use Rattle.viewer_run.proofs.Stretches.{goes_on}
use Rattle.viewer_run.proofs.SendOn.{sends_none, sends_then}
use Rattle.viewer_run.proofs.sends.send_side.Goals as goal

pub loop-init : goal.loop-init
loop-init g c = record {
  lock = c.requires.lock;
  viewer = c.requires.viewer;
  idle = c.requires.idle;
  seen = c.requires.seen;
  mine = refl;
  share = refl;
  sends = sends_none c.args.lock.now.head c.args.seat.now.sender c.args.seat.now.desk c.args.pass (output_of g.K.Sink c.args.output.now) c.requires.idle c.requires.seen;
}

pub returns-then-is_done-clause-sends : goal.returns-then-is_done-clause-sends
returns-then-is_done-clause-sends g c =
    let r = c.send_once-next in
    sends_then c.args.lock.now.head c.args.seat.now.sender c.loop.seat.sender r.new.seat.sender c.args.seat.now.desk c.loop.seat.desk r.new.seat.desk c.args.pass c.loop.now r.result.0 _ _ _ r.result.1 c.loop.invariant.sends r.ensures.sends

pub loop-preserved : goal.loop-preserved
loop-preserved g c =
    let r = c.send_once-next in
    let stopped = goes_on r.result.1 (sym c.is_done.ensures ∙ c.if-is_done.false) in
    let after = r.ensures.sends.after_is stopped in
    let within : r.ensures.sends.last ≤ length r.result.0.seen = r.ensures.sends.within_seen in
    let number : r.new.seat.sender.number ≡ r.ensures.sends.last = after.2 in
    record {
      lock = r.ensures.lock;
      viewer = after.0 ∙ c.loop.invariant.viewer;
      idle = after.3;
      seen = omega (arith, within, number);
      mine = r.ensures.mine ∙ c.loop.invariant.mine;
      share = r.ensures.share ∙ c.loop.invariant.share;
      sends = subst (SendsOn c.args.lock.now.head c.args.seat.now.sender r.new.seat.sender c.args.seat.now.desk r.new.seat.desk c.args.pass r.result.0 (output_of g.K.Sink c.args.output.now) (output_of g.K.Sink r.new.output)) stopped
          (sends_then c.args.lock.now.head c.args.seat.now.sender c.loop.seat.sender r.new.seat.sender c.args.seat.now.desk c.loop.seat.desk r.new.seat.desk c.args.pass c.loop.now r.result.0 _ _ _ r.result.1 c.loop.invariant.sends r.ensures.sends);
    }
