use Rattle.fast_path.proofs.OneByOne.{one_event, more_pushed}
use Rattle.fast_path.proofs.events.push_events.Goals as goal

pub loop-preserved : goal.loop-preserved
loop-preserved c =
    let here = one_event c.args.count c.loop.counter _ _ _ c.loop-test.true c.in_ok-read_event.ensures.0 in
    more_pushed _ _ _ _ _ _ c.in_ok-read_event.field-0 c.loop.invariant here c.in_ok-push.ensures.items
