use Rattle.std.proofs.Common.{◌∙◌}
use Rattle.fast_path.proofs.OneByOne.{passed_event}
use Rattle.fast_path.proofs.events.check_events.Goals as goal

pub loop-preserved : goal.loop-preserved
loop-preserved c =
    let read = c.in_ok-read_event.ensures in
    (passed_event c.args.count c.loop.counter _ _ _ c.loop-test.true read.0 ∙ c.loop.invariant.0, read.1 ∙ c.loop.invariant.1)
