use Rattle.std.proofs.Common.{length, refl}
use Rattle.std.proofs.lemmas.Option.{slice_get_read}
use Rattle.demo_run.proofs.counts.shown_to_all.Goals as goal

pub loop-watcher-preserved : goal.loop-watcher-preserved
loop-watcher-preserved c = λ done h.
    let i = c.loop-watcher.watcher-index in
    let ws = c.args.watchers.now in
    c.with_watcher-all.ensures done i (c.loop-watcher.invariant done h)
    (h i c.watcher-item.result (slice_get_read ws (length ws) i c.watcher-item.result refl c.loop-watcher-test.true c.watcher-item.is))
