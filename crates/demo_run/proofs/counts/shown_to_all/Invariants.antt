use Rattle.std.specs.Prelude.{List}
use Rattle.script_rules.specs.Script.{Asked}
use Rattle.demo_run.specs.Standing.{AreWatching}
use Rattle.demo_run.specs.Sums.{AreShown}
use Rattle.demo_run.proofs.counts.shown_to_all.Given as goal

-- the counts of so many viewers
abbrev pub invariant-loop-watcher : goal.invariant-loop-watcher
invariant-loop-watcher l = (done : List Asked) → AreWatching done l.watchers → AreShown done l.watcher-index l.all
