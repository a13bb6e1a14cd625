use Rattle.std.proofs.Common.{◌≡◌, ◌≤◌, ◌+◌, drop}
use Rattle.frame_rules.specs.Support.{distinct_loads}
use Rattle.frame_plan.proofs.support.distinct_loads.Given as goal

-- with those of the glyphs that are left they are all
abbrev pub invariant-loop-at : goal.invariant-loop-at
invariant-loop-at l = record { all : l.count + distinct_loads (drop l.at l.glyphs) ≡ distinct_loads l.glyphs; few : l.count ≤ l.at }
