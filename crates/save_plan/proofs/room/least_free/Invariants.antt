use Rattle.std.proofs.Common.{ℕ, ◌-◌, ◌<◌, ◌≤◌}
use Rattle.save_plan.specs.Blocks.{IsFree}
use Rattle.save_plan.proofs.room.least_free.Given as goal

-- no earlier position is free
abbrev pub invariant-loop-from : goal.invariant-loop-from
invariant-loop-from l = (l.from ≤ 57600) × ((before : ℕ) → before < l.from → IsFree l.count l.blocks before → ⊥)

-- the positions that are left
abbrev pub decreases-loop-from : goal.decreases-loop-from
decreases-loop-from l = 57601 - l.from
