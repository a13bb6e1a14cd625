-- The positions that are looked for are those that the block takes.
use Rattle.std.proofs.Common.{ℕ, MatchOption, subst}
use Rattle.save_plan.specs.Blocks.{IsFree, IsLeastFree}
use Rattle.save_plan.proofs.room.room_for.Goals as goal

pub returns-in-Some : goal.returns-in-Some
returns-in-Some c = subst (λ n. MatchOption c.least_free.result ((from : ℕ) → IsFree n c.args.blocks.now from → ⊥) (λ from. IsLeastFree n c.args.blocks.now from))
    c.in-Some.ensures.0 c.least_free.ensures
