use Rattle.std.proofs.Common.{◌≡◌, ℕ, ◌<◌, true, get_or}
use Rattle.save_plan.specs.declared.place.Place.{Place}
use Rattle.save_plan.specs.Blocks.{is_apart}
use Rattle.save_plan.proofs.room.end_in_the_way.Given as goal

-- none of the blocks so far is in the way
abbrev pub invariant-loop-place : goal.invariant-loop-place
invariant-loop-place l = (k : ℕ) (d : ℕ × Place) → k < l.place-index → is_apart l.from l.count (get_or l.blocks k d).1 ≡ true
