use Rattle.std.proofs.Common.{◌≡◌, drop}
use Rattle.save_plan.specs.Blocks.{place_of}
use Rattle.save_plan.proofs.blocks.Blocks.get.Given as goal

-- none of the blocks so far is the slot's
abbrev pub invariant-loop-held : goal.invariant-loop-held
invariant-loop-held l = place_of l.slot (drop l.held-index l.held-items) ≡ place_of l.slot l.held-items
