use Rattle.std.proofs.Common.{◌≡◌, ◌+◌, drop}
use Rattle.std.specs.Prelude.{option_map}
use Rattle.session_core.specs.Members.{place_of}
use Rattle.session_core.proofs.members.place_of.Given as goal

-- the viewer is none of those that were passed
abbrev pub invariant-loop-i : goal.invariant-loop-i
invariant-loop-i l = place_of l.v l.members ≡ option_map (λ k. k + l.i) (place_of l.v (drop l.i l.members))
