use Rattle.std.proofs.Common.{◌≡◌, ◌+◌, drop}
use Rattle.std.specs.Option.{option_map}
use Rattle.script_run.specs.Hosts.{place_of}
use Rattle.script_run.proofs.seats.place_of.Given as goal

-- the viewer is none of those that were passed
abbrev pub invariant-loop-i : goal.invariant-loop-i
invariant-loop-i l = place_of l.v l.seats ≡ option_map (λ k. k + l.i) (place_of l.v (drop l.i l.seats))
