use Rattle.std.proofs.Common.{◌≡◌, drop}
use Rattle.session_core.specs.Members.{is_stopped}
use Rattle.session_core.proofs.members.is_suppressed.Given as goal

-- the viewer is none of those that were passed
abbrev pub invariant-loop-m : goal.invariant-loop-m
invariant-loop-m l = is_stopped (drop l.m-index l.members) l.v ≡ is_stopped l.members l.v
