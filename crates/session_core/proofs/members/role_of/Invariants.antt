use Rattle.std.proofs.Common.{◌≡◌, drop}
use Rattle.session_rules.specs.Journal.{role_of}
use Rattle.session_core.specs.Members.{viewers_of}
use Rattle.session_core.proofs.members.role_of.Given as goal

-- the viewer is none of those that were passed
abbrev pub invariant-loop-m : goal.invariant-loop-m
invariant-loop-m l = role_of l.v (viewers_of (drop l.m-index l.members)) ≡ role_of l.v (viewers_of l.members)
