use Rattle.std.proofs.Common.{◌≡◌, drop}
use Rattle.session_rules.specs.Journal.{least_viewer}
use Rattle.session_core.specs.Members.{viewers_of, is_wanted}
use Rattle.session_core.proofs.members.least.Given as goal

-- the viewer is none of those that were passed
abbrev pub invariant-loop-m : goal.invariant-loop-m
invariant-loop-m l = least_viewer (is_wanted l.wanted) (viewers_of (drop l.m-index l.members)) ≡ least_viewer (is_wanted l.wanted) (viewers_of l.members)
