use Rattle.std.proofs.Common.{◌+◌, ◌-◌, ◌<◌, ◌≡◌, ◌≤◌, length}
use Rattle.session_rules.specs.Pending.{pending_between}
use Rattle.frame_plan.proofs.quiet.quiet_end.Given as goal

-- as many drawings stand before what is known to be quiet as before the first entry, and more before what lies past the end that is sought
abbrev pub invariant-loop-quiet : goal.invariant-loop-quiet
invariant-loop-quiet l = record {
  above : l.from ≤ l.quiet;
  apart : l.quiet ≤ l.end;
  within : l.end ≤ length l.session.journal;
  same : length (pending_between l.session.head.size l.session.journal 0 l.quiet) ≡ length (pending_between l.session.head.size l.session.journal 0 l.from);
  drew : l.end < length l.session.journal → length (pending_between l.session.head.size l.session.journal 0 l.from) < length (pending_between l.session.head.size l.session.journal 0 (l.end + 1));
}

abbrev pub decreases-loop-quiet : goal.decreases-loop-quiet
decreases-loop-quiet l = l.end - l.quiet
