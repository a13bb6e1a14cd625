use Rattle.std.proofs.Common.{◌≡◌, length, take}
use Rattle.session_rules.specs.Pending.{pending_drawings}
use Rattle.session_core.specs.Showing.{all_shown}
use Rattle.session_core.proofs.shown.shown_all.Given as goal

-- so many are shown
abbrev pub invariant-loop-i : goal.invariant-loop-i
invariant-loop-i l = (length l.shown.items ≡ l.i) × (all_shown (take l.i l.ds) l.shown.items ≡ pending_drawings l.surface.size l.surface.state (take l.i l.ds))
