use Rattle.std.proofs.Common.{take}
use Rattle.session_core.specs.Showing.{all_shown}
use Rattle.session_core.specs.Marking.{AreNoted}
use Rattle.session_core.proofs.noting.note_all.Given as goal

-- those so far are noted
abbrev pub invariant-loop-i : goal.invariant-loop-i
invariant-loop-i l = AreNoted l.size (all_shown (take l.i l.ds) (take l.i l.shown)) l.number l.fn.marks l.marks
