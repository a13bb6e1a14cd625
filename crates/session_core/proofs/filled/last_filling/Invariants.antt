use Rattle.std.proofs.Common.{◌≡◌, take}
use Rattle.session_core.specs.Filled.{last_filling}
use Rattle.session_core.proofs.filled.last_filling.Given as goal

-- the last one so far
abbrev pub invariant-loop-i : goal.invariant-loop-i
invariant-loop-i l = l.last ≡ last_filling l.wanted (take l.i l.ds)
