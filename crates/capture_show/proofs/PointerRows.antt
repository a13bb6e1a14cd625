-- Captures with the packet of a pointer: what is read of them, and what they show.
use Rattle.std.proofs.Common.{◌≡◌, ℕ, List, [], ◌∷◌, ◌++◌, refl}
use Rattle.std.specs.Prelude.{codes}
use Rattle.script_rules.specs.Capture.{ended, viewer_bytes}
use Rattle.capture_show.specs.Shown.{shown}
use Rattle.capture_show.specs.Shown.Shown.{RefusedAt, Unmarked}

abbrev joined : List ℕ
joined = ended (codes "1 joined 64 48 plain")

-- the packet of message 7, from its seventh byte on
abbrev behind : List ℕ
behind = codes "8068000103eb701818001700ea03ea03010000010a001b000000070000000000"

-- in two lines, before three bytes
-- wrong: each line is cut by itself
in_two_lines : viewer_bytes 1 (joined ++ ended (codes "1 0300002602f0") ++ ended (codes "1 " ++ behind ++ codes "030124")) ≡ 3 ∷ 1 ∷ 36 ∷ []
in_two_lines = refl

-- one that isn't all there is no refusal
-- wrong: what is held at the end is dropped
-- wrong: an unfinished packet is refused
unfinished : viewer_bytes 1 (joined ++ ended (codes "1 0300002602f0")) ≡ 3 ∷ 0 ∷ 0 ∷ 38 ∷ 2 ∷ 240 ∷ []
unfinished = refl

shown_unfinished : shown 1 (joined ++ ended (codes "1 0300002602f0")) ≡ Unmarked
shown_unfinished = refl

-- a place is counted without the packet before it
-- wrong: places count the bytes of the lines
place_behind : shown 1 (joined ++ ended (codes "1 0300002602f0" ++ behind ++ codes "05")) ≡ RefusedAt 0
place_behind = refl
