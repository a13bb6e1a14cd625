-- Worked scripts, by the record that is written of them.
use Rattle.std.proofs.Common.{◌≡◌, ◌∷◌, ◌++◌, [], ℕ, List, refl}
use Rattle.std.specs.Prelude.{codes}
use Rattle.script_rules.specs.Capture.{ended}
use Rattle.record_run.specs.Recording.{record_of}

-- a session of 64 by 48 with one row, the owner `host`, and the Join of viewer 1
abbrev joined : List ℕ
joined =
    0x52 ∷ 0x44 ∷ 0x50 ∷ 0x4A ∷ 0x31 ∷ 0x0A ∷ 0x40 ∷ 0x00 ∷ 0x30 ∷ 0x00 ∷ 0x01 ∷ 0x00 ∷ 0x04 ∷ 0x68 ∷ 0x6F ∷ 0x73 ∷ 0x74
    ∷ 0x06 ∷ 0x00 ∷ 0x01 ∷ 0x01 ∷ 0x00 ∷ 0x00 ∷ 0x00 ∷ 0x00 ∷ []

-- nothing was saved into slot 3
a_refused_step_is_no_entry : record_of (ended (codes "size 64 48") ++ ended (codes "restore 3 0 0")) ≡ joined
a_refused_step_is_no_entry = refl

-- a click, on which the board draws a dot
what_the_board_draws_is_no_entry : record_of (ended (codes "size 64 48") ++ ended (codes "mouse 9000 20 20"))
    ≡ joined ++ 0x0C ∷ 0x00 ∷ 0x04 ∷ 0x01 ∷ 0x00 ∷ 0x00 ∷ 0x00 ∷ 0x03 ∷ 0x00 ∷ 0x90 ∷ 0x14 ∷ 0x00 ∷ 0x14 ∷ 0x00 ∷ []
what_the_board_draws_is_no_entry = refl

a_leave_is_an_entry : record_of (ended (codes "size 64 48") ++ ended (codes "leave")) ≡ joined ++ 0x05 ∷ 0x00 ∷ 0x02 ∷ 0x01 ∷ 0x00 ∷ 0x00 ∷ 0x00 ∷ []
a_leave_is_an_entry = refl
