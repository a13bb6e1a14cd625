-- Worked scripts with their records.
use Rattle.std.proofs.Common.{◌≡◌, ℕ, List, [], ◌∷◌, ◌++◌, refl}
use Rattle.std.specs.Prelude.{codes}
use Rattle.script_rules.specs.Capture.{ended}
use Rattle.record_run.specs.Recording.{record_of}

abbrev first_row : List ℕ
first_row =
    0x52 ∷ 0x44 ∷ 0x50 ∷ 0x4A ∷ 0x31 ∷ 0x0A ∷ 0x40 ∷ 0x00 ∷ 0x30 ∷ 0x00 ∷ 0x01 ∷ 0x00 ∷ 0x04 ∷ 0x68 ∷ 0x6F ∷ 0x73 ∷ 0x74
    ∷ 0x06 ∷ 0x00 ∷ 0x01 ∷ 0x01 ∷ 0x00 ∷ 0x00 ∷ 0x00 ∷ 0x00 ∷ []

abbrev second_row : List ℕ
second_row =
    0x12 ∷ 0x00 ∷ 0x05 ∷ 0x01 ∷ 0x00 ∷ 0x00 ∷ 0x00 ∷ 0x00 ∷ 0x00 ∷ 0x0A ∷ 0x00 ∷ 0x14 ∷ 0x00 ∷ 0x05 ∷ 0x00 ∷ 0x05 ∷ 0x00
    ∷ 0xFF ∷ 0x00 ∷ 0x00 ∷ []

a_take_appends_nothing : record_of (ended (codes "size 64 48") ++ ended (codes "take")) ≡ first_row
a_take_appends_nothing = refl

a_fill_is_an_entry : record_of (ended (codes "size 64 48") ++ ended (codes "take") ++ ended (codes "fill 10 20 5 5 FF0000")) ≡ first_row ++ second_row
a_fill_is_an_entry = refl

-- the record ends before a line that breaks a rule
an_unknown_word_ends_the_record : record_of (ended (codes "size 64 48") ++ ended (codes "paint")) ≡ first_row
an_unknown_word_ends_the_record = refl

-- and is empty where that is the first line
a_bad_size_leaves_nothing : record_of (ended (codes "size 63 48") ++ ended (codes "take")) ≡ []
a_bad_size_leaves_nothing = refl

-- without a step it is the head, with the rows so far
a_row_is_in_the_head : record_of (ended (codes "size 64 48") ++ ended (codes "invite cy view"))
    ≡ 0x52 ∷ 0x44 ∷ 0x50 ∷ 0x4A ∷ 0x31 ∷ 0x0A ∷ 0x40 ∷ 0x00 ∷ 0x30 ∷ 0x00 ∷ 0x01 ∷ 0x02 ∷ 0x02 ∷ 0x63 ∷ 0x79 ∷ []
a_row_is_in_the_head = refl
