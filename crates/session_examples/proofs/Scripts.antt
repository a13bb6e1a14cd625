-- Worked scripts: the text of the capture that each gives, with the bytes of its frames left out.
use Rattle.std.proofs.Common.{◌≡◌, ℕ, zero, suc, List, [], ◌++◌, refl}
use Rattle.std.specs.Fmt.{digits}
use Rattle.std.specs.Prelude.{codes}
use Rattle.script_rules.specs.Capture.{ended}
use Rattle.script_rules.specs.CaptureText.{FrameText, capture_of}

-- an encoder that writes nothing
abbrev no_bytes : FrameText (Unit {0})
no_bytes = record { first = tt; bytes = λ size c j e take. []; after = λ size c j e take. e }

-- a script's capture without the bytes of its frames
abbrev answers_of : List ℕ → List ℕ
answers_of script = capture_of no_bytes script

control_is_handed_on : answers_of (ended (codes "size 64 48")
    ++ ended (codes "invite ann owner")
    ++ ended (codes "invite bob view")
    ++ ended (codes "invite cy control")
    ++ ended (codes "join ann full")
    ++ ended (codes "join bob full")
    ++ ended (codes "join cy full")
    ++ ended (codes "@2 mouse 9000 20 20")
    ++ ended (codes "key 58 down")
    ++ ended (codes "@3 mouse 9000 20 20")
    ++ ended (codes "@2 take"))
    ≡ ended (codes "1 joined 64 48 full")
    ++ ended (codes "2 joined 64 48 full")
    ++ ended (codes "3 joined 64 48 full")
    ++ ended (codes "2 refused not-holder 1")
    ++ ended (codes "2 ")
unfolding digits
control_is_handed_on = refl

popup_and_a_holder_who_leaves : answers_of (ended (codes "size 64 48")
    ++ ended (codes "invite ann owner")
    ++ ended (codes "invite bob view")
    ++ ended (codes "invite cy control")
    ++ ended (codes "join ann full")
    ++ ended (codes "join bob full")
    ++ ended (codes "join cy full")
    ++ ended (codes "@2 mouse 9000 20 20")
    ++ ended (codes "key 58 down")
    ++ ended (codes "@3 mouse 9000 20 20")
    ++ ended (codes "@2 take")
    ++ ended (codes "@3 mouse A000 0 0")
    ++ ended (codes "@3 leave")
    ++ ended (codes "mouse 9000 60 40")
    ++ ended (codes "take"))
    ≡ ended (codes "1 joined 64 48 full")
    ++ ended (codes "2 joined 64 48 full")
    ++ ended (codes "3 joined 64 48 full")
    ++ ended (codes "2 refused not-holder 1")
    ++ ended (codes "2 ")
    ++ ended (codes "3 left")
    ++ ended (codes "1 ")
unfolding digits
popup_and_a_holder_who_leaves = refl

refused_drawings : answers_of (ended (codes "size 64 48")
    ++ ended (codes "copy 0 0 64 48 CC 0 1")
    ++ ended (codes "dst 0 0 4 4 CC")
    ++ ended (codes "line 0 0 9 0 FFFFFF")
    ++ ended (codes "restore 3 0 0")
    ++ ended (codes "image 0 16 16 FF0000")
    ++ ended (codes "blit 0 0 16 16 CC 0 1 0")
    ++ ended (codes "take"))
    ≡ ended (codes "1 joined 64 48 plain")
    ++ ended (codes "1 refused bad-drawing 4")
    ++ ended (codes "1 refused bad-drawing 3")
    ++ ended (codes "1 refused bad-drawing 7")
    ++ ended (codes "1 refused empty-slot 3")
    ++ ended (codes "1 refused slot-size 0")
    ++ ended (codes "1 ")
unfolding digits
refused_drawings = refl

empty_fill_is_refused : answers_of (ended (codes "size 64 48")
    ++ ended (codes "fill 0 0 0 5 000000")
    ++ ended (codes "take"))
    ≡ ended (codes "1 joined 64 48 plain")
    ++ ended (codes "1 refused bad-drawing 1")
    ++ ended (codes "1 ")
unfolding digits
empty_fill_is_refused = refl

save_and_restore : answers_of (ended (codes "size 64 48")
    ++ ended (codes "invite ann owner")
    ++ ended (codes "join ann full")
    ++ ended (codes "take")
    ++ ended (codes "save 0 0 0 10 10")
    ++ ended (codes "take")
    ++ ended (codes "restore 0 0 0")
    ++ ended (codes "take"))
    ≡ ended (codes "1 joined 64 48 full")
    ++ ended (codes "1 ")
    ++ ended (codes "1 ")
    ++ ended (codes "1 ")
unfolding digits
save_and_restore = refl

suppress_allow_refresh : answers_of (ended (codes "size 64 64")
    ++ ended (codes "invite ann owner")
    ++ ended (codes "join ann full")
    ++ ended (codes "fill 0 0 64 64 FF0000")
    ++ ended (codes "take")
    ++ ended (codes "suppress")
    ++ ended (codes "fill 0 0 64 64 FF0000")
    ++ ended (codes "fill 0 0 64 64 FF0000")
    ++ ended (codes "fill 0 0 64 64 FF0000")
    ++ ended (codes "fill 0 0 64 64 FF0000")
    ++ ended (codes "fill 0 0 64 64 FF0000")
    ++ ended (codes "fill 0 0 64 64 FF0000")
    ++ ended (codes "fill 0 0 64 64 FF0000")
    ++ ended (codes "fill 0 0 64 64 FF0000")
    ++ ended (codes "fill 0 0 64 64 FF0000")
    ++ ended (codes "fill 0 0 64 64 FF0000")
    ++ ended (codes "take")
    ++ ended (codes "allow")
    ++ ended (codes "take")
    ++ ended (codes "refresh 5 5 1 1")
    ++ ended (codes "take")
    ++ ended (codes "take"))
    ≡ ended (codes "1 joined 64 64 full")
    ++ ended (codes "1 ")
    ++ ended (codes "1 nothing")
    ++ ended (codes "1 ")
    ++ ended (codes "1 ")
    ++ ended (codes "1 nothing")
unfolding digits
suppress_allow_refresh = refl

room_is_full : answers_of (ended (codes "size 64 48")
    ++ ended (codes "invite ann owner")
    ++ ended (codes "join ann plain")
    ++ ended (codes "join ann plain")
    ++ ended (codes "join ann plain")
    ++ ended (codes "join ann plain")
    ++ ended (codes "join ann plain")
    ++ ended (codes "join ann plain")
    ++ ended (codes "join ann plain")
    ++ ended (codes "join ann plain")
    ++ ended (codes "join ann plain")
    ++ ended (codes "join ann plain")
    ++ ended (codes "join ann plain")
    ++ ended (codes "join ann plain")
    ++ ended (codes "join ann plain")
    ++ ended (codes "join ann plain")
    ++ ended (codes "join ann plain")
    ++ ended (codes "join ann plain")
    ++ ended (codes "join ann plain")
    ++ ended (codes "@3 leave")
    ++ ended (codes "join ann plain")
    ++ ended (codes "join eve plain"))
    ≡ ended (codes "1 joined 64 48 plain")
    ++ ended (codes "2 joined 64 48 plain")
    ++ ended (codes "3 joined 64 48 plain")
    ++ ended (codes "4 joined 64 48 plain")
    ++ ended (codes "5 joined 64 48 plain")
    ++ ended (codes "6 joined 64 48 plain")
    ++ ended (codes "7 joined 64 48 plain")
    ++ ended (codes "8 joined 64 48 plain")
    ++ ended (codes "9 joined 64 48 plain")
    ++ ended (codes "10 joined 64 48 plain")
    ++ ended (codes "11 joined 64 48 plain")
    ++ ended (codes "12 joined 64 48 plain")
    ++ ended (codes "13 joined 64 48 plain")
    ++ ended (codes "14 joined 64 48 plain")
    ++ ended (codes "15 joined 64 48 plain")
    ++ ended (codes "16 joined 64 48 plain")
    ++ ended (codes "0 refused room-full")
    ++ ended (codes "3 left")
    ++ ended (codes "17 joined 64 48 plain")
    ++ ended (codes "0 refused not-invited")
unfolding digits
room_is_full = refl

overlapping_copy_in_a_clip : answers_of (ended (codes "size 64 48")
    ++ ended (codes "invite ann owner")
    ++ ended (codes "join ann full")
    ++ ended (codes "take")
    ++ ended (codes "copy 0 1 64 47 CC 0 0 clip 8 8 16 16")
    ++ ended (codes "take")
    ++ ended (codes "copy 0 1 64 47 CC 0 0 clip 8 8 16 16")
    ++ ended (codes "take"))
    ≡ ended (codes "1 joined 64 48 full")
    ++ ended (codes "1 ")
    ++ ended (codes "1 ")
    ++ ended (codes "1 ")
unfolding digits
overlapping_copy_in_a_clip = refl

three_glyphs_and_two_entries : answers_of (ended (codes "size 64 48")
    ++ ended (codes "invite ann owner")
    ++ ended (codes "join ann bare gc0=2,4")
    ++ ended (codes "take")
    ++ ended (codes "glyph 0 65 0 0 8 1 FF")
    ++ ended (codes "glyph 0 66 0 0 8 1 0F")
    ++ ended (codes "glyph 0 67 0 0 8 1 F0")
    ++ ended (codes "text 4 5 FFFFFF 0 65:0 66:8 67:8")
    ++ ended (codes "take"))
    ≡ ended (codes "1 joined 64 48 bare gc0=2,4")
    ++ ended (codes "1 ")
    ++ ended (codes "1 ")
unfolding digits
three_glyphs_and_two_entries = refl

marker_support : answers_of (ended (codes "size 64 48")
    ++ ended (codes "invite ann owner")
    ++ ended (codes "join ann marked")
    ++ ended (codes "take"))
    ≡ ended (codes "1 joined 64 48 marked")
    ++ ended (codes "1 ")
unfolding digits
marker_support = refl

width_not_a_multiple_of_four : answers_of (ended (codes "size 63 48"))
    ≡ ended (codes "line 1 rule 1")
unfolding digits
width_not_a_multiple_of_four = refl

empty_script : answers_of ([])
    ≡ ended (codes "line 1 rule 1")
unfolding digits
empty_script = refl

-- no form has an empty word, which two spaces leave, or one at a line's end

invite_without_a_name : answers_of (ended (codes "size 64 48")
    ++ ended (codes "invite  owner"))
    ≡ ended (codes "1 joined 64 48 plain")
    ++ ended (codes "line 2 rule 3")
unfolding digits
invite_without_a_name = refl

join_without_a_name : answers_of (ended (codes "size 64 48")
    ++ ended (codes "invite ann owner")
    ++ ended (codes "join  plain"))
    ≡ ended (codes "line 3 rule 3")
unfolding digits
join_without_a_name = refl

join_with_two_spaces_before_its_preset : answers_of (ended (codes "size 64 48")
    ++ ended (codes "invite ann owner")
    ++ ended (codes "join ann  plain"))
    ≡ ended (codes "line 3 rule 3")
unfolding digits
join_with_two_spaces_before_its_preset = refl

join_with_a_space_at_its_end : answers_of (ended (codes "size 64 48")
    ++ ended (codes "invite ann owner")
    ++ ended (codes "join ann plain "))
    ≡ ended (codes "line 3 rule 3")
unfolding digits
join_with_a_space_at_its_end = refl

-- ---- no number of drawings to a take is too large

abbrev repeated : ℕ → List ℕ → List ℕ
repeated zero text = []
repeated (suc n) text = text ++ repeated n text

a_take_may_find_more_drawings_than_are_sent_one_by_one : answers_of (ended (codes "size 4 4") ++ repeated 257 (ended (codes "fill 0 0 1 1 000001")) ++ ended (codes "take"))
    ≡ ended (codes "1 joined 4 4 plain") ++ ended (codes "1 ")
unfolding digits
a_take_may_find_more_drawings_than_are_sent_one_by_one = refl
