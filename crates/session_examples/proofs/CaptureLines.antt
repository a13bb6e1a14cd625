-- Worked lines of captures: how an answer is written, and the first line that a capture may not have.
use Rattle.std.proofs.Common.{◌≡◌, ℕ, List, [], ◌++◌, refl, Some, None}
use Rattle.std.specs.Fmt.{digits}
use Rattle.std.specs.Prelude.{codes, Option}
use Rattle.script_rules.specs.Capture.{ended, first_broken_line}
use Rattle.script_rules.specs.CaptureText.{FrameText, capture_of}

-- an encoder that writes nothing
abbrev no_bytes : FrameText (Unit {0})
no_bytes = record { first = tt; bytes = λ size c j e take. []; after = λ size c j e take. e }

-- ---- answers

-- a script's capture without the bytes of its frames
abbrev answers_of : List ℕ → List ℕ
answers_of script = capture_of no_bytes script

-- wrong: a size that isn't ended writes rule 1
an_unended_size_breaks_rule_2_of_its_line : answers_of (codes "size 64 48") ≡ ended (codes "line 1 rule 2")
unfolding digits
an_unended_size_breaks_rule_2_of_its_line = refl

-- a session whose one viewer may not hold control
-- wrong: where nobody holds control no number is written
nobody_holds_control : answers_of (ended (codes "size 64 48") ++ ended (codes "invite ann view") ++ ended (codes "join ann plain") ++ ended (codes "mouse 9000 20 20"))
    ≡ ended (codes "1 joined 64 48 plain") ++ ended (codes "1 refused not-holder 0")
unfolding digits
nobody_holds_control = refl

a_missing_glyph_is_told_by_its_code : answers_of (ended (codes "size 64 48") ++ ended (codes "text 4 5 FFFFFF 1 65:0"))
    ≡ ended (codes "1 joined 64 48 plain") ++ ended (codes "1 refused empty-slot 65")
unfolding digits
a_missing_glyph_is_told_by_its_code = refl

-- ---- captures that are read

abbrev broken_after_a_join : List ℕ → Option ℕ
broken_after_a_join line = first_broken_line (ended (codes "1 joined 64 48 plain") ++ ended line)

the_greatest_holder : broken_after_a_join (codes "1 refused not-holder 65535") ≡ None
the_greatest_holder = refl

-- wrong: not-holder 65536 is read
no_holder_is_greater : broken_after_a_join (codes "1 refused not-holder 65536") ≡ Some 2
no_holder_is_greater = refl

the_greatest_slot : broken_after_a_join (codes "1 refused slot-size 255") ≡ None
the_greatest_slot = refl

-- wrong: slot-size 256 is read
no_slot_of_a_size_is_256 : broken_after_a_join (codes "1 refused slot-size 256") ≡ Some 2
no_slot_of_a_size_is_256 = refl

-- wrong: bad-drawing 0 is read
no_drawing_breaks_rule_0 : broken_after_a_join (codes "1 refused bad-drawing 0") ≡ Some 2
no_drawing_breaks_rule_0 = refl

the_greatest_line_of_a_script : broken_after_a_join (codes "line 4294967295 rule 3") ≡ None
the_greatest_line_of_a_script = refl

-- wrong: line 4294967296 is read
no_line_of_a_script_is_greater : broken_after_a_join (codes "line 4294967296 rule 3") ≡ Some 2
no_line_of_a_script_is_greater = refl

-- wrong: rule 0 of a line is read
no_line_breaks_rule_0 : broken_after_a_join (codes "line 3 rule 0") ≡ Some 2
no_line_breaks_rule_0 = refl

the_greatest_viewer_joins : broken_after_a_join (codes "65535 joined 64 48 plain") ≡ None
the_greatest_viewer_joins = refl

-- wrong: viewer 65536 joins
no_greater_viewer_joins : broken_after_a_join (codes "65536 joined 64 48 plain") ≡ Some 2
no_greater_viewer_joins = refl

-- wrong: a viewer's number and no digits are a frame without bytes
no_digits_are_no_bytes : broken_after_a_join (codes "1 ") ≡ Some 2
no_digits_are_no_bytes = refl

-- wrong: a join is refused for a full journal
a_full_journal_refuses_no_join : broken_after_a_join (codes "0 refused journal-full") ≡ Some 2
a_full_journal_refuses_no_join = refl

-- wrong: a step is refused for a full room
a_full_room_refuses_no_step : broken_after_a_join (codes "1 refused room-full") ≡ Some 2
a_full_room_refuses_no_step = refl

-- wrong: any size joins
a_joined_line_has_a_sessions_size : broken_after_a_join (codes "2 joined 63 48 plain") ≡ Some 2
a_joined_line_has_a_sessions_size = refl

-- wrong: no preset is `plain`
a_joined_line_has_a_preset : broken_after_a_join (codes "2 joined 64 48") ≡ Some 2
a_joined_line_has_a_preset = refl

-- wrong: a capture's last line may be unended
the_last_line_of_a_capture_is_ended : first_broken_line (codes "line 3 rule 3") ≡ Some 1
the_last_line_of_a_capture_is_ended = refl
