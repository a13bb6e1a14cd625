-- Scripts read by the definition: the first line that breaks a rule, and the least rule that it breaks.
use Rattle.std.proofs.Common.{◌≡◌, ℕ, List, [], ◌∷◌, ◌++◌, refl, Some, None}
use Rattle.std.specs.Prelude.{codes, Option}
use Rattle.script_rules.specs.Script.{opening_of, Opening, LineRefusal}
use Rattle.script_rules.specs.Script.Opening.{NoSize, Unended, Opened}
use Rattle.script_rules.specs.Capture.{ended, first_broken_line, written_bytes}

-- a broken line and its rule
abbrev broken_in : Option LineRefusal → List ℕ
broken_in None = []
broken_in (Some r) = r.line ∷ r.rule ∷ []

abbrev broken : Opening → List ℕ
broken NoSize = 1 ∷ 1 ∷ []
broken Unended = 1 ∷ 2 ∷ []
broken (Opened s) = broken_in s.refusal

abbrev sized : List ℕ → List ℕ
sized more = ended (codes "size 64 48") ++ more

abbrev broken_by : List ℕ → List ℕ
broken_by bytes = broken (opening_of bytes)

an_empty_script_has_no_size : broken_by ([]) ≡ 1 ∷ 1 ∷ []
an_empty_script_has_no_size = refl

a_width_is_a_multiple_of_four : broken_by (ended (codes "size 63 48")) ≡ 1 ∷ 1 ∷ []
a_width_is_a_multiple_of_four = refl

an_unended_size_breaks_rule_2 : broken_by (codes "size 64 48") ≡ 1 ∷ 2 ∷ []
an_unended_size_breaks_rule_2 = refl

a_size_alone_is_a_script : broken_by (sized []) ≡ []
a_size_alone_is_a_script = refl

an_unended_take_breaks_rule_2 : broken_by (sized (codes "take")) ≡ 2 ∷ 2 ∷ []
an_unended_take_breaks_rule_2 = refl

a_bad_name_breaks_rule_5 : broken_by (sized (ended (codes "invite a! owner"))) ≡ 2 ∷ 5 ∷ []
a_bad_name_breaks_rule_5 = refl

an_invite_without_a_role_is_no_form : broken_by (sized (ended (codes "invite ann"))) ≡ 2 ∷ 3 ∷ []
an_invite_without_a_role_is_no_form = refl

a_negative_width_is_no_form : broken_by (sized (ended (codes "fill 0 0 -5 5 000000"))) ≡ 2 ∷ 3 ∷ []
a_negative_width_is_no_form = refl

a_second_size_is_no_form : broken_by (sized (ended (codes "size 64 48"))) ≡ 2 ∷ 3 ∷ []
a_second_size_is_no_form = refl

an_invite_after_a_step_breaks_rule_4 : broken_by (sized (ended (codes "invite ann owner") ++ ended (codes "join ann full") ++ ended (codes "invite bob view"))) ≡ 4 ∷ 4 ∷ []
an_invite_after_a_step_breaks_rule_4 = refl

a_name_twice_breaks_rule_5 : broken_by (sized (ended (codes "invite ann owner") ++ ended (codes "invite ann view"))) ≡ 3 ∷ 5 ∷ []
a_name_twice_breaks_rule_5 = refl

an_unknown_override_breaks_rule_6 : broken_by (sized (ended (codes "invite ann owner") ++ ended (codes "join ann full bc3=1,1"))) ≡ 3 ∷ 6 ∷ []
an_unknown_override_breaks_rule_6 = refl

a_join_without_a_preset_is_no_form : broken_by (sized (ended (codes "invite ann owner") ++ ended (codes "join ann"))) ≡ 3 ∷ 3 ∷ []
a_join_without_a_preset_is_no_form = refl

a_step_of_nobody_breaks_rule_7 : broken_by (sized (ended (codes "@2 take"))) ≡ 2 ∷ 7 ∷ []
a_step_of_nobody_breaks_rule_7 = refl

a_step_after_leaving_breaks_rule_7 : broken_by (sized (ended (codes "leave") ++ ended (codes "take"))) ≡ 3 ∷ 7 ∷ []
a_step_after_leaving_breaks_rule_7 = refl

two_spaces_are_no_form : broken_by (sized (ended (codes "take "))) ≡ 2 ∷ 3 ∷ []
two_spaces_are_no_form = refl

every_form_is_read : broken_by (sized (ended (codes "fill -1 -0 5 5 0a0B0c clip 0 0 4 4") ++ ended (codes "text 4 5 FFFFFF 0") ++ ended (codes "mouse a000 1 2") ++ ended (codes "key 58 down") ++ ended (codes "image 0 65 1 0"))) ≡ []
every_form_is_read = refl

a_glyph_without_rows_is_no_form : broken_by (sized (ended (codes "glyph 0 65 0 0 0 1 FF"))) ≡ 2 ∷ 3 ∷ []
a_glyph_without_rows_is_no_form = refl

-- ---- captures

a_capture_is_read : first_broken_line (ended (codes "1 joined 64 48 plain") ++ ended (codes "1 00ff") ++ ended (codes "1 refused bad-drawing 1") ++ ended (codes "line 4 rule 3")) ≡ None
a_capture_is_read = refl

upper_case_breaks_a_capture : first_broken_line (ended (codes "1 joined 64 48 plain") ++ ended (codes "1 00FF")) ≡ Some 2
upper_case_breaks_a_capture = refl

an_unknown_viewer_breaks_a_capture : first_broken_line (ended (codes "1 joined 64 48 plain") ++ ended (codes "2 nothing")) ≡ Some 2
an_unknown_viewer_breaks_a_capture = refl

seven_is_the_greatest_rule : first_broken_line (ended (codes "line 3 rule 7")) ≡ None
seven_is_the_greatest_rule = refl

no_line_breaks_rule_8 : first_broken_line (ended (codes "line 3 rule 8")) ≡ Some 1
no_line_breaks_rule_8 = refl

bytes_are_joined : written_bytes 1 (ended (codes "1 joined 64 48 plain") ++ ended (codes "1 00ff") ++ ended (codes "2 joined 64 48 plain") ++ ended (codes "2 03") ++ ended (codes "1 01")) ≡ 0 ∷ 255 ∷ 1 ∷ []
bytes_are_joined = refl
