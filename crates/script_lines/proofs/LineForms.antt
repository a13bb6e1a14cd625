-- At most one of the forms of a line fits, since their first words differ.
use Rattle.std.proofs.Common.{◌≡◌, ℕ, ◌+◌, ◌≤◌, List, [], ◌∷◌, length, refl, ap, sym, ◌∙◌, subst, Some, None, Bool, true, false, arith}
use Rattle.std.specs.Prelude.{Option, option_map, if◌then◌else◌, codes, ◌==◌, ◌&&◌, count_by}
use Rattle.std.proofs.lemmas.Bool.{and_parts}
use Rattle.std.proofs.lemmas.Bool.Decides.{nat_tests}
use Rattle.std.proofs.lemmas.List.Splits.{length-slice_split}
use Rattle.std.specs.Option.{option_and_then}
use Rattle.line_text.specs.Words.{is_same_word, words_of}
use Rattle.line_text.specs.Numbers.{number_up_to}
use Rattle.draw_ops.specs.Fits.{first_some}
use Rattle.script_rules.specs.Script.{LineForm, line_form, invite_form, join_form, step_form, addressed_form, viewer_of_word, viewer_limit, role_named, is_word, are_words}
use Rattle.script_rules.specs.Script.LineForm.{InviteForm, JoinForm}
use Rattle.script_lines.specs.Lines.{begins_with_at}

-- words that are the same are equal
pub same_word : (word other : List ℕ) → is_same_word word other ≡ true → word ≡ other
same_word [] [] e = refl
same_word [] (b ∷ bs) e = absurd (cc e)
same_word (a ∷ xs) [] e = absurd (cc e)
same_word (a ∷ xs) (b ∷ bs) e =
    let both = and_parts (a == b) (is_same_word xs bs) e in
    let first : a ≡ b = grind (arith, nat_tests, both.0) in
    ap (λ x. x ∷ xs) first ∙ ap (λ ys. b ∷ ys) (same_word xs bs both.1)

-- ---- one of four

only_second : (o : Option LineForm) → first_some (None ∷ o ∷ None ∷ None ∷ []) ≡ o
only_second None = refl
only_second (Some f) = refl

only_third : (o : Option LineForm) → first_some (None ∷ None ∷ o ∷ None ∷ []) ≡ o
only_third None = refl
only_third (Some f) = refl

only_last : (o : Option LineForm) → first_some (None ∷ None ∷ None ∷ o ∷ []) ≡ o
only_last None = refl
only_last (Some f) = refl

only_first : (o : Option LineForm) → first_some (o ∷ None ∷ None ∷ None ∷ []) ≡ o
only_first None = refl
only_first (Some f) = refl

-- a line that isn't of a first word
other_invite : (word : List ℕ) (words : List (List ℕ)) → is_same_word word (codes "invite") ≡ false → invite_form (word ∷ words) ≡ None
other_invite word [] e = refl
other_invite word (name ∷ []) e = refl
other_invite word (name ∷ role ∷ []) e = by (is_same_word word (codes "invite")) e
  where
    by : (b : Bool) → b ≡ false → (if b && is_word name then option_map (λ r. InviteForm name r) (role_named role) else None) ≡ None
    by true e = absurd (cc e)
    by false e = refl
other_invite word (name ∷ role ∷ more ∷ words) e = refl

other_join : (word : List ℕ) (words : List (List ℕ)) → is_same_word word (codes "join") ≡ false → join_form (word ∷ words) ≡ None
other_join word [] e = refl
other_join word (name ∷ []) e = refl
other_join word (name ∷ preset ∷ words) e = by (is_same_word word (codes "join")) e
  where
    by : (b : Bool) → b ≡ false → (if b && are_words (name ∷ preset ∷ words) then Some (JoinForm name (preset ∷ words)) else None) ≡ None
    by true e = absurd (cc e)
    by false e = refl

other_viewer : (word : List ℕ) → begins_with_at word ≡ false → viewer_of_word word ≡ None
other_viewer [] e = refl
other_viewer (b ∷ bs) e = ap (λ t. if t then number_up_to viewer_limit bs else None) e

-- ---- the form of a line by its first word

pub invite_line : (word : List ℕ) (words : List (List ℕ)) → is_same_word word (codes "invite") ≡ true → line_form (word ∷ words) ≡ invite_form (word ∷ words)
invite_line word words e = subst (λ w. line_form (w ∷ words) ≡ invite_form (w ∷ words)) (sym (same_word word (codes "invite") e))
    (ap (λ j. first_some (None ∷ invite_form (codes "invite" ∷ words) ∷ j ∷ None ∷ [])) (other_join (codes "invite") words refl) ∙ only_second (invite_form (codes "invite" ∷ words)))

pub join_line : (word : List ℕ) (words : List (List ℕ)) → is_same_word word (codes "join") ≡ true → line_form (word ∷ words) ≡ join_form (codes "join" ∷ words)
join_line word words e = subst (λ w. line_form (w ∷ words) ≡ join_form (codes "join" ∷ words)) (sym (same_word word (codes "join") e))
    (ap (λ i. first_some (None ∷ i ∷ join_form (codes "join" ∷ words) ∷ None ∷ [])) (other_invite (codes "join") words refl) ∙ only_third (join_form (codes "join" ∷ words)))

pub addressed_line : (word : List ℕ) (words : List (List ℕ)) → begins_with_at word ≡ true → line_form (word ∷ words) ≡ addressed_form (word ∷ words)
addressed_line [] words e = absurd (cc e)
addressed_line (b ∷ bs) words e =
    let at : b ≡ 64 = grind (arith, nat_tests, e) in
    subst (λ a. line_form ((a ∷ bs) ∷ words) ≡ addressed_form ((a ∷ bs) ∷ words)) (sym at)
    (ap (λ i. first_some (None ∷ i ∷ join_form ((64 ∷ bs) ∷ words) ∷ addressed_form ((64 ∷ bs) ∷ words) ∷ [])) (other_invite (64 ∷ bs) words refl)
    ∙ ap (λ j. first_some (None ∷ None ∷ j ∷ addressed_form ((64 ∷ bs) ∷ words) ∷ [])) (other_join (64 ∷ bs) words refl)
    ∙ only_last (addressed_form ((64 ∷ bs) ∷ words)))

pub step_line_is : (word : List ℕ) (words : List (List ℕ)) → is_same_word word (codes "invite") ≡ false → is_same_word word (codes "join") ≡ false → begins_with_at word ≡ false
    → line_form (word ∷ words) ≡ step_form 1 (word ∷ words)
step_line_is word words ei ej ea =
    ap (λ i. first_some (step_form 1 (word ∷ words) ∷ i ∷ join_form (word ∷ words) ∷ addressed_form (word ∷ words) ∷ [])) (other_invite word words ei)
    ∙ ap (λ j. first_some (step_form 1 (word ∷ words) ∷ None ∷ j ∷ addressed_form (word ∷ words) ∷ [])) (other_join word words ej)
    ∙ ap (λ v. first_some (step_form 1 (word ∷ words) ∷ None ∷ None ∷ option_and_then (λ n. step_form n words) v ∷ [])) (other_viewer word ea)
    ∙ only_first (step_form 1 (word ∷ words))

-- ---- joins

named : (name : List ℕ) (words : List (List ℕ)) → 1 ≤ length words → is_word name ≡ true → are_words words ≡ true → join_form (codes "join" ∷ name ∷ words) ≡ Some (JoinForm name words)
named name [] some en ew = let none : ⊥ = omega (arith, some) in absurd none
named name (preset ∷ words) some en ew =
    ap (λ t. if t && are_words (preset ∷ words) then Some (JoinForm name (preset ∷ words)) else None) en ∙ ap (λ t. if t then Some (JoinForm name (preset ∷ words)) else None) ew

-- a name and a text of preset words
pub join_made : (name preset : List ℕ) → is_word name ≡ true → are_words (words_of preset) ≡ true → join_form (codes "join" ∷ name ∷ words_of preset) ≡ Some (JoinForm name (words_of preset))
join_made name preset en ew =
    let many : length (words_of preset) ≡ count_by (λ b. b == 32) preset + 1 = length-slice_split (λ b. b == 32) preset in
    named name (words_of preset) (omega (arith, many)) en ew

-- a word that isn't empty
pub some_word : (word : List ℕ) → (length word == 0) ≡ false → is_word word ≡ true
some_word [] e = absurd (cc e)
some_word (b ∷ bs) e = refl
