-- The words of a line of a capture.
use Rattle.std.proofs.Common.{◌≡◌, ℕ, ◌<◌, Bool, true, false, List, [], ◌∷◌, length, Some, None, refl, sym, ap, ◌∙◌, arith, codes}
use Rattle.std.specs.Prelude.{◌&&◌, ◌||◌, ◌==◌, if◌then◌else◌, is_some}
use Rattle.std.specs.declared.option.Option.{Option}
use Rattle.std.specs.Bool.{then_some}
use Rattle.std.specs.Option.{option_and_then}
use Rattle.std.proofs.lemmas.Bool.{and_parts}
use Rattle.std.proofs.lemmas.Bool.Decides.{nat_tests}
use Rattle.std.proofs.lemmas.Option.{none-some}
use Rattle.std.proofs.lemmas.List.Splits.{length-slice_split}
use Rattle.line_text.specs.Words.{words_of, is_same_word}
use Rattle.script_rules.specs.Capture.{CaptureLine, capture_line, said_of_viewer, viewer_word, viewer_line, joined_words, number_between, is_counted, is_step_refusal}
use Rattle.script_rules.specs.Capture.{is_nobody_line, is_join_refusal, is_broken_line, greatest_line, greatest_rule}
use Rattle.script_rules.specs.Capture.CaptureLine.{OtherLine, NobodyLine}
use Rattle.capture_show.specs.Lines.{nobody_line}

abbrev pub several : ℕ → List ℕ → List (List ℕ) → Option CaptureLine
several v word words = if is_same_word word (codes "joined") then joined_words v words
    else then_some (is_same_word word (codes "refused") && is_step_refusal words) (OtherLine v)

by_words : (v : ℕ) (word : List ℕ) (words : List (List ℕ)) → 0 < length words → viewer_line v (word ∷ words) ≡ several v word words
by_words v word [] some = absurd (omega (arith, some))
by_words v word (next ∷ words) some = refl

-- a word with a text behind it
pub several_are : (v : ℕ) (word text : List ℕ) → viewer_line v (word ∷ words_of text) ≡ several v word (words_of text)
several_are v word text = by_words v word (words_of text) (omega (arith, length-slice_split (λ b. b == 32) text))

-- ---- a line that begins with a viewer's number

same_word : (a b : List ℕ) → is_same_word a b ≡ true → a ≡ b
same_word [] [] e = refl
same_word [] (b ∷ bs) e = absurd (cc e)
same_word (a ∷ xs) [] e = absurd (cc e)
same_word (a ∷ xs) (b ∷ bs) e =
    let both = and_parts (a == b) (is_same_word xs bs) e in
    let head : a ≡ b = grind (arith, nat_tests, both.0) in
    ap (λ x. x ∷ xs) head ∙ ap (λ ys. b ∷ ys) (same_word xs bs both.1)

-- a word that writes a viewer's number is none that writes no such number
is_other : (word other : List ℕ) (v : ℕ) → viewer_word word ≡ Some v → viewer_word other ≡ None → is_same_word word other ≡ false
is_other word other v some none = by (is_same_word word other) refl
  where
    by : (t : Bool) → is_same_word word other ≡ t → t ≡ false
    by false e = refl
    by true e = absurd (none-some v (sym none ∙ ap viewer_word (sym (same_word word other e)) ∙ some))

tells_no_join : (word : List ℕ) (words : List (List ℕ)) → is_same_word word (codes "0") ≡ false → is_nobody_line (word ∷ words) ≡ false
tells_no_join word [] e = refl
tells_no_join word (next ∷ words) e = ap (λ t. t && (is_same_word next (codes "refused") && is_join_refusal words)) e

tells_no_line : (word : List ℕ) (words : List (List ℕ)) → is_same_word word (codes "line") ≡ false → is_broken_line (word ∷ words) ≡ false
tells_no_line word [] e = refl
tells_no_line word (k ∷ []) e = refl
tells_no_line word (k ∷ rule ∷ []) e = refl
tells_no_line word (k ∷ rule ∷ r ∷ []) e =
    ap (λ t. (t && is_some (number_between 1 greatest_line k)) && is_counted (codes "rule") 1 greatest_rule rule r) e
tells_no_line word (k ∷ rule ∷ r ∷ other ∷ words) e = refl

-- such a line says what stands behind the number
pub of_viewer_is : (word : List ℕ) (words : List (List ℕ)) (v : ℕ) → viewer_word word ≡ Some v → capture_line (word ∷ words) ≡ viewer_line v words
of_viewer_is word words v some =
    rw (tells_no_join word words (is_other word (codes "0") v some refl), tells_no_line word words (is_other word (codes "line") v some refl), some) refl

by_test : (test : Bool) (said : Option CaptureLine) → said ≡ None → then_some test NobodyLine ≡ if test then Some NobodyLine else said
by_test true said e = refl
by_test false said e = sym e

-- and another line is of no viewer
pub of_nobody_is : (word : List ℕ) (words : List (List ℕ)) → viewer_word word ≡ None → capture_line (word ∷ words) ≡ nobody_line (word ∷ words)
of_nobody_is word words none =
    sym (by_test (is_nobody_line (word ∷ words) || is_broken_line (word ∷ words)) (said_of_viewer (word ∷ words)) (ap (option_and_then (λ v. viewer_line v words)) none))
