-- Words that are put together with spaces, and cut at them again.
use Rattle.std.specs.Prelude.{ℕ, ◌≡◌, ◌==◌, Bool, true, false, ◌||◌, List, [], ◌∷◌, ◌++◌, ◌≤◌, ◌-◌, length, take, drop}
use Rattle.std.proofs.Common.{refl, ap, ◌∙◌, append-nil, arith}
use Rattle.std.proofs.lemmas.List.{take_all, length-drop}
use Rattle.std.specs.List.{list_any}
use Rattle.caps_sets.specs.Presets.{presets, confirmed_by}
use Rattle.line_text.specs.Words.{words_of}
use Rattle.script_rules.specs.Capture.{spaced}
use Rattle.command_words.specs.ViewWords.{has_space}

or_false : (a b : Bool) → (a || b) ≡ false → (a ≡ false) × (b ≡ false)
or_false true b h = absurd (cc h)
or_false false b h = (refl, h)

one_word : (word : List ℕ) → has_space word ≡ false → words_of word ≡ word ∷ []
one_word [] h = refl
one_word (b ∷ bs) h = let parts = or_false (b == 32) (has_space bs) h in rw (parts.0, one_word bs parts.1) refl

first_word : (word rest : List ℕ) → has_space word ≡ false → words_of (word ++ 32 ∷ rest) ≡ word ∷ words_of rest
first_word [] rest h = refl
first_word (b ∷ bs) rest h = let parts = or_false (b == 32) (has_space bs) h in rw (parts.0, first_word bs rest parts.1) refl

-- words without a space are the words of their text
pub words_again : (word : List ℕ) (words : List (List ℕ)) → list_any has_space (word ∷ words) ≡ false → words_of (word ++ spaced words) ≡ word ∷ words
words_again word [] h = ap words_of (append-nil word) ∙ one_word word (or_false (has_space word) false h).0
words_again word (next ∷ words) h =
    let parts = or_false (has_space word) (list_any has_space (next ∷ words)) h in
    first_word word (next ++ spaced words) parts.0 ∙ ap (λ ws. word ∷ ws) (words_again next words parts.1)

rest_whole : (text : List ℕ) → take (length text - 1) (drop 1 text) ≡ drop 1 text
rest_whole text = take_all (length text - 1) (drop 1 text) (omega (arith, length-drop 1 text))

-- the text of words, read as preset words
pub confirmed_again : (text : List ℕ) (words : List (List ℕ)) → 1 ≤ length text → list_any has_space words ≡ false → text ≡ spaced words
    → confirmed_by presets (words_of (take (length text - 1) (drop 1 text))) ≡ confirmed_by presets words
confirmed_again text [] some h is = let none : length text ≡ 0 = ap (λ (t : List ℕ). length t) is in absurd (omega (arith, none, some))
confirmed_again text (word ∷ words) some h is =
    ap (λ (t : List ℕ). confirmed_by presets (words_of t)) (rest_whole text)
    ∙ ap (λ (t : List ℕ). confirmed_by presets (words_of (drop 1 t))) is ∙ ap (confirmed_by presets) (words_again word words h)
