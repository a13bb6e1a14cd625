-- Words of a line, which single spaces separate.
use Rattle.std.specs.Prelude.{ℕ, ◌==◌, Bool, true, false, ◌&&◌, List, [], ◌∷◌}
use Rattle.std.specs.declared.option.Option.{Option}
use Rattle.std.specs.declared.option.Option.TheVariants.{Some, None}
use Rattle.std.specs.List.{slice_split}

-- the parts of a text between separators, one part at least
abbrev pub parts_at : ℕ → List ℕ → List (List ℕ)
parts_at separator text = slice_split (λ b. b == separator) text

-- the parts of a text that may be used up
abbrev pub parts_left : ℕ → Option (List ℕ) → List (List ℕ)
parts_left separator None = []
parts_left separator (Some text) = parts_at separator text

-- the words of a line; where two spaces meet, or one stands at an end, there is an empty word, which no form has
abbrev pub words_of : List ℕ → List (List ℕ)
words_of line = parts_at 32 line

-- two words, or names, are the same
abbrev pub is_same_word : List ℕ → List ℕ → Bool
is_same_word [] [] = true
is_same_word [] (b ∷ bs) = false
is_same_word (a ∷ xs) [] = false
is_same_word (a ∷ xs) (b ∷ bs) = (a == b) && is_same_word xs bs
