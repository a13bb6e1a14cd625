-- Worked rows of the definitions on lists.
use Rattle.std.proofs.Common.{◌≡◌, ℕ, [], ◌∷◌, true, false, refl}
use Rattle.std.proofs.lemmas.Bool.{false≢true}
use Rattle.grow_lock.specs.Journal.{StartsWith, longer, added_places}
use Rattle.grow_lock.specs.Shares.{nothing, whole, halves, left_half, right_half, both, IsWhole}

-- a list of four entries that began with two has gained the places 2 and 3
two_more : added_places {E = ℕ} (10 ∷ 11 ∷ []) (10 ∷ 11 ∷ 12 ∷ 13 ∷ []) ≡ 2 ∷ 3 ∷ []
two_more = refl

-- nothing was appended
none_more : added_places {E = ℕ} (10 ∷ 11 ∷ []) (10 ∷ 11 ∷ []) ≡ []
none_more = refl

begins : StartsWith {E = ℕ} (10 ∷ 11 ∷ 12 ∷ []) (10 ∷ 11 ∷ [])
begins = (12 ∷ [], refl)

first_is_longer : longer {E = ℕ} (10 ∷ 11 ∷ 12 ∷ []) (10 ∷ 11 ∷ []) ≡ 10 ∷ 11 ∷ 12 ∷ []
first_is_longer = refl

second_is_longer : longer {E = ℕ} (10 ∷ []) (10 ∷ 11 ∷ []) ≡ 10 ∷ 11 ∷ []
second_is_longer = refl

-- a further pass has the right half, and one that is split off from that has a quarter
right_of_whole : right_half whole ≡ halves nothing whole
right_of_whole = refl

quarter : right_half (right_half whole) ≡ halves nothing (halves nothing whole)
quarter = refl

-- what is left of a split is the left half, and both halves make the whole
left_of_whole : left_half whole ≡ halves whole nothing
left_of_whole = refl

whole_again : IsWhole (both (left_half whole) (right_half whole))
whole_again [] = refl
whole_again (false ∷ path) = refl
whole_again (true ∷ path) = refl

-- who has met one of two further passes has not the whole: the part of the other is missing
one_is_missing : IsWhole (both (left_half (left_half whole)) (right_half whole)) → ⊥
one_is_missing all = false≢true (all (false ∷ true ∷ []))
