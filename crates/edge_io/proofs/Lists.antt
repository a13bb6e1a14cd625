-- Lists that are taken from the front.
use Rattle.std.proofs.Common.{◌≡◌, ℕ, zero, suc, ◌≤◌, ◌<◌, min, List, [], ◌∷◌, ◌++◌, length, take, drop, sym, ap, ◌∙◌, arith, refl}
use Rattle.std.specs.Prelude.{◌==◌, false}
use Rattle.std.proofs.lemmas.Bool.Decides.{nat_tests}
use Rattle.std.specs.declared.option.Option.TheVariants.{Some}
use Rattle.std.proofs.lemmas.List.{take_at, take-append-drop, length-take}
use Rattle.edge_io.specs.Source.{Takes}
use Rattle.edge_io.specs.declared.source.Got.{Got}
use Rattle.edge_io.specs.Supply.{Supply, read_count, next_piece, answer_of_count, buffer_after_read, supply_after_read}

-- what was copied from a list to the front of a buffer, and what is left of it, are the list
pub copied_front : (xs ys zs : List ℕ) (n : ℕ) → n ≤ length xs → ys ≡ take n xs ++ zs → xs ≡ take n ys ++ drop n xs
copied_front xs ys zs n le is =
    let len : length (take n xs) ≡ n = omega (arith, length-take n xs) in
    sym (ap (λ front. front ++ drop n xs) (ap (take n) is ∙ take_at (take n xs) zs n len) ∙ take-append-drop n xs)

-- a list with no element is empty
pub none_left : (xs : List ℕ) → length xs ≡ 0 → xs ≡ []
none_left [] le = refl
none_left (x ∷ xs) le = absurd (omega arith)

-- a count above none
not_none : (n : ℕ) → (suc n == 0) ≡ false
not_none n = grind (arith, nat_tests)

-- a read that hands out so many bytes, none only where none is left, takes them
pub takes_count : (xs ys zs : List ℕ) (n : ℕ) → n ≤ length xs → (n ≡ 0 → length xs ≡ 0) → ys ≡ take n xs ++ zs →
    Takes (Some xs) (Some (drop n xs)) (answer_of_count n) ys
takes_count xs ys zs zero le none is = (none_left xs (none refl), refl)
takes_count xs ys zs (suc n) le none is = rw (not_none n) (copied_front xs ys zs (suc n) le is)

-- a piece is never empty
pub one_at_least : (pieces : List ℕ) (room : ℕ) → 1 ≤ room → 1 ≤ next_piece pieces room
one_at_least [] room le = le
one_at_least (piece ∷ pieces) room le = omega arith

-- no byte is handed out only where none is left
pub none_counted : (left pieces : List ℕ) (room : ℕ) → 0 < room → min (min room (length left)) (next_piece pieces room) ≡ 0 → length left ≡ 0
none_counted left pieces room some none = omega (arith, one_at_least pieces room (omega arith))

-- a supply's read takes what it hands out
pub supply_takes : (old new : Supply) (buf filled : List ℕ) (got : Got) → 0 < length buf →
    got ≡ answer_of_count (read_count old (length buf)) → filled ≡ buffer_after_read (read_count old (length buf)) old buf →
    new ≡ supply_after_read (read_count old (length buf)) old → Takes (Some old.left) (Some new.left) got filled
supply_takes old new buf filled got some answer buffer after =
    let count = read_count old (length buf) in
    let few : count ≤ length old.left = omega arith in
    rw (answer, after) (takes_count old.left filled (drop count buf) count few (none_counted old.left old.pieces (length buf) some) buffer)
