-- The rows of the guests' words, one after the other.
use Rattle.std.proofs.Common.{◌≡◌, ℕ, suc, ◌+◌, ◌<◌, List, [], ◌∷◌, ◌++◌, length, get_or, drop, map, refl, ap, sym, ◌∙◌, append_assoc, add-one}
use Rattle.std.specs.Prelude.{Option, Some, None}
use Rattle.std.specs.Borrow.{Bor}
use Rattle.std.specs.Option.{option_map, option_and_then}
use Rattle.std.proofs.Math.Seq.{drop-cons}
use Rattle.session_rules.specs.Journal.{Row}
use Rattle.host_program.specs.Serving.{guest_row, guest_rows}

-- one row more stands behind those so far
pub rows_more : (rows : List Row) (row : Row) (more : Option (List Row)) → option_map (λ others. (rows ++ row ∷ []) ++ others) more ≡ option_map (λ others. rows ++ others) (option_map (λ others. row ∷ others) more)
rows_more rows row None = refl
rows_more rows row (Some others) = ap Some (append_assoc rows (row ∷ []) others)

-- the words from one on are that one's row and those after it
pub rows_from : (words : List (Bor (List ℕ))) (i : ℕ) (d : Bor (List ℕ)) (word : List ℕ) (row : Row) → i < length words → word ≡ (get_or words i d).now → Some row ≡ guest_row word
    → guest_rows (map (λ s. s.now) (drop i words)) ≡ option_map (λ others. row ∷ others) (guest_rows (map (λ s. s.now) (drop (i + 1) words)))
rows_from words i d word row low is found =
    let others = guest_rows (map (λ (s : Bor (List ℕ)). s.now) (drop (suc i) words)) in
    ap (λ (left : List (Bor (List ℕ))). guest_rows (map (λ s. s.now) left)) (drop-cons words i d low)
    ∙ ap (λ (first : Option Row). option_and_then (λ r. option_map (λ rs. r ∷ rs) others) first) (ap guest_row (sym is) ∙ sym found)
    ∙ ap (λ (n : ℕ). option_map (λ rs. row ∷ rs) (guest_rows (map (λ s. s.now) (drop n words)))) (sym (add-one i))
