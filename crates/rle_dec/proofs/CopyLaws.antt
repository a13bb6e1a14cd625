-- Copies of pixels that follow one another are one copy.
use Rattle.std.proofs.Common.{◌≡◌, ℕ, ◌+◌, ◌-◌, ◌≤◌, List, ◌++◌, length, take, drop, ap, sym, ◌∙◌, arith, append_assoc}
use Rattle.std.specs.Prelude.{slice_range}
use Rattle.std.proofs.Math.Seq.{take-add}
use Rattle.std.proofs.lemmas.List.{drop-append-le, take-append-le, length-drop, drop-drop}

-- what is copied next, of pixels with others behind them
range_before : (p r : List ℕ) (at to : ℕ) → at ≤ to → to ≤ length p → slice_range (p ++ r) at to ≡ slice_range p at to
range_before p r at to le in_p =
    ap (take (to - at)) (drop-append-le at p r (omega (arith, le, in_p))) ∙ take-append-le (to - at) (drop at p) r (omega (arith, length-drop at p, le, in_p))

ranges_join : (p : List ℕ) (from at to : ℕ) → from ≤ at → at ≤ to → slice_range p from at ++ slice_range p at to ≡ slice_range p from to
ranges_join p from at to le ge =
    let here : from + (at - from) ≡ at = omega (arith, le) in
    let all : (at - from) + (to - at) ≡ to - from = omega (arith, le, ge) in
    ap (λ n. slice_range p from at ++ take (to - at) (drop n p)) (sym here)
    ∙ ap (λ xs. slice_range p from at ++ take (to - at) xs) (sym (drop-drop (at - from) from p))
    ∙ sym (take-add (at - from) (to - at) (drop from p))
    ∙ ap (λ n. take n (drop from p)) all

pub copy_more : (p q r : List ℕ) (from at to : ℕ) → from ≤ at → at ≤ to → to ≤ length p → q ≡ p ++ slice_range p from at → r ≡ q ++ slice_range q at to → r ≡ p ++ slice_range p from to
copy_more p q r from at to le ge in_p e f =
    f ∙ ap (λ xs. xs ++ slice_range xs at to) e
    ∙ ap (λ xs. (p ++ slice_range p from at) ++ xs) (range_before p (slice_range p from at) at to ge in_p)
    ∙ append_assoc p (slice_range p from at) (slice_range p at to)
    ∙ ap (λ xs. p ++ xs) (ranges_join p from at to le ge)
