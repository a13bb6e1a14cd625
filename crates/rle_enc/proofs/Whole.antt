-- The two stretches' bytes are the packer's; what follows of them.
use Rattle.std.proofs.Common.{◌≡◌, ℕ, zero, suc, ◌+◌, ◌*◌, ◌/◌, ◌%◌, ◌≤◌, List, [], ◌∷◌, ◌++◌, length, take, drop, replicate, refl, ap, sym, subst, ◌∙◌, arith}
use Rattle.std.specs.Prelude.{zip, flat_map, true}
use Rattle.std.proofs.lemmas.List.{length-take-le}
use Rattle.run_lengths.specs.RunLength.{Decompresses}
use Rattle.run_lengths.specs.Packer.{packed, packed_runs, run_bytes, first_stretch, color_runs_in}
use Rattle.px_core.specs.declared.depth.Depth.{Depth}
use Rattle.px_core.specs.declared.depth.Depth.TheVariants.{Bits24, Bits16}
use Rattle.px_core.specs.Depth.{bytes_in}
use Rattle.px_core.specs.Pixels.{are_pixels}
use Rattle.run_lengths.proofs.Stretches.{packed_decompresses}
use Rattle.rle_enc.proofs.Bound.{packed_few}

-- the first row alone, over black
first_zip : (w : ℕ) (ps : List ℕ) → zip {X = ℕ} (take w ps) (replicate w 0) ≡ zip {X = ℕ} ps (replicate w 0)
first_zip zero [] = refl
first_zip zero (p ∷ ps) = refl
first_zip (suc w) [] = refl
first_zip (suc w) (p ∷ ps) = let black : ℕ = 0 in ap (λ ss. (p, black) ∷ ss) (first_zip w ps)

pub bytes_are_packed : (depth : Depth) (w : ℕ) (ps first rest none p q : List ℕ) → none ≡ [] → w ≤ length ps → first ≡ take w ps → rest ≡ drop w ps → p ≡ none ++ flat_map (run_bytes depth) (packed_runs (zip {X = ℕ} first (replicate (length first) 0))) → q ≡ p ++ flat_map (run_bytes depth) (packed_runs (zip rest ps)) → q ≡ packed depth w ps
bytes_are_packed depth w ps first rest none p q empty wide f r e' g =
    let e : p ≡ flat_map (run_bytes depth) (packed_runs (zip {X = ℕ} first (replicate (length first) 0))) = e' ∙ ap (λ us. us ++ flat_map (run_bytes depth) (packed_runs (zip {X = ℕ} first (replicate (length first) 0)))) empty in
    let long : length first ≡ w = ap length f ∙ length-take-le w ps wide in
    let spots : zip {X = ℕ} first (replicate (length first) 0) ≡ first_stretch w ps = ap (λ us. zip us (replicate (length first) 0)) f ∙ ap (λ n. zip (take w ps) (replicate n 0)) long ∙ first_zip w ps in
    g ∙ ap (λ us. us ++ flat_map (run_bytes depth) (packed_runs (zip rest ps))) (e ∙ ap (λ ss. flat_map (run_bytes depth) (packed_runs ss)) spots) ∙ ap (λ us. flat_map (run_bytes depth) (packed_runs (first_stretch w ps)) ++ flat_map (run_bytes depth) (packed_runs (zip us ps))) r

rows_whole : (n w : ℕ) → 1 ≤ w → n % w ≡ 0 → n ≡ w * (n / w)
rows_whole n w some e = omega (arith, some, e)

pub at_least_a_row : (n w : ℕ) → 1 ≤ w → 1 ≤ n → n % w ≡ 0 → w ≤ n
at_least_a_row n w some one e = by_rows n w (n / w) one (rows_whole n w some e) where
  by_rows : (n w q : ℕ) → 1 ≤ n → n ≡ w * q → w ≤ n
  by_rows n w zero one e = absurd (omega (arith, one, e))
  by_rows n w (suc q) one e = omega (arith, e)

pub bytes_read_back : (depth : Depth) (w : ℕ) (ps bytes : List ℕ) → 1 ≤ w → length ps % w ≡ 0 → 1 ≤ length ps → length ps ≤ 4096 → are_pixels depth ps ≡ true → bytes ≡ packed depth w ps → Decompresses depth bytes w (length ps / w) ps
bytes_read_back depth w ps bytes some rows one few colors e =
    let P : List ℕ → Type 0 = λ bs. Decompresses depth bs w (length ps / w) ps in
    subst P (sym e) (packed_decompresses depth w (length ps / w) ps some (at_least_a_row (length ps) w some one rows) (rows_whole (length ps) w some rows) (omega (arith, few)) colors)

-- one more run has room for as many bytes more
one_more : (depth : Depth) (n : ℕ) → (3 + bytes_in depth) * n ≤ (3 + bytes_in depth) * (n + 1)
one_more Bits24 n = omega arith
one_more Bits16 n = omega arith

pub bytes_are_few : (depth : Depth) (w : ℕ) (ps bytes : List ℕ) → bytes ≡ packed depth w ps → length bytes ≤ (3 + bytes_in depth) * (color_runs_in w ps + 1)
bytes_are_few depth w ps bytes e = omega (arith, ap length e, packed_few depth w ps, one_more depth (color_runs_in w ps))
