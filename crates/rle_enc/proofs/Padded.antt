-- Rows that are padded: one row more at a time, how many pixels they are, and their colours.
use Rattle.std.proofs.Common.{◌≡◌, ℕ, suc, zero, ◌+◌, ◌-◌, ◌*◌, ◌≤◌, ◌<◌, List, [], ◌∷◌, ◌++◌, length, length-append, refl, ap, sym, ◌∙◌, arith, append_assoc, append-nil}
use Rattle.std.specs.Prelude.{true, map, replicate}
use Rattle.std.proofs.lemmas.List.{length-replicate}
use Rattle.std.proofs.lemmas.Bool.{and_parts, and_from}
use Rattle.px_core.specs.Colors.{is_color, are_colors}
use Rattle.px_core.proofs.Colors.{are_colors-append, replicated_are_colors, is_color-item}
use Rattle.px_core.proofs.Pictures.{length-front, length-skipped}
use Rattle.px_core.proofs.Turned.{front-all, front-before, skipped-before, one_row_more, rows_left}
use Rattle.px_core.specs.Picture.{item, front, skipped, rows_of, joined}
use Rattle.run_lengths.specs.WirePixels.{padded, padded_row}

-- the padded rows of pixels, one after the other
abbrev pub padded_rows : ℕ → ℕ → List ℕ → List ℕ
padded_rows w h pixels = joined (map (padded_row w) (rows_of w h pixels))

skipped-all : {A : Type 0} (n : ℕ) (xs : List A) → length xs ≡ n → skipped n xs ≡ []
skipped-all zero [] e = refl
skipped-all zero (x ∷ xs) e = absurd (omega (arith, e))
skipped-all (suc n) [] e = refl
skipped-all (suc n) (x ∷ xs) e = skipped-all n xs (omega (arith, e))

-- the first row comes first
pub first_row_first : (w n : ℕ) (row below : List ℕ) → length row ≡ w → padded_rows w (suc n) (row ++ below) ≡ padded_row w row ++ padded_rows w n below
first_row_first w n row below e =
    let wide : w ≤ length row = omega (arith, e) in
    ap (λ r. padded_row w r ++ padded_rows w n (skipped w (row ++ below))) (front-before w row below wide ∙ front-all w row e)
    ∙ ap (λ ps. padded_row w row ++ padded_rows w n ps) (skipped-before w row below wide ∙ ap (λ ps. ps ++ below) (skipped-all w row e))

-- a step of the loop from the top down
pub pad_step : (w h y : ℕ) (below rest row out new all : List ℕ) → y < h → length below ≡ w * (h - y) → row ++ rest ≡ below → length row ≡ w
    → new ≡ out ++ padded_row (length row) row → out ++ padded_rows w (h - y) below ≡ all → (length rest ≡ w * (h - (y + 1))) × (new ++ padded_rows w (h - (y + 1)) rest ≡ all)
pad_step w h y below rest row out new all lt e split wide put written =
    let n : ℕ = h - (y + 1) in
    let is : h - y ≡ suc (h - (y + 1)) = omega (arith, lt) in
    let more = rows_left w h y lt in
    let long : length row + length rest ≡ length below = sym (length-append row rest) ∙ ap length split in
    let left : length rest ≡ w * (h - (y + 1)) = omega (arith, e, more, long, wide) in
    let whole : new ≡ out ++ padded_row w row = put ∙ ap (λ k. out ++ padded_row k row) wide in (
      left,
      ap (λ o. o ++ padded_rows w n rest) whole ∙ append_assoc out (padded_row w row) (padded_rows w n rest) ∙ ap (λ r. out ++ r) (sym (first_row_first w n row rest wide))
          ∙ ap (λ xs. out ++ padded_rows w (suc n) xs) split ∙ ap (λ k. out ++ padded_rows w k below) (sym is) ∙ written,
    )

pub pad_done : (w h y : ℕ) (below out all : List ℕ) → h ≤ y → out ++ padded_rows w (h - y) below ≡ all → out ≡ all
pad_done w h y below out all le written =
    let is : h - y ≡ 0 = omega (arith, le) in
    sym (append-nil out) ∙ ap (λ k. out ++ padded_rows w k below) (sym is) ∙ written

-- ---- how many pixels

pub length-padded_rows : (w h : ℕ) (pixels : List ℕ) → length pixels ≡ w * h → length (padded_rows w h pixels) ≡ padded w * h
length-padded_rows w zero pixels e = omega arith
length-padded_rows w (suc n) pixels e =
    let more = one_row_more w n in
    let all_more = one_row_more (padded w) n in
    let row = length-front w pixels (omega (arith, e, more)) in
    let added = length-append (front w pixels) (replicate (padded w - w) (item (front w pixels) (w - 1) 0)) in
    let copies = length-replicate (padded w - w) (item (front w pixels) (w - 1) 0) in
    let both = length-append (padded_row w (front w pixels)) (padded_rows w n (skipped w pixels)) in
    let below = length-padded_rows w n (skipped w pixels) (length-skipped w pixels (w * n) (omega (arith, e, more))) in
    let wide : w ≤ padded w = omega arith in
    omega (arith, all_more, row, added, copies, both, below, wide)

-- ---- their colours

front_colors : (n : ℕ) (xs : List ℕ) → are_colors xs ≡ true → are_colors (front n xs) ≡ true
front_colors zero xs h = refl
front_colors (suc n) [] h = refl
front_colors (suc n) (x ∷ xs) h = let p = and_parts (is_color x) (are_colors xs) h in and_from (is_color x) (are_colors (front n xs)) p.0 (front_colors n xs p.1)

skipped_colors : (n : ℕ) (xs : List ℕ) → are_colors xs ≡ true → are_colors (skipped n xs) ≡ true
skipped_colors zero xs h = h
skipped_colors (suc n) [] h = refl
skipped_colors (suc n) (x ∷ xs) h = skipped_colors n xs (and_parts (is_color x) (are_colors xs) h).1

pub padded_colors : (w h : ℕ) (pixels : List ℕ) → are_colors pixels ≡ true → are_colors (padded_rows w h pixels) ≡ true
padded_colors w zero pixels colors = refl
padded_colors w (suc n) pixels colors =
    let row = front_colors w pixels colors in
    are_colors-append (padded_row w (front w pixels)) (padded_rows w n (skipped w pixels))
    (are_colors-append (front w pixels) (replicate (padded w - w) (item (front w pixels) (w - 1) 0)) row (replicated_are_colors (padded w - w) (item (front w pixels) (w - 1) 0) (is_color-item (front w pixels) (w - 1) 0 row refl)))
    (padded_colors w n (skipped w pixels) (skipped_colors w pixels colors))
