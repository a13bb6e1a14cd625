-- Rows in the other order: one row more at a time, how many pixels they are, their colours, and a map over their pixels.
use Rattle.std.proofs.Common.{◌≡◌, ℕ, suc, zero, ◌+◌, ◌-◌, ◌*◌, ◌≤◌, ◌<◌, List, [], ◌∷◌, ◌++◌, length, length-append, refl, ap, sym, ◌∙◌, arith, append_assoc, append-nil}
use Rattle.std.specs.Prelude.{true, map, take, drop}
use Rattle.std.specs.List.{concat}
use Rattle.std.proofs.lemmas.List.{take-append-drop, map-append}
use Rattle.std.proofs.lemmas.Bool.{and_parts, and_from}
use Rattle.px_core.specs.Colors.{is_color, are_colors}
use Rattle.px_core.proofs.Colors.{are_colors-append}
use Rattle.px_core.proofs.Pictures.{length-skipped, rows_joined}
use Rattle.px_core.specs.Picture.{front, skipped, rows_of, turned, joined, turned_over}

pub front-all : {A : Type 0} (n : ℕ) (xs : List A) → length xs ≡ n → front n xs ≡ xs
front-all zero [] e = refl
front-all zero (x ∷ xs) e = absurd (omega (arith, e))
front-all (suc n) [] e = absurd (omega (arith, e))
front-all (suc n) (x ∷ xs) e = ap (λ ys. x ∷ ys) (front-all n xs (omega (arith, e)))

pub front-before : {A : Type 0} (n : ℕ) (xs ys : List A) → n ≤ length xs → front n (xs ++ ys) ≡ front n xs
front-before zero xs ys h = refl
front-before (suc n) [] ys h = absurd (omega (arith, h))
front-before (suc n) (x ∷ xs) ys h = ap (λ zs. x ∷ zs) (front-before n xs ys (omega (arith, h)))

pub skipped-before : {A : Type 0} (n : ℕ) (xs ys : List A) → n ≤ length xs → skipped n (xs ++ ys) ≡ skipped n xs ++ ys
skipped-before zero xs ys h = refl
skipped-before (suc n) [] ys h = absurd (omega (arith, h))
skipped-before (suc n) (x ∷ xs) ys h = skipped-before n xs ys (omega (arith, h))

pub one_row_more : (w n : ℕ) → w * suc n ≡ w + w * n
one_row_more w n = grind arith

-- the last row of pixels
rows-append : (w n : ℕ) (above row : List ℕ) → length above ≡ w * n → length row ≡ w → rows_of w (suc n) (above ++ row) ≡ rows_of w n above ++ row ∷ []
rows-append w zero [] row e f = ap (λ r. r ∷ []) (front-all w row f)
rows-append w zero (p ∷ ps) row e f = absurd (omega (arith, e))
rows-append w (suc n) above row e f =
    let more = one_row_more w n in
    let wide : w ≤ length above = omega (arith, e, more) in
    ap (λ r. r ∷ rows_of w (suc n) (skipped w (above ++ row))) (front-before w above row wide)
    ∙ ap (λ ps. front w above ∷ rows_of w (suc n) ps) (skipped-before w above row wide)
    ∙ ap (λ rs. front w above ∷ rs) (rows-append w n (skipped w above) row (length-skipped w above (w * n) (omega (arith, e, more))) f)

turned-append : {A : Type 0} (rows : List A) (row : A) (rest : List A) → turned (rows ++ row ∷ []) rest ≡ row ∷ turned rows rest
turned-append [] row rest = refl
turned-append (r ∷ rows) row rest = turned-append rows row (r ∷ rest)

-- the last row comes first
pub last_row_first : (w n : ℕ) (above row : List ℕ) → length above ≡ w * n → length row ≡ w → turned_over w (suc n) (above ++ row) ≡ row ++ turned_over w n above
last_row_first w n above row e f = ap (λ rs. joined (turned rs [])) (rows-append w n above row e f) ∙ ap joined (turned-append (rows_of w n above) row [])

-- the pixels of the rows that are left
pub rows_left : (w h y : ℕ) → y < h → w * (h - y) ≡ w + w * (h - (y + 1))
rows_left w h y lt = let is : h - y ≡ suc (h - (y + 1)) = omega (arith, lt) in ap (λ k. w * k) is ∙ one_row_more w (h - (y + 1))

pub split_is : (mid : ℕ) (xs a b : List ℕ) → a ≡ take mid xs → b ≡ drop mid xs → a ++ b ≡ xs
split_is mid xs a b e f = rw (e, f) (take-append-drop mid xs)

-- a step of the loop from the bottom up
pub turn_step : (w h y : ℕ) (above rest row out new all : List ℕ) → y < h → length above ≡ w * (h - y) → rest ++ row ≡ above → length row ≡ w → new ≡ out ++ row
    → out ++ turned_over w (h - y) above ≡ all → (length rest ≡ w * (h - (y + 1))) × (new ++ turned_over w (h - (y + 1)) rest ≡ all)
turn_step w h y above rest row out new all lt e split wide put written =
    let n : ℕ = h - (y + 1) in
    let is : h - y ≡ suc (h - (y + 1)) = omega (arith, lt) in
    let more = rows_left w h y lt in
    let long : length rest + length row ≡ length above = sym (length-append rest row) ∙ ap length split in
    let left : length rest ≡ w * (h - (y + 1)) = omega (arith, e, more, long, wide) in (
      left,
      ap (λ o. o ++ turned_over w n rest) put ∙ append_assoc out row (turned_over w n rest) ∙ ap (λ r. out ++ r) (sym (last_row_first w n rest row left wide))
          ∙ ap (λ xs. out ++ turned_over w (suc n) xs) split ∙ ap (λ k. out ++ turned_over w k above) (sym is) ∙ written,
    )

pub turn_done : (w h y : ℕ) (above out all : List ℕ) → h ≤ y → out ++ turned_over w (h - y) above ≡ all → out ≡ all
turn_done w h y above out all le written =
    let is : h - y ≡ 0 = omega (arith, le) in
    sym (append-nil out) ∙ ap (λ k. out ++ turned_over w k above) (sym is) ∙ written

-- ---- how many pixels

joined_is_concat : (rows : List (List ℕ)) → joined rows ≡ concat rows
joined_is_concat [] = refl
joined_is_concat (r ∷ rows) = ap (λ ps. r ++ ps) (joined_is_concat rows)

length-turned : (rows rest : List (List ℕ)) → length (joined (turned rows rest)) ≡ length (joined rows) + length (joined rest)
length-turned [] rest = omega arith
length-turned (r ∷ rows) rest =
    let more = length-turned rows (r ∷ rest) in let front = length-append r (joined rest) in let back = length-append r (joined rows) in
    omega (arith, more, front, back)

pub length-turned_over : (w h : ℕ) (pixels : List ℕ) → length pixels ≡ w * h → length (turned_over w h pixels) ≡ w * h
length-turned_over w h pixels e =
    let whole : length (joined (rows_of w h pixels)) ≡ length pixels = ap length (joined_is_concat (rows_of w h pixels) ∙ rows_joined w h pixels e) in
    let turned_ = length-turned (rows_of w h pixels) [] in
    omega (arith, whole, turned_, e)

-- ---- their colours

turned_colors : (rows rest : List (List ℕ)) → are_colors (joined rows) ≡ true → are_colors (joined rest) ≡ true → are_colors (joined (turned rows rest)) ≡ true
turned_colors [] rest h g = g
turned_colors (r ∷ rows) rest h g = let p = parts r (joined rows) h in turned_colors rows (r ∷ rest) p.1 (are_colors-append r (joined rest) p.0 g)
  where
    parts : (xs ys : List ℕ) → are_colors (xs ++ ys) ≡ true → (are_colors xs ≡ true) × (are_colors ys ≡ true)
    parts [] ys h = (refl, h)
    parts (x ∷ xs) ys h = let p = and_parts (is_color x) (are_colors (xs ++ ys)) h in let q = parts xs ys p.1 in (and_from (is_color x) (are_colors xs) p.0 q.0, q.1)

pub turned_over_colors : (w h : ℕ) (pixels : List ℕ) → length pixels ≡ w * h → are_colors pixels ≡ true → are_colors (turned_over w h pixels) ≡ true
turned_over_colors w h pixels e colors =
    turned_colors (rows_of w h pixels) [] (ap are_colors (joined_is_concat (rows_of w h pixels) ∙ rows_joined w h pixels e) ∙ colors) refl

-- ---- a map over their pixels

front-map : {A B : Type 0} (f : A → B) (n : ℕ) (xs : List A) → front n (map f xs) ≡ map f (front n xs)
front-map f zero xs = refl
front-map f (suc n) [] = refl
front-map f (suc n) (x ∷ xs) = ap (λ ys. f x ∷ ys) (front-map f n xs)

skipped-map : {A B : Type 0} (f : A → B) (n : ℕ) (xs : List A) → skipped n (map f xs) ≡ map f (skipped n xs)
skipped-map f zero xs = refl
skipped-map f (suc n) [] = refl
skipped-map f (suc n) (x ∷ xs) = skipped-map f n xs

pub rows_of-map : {A B : Type 0} (f : A → B) (w h : ℕ) (xs : List A) → rows_of w h (map f xs) ≡ map (map f) (rows_of w h xs)
rows_of-map f w zero xs = refl
rows_of-map f w (suc h) xs = ap (λ r. r ∷ rows_of w h (skipped w (map f xs))) (front-map f w xs)
    ∙ ap (λ ys. map f (front w xs) ∷ rows_of w h ys) (skipped-map f w xs) ∙ ap (λ rs. map f (front w xs) ∷ rs) (rows_of-map f w h (skipped w xs))

turned-map : {A B : Type 0} (f : A → B) (xs ys : List A) → turned (map f xs) (map f ys) ≡ map f (turned xs ys)
turned-map f [] ys = refl
turned-map f (x ∷ xs) ys = turned-map f xs (x ∷ ys)

joined-map : {A B : Type 0} (f : A → B) (rows : List (List A)) → joined (map (map f) rows) ≡ map f (joined rows)
joined-map f [] = refl
joined-map f (row ∷ rows) = ap (λ xs. map f row ++ xs) (joined-map f rows) ∙ sym (map-append f row (joined rows))

pub turned_over-map : {A B : Type 0} (f : A → B) (w h : ℕ) (pixels : List A) → turned_over w h (map f pixels) ≡ map f (turned_over w h pixels)
turned_over-map f w h pixels =
    ap (λ rows. joined (turned rows [])) (rows_of-map f w h pixels) ∙ ap joined (turned-map (map f) (rows_of w h pixels) []) ∙ joined-map f (turned (rows_of w h pixels) [])
