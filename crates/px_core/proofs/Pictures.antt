-- Pictures by their pixels and by their rows.
use Rattle.std.proofs.Common.{◌≡◌, ℕ, zero, suc, ◌+◌, ◌*◌, ◌/◌, ◌%◌, ◌-◌, ◌≤◌, ◌<◌, List, [], ◌∷◌, ◌++◌, length, take, drop, get_or, mod-lt, mul_comm, zero-add, append-nil, refl, ap, sym, ◌∙◌, arith}
use Rattle.std.specs.Prelude.{All}
use Rattle.std.specs.List.{concat}
use Rattle.std.proofs.lemmas.Nat.{div_below}
use Rattle.std.proofs.lemmas.List.Folds.{concat-append}
use Rattle.px_core.specs.declared.surface.Size.{Size}
use Rattle.px_core.specs.Picture.{pixel_count, item, listed, front, skipped, rows_of, pixel_at}

none_below : (k : ℕ) → k < 0 → ⊥
none_below k h = absurd (omega (arith, h))

-- ---- these definitions are std's

pub item-get_or : {A : Type 0} (xs : List A) (k : ℕ) (other : A) → item xs k other ≡ get_or xs k other
item-get_or [] k other = refl
item-get_or (x ∷ xs) zero other = refl
item-get_or (x ∷ xs) (suc k) other = item-get_or xs k other

pub front-take : {A : Type 0} (n : ℕ) (xs : List A) → front n xs ≡ take n xs
front-take zero xs = refl
front-take (suc n) [] = refl
front-take (suc n) (x ∷ xs) = ap (λ ys. x ∷ ys) (front-take n xs)

pub skipped-drop : {A : Type 0} (n : ℕ) (xs : List A) → skipped n xs ≡ drop n xs
skipped-drop zero xs = refl
skipped-drop (suc n) [] = refl
skipped-drop (suc n) (x ∷ xs) = skipped-drop n xs

-- ---- lists by their items

pub same_items : {A : Type 0} (other : A) (xs ys : List A) → length xs ≡ length ys → ((k : ℕ) → k < length xs → item xs k other ≡ item ys k other) → xs ≡ ys
same_items other [] [] e h = refl
same_items other [] (y ∷ ys) e h = absurd (omega (arith, e))
same_items other (x ∷ xs) [] e h = absurd (omega (arith, e))
same_items other (x ∷ xs) (y ∷ ys) e h =
    ap (λ z. z ∷ xs) (h 0 (omega arith)) ∙ ap (λ zs. y ∷ zs) (same_items other xs ys (omega (arith, e)) (λ k lt. h (suc k) (omega (arith, lt))))

pub length-listed : {A : Type 0} (n i : ℕ) (f : ℕ → A) → length (listed n i f) ≡ n
length-listed zero i f = refl
length-listed (suc n) i f = ap suc (length-listed n (i + 1) f)

pub item-listed : {A : Type 0} (n i : ℕ) (f : ℕ → A) (k : ℕ) (other : A) → k < n → item (listed n i f) k other ≡ f (i + k)
item-listed zero i f k other h = absurd (none_below k h)
item-listed (suc n) i f zero other h = let same : i ≡ i + 0 = omega arith in ap f same
item-listed (suc n) i f (suc k) other h = let same : (i + 1) + k ≡ i + suc k = omega arith in item-listed n (i + 1) f k other (omega (arith, h)) ∙ ap f same

-- one more item at the end
pub listed-more : {A : Type 0} (n i : ℕ) (f : ℕ → A) → listed (suc n) i f ≡ listed n i f ++ f (i + n) ∷ []
listed-more zero i f = let same : i ≡ i + 0 = omega arith in ap (λ k. f k ∷ []) same
listed-more (suc n) i f = let same : (i + 1) + n ≡ i + suc n = omega arith in ap (λ xs. f i ∷ xs) (listed-more n (i + 1) f ∙ ap (λ k. listed n (i + 1) f ++ f k ∷ []) same)

pub item-front : {A : Type 0} (n : ℕ) (xs : List A) (k : ℕ) (other : A) → k < n → item (front n xs) k other ≡ item xs k other
item-front zero xs k other h = absurd (none_below k h)
item-front (suc n) [] k other h = refl
item-front (suc n) (x ∷ xs) zero other h = refl
item-front (suc n) (x ∷ xs) (suc k) other h = item-front n xs k other (omega (arith, h))

pub item-skipped : {A : Type 0} (n : ℕ) (xs : List A) (k : ℕ) (other : A) → item (skipped n xs) k other ≡ item xs (n + k) other
item-skipped zero xs k other = let same : k ≡ 0 + k = omega arith in ap (λ j. item xs j other) same
item-skipped (suc n) [] k other = refl
item-skipped (suc n) (x ∷ xs) k other = let same : suc (n + k) ≡ suc n + k = omega arith in item-skipped n xs k other ∙ ap (λ j. item (x ∷ xs) j other) same

none_skipped : {A : Type 0} (n : ℕ) → skipped {A = A} n [] ≡ []
none_skipped zero = refl
none_skipped (suc n) = refl

pub skipped-skipped : {A : Type 0} (m n : ℕ) (xs : List A) → skipped m (skipped n xs) ≡ skipped (n + m) xs
skipped-skipped m zero xs = let same : m ≡ 0 + m = omega arith in ap (λ k. skipped k xs) same
skipped-skipped m (suc n) [] = none_skipped m ∙ sym (none_skipped (suc n + m))
skipped-skipped m (suc n) (x ∷ xs) = let same : suc (n + m) ≡ suc n + m = omega arith in skipped-skipped m n xs ∙ ap (λ k. skipped k (x ∷ xs)) same

-- ---- rows

-- row y of a picture begins at place w * y
pub row-rows_of : {A : Type 0} (w h : ℕ) (xs : List A) (y : ℕ) (other : List A) → y < h → item (rows_of w h xs) y other ≡ front w (skipped (w * y) xs)
row-rows_of w zero xs y other below = absurd (none_below y below)
row-rows_of w (suc h) xs zero other below = let same : 0 ≡ w * 0 = omega arith in ap (λ k. front w (skipped k xs)) same
row-rows_of w (suc h) xs (suc y) other below =
    let same : w + w * y ≡ w * suc y = grind arith in
    row-rows_of w h (skipped w xs) y other (omega (arith, below)) ∙ ap (front w) (skipped-skipped (w * y) w xs) ∙ ap (λ k. front w (skipped k xs)) same

-- pixel (x, y) of a picture's rows stands at place w * y + x
pub pixel-rows_of : {A : Type 0} (w h : ℕ) (xs : List A) (x y : ℕ) (other : A) → x < w → y < h → item (item (rows_of w h xs) y []) x other ≡ item xs (w * y + x) other
pixel-rows_of w h xs x y other left above =
    ap (λ row. item row x other) (row-rows_of w h xs y [] above) ∙ item-front w (skipped (w * y) xs) x other left ∙ item-skipped (w * y) xs x other

pub length-rows_of : {A : Type 0} (w h : ℕ) (xs : List A) → length (rows_of w h xs) ≡ h
length-rows_of w zero xs = refl
length-rows_of w (suc h) xs = ap suc (length-rows_of w h (skipped w xs))

front-and-skipped : {A : Type 0} (n : ℕ) (xs : List A) → front n xs ++ skipped n xs ≡ xs
front-and-skipped zero xs = refl
front-and-skipped (suc n) [] = refl
front-and-skipped (suc n) (x ∷ xs) = ap (λ ys. x ∷ ys) (front-and-skipped n xs)

pub length-skipped : {A : Type 0} (n : ℕ) (xs : List A) (m : ℕ) → length xs ≡ n + m → length (skipped n xs) ≡ m
length-skipped zero xs m e = omega (arith, e)
length-skipped (suc n) [] m e = absurd (omega (arith, e))
length-skipped (suc n) (x ∷ xs) m e = length-skipped n xs m (omega (arith, e))

empty_is : {A : Type 0} (xs : List A) → length xs ≡ 0 → [] ≡ xs
empty_is [] e = refl
empty_is (x ∷ xs) e = absurd (omega (arith, e))

pub rows_joined : (w h : ℕ) (xs : List ℕ) → length xs ≡ w * h → concat (rows_of w h xs) ≡ xs
rows_joined w zero xs e = empty_is xs (omega (arith, e))
rows_joined w (suc h) xs e =
    let more : w * suc h ≡ w + w * h = grind arith in
    ap (λ ys. front w xs ++ ys) (rows_joined w h (skipped w xs) (length-skipped w xs (w * h) (e ∙ more))) ∙ front-and-skipped w xs

front-append : {A : Type 0} (n : ℕ) (xs ys : List A) → length xs ≡ n → front n (xs ++ ys) ≡ xs
front-append zero [] ys e = refl
front-append zero (x ∷ xs) ys e = absurd (omega (arith, e))
front-append (suc n) [] ys e = absurd (omega (arith, e))
front-append (suc n) (x ∷ xs) ys e = ap (λ zs. x ∷ zs) (front-append n xs ys (omega (arith, e)))

skipped-append : {A : Type 0} (n : ℕ) (xs ys : List A) → length xs ≡ n → skipped n (xs ++ ys) ≡ ys
skipped-append zero [] ys e = refl
skipped-append zero (x ∷ xs) ys e = absurd (omega (arith, e))
skipped-append (suc n) [] ys e = absurd (omega (arith, e))
skipped-append (suc n) (x ∷ xs) ys e = skipped-append n xs ys (omega (arith, e))

pub joined_rows : (w h : ℕ) (rows : List (List ℕ)) → length rows ≡ h → All (λ row. length row ≡ w) rows → rows_of w h (concat rows) ≡ rows
joined_rows w zero [] e h = refl
joined_rows w zero (row ∷ rows) e h = absurd (omega (arith, e))
joined_rows w (suc n) [] e h = absurd (omega (arith, e))
joined_rows w (suc n) (row ∷ rows) e h =
    let wide : length row ≡ w = h 0 [] (omega arith) in
    ap (λ first. first ∷ rows_of w n (skipped w (row ++ concat rows))) (front-append w row (concat rows) wide)
    ∙ ap (λ rest. row ∷ rows_of w n rest) (skipped-append w row (concat rows) wide)
    ∙ ap (λ rs. row ∷ rs) (joined_rows w n rows (omega (arith, e)) (λ k d lt. h (suc k) d (omega (arith, lt))))

pub length-front : {A : Type 0} (n : ℕ) (xs : List A) → n ≤ length xs → length (front n xs) ≡ n
length-front zero xs h = refl
length-front (suc n) [] h = absurd (omega (arith, h))
length-front (suc n) (x ∷ xs) h = ap suc (length-front n xs (omega (arith, h)))

places_above : (w h y : ℕ) → y < h → w * y + w ≤ w * h
places_above w h y below = let more : w * suc y ≤ w * h = grind (arith, below) in let step : w * suc y ≡ w * y + w = grind arith in omega (arith, more, step)

pub length-row : {A : Type 0} (w h : ℕ) (xs : List A) (y : ℕ) → length xs ≡ w * h → y < h → length (front w (skipped (w * y) xs)) ≡ w
length-row w h xs y e below =
    let more = places_above w h y below in
    length-front w (skipped (w * y) xs) (at (skipped (w * y) xs) (length-skipped (w * y) xs (w * h - w * y) (omega (arith, e, more))))
  where
    at : {A : Type 0} (rest : List A) → length rest ≡ w * h - w * y → w ≤ length rest
    at rest f = let more = places_above w h y below in omega (arith, f, more)

-- two pictures of one size whose rows are the same are one
pub same_rows : (w h : ℕ) (xs ys : List ℕ) → length xs ≡ w * h → length ys ≡ w * h
    → ((y : ℕ) → y < h → front w (skipped (w * y) xs) ≡ front w (skipped (w * y) ys)) → xs ≡ ys
same_rows w h xs ys e f same =
    sym (rows_joined w h xs e) ∙ ap concat (same_items [] (rows_of w h xs) (rows_of w h ys) (length-rows_of w h xs ∙ sym (length-rows_of w h ys))
    (λ y lt. let below : y < h = omega (arith, lt, length-rows_of w h xs) in row-rows_of w h xs y [] below ∙ same y below ∙ sym (row-rows_of w h ys y [] below))) ∙ rows_joined w h ys f

-- the join of one more row
pub joined_more : (n : ℕ) (f : ℕ → List ℕ) → concat (listed (n + 1) 0 f) ≡ concat (listed n 0 f) ++ f n
joined_more n f = let suc_is : n + 1 ≡ suc n = omega arith in
    ap (λ k. concat (listed k 0 f)) suc_is ∙ ap concat (listed-more n 0 f) ∙ concat-append (listed n 0 f) (f (0 + n) ∷ [])
    ∙ ap (λ row. concat (listed n 0 f) ++ row) (append-nil (f (0 + n)) ∙ ap f (zero-add n))

-- ---- pictures

-- place i of a picture is that of a pixel
column_below : (w h i : ℕ) → i < w * h → i % w < w
column_below zero h i k = absurd (omega (arith, k))
column_below (suc w) h i k = mod-lt i (omega arith)

row_below : (w h i : ℕ) → i < w * h → i / w < h
row_below zero h i k = absurd (omega (arith, k))
row_below (suc w) h i k = div_below i (suc w) h (omega arith) (rw (mul_comm h (suc w)) k)

at_place : (w h i : ℕ) → i < w * h → w * (i / w) + i % w ≡ i
at_place zero h i k = absurd (omega (arith, k))
at_place (suc w) h i k = omega arith

-- two pictures of one size whose pixels are the same are one
pub same_pixels : {A : Type 0} (size : Size) (ps qs : List A) (other : A) → length ps ≡ pixel_count size → length qs ≡ pixel_count size
    → ((x y : ℕ) → x < size.w → y < size.h → pixel_at size ps other x y ≡ pixel_at size qs other x y) → ps ≡ qs
same_pixels size ps qs other e f h = same_items other ps qs (e ∙ sym f) (λ k lt.
    let below : k < size.w * size.h = omega (arith, lt, e) in
    let place = at_place size.w size.h k below in
    ap (λ i. item ps i other) (sym place) ∙ h (k % size.w) (k / size.w) (column_below size.w size.h k below) (row_below size.w size.h k below) ∙ ap (λ i. item qs i other) place)
