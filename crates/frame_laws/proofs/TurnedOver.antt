-- Rows from the top, rows from the bottom, and columns that are added.
use Rattle.std.proofs.Common.{◌≡◌, ℕ, zero, suc, ◌+◌, ◌*◌, ◌-◌, ◌<◌, ◌≤◌, List, [], ◌∷◌, ◌++◌, length, map, refl, ap, sym, ◌∙◌, arith, append-nil, length-append, replicate}
use Rattle.std.specs.Prelude.{⊤, ◌^◌}
use Rattle.std.proofs.lemmas.List.{length-replicate}
use Rattle.px_core.specs.Picture.{item, front, skipped, rows_of, turned, joined, turned_over}
use Rattle.draw_ops.specs.Content.{ImageOf}
use Rattle.draw_ops.specs.Formulas.{image_rows}
use Rattle.run_lengths.specs.WirePixels.{padded, padded_row}
use Rattle.order_means.specs.KeptContent.{padded_image}
use Rattle.frame_laws.specs.Sound.{AreColors, IsSoundImage}

-- ---- lists that are turned

turned_append : {A : Type 0} (xs ys zs : List A) → turned (turned xs ys) zs ≡ turned ys (xs ++ zs)
turned_append [] ys zs = refl
turned_append (x ∷ xs) ys zs = turned_append xs (x ∷ ys) zs

turned_twice : {A : Type 0} (xs : List A) → turned (turned xs []) [] ≡ xs
turned_twice xs = turned_append xs [] [] ∙ append-nil xs

-- ---- rows of one width

abbrev pub AreWide : {A : Type 0} → ℕ → List (List A) → Type 0
AreWide w [] = ⊤
AreWide w (r ∷ rs) = (length r ≡ w) × AreWide w rs

front_append : {A : Type 0} (xs ys : List A) → front (length xs) (xs ++ ys) ≡ xs
front_append [] [] = refl
front_append [] (y ∷ ys) = refl
front_append (x ∷ xs) ys = ap (λ zs. x ∷ zs) (front_append xs ys)

skipped_append : {A : Type 0} (xs ys : List A) → skipped (length xs) (xs ++ ys) ≡ ys
skipped_append [] ys = refl
skipped_append (x ∷ xs) ys = skipped_append xs ys

front_skipped : {A : Type 0} (n : ℕ) (xs : List A) → front n xs ++ skipped n xs ≡ xs
front_skipped zero xs = refl
front_skipped (suc n) [] = refl
front_skipped (suc n) (x ∷ xs) = ap (λ zs. x ∷ zs) (front_skipped n xs)

length-front : {A : Type 0} (n : ℕ) (xs : List A) → n ≤ length xs → length (front n xs) ≡ n
length-front zero xs h = refl
length-front (suc n) [] h = absurd (omega (arith, h))
length-front (suc n) (x ∷ xs) h = ap suc (length-front n xs (omega (arith, h)))

length-skipped : {A : Type 0} (n : ℕ) (xs : List A) → n ≤ length xs → n + length (skipped n xs) ≡ length xs
length-skipped zero xs h = omega arith
length-skipped (suc n) [] h = absurd (omega (arith, h))
length-skipped (suc n) (x ∷ xs) h = let more = length-skipped n xs (omega (arith, h)) in omega (arith, more)

-- the rows of the pixels that rows are
pub rows_joined : {A : Type 0} (w : ℕ) (rs : List (List A)) → AreWide w rs → rows_of w (length rs) (joined rs) ≡ rs
rows_joined w [] h = refl
rows_joined w (r ∷ rs) h =
    ap (λ n. front n (r ++ joined rs) ∷ rows_of w (length rs) (skipped n (r ++ joined rs))) (sym h.0)
    ∙ ap (λ f. f ∷ rows_of w (length rs) (skipped (length r) (r ++ joined rs))) (front_append r (joined rs))
    ∙ ap (λ s. r ∷ rows_of w (length rs) s) (skipped_append r (joined rs))
    ∙ ap (λ q. r ∷ q) (rows_joined w rs h.1)

-- what holds of the rows of w by h pixels
pub record Rows {A : Type 0} (w h : ℕ) (xs : List A) : Type 0 where
  pub wide : AreWide w (rows_of w h xs)
  pub high : length (rows_of w h xs) ≡ h
  pub back : joined (rows_of w h xs) ≡ xs

pub rows : {A : Type 0} (w h : ℕ) (xs : List A) → length xs ≡ w * h → Rows w h xs
rows w zero [] e = record { wide = tt; high = refl; back = refl }
rows w zero (x ∷ xs) e = absurd (omega (arith, e))
rows w (suc h) xs e =
    let all : length xs ≡ w + w * h = grind (arith, e) in
    let enough : w ≤ length xs = omega (arith, all) in
    let more = length-skipped w xs enough in
    let rest = rows w h (skipped w xs) (omega (arith, all, more)) in
    record {
      wide = (length-front w xs enough, rest.wide);
      high = ap suc rest.high;
      back = ap (λ ys. front w xs ++ ys) rest.back ∙ front_skipped w xs;
    }

wide_turned : {A : Type 0} (w : ℕ) (xs ys : List (List A)) → AreWide w xs → AreWide w ys → AreWide w (turned xs ys)
wide_turned w [] ys h k = k
wide_turned w (x ∷ xs) ys h k = wide_turned w xs (x ∷ ys) h.1 (h.0, k)

length-turned : {A : Type 0} (xs ys : List A) → length (turned xs ys) ≡ length xs + length ys
length-turned [] ys = omega arith
length-turned (x ∷ xs) ys = length-turned xs (x ∷ ys) ∙ omega arith

-- the rows of pixels that were turned over
rows_turned : {A : Type 0} (w h : ℕ) (xs : List A) → length xs ≡ w * h → rows_of w h (turned_over w h xs) ≡ turned (rows_of w h xs) []
rows_turned w h xs e =
    let r = rows w h xs e in
    let n : length (turned (rows_of w h xs) []) ≡ h = length-turned (rows_of w h xs) [] ∙ omega (arith, r.high) in
    ap (λ m. rows_of w m (turned_over w h xs)) (sym n) ∙ rows_joined w (turned (rows_of w h xs) []) (wide_turned w (rows_of w h xs) [] r.wide tt)

-- turned over twice is as it was
pub turned_over_twice : {A : Type 0} (w h : ℕ) (xs : List A) → length xs ≡ w * h → turned_over w h (turned_over w h xs) ≡ xs
turned_over_twice w h xs e =
    ap (λ rs. joined (turned rs [])) (rows_turned w h xs e) ∙ ap joined (turned_twice (rows_of w h xs)) ∙ (rows w h xs e).back

length-joined : {A : Type 0} (w : ℕ) (rs : List (List A)) → AreWide w rs → length (joined rs) ≡ w * length rs
length-joined w [] h = omega arith
length-joined w (r ∷ rs) h =
    let one = h.0 in
    let more = length-joined w rs h.1 in
    let all : w * suc (length rs) ≡ w + w * length rs = grind arith in
    omega (arith, one, more, all, length-append r (joined rs))

pub length-turned_over : {A : Type 0} (w h : ℕ) (xs : List A) → length xs ≡ w * h → length (turned_over w h xs) ≡ w * h
length-turned_over w h xs e =
    let r = rows w h xs e in
    let n : length (turned (rows_of w h xs) []) ≡ h = length-turned (rows_of w h xs) [] ∙ omega (arith, r.high) in
    length-joined w (turned (rows_of w h xs) []) (wide_turned w (rows_of w h xs) [] r.wide tt) ∙ ap (λ m. w * m) n

-- ---- colours

abbrev pub AllColored : List (List ℕ) → Type 0
AllColored [] = ⊤
AllColored (r ∷ rs) = AreColors r × AllColored rs

pub colors_append : (xs ys : List ℕ) → AreColors xs → AreColors ys → AreColors (xs ++ ys)
colors_append [] ys h k = k
colors_append (x ∷ xs) ys h k = (h.0, colors_append xs ys h.1 k)

colors_front : (n : ℕ) (xs : List ℕ) → AreColors xs → AreColors (front n xs)
colors_front zero xs h = tt
colors_front (suc n) [] h = tt
colors_front (suc n) (x ∷ xs) h = (h.0, colors_front n xs h.1)

colors_skipped : (n : ℕ) (xs : List ℕ) → AreColors xs → AreColors (skipped n xs)
colors_skipped zero xs h = h
colors_skipped (suc n) [] h = tt
colors_skipped (suc n) (x ∷ xs) h = colors_skipped n xs h.1

pub colored_rows : (w h : ℕ) (xs : List ℕ) → AreColors xs → AllColored (rows_of w h xs)
colored_rows w zero xs c = tt
colored_rows w (suc h) xs c = (colors_front w xs c, colored_rows w h (skipped w xs) (colors_skipped w xs c))

colored_turned : (xs ys : List (List ℕ)) → AllColored xs → AllColored ys → AllColored (turned xs ys)
colored_turned [] ys h k = k
colored_turned (x ∷ xs) ys h k = colored_turned xs (x ∷ ys) h.1 (h.0, k)

colors_joined : (rs : List (List ℕ)) → AllColored rs → AreColors (joined rs)
colors_joined [] h = tt
colors_joined (r ∷ rs) h = colors_append r (joined rs) h.0 (colors_joined rs h.1)

pub colors_turned_over : (w h : ℕ) (xs : List ℕ) → AreColors xs → AreColors (turned_over w h xs)
colors_turned_over w h xs c = colors_joined (turned (rows_of w h xs) []) (colored_turned (rows_of w h xs) [] (colored_rows w h xs c) tt)

pub color_item : (xs : List ℕ) (k : ℕ) → AreColors xs → item xs k 0 < 2 ^ 24
color_item [] k h = omega arith
color_item (x ∷ xs) zero h = h.0
color_item (x ∷ xs) (suc k) h = color_item xs k h.1

colors_replicate : (n x : ℕ) → x < 2 ^ 24 → AreColors (replicate n x)
colors_replicate zero x h = tt
colors_replicate (suc n) x h = (h, colors_replicate n x h)

-- ---- columns that are added

pub padded_least : (w : ℕ) → w ≤ padded w
padded_least w = omega arith

wide_padded_row : (w : ℕ) (r : List ℕ) → length r ≡ w → length (padded_row w r) ≡ padded w
wide_padded_row w r e =
    let least = padded_least w in
    let added : length (replicate (padded w - w) (item r (w - 1) 0)) ≡ padded w - w = length-replicate (padded w - w) (item r (w - 1) 0) in
    omega (arith, e, least, added, length-append r (replicate (padded w - w) (item r (w - 1) 0)))

wide_padded : (w : ℕ) (rs : List (List ℕ)) → AreWide w rs → AreWide (padded w) (map (padded_row w) rs)
wide_padded w [] h = tt
wide_padded w (r ∷ rs) h = (wide_padded_row w r h.0, wide_padded w rs h.1)

length-padded : (w : ℕ) (rs : List (List ℕ)) → length (map (padded_row w) rs) ≡ length rs
length-padded w [] = refl
length-padded w (r ∷ rs) = ap suc (length-padded w rs)

colored_padded : (w : ℕ) (rs : List (List ℕ)) → AllColored rs → AllColored (map (padded_row w) rs)
colored_padded w [] h = tt
colored_padded w (r ∷ rs) h = (colors_append r _ h.0 (colors_replicate (padded w - w) (item r (w - 1) 0) (color_item r (w - 1) h.0)), colored_padded w rs h.1)

-- a padded image: its rows, its pixels
pub record Padded (image : ImageOf) : Type 0 where
  pub rows_are : image_rows (padded_image image) ≡ map (padded_row image.w) (image_rows image)
  pub whole : length (padded_image image).pixels ≡ (padded_image image).w * (padded_image image).h
  pub colors : AreColors (padded_image image).pixels

pub padded_facts : (image : ImageOf) → IsSoundImage image → Padded image
padded_facts image s =
    let r = rows image.w image.h image.pixels s.whole in
    let some : List (List ℕ) = map (padded_row image.w) (image_rows image) in
    let wide : AreWide (padded image.w) some = wide_padded image.w (image_rows image) r.wide in
    let high : length some ≡ image.h = length-padded image.w (image_rows image) ∙ r.high in
    record {
      rows_are = ap (λ n. rows_of (padded image.w) n (joined some)) (sym high) ∙ rows_joined (padded image.w) some wide;
      whole = length-joined (padded image.w) some wide ∙ ap (λ n. padded image.w * n) high;
      colors = colors_joined some (colored_padded image.w (image_rows image) (colored_rows image.w image.h image.pixels s.colors));
    }

-- ---- a pixel of a padded image

item_map : {A B : Type 0} (f : A → B) (xs : List A) (k : ℕ) (a : A) (b : B) → k < length xs → item (map f xs) k b ≡ f (item xs k a)
item_map f [] k a b h = absurd (omega (arith, h))
item_map f (x ∷ xs) zero a b h = refl
item_map f (x ∷ xs) (suc k) a b h = item_map f xs k a b (omega (arith, h))

item_append : {A : Type 0} (xs ys : List A) (k : ℕ) (a : A) → k < length xs → item (xs ++ ys) k a ≡ item xs k a
item_append [] ys k a h = absurd (omega (arith, h))
item_append (x ∷ xs) ys zero a h = refl
item_append (x ∷ xs) ys (suc k) a h = item_append xs ys k a (omega (arith, h))

wide_item : {A : Type 0} (w : ℕ) (rs : List (List A)) (k : ℕ) → AreWide w rs → k < length rs → length (item rs k []) ≡ w
wide_item w [] k h b = absurd (omega (arith, b))
wide_item w (r ∷ rs) zero h b = h.0
wide_item w (r ∷ rs) (suc k) h b = wide_item w rs k h.1 (omega (arith, b))

pub padded_pixel : (image : ImageOf) (x y : ℕ) → IsSoundImage image → x < image.w → y < image.h
    → item (item (image_rows (padded_image image)) y []) x 0 ≡ item (item (image_rows image) y []) x 0
padded_pixel image x y s hx hy =
    let r = rows image.w image.h image.pixels s.whole in
    let high = r.high in
    let there : y < length (image_rows image) = omega (arith, high, hy) in
    let wide = wide_item image.w (image_rows image) y r.wide there in
    ap (λ rs. item (item rs y []) x 0) (padded_facts image s).rows_are
    ∙ ap (λ row. item row x 0) (item_map (padded_row image.w) (image_rows image) y [] [] there)
    ∙ item_append (item (image_rows image) y []) (replicate (padded image.w - image.w) (item (item (image_rows image) y []) (image.w - 1) 0)) x 0
    (omega (arith, wide, hx))
