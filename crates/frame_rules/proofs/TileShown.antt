-- A tile that is sent shows the session's picture: its pixels are cut out of the picture and put back at their place.
use Rattle.std.proofs.Common.{◌≡◌, ℕ, zero, suc, ◌+◌, ◌*◌, ◌/◌, ◌%◌, ◌≤◌, ◌<◌, List, [], ◌∷◌, refl, ap, sym, ◌∙◌, arith, Some, None, ◌⊎◌, inl, inr}
use Rattle.std.specs.Prelude.{Bool, true, false, Option, ℤ, pos, ◌-ℤ◌, ◌+ℤ◌}
use Rattle.std.proofs.lemmas.Int.{ints}
use Rattle.std.proofs.lemmas.Bool.{and_parts}
use Rattle.px_core.specs.declared.depth.Depth.{Depth}
use Rattle.px_core.specs.declared.surface.Size.{Size}
use Rattle.px_core.specs.Depth.{seen, shown_colors}
use Rattle.px_core.specs.declared.rectangle.Rect.{Rect}
use Rattle.px_core.specs.Picture.{pixel_count, nat_of, item, listed, front, skipped, rows_of, pixel_in, where_chosen}
use Rattle.px_core.specs.Rectangle.{within, in_rect, pixel_of, cut_out}
use Rattle.px_core.specs.Tiles.{Tiles}
use Rattle.rop3_core.specs.Palette.{client_colors}
use Rattle.draw_ops.specs.Formulas.{replaced, shifted, imaged}
use Rattle.draw_ops.proofs.Shapes.{shifted_shown}
use Rattle.frame_rules.specs.Shown.{tile_of_place, ShowsOutside, canvas_after_cut}
use Rattle.frame_rules.proofs.Paint.{painted_at, item-painted_from, length-painted_from}
use Rattle.frame_rules.proofs.TileLaws.{column_below, row_below, within-low, within-high, pos-nat_of}

none_below : (k : ℕ) → k < 0 → ⊥
none_below k h = absurd (omega (arith, h))

-- ---- rows

item_front : {A : Type 0} (n : ℕ) (xs : List A) (k : ℕ) (other : A) → k < n → item (front n xs) k other ≡ item xs k other
item_front zero xs k other h = absurd (none_below k h)
item_front (suc n) [] k other h = refl
item_front (suc n) (x ∷ xs) zero other h = refl
item_front (suc n) (x ∷ xs) (suc k) other h = item_front n xs k other (omega (arith, h))

item_skipped : {A : Type 0} (n : ℕ) (xs : List A) (k : ℕ) (other : A) → item (skipped n xs) k other ≡ item xs (n + k) other
item_skipped zero xs k other = let same : k ≡ 0 + k = omega arith in ap (λ j. item xs j other) same
item_skipped (suc n) [] k other = refl
item_skipped (suc n) (x ∷ xs) k other = let same : suc (n + k) ≡ suc n + k = omega arith in item_skipped n xs k other ∙ ap (λ j. item (x ∷ xs) j other) same

-- pixel (x, y) of a picture's rows stands at place w * y + x
pub item_rows : {A : Type 0} (w h : ℕ) (xs : List A) (x y : ℕ) (other : A) → x < w → y < h → item (item (rows_of w h xs) y []) x other ≡ item xs (w * y + x) other
item_rows w zero xs x y other hx hy = absurd (none_below y hy)
item_rows w (suc h) xs x zero other hx hy = let same : x ≡ w * 0 + x = omega arith in item_front w xs x other hx ∙ ap (λ j. item xs j other) same
item_rows w (suc h) xs x (suc y) other hx hy =
    let same : w + (w * y + x) ≡ w * suc y + x = grind arith in
    item_rows w h (skipped w xs) x y other hx (omega (arith, hy)) ∙ item_skipped w xs (w * y + x) other ∙ ap (λ j. item xs j other) same

pub item_listed : {A : Type 0} (n i : ℕ) (f : ℕ → A) (k : ℕ) (other : A) → k < n → item (listed n i f) k other ≡ f (i + k)
item_listed zero i f k other h = absurd (none_below k h)
item_listed (suc n) i f zero other h = let same : i ≡ i + 0 = omega arith in ap f same
item_listed (suc n) i f (suc k) other h = let same : (i + 1) + k ≡ i + suc k = omega arith in item_listed n (i + 1) f k other (omega (arith, h)) ∙ ap f same

pub column_of : (w x y : ℕ) → x < w → (w * y + x) % w ≡ x
column_of w x y h = grind (arith, h)

pub row_of : (w x y : ℕ) → x < w → (w * y + x) / w ≡ y
row_of w x y h = grind (arith, h)

pub place_below : (w h x y : ℕ) → x < w → y < h → w * y + x < w * h
place_below w h x y hx hy =
    let more : w * suc y ≤ w * h = grind (arith, hy) in
    let step : w * suc y ≡ w * y + w = grind arith in
    omega (arith, more, step, hx)

-- ---- a rectangle that is cut out

cut_pixel : (size : Size) (picture : List ℕ) (r : Rect) (x y : ℕ) → x < r.w → y < r.h
    → pixel_in (rows_of r.w r.h (cut_out size picture 0 r)) 0 (pos x) (pos y) ≡ pixel_in (rows_of size.w size.h picture) 0 (r.x +ℤ pos x) (r.y +ℤ pos y)
cut_pixel size picture r x y hx hy =
    let rows = rows_of size.w size.h picture in
    let start : 0 + (r.w * y + x) ≡ r.w * y + x = omega arith in
    item_rows r.w r.h (cut_out size picture 0 r) x y 0 hx hy
    ∙ item_listed (r.w * r.h) 0 (pixel_of rows 0 r) (r.w * y + x) 0 (place_below r.w r.h x y hx hy)
    ∙ ap (pixel_of rows 0 r) start
    ∙ ap (λ c. pixel_in rows 0 (r.x +ℤ pos c) (r.y +ℤ pos ((r.w * y + x) / r.w))) (column_of r.w x y hx)
    ∙ ap (λ d. pixel_in rows 0 (r.x +ℤ pos x) (r.y +ℤ pos d)) (row_of r.w x y hx)

-- how far a coordinate lies in a stretch
offset : (from : ℤ) (n : ℕ) (z : ℕ) → within from n (pos z) ≡ true → (nat_of (pos z -ℤ from) < n) × ((pos z -ℤ from) +ℤ pos 0 ≡ pos (nat_of (pos z -ℤ from))) × (from +ℤ pos (nat_of (pos z -ℤ from)) ≡ pos z)
offset from n z h =
    let low = within-low from n (pos z) h in
    let high = within-high from n (pos z) h in
    let is : pos (nat_of (pos z -ℤ from)) ≡ pos z -ℤ from = pos-nat_of (pos z -ℤ from) (omega (arith, ints)) in
    (omega (arith, ints), omega (arith, ints), omega (arith, ints))

place_again : (size : Size) (i : ℕ) → i < pixel_count size → size.w * (i / size.w) + i % size.w ≡ i
place_again size i h = by size.w h
  where
    by : (w : ℕ) → i < w * size.h → w * (i / w) + i % w ≡ i
    by zero k = absurd (omega (arith, k))
    by (suc w) k = omega arith

-- the pixel that the cut out rectangle puts at a place is the picture's
cut_shows : (size : Size) (picture : List ℕ) (r : Rect) (i : ℕ) → i < pixel_count size → in_rect r (pos (i % size.w)) (pos (i / size.w)) ≡ true
    → shifted (rows_of r.w r.h (cut_out size picture 0 r)) 0 r (pos 0) (pos 0) (pos (i % size.w)) (pos (i / size.w)) ≡ item picture i 0
cut_shows size picture r i below inside =
    let parts = and_parts (within r.x r.w (pos (i % size.w))) (within r.y r.h (pos (i / size.w))) inside in
    let a = offset r.x r.w (i % size.w) parts.0 in
    let b = offset r.y r.h (i / size.w) parts.1 in
    let rows = rows_of r.w r.h (cut_out size picture 0 r) in
    let all = rows_of size.w size.h picture in
    ap (λ z. pixel_in rows 0 z ((pos (i / size.w) -ℤ r.y) +ℤ pos 0)) a.1
    ∙ ap (λ z. pixel_in rows 0 (pos (nat_of (pos (i % size.w) -ℤ r.x))) z) b.1
    ∙ cut_pixel size picture r (nat_of (pos (i % size.w) -ℤ r.x)) (nat_of (pos (i / size.w) -ℤ r.y)) a.0 b.0
    ∙ ap (λ z. pixel_in all 0 z (r.y +ℤ pos (nat_of (pos (i / size.w) -ℤ r.y)))) a.2
    ∙ ap (λ z. pixel_in all 0 (pos (i % size.w)) z) b.2
    ∙ item_rows size.w size.h picture (i % size.w) (i / size.w) 0 (column_below size i below) (row_below size i below)
    ∙ ap (λ j. item picture j 0) (place_again size i below)

-- and is as it is shown at a depth, where the rectangle's pixels are
pub cut_seen : (depth : Depth) (size : Size) (picture : List ℕ) (r : Rect) (i : ℕ) (old : Option ℕ) → i < pixel_count size → in_rect r (pos (i % size.w)) (pos (i / size.w)) ≡ true
    → replaced (imaged client_colors (rows_of r.w r.h (shown_colors depth (cut_out size picture 0 r))) r (pos 0) (pos 0)) (pos (i % size.w)) (pos (i / size.w)) old ≡ seen depth (item picture i 0)
cut_seen depth size picture r i old below inside =
    ap Some (shifted_shown depth r.w r.h (cut_out size picture 0 r) r (pos 0) (pos 0) (pos (i % size.w)) (pos (i / size.w)))
    ∙ ap (seen depth) (cut_shows size picture r i below inside)

-- ---- the client's picture after a tile

-- tiles that are clean after a rectangle: those that were, and those whose pixels all lie in it
pub ShowsOutside-cut : (depth : Depth) (size : Size) (r : Rect) (dirty later : Tiles) (canvas : List (Option ℕ)) (picture : List ℕ)
    → ((i : ℕ) → i < pixel_count size → later (tile_of_place size i) ≡ false → (dirty (tile_of_place size i) ≡ false) ⊎ (in_rect r (pos (i % size.w)) (pos (i / size.w)) ≡ true))
    → ShowsOutside depth size dirty canvas picture
    → ShowsOutside depth size later (canvas_after_cut depth size picture r canvas) picture
ShowsOutside-cut depth size r dirty later canvas picture covered s = record {
  canvas_length = length-painted_from size.w 0 (in_rect r) f canvas ∙ s.canvas_length;
  picture_length = s.picture_length;
  pixels = λ i below clean.
      let zero_plus : 0 + i ≡ i = omega arith in
      item-painted_from size.w 0 (in_rect r) f canvas i None (rw s.canvas_length below)
      ∙ ap (λ j. painted_at size.w (in_rect r) f j (item canvas i None)) zero_plus
      ∙ is_seen i below (in_rect r (pos (i % size.w)) (pos (i / size.w))) refl (covered i below clean);
}
  where
    f : ℤ → ℤ → Option ℕ → Option ℕ
    f = replaced (imaged client_colors (rows_of r.w r.h (shown_colors depth (cut_out size picture 0 r))) r (pos 0) (pos 0))

    is_seen : (i : ℕ) → i < pixel_count size → (b : Bool) → in_rect r (pos (i % size.w)) (pos (i / size.w)) ≡ b
        → (dirty (tile_of_place size i) ≡ false) ⊎ (in_rect r (pos (i % size.w)) (pos (i / size.w)) ≡ true)
        → where_chosen (in_rect r (pos (i % size.w)) (pos (i / size.w))) f (pos (i % size.w)) (pos (i / size.w)) (item canvas i None) ≡ seen depth (item picture i 0)
    is_seen i below true e why = ap (λ t. where_chosen t f (pos (i % size.w)) (pos (i / size.w)) (item canvas i None)) e ∙ cut_seen depth size picture r i (item canvas i None) below e
    is_seen i below false e (inl clean) = ap (λ t. where_chosen t f (pos (i % size.w)) (pos (i / size.w)) (item canvas i None)) e ∙ s.pixels i below clean
    is_seen i below false e (inr inside) = absurd (cc (sym e ∙ inside))
