-- A pixel that a drawing paints lies in a tile that it touches; and what that means for the client's picture.
use Rattle.std.proofs.Common.{◌≡◌, ℕ, zero, suc, mod-lt, mul_comm, ◌+◌, ◌*◌, ◌/◌, ◌%◌, ◌≤◌, ◌<◌, List, refl, ap, sym, ◌∙◌, Some, None, arith, length}
use Rattle.std.specs.Prelude.{Bool, true, false, ◌&&◌, ◌||◌, Option, ℤ, pos, negsuc, ◌-ℤ◌, ◌+ℤ◌, ◌≤ℤ◌, ◌<ℤ◌, int_le, int_lt, nat_le}
use Rattle.std.specs.Int.{int_min, int_max}
use Rattle.std.proofs.lemmas.Int.{ints, clamps}
use Rattle.std.proofs.lemmas.Bool.{and_from, and_parts}
use Rattle.std.proofs.lemmas.Bool.Decides.{nat_tests}
use Rattle.std.proofs.lemmas.Nat.{div_below}
use Rattle.px_core.specs.declared.depth.Depth.{Depth}
use Rattle.px_core.specs.declared.surface.Size.{Size}
use Rattle.px_core.specs.Depth.{seen}
use Rattle.px_core.specs.declared.rectangle.Rect.{Rect}
use Rattle.px_core.specs.Picture.{pixel_count, nat_of, item, Area, Formula, where_chosen, painted_from}
use Rattle.px_core.specs.Rectangle.{within, in_rect, in_clip, has_pixel, whole, common, clipped}
use Rattle.px_core.specs.Tiles.{Tiles, either_tiles, tile_rect, tile_number, tiles_of}
use Rattle.draw_ops.specs.Formulas.{Painting, painted_area, picture_after}
use Rattle.frame_rules.specs.Shown.{tile_of_place, ShowsOutside}
use Rattle.frame_rules.proofs.Paint.{painted_at, item-painted_from, length-painted_from}

pub true_is_not_false : true ≡ false → ⊥
true_is_not_false e = cc e

pub pos-nat_of : (z : ℤ) → pos 0 ≤ℤ z → pos (nat_of z) ≡ z
pos-nat_of (pos n) h = refl
pos-nat_of (negsuc n) h = absurd (omega (arith, ints, h))

pub int_le_from : (a b : ℤ) → a ≤ℤ b → int_le a b ≡ true
int_le_from a b h = by (int_le a b) refl
  where
    by : (t : Bool) → int_le a b ≡ t → t ≡ true
    by true e = refl
    by false e = absurd (omega (arith, ints, h))

pub int_lt_from : (a b : ℤ) → a <ℤ b → int_lt a b ≡ true
int_lt_from a b h = by (int_lt a b) refl
  where
    by : (t : Bool) → int_lt a b ≡ t → t ≡ true
    by true e = refl
    by false e = absurd (omega (arith, ints, h))

pub within-low : (a : ℤ) (m : ℕ) (z : ℤ) → within a m z ≡ true → a ≤ℤ z
within-low a m z h = let e = (and_parts (int_le a z) (int_lt z (a +ℤ pos m)) h).0 in omega (arith, ints)

pub within-high : (a : ℤ) (m : ℕ) (z : ℤ) → within a m z ≡ true → z <ℤ (a +ℤ pos m)
within-high a m z h = let e = (and_parts (int_le a z) (int_lt z (a +ℤ pos m)) h).1 in omega (arith, ints)

within-between : (low high z : ℤ) → low ≤ℤ z → z <ℤ high → within low (nat_of (high -ℤ low)) z ≡ true
within-between low high z l h = let e = pos-nat_of (high -ℤ low) (omega (arith, ints)) in
    and_from _ _ (int_le_from low z l) (int_lt_from z (low +ℤ pos (nat_of (high -ℤ low))) (rw e (omega (arith, ints))))

within-common : (a b : ℤ) (m n : ℕ) (z : ℤ) → within a m z ≡ true → within b n z ≡ true → within (int_max a b) (nat_of (int_min (a +ℤ pos m) (b +ℤ pos n) -ℤ int_max a b)) z ≡ true
within-common a b m n z h k =
    let al = within-low a m z h in let ah = within-high a m z h in let bl = within-low b n z k in let bh = within-high b n z k in
    within-between (int_max a b) (int_min (a +ℤ pos m) (b +ℤ pos n)) z (omega (arith, ints, clamps)) (omega (arith, ints, clamps))

-- a pixel of two rectangles is a common one
pub in_rect-common : (a b : Rect) (x y : ℤ) → in_rect a x y ≡ true → in_rect b x y ≡ true → in_rect (common a b) x y ≡ true
in_rect-common a b x y h k =
    let ha = and_parts (within a.x a.w x) (within a.y a.h y) h in
    let hb = and_parts (within b.x b.w x) (within b.y b.h y) k in
    and_from _ _ (within-common a.x b.x a.w b.w x ha.0 hb.0) (within-common a.y b.y a.h b.h y ha.1 hb.1)

pub in_rect-clipped : (r : Rect) (clip : Option Rect) (x y : ℤ) → in_rect r x y ≡ true → in_clip clip x y ≡ true → in_rect (clipped r clip) x y ≡ true
in_rect-clipped r None x y h k = h
in_rect-clipped r (Some c) x y h k = in_rect-common r c x y h k

side_from : (a : ℤ) (m : ℕ) (z : ℤ) → within a m z ≡ true → nat_le 1 m ≡ true
side_from a m z h = by (nat_le 1 m) refl one_le
  where
    one_le : 1 ≤ m
    one_le = let l = within-low a m z h in let k = within-high a m z h in omega (arith, ints)

    by : (t : Bool) → nat_le 1 m ≡ t → 1 ≤ m → t ≡ true
    by true e p = refl
    by false e p = absurd (grind (arith, nat_tests, e, p))

pub has_pixel-in_rect : (r : Rect) (x y : ℤ) → in_rect r x y ≡ true → has_pixel r ≡ true
has_pixel-in_rect r x y h = let k = and_parts (within r.x r.w x) (within r.y r.h y) h in and_from _ _ (side_from r.x r.w x k.0) (side_from r.y r.h y k.1)

pub within_from : (n m x : ℕ) → n ≤ x → x < n + m → within (pos n) m (pos x) ≡ true
within_from n m x h k = and_from _ _ (int_le_from (pos n) (pos x) (omega (arith, ints))) (int_lt_from (pos x) (pos n +ℤ pos m) (omega (arith, ints)))

pub in_rect-tile_rect : (x y : ℕ) → x < 2048 → in_rect (tile_rect (tile_number x y)) (pos x) (pos y) ≡ true
in_rect-tile_rect x y h = and_from _ _ (within_from (64 * (tile_number x y % 32)) 64 x (omega arith) (omega arith)) (within_from (64 * (tile_number x y / 32)) 64 y (omega arith) (omega arith))

pub in_rect-whole : (size : Size) (x y : ℕ) → x < size.w → y < size.h → in_rect (whole size) (pos x) (pos y) ≡ true
in_rect-whole size x y h k = and_from _ _ (within_from 0 size.w x (omega arith) (omega arith)) (within_from 0 size.h y (omega arith) (omega arith))

-- a pixel of a rectangle lies in one of the rectangle's tiles
pub tiles_of-in_rect : (size : Size) (r : Rect) (x y : ℕ) → size.w ≤ 2048 → x < size.w → y < size.h → in_rect r (pos x) (pos y) ≡ true → tiles_of size r (tile_number x y) ≡ true
tiles_of-in_rect size r x y w h k c =
    has_pixel-in_rect (common (tile_rect (tile_number x y)) (common r (whole size))) (pos x) (pos y)
    (in_rect-common (tile_rect (tile_number x y)) (common r (whole size)) (pos x) (pos y) (in_rect-tile_rect x y (omega arith)) (in_rect-common r (whole size) (pos x) (pos y) c (in_rect-whole size x y h k)))

pub tiles_of-painted_area : {A : Type 0} (size : Size) (p : Painting A) (clip : Option Rect) (x y : ℕ) → size.w ≤ 2048 → x < size.w → y < size.h
    → painted_area (in_clip clip) p (pos x) (pos y) ≡ true → tiles_of size (clipped p.rect clip) (tile_number x y) ≡ true
tiles_of-painted_area size p clip x y w h k e =
    let a = and_parts (in_clip clip (pos x) (pos y)) (in_rect p.rect (pos x) (pos y) && p.area (pos x) (pos y)) e in
    let b = and_parts (in_rect p.rect (pos x) (pos y)) (p.area (pos x) (pos y)) a.1 in
    tiles_of-in_rect size (clipped p.rect clip) x y w h k (in_rect-clipped p.rect clip (pos x) (pos y) b.0 a.0)

-- ---- places

pub column_below : (size : Size) (i : ℕ) → i < pixel_count size → i % size.w < size.w
column_below size i h = by size.w h
  where
    by : (w : ℕ) → i < w * size.h → i % w < w
    by zero k = absurd (omega (arith, k))
    by (suc w) k = mod-lt i (omega arith)

pub row_below : (size : Size) (i : ℕ) → i < pixel_count size → i / size.w < size.h
row_below size i h = by size.w h
  where
    by : (w : ℕ) → i < w * size.h → i / w < size.h
    by zero k = absurd (omega (arith, k))
    by (suc w) k = div_below i (suc w) size.h (omega arith) (rw (mul_comm size.h (suc w)) k)

-- ---- the client's picture

pub or_false : (a b : Bool) → (a || b) ≡ false → (a ≡ false) × (b ≡ false)
or_false true b h = absurd (true_is_not_false h)
or_false false b h = (refl, h)

unpainted : {A : Type 0} (t : Bool) (f : Formula A) (x y : ℤ) (old : A) → t ≡ false → where_chosen t f x y old ≡ old
unpainted true f x y old e = absurd (true_is_not_false e)
unpainted false f x y old e = refl

zero_plus : (i : ℕ) → 0 + i ≡ i
zero_plus i = omega arith

-- the pixel at a place of a painted picture
item-picture_after : {A : Type 0} (size : Size) (clip : Area) (p : Painting A) (old : List A) (i : ℕ) (other : A) → i < length old
    → item (picture_after size clip p old) i other ≡ painted_at size.w (painted_area clip p) p.formula i (item old i other)
item-picture_after size clip p old i other h =
    item-painted_from size.w 0 (painted_area clip p) p.formula old i other h ∙ ap (λ j. painted_at size.w (painted_area clip p) p.formula j (item old i other)) (zero_plus i)

-- a drawing that isn't sent: the tiles that it touches become dirty
pub ShowsOutside-skipped : (depth : Depth) (size : Size) (p : Painting ℕ) (clip : Option Rect) (dirty : Tiles) (canvas : List (Option ℕ)) (old : List ℕ) → size.w ≤ 2048
    → ShowsOutside depth size dirty canvas old → ShowsOutside depth size (either_tiles dirty (tiles_of size (clipped p.rect clip))) canvas (picture_after size (in_clip clip) p old)
ShowsOutside-skipped depth size p clip dirty canvas old w s = record {
  canvas_length = s.canvas_length;
  picture_length = length-painted_from size.w 0 (painted_area (in_clip clip) p) p.formula old ∙ s.picture_length;
  pixels = λ i below clean.
      let c = or_false (dirty (tile_of_place size i)) (tiles_of size (clipped p.rect clip) (tile_of_place size i)) clean in
      s.pixels i below c.0 ∙ ap (seen depth) (sym (stays i below c.1));
}
  where
    stays : (i : ℕ) → i < pixel_count size → tiles_of size (clipped p.rect clip) (tile_of_place size i) ≡ false → item (picture_after size (in_clip clip) p old) i 0 ≡ item old i 0
    stays i below apart =
        item-picture_after size (in_clip clip) p old i 0 (rw s.picture_length below)
        ∙ by (painted_area (in_clip clip) p (pos (i % size.w)) (pos (i / size.w))) refl
      where
        by : (t : Bool) → painted_area (in_clip clip) p (pos (i % size.w)) (pos (i / size.w)) ≡ t → painted_at size.w (painted_area (in_clip clip) p) p.formula i (item old i 0) ≡ item old i 0
        by true e = absurd (true_is_not_false (sym (tiles_of-painted_area size p clip (i % size.w) (i / size.w) w (column_below size i below) (row_below size i below) e) ∙ apart))
        by false e = unpainted _ p.formula (pos (i % size.w)) (pos (i / size.w)) (item old i 0) e

pixel_same : (depth : Depth) (t : Bool) (f : Formula ℕ) (g : Formula (Option ℕ)) (x y : ℤ) (old : ℕ) → (t ≡ true → g x y (seen depth old) ≡ seen depth (f x y old))
    → where_chosen t g x y (seen depth old) ≡ seen depth (where_chosen t f x y old)
pixel_same depth true f g x y old h = h refl
pixel_same depth false f g x y old h = refl

-- a drawing that is sent: its order paints the same pixels, and agrees on each whose tile isn't dirty
pub ShowsOutside-sent : (depth : Depth) (size : Size) (area : Area) (p : Painting ℕ) (clip : Area) (f : Formula (Option ℕ)) (dirty : Tiles) (canvas : List (Option ℕ)) (old : List ℕ)
    → ((i : ℕ) → area (pos (i % size.w)) (pos (i / size.w)) ≡ painted_area clip p (pos (i % size.w)) (pos (i / size.w)))
    → ((i d : ℕ) → i < pixel_count size → dirty (tile_of_place size i) ≡ false → painted_area clip p (pos (i % size.w)) (pos (i / size.w)) ≡ true
    → f (pos (i % size.w)) (pos (i / size.w)) (seen depth d) ≡ seen depth (p.formula (pos (i % size.w)) (pos (i / size.w)) d))
    → ShowsOutside depth size dirty canvas old → ShowsOutside depth size dirty (painted_from size.w 0 area f canvas) (picture_after size clip p old)
ShowsOutside-sent depth size area p clip f dirty canvas old same value s = record {
  canvas_length = length-painted_from size.w 0 area f canvas ∙ s.canvas_length;
  picture_length = length-painted_from size.w 0 (painted_area clip p) p.formula old ∙ s.picture_length;
  pixels = λ i below clean.
      item-painted_from size.w 0 area f canvas i None (rw s.canvas_length below)
      ∙ ap (λ j. painted_at size.w area f j (item canvas i None)) (zero_plus i)
      ∙ ap (painted_at size.w area f i) (s.pixels i below clean)
      ∙ ap (λ t. where_chosen t f (pos (i % size.w)) (pos (i / size.w)) (seen depth (item old i 0))) (same i)
      ∙ pixel_same depth (painted_area clip p (pos (i % size.w)) (pos (i / size.w))) p.formula f (pos (i % size.w)) (pos (i / size.w)) (item old i 0) (value i (item old i 0) below clean)
      ∙ ap (seen depth) (sym (item-picture_after size clip p old i 0 (rw s.picture_length below)));
}
