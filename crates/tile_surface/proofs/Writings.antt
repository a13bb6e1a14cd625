-- A piece of one tile that was written anew is a piece of the picture.
use Rattle.std.proofs.Common.{◌≡◌, ℕ, ◌+◌, ◌*◌, ◌/◌, ◌%◌, ◌-◌, ◌<◌, ◌≤◌, List, [], ◌∷◌, length, get_or, set, Bool, true, false, refl, sym, ap, subst, ◌∙◌, arith, inl, inr}
use Rattle.std.specs.Prelude.{◌&&◌, nat_le, nat_lt, if◌then◌else◌}
use Rattle.std.proofs.lemmas.List.{get_or-set_other, get_or_default}
use Rattle.std.proofs.lemmas.Grind.{get_or-set_at}
use Rattle.std.proofs.lemmas.Bool.{cases_eq, cases_Bool}
use Rattle.std.proofs.lemmas.Bool.Decides.{nat_tests}
use Rattle.px_core.specs.declared.surface.Size.{Size}
use Rattle.px_core.specs.Picture.{pixel_at}
use Rattle.px_core.specs.Tiles.{tile_number}
use Rattle.px_core.proofs.Stretches.{same_test}
use Rattle.surface_parts.specs.Parts.{in_part, part_at, IsRepainted}
use Rattle.surface_parts.proofs.Repaint.{added, none_painted, painted_twice, under_false, and_false, false_and}
use Rattle.tile_surface.specs.declared.cell.Cell.{Cell}
use Rattle.tile_surface.specs.declared.cell.Cell.TheVariants.{Blank}
use Rattle.tile_surface.specs.Cells.{cell_at, cell_pixels, picture_of, tile_pixel, tile_sides, IsTiled}
use Rattle.tile_surface.specs.Ownership.{is_past, IsOwn, KeepsRest}
use Rattle.tile_surface.proofs.Tiled.{tiled_length, tiled_pixel}
use Rattle.tile_surface.proofs.Owning.{keeps_twice, stays_but}

-- a stretch of numbers, seen from a number before it
shifted_test : (d a u n : ℕ) → (nat_le a u && nat_lt u (a + n)) ≡ (nat_le (d + a) (d + u) && nat_lt (d + u) (d + a + n))
shifted_test d a u n = same_test _ _ (λ h. grind (arith, nat_tests, h)) (λ h. grind (arith, nat_tests, h))

not_true : (b : Bool) → (b ≡ true → ⊥) → b ≡ false
not_true b never = elim (cases_Bool b) [
  | inl is ↦ absurd (never is)
  | inr is ↦ is
]

-- the n by h pixels of the picture from (x, y) on lie in one tile, which is written anew there
module _ (size : Size) (cells : List Cell) (cell : Cell) (x y n h : ℕ) (g : ℕ → ℕ → ℕ) (tiled : IsTiled size cells) (within : x + n ≤ size.w) (above : y < size.h) (below : y + h ≤ size.h) (narrow : x % 64 + n ≤ 64) (low : y % 64 + h ≤ 64)
    (painted : IsRepainted tile_sides (in_part (part_at (x % 64) (y % 64) n h)) g (cell_pixels (cell_at cells (tile_number x y))) (cell_pixels cell)) where
  -- the pixels of that tile
  same_place : (u v : ℕ) → u < 2048 → x < 2048 → tile_number u v ≡ tile_number x y → in_part (part_at (x % 64) (y % 64) n h) (u % 64) (v % 64) ≡ in_part (part_at x y n h) u v
  same_place u v wide left same =
      let column : u / 64 ≡ x / 64 = omega (arith, same, wide, left) in
      let row : v / 64 ≡ y / 64 = omega (arith, same, wide, left) in
      ap (λ b. b && (nat_le (y % 64) (v % 64) && nat_lt (v % 64) (y % 64 + h))) (by (x / 64) (x % 64) (u % 64) n x u (omega arith) (omega (arith, column)))
      ∙ ap (λ b. (nat_le x u && nat_lt u (x + n)) && b) (by (y / 64) (y % 64) (v % 64) h y v (omega arith) (omega (arith, row)))
    where
      by : (d a c m z w : ℕ) → z ≡ 64 * d + a → w ≡ 64 * d + c → (nat_le a c && nat_lt c (a + m)) ≡ (nat_le z w && nat_lt w (z + m))
      by d a c m z w ez ew = shifted_test (64 * d) a c m ∙ ap (λ k. nat_le k (64 * d + c) && nat_lt (64 * d + c) (k + m)) (sym ez) ∙ ap (λ k. nat_le z k && nat_lt k (z + m)) (sym ew)

  -- the pixels of other tiles
  other_place : (u v : ℕ) → (tile_number u v ≡ tile_number x y → ⊥) → in_part (part_at x y n h) u v ≡ false
  other_place u v other = not_true (in_part (part_at x y n h) u v) (λ is. other (there u v (first u v is) (second u v is) (third u v is) (fourth u v is)))
    where
      first : (u v : ℕ) → in_part (part_at x y n h) u v ≡ true → x ≤ u
      first u v is = grind (arith, nat_tests, is)

      second : (u v : ℕ) → in_part (part_at x y n h) u v ≡ true → u < x + n
      second u v is = grind (arith, nat_tests, is)

      third : (u v : ℕ) → in_part (part_at x y n h) u v ≡ true → y ≤ v
      third u v is = grind (arith, nat_tests, is)

      fourth : (u v : ℕ) → in_part (part_at x y n h) u v ≡ true → v < y + h
      fourth u v is = grind (arith, nat_tests, is)

      there : (u v : ℕ) → x ≤ u → u < x + n → y ≤ v → v < y + h → tile_number u v ≡ tile_number x y
      there u v left right top bottom = let column : u / 64 ≡ x / 64 = omega (arith, left, right, narrow) in let row : v / 64 ≡ y / 64 = omega (arith, top, bottom, low) in omega (arith, column, row)

  small_number : x < 2048 → tile_number x y < length cells
  small_number left = omega (arith, left, above, tiled.small.high, tiled.sized)

  -- each pixel of the tiles
  pub pixel_written : (u v : ℕ) → u < 2048 → x < 2048 → tile_pixel (set cells (tile_number x y) cell) u v ≡ (if in_part (part_at x y n h) u v then g (u % 64) (v % 64) else tile_pixel cells u v)
  pixel_written u v wide left = elim (cases_eq (tile_number u v) (tile_number x y)) [
    | inl same ↦
        ap (λ (c : Cell). pixel_at tile_sides (cell_pixels c) 0 (u % 64) (v % 64)) (get_or-set_at cells (tile_number x y) (tile_number u v) cell Blank same (small_number left))
        ∙ painted.pixel (u % 64) (v % 64) (omega arith) (omega arith)
        ∙ ap (λ b. if b then g (u % 64) (v % 64) else pixel_at tile_sides (cell_pixels (cell_at cells (tile_number x y))) 0 (u % 64) (v % 64)) (same_place u v wide left same)
        ∙ ap (λ k. if in_part (part_at x y n h) u v then g (u % 64) (v % 64) else pixel_at tile_sides (cell_pixels (cell_at cells k)) 0 (u % 64) (v % 64)) (sym same)
    | inr other ↦
        ap (λ (c : Cell). pixel_at tile_sides (cell_pixels c) 0 (u % 64) (v % 64)) (get_or-set_other cells (tile_number x y) (tile_number u v) cell Blank other)
        ∙ under_false (in_part (part_at x y n h) u v) (g (u % 64) (v % 64)) (tile_pixel cells u v) (other_place u v other)
  ]

  pub stretch_written : x < 2048 → IsRepainted size (in_part (part_at x y n h)) (λ u v. g (u % 64) (v % 64)) (picture_of size cells) (picture_of size (set cells (tile_number x y) cell))
  stretch_written left = record {
    sized = tiled_length size (set cells (tile_number x y) cell) ∙ sym (tiled_length size cells);
    pixel = λ u v wide high. tiled_pixel size (set cells (tile_number x y) cell) u v wide high ∙ pixel_written u v (omega (arith, wide, tiled.small.wide)) left
        ∙ ap (λ p. if in_part (part_at x y n h) u v then g (u % 64) (v % 64) else p) (sym (tiled_pixel size cells u v wide high));
  }

  pub rest_kept : x < 2048 → IsOwn cell → KeepsRest size cells (set cells (tile_number x y) cell)
  rest_kept left own = record {
    own = stays_but cells (tile_number x y) cell (λ was. own);
    past = λ u v wide high past. pixel_written u v wide left ∙ sym (under_false (in_part (part_at x y n h) u v) (g (u % 64) (v % 64)) (tile_pixel cells u v) (not_true (in_part (part_at x y n h) u v) (λ is. outside u v is past)));
  }
    where
      outside : (u v : ℕ) → in_part (part_at x y n h) u v ≡ true → is_past size u v ≡ true → ⊥
      outside u v is past = absurd (grind (arith, nat_tests, is, past, within, below))

-- one stretch beside another
beside : {A : Type 0} (r s t c : Bool) (g f o : A) → (r ≡ true → c ≡ true → g ≡ f) → (r ≡ true → t ≡ true) → (r ≡ false → s ≡ t)
    → (if r && c then g else (if s && c then f else o)) ≡ (if t && c then f else o)
beside false s t c g f o same there other = ap (λ b. if b && c then f else o) (other refl)
beside true s t true g f o same there other = same refl refl ∙ ap (λ b. if b && true then f else o) (sym (there refl))
beside true s t false g f o same there other = ap (λ b. if b then f else o) (and_false s false refl ∙ sym (and_false t false refl))

pub part_right_more : (size : Size) (x y k n h : ℕ) (f g : ℕ → ℕ → ℕ) (old cur new : List ℕ) → IsRepainted size (in_part (part_at x y k h)) f old cur → IsRepainted size (in_part (part_at (x + k) y n h)) g cur new
    → ((u v : ℕ) → u < size.w → v < size.h → x + k ≤ u → u < x + k + n → y ≤ v → v < y + h → g u v ≡ f u v) → IsRepainted size (in_part (part_at x y (k + n) h)) f old new
part_right_more size x y k n h f g old cur new first second same = painted_twice size _ _ _ f g f old cur new first second (λ u v left above.
    beside (nat_le (x + k) u && nat_lt u (x + k + n)) (nat_le x u && nat_lt u (x + k)) (nat_le x u && nat_lt u (x + (k + n))) (nat_le y v && nat_lt v (y + h)) (g u v) (f u v) (pixel_at size old 0 u v)
    (λ columns rows. let c = in_columns u columns in let r = in_rows v rows in same u v left above c.0 c.1 r.0 r.1)
    (λ columns. grind (arith, nat_tests, columns)) (λ columns. grind (arith, nat_tests, columns)))
  where
    in_columns : (u : ℕ) → (nat_le (x + k) u && nat_lt u (x + k + n)) ≡ true → (x + k ≤ u) × (u < x + k + n)
    in_columns u is = (grind (arith, nat_tests, is), grind (arith, nat_tests, is))

    in_rows : (v : ℕ) → (nat_le y v && nat_lt v (y + h)) ≡ true → (y ≤ v) × (v < y + h)
    in_rows v is = (grind (arith, nat_tests, is), grind (arith, nat_tests, is))

-- the same below
pub part_below_more : (size : Size) (x y n k h : ℕ) (f g : ℕ → ℕ → ℕ) (old cur new : List ℕ) → IsRepainted size (in_part (part_at x y n k)) f old cur → IsRepainted size (in_part (part_at x (y + k) n h)) g cur new
    → ((u v : ℕ) → u < size.w → v < size.h → x ≤ u → u < x + n → y + k ≤ v → v < y + k + h → g u v ≡ f u v) → IsRepainted size (in_part (part_at x y n (k + h))) f old new
part_below_more size x y n k h f g old cur new first second same = painted_twice size _ _ _ f g f old cur new first second (λ u v left above.
    added (nat_le x u && nat_lt u (x + n)) (nat_le (y + k) v && nat_lt v (y + k + h)) (nat_le y v && nat_lt v (y + k)) (nat_le y v && nat_lt v (y + (k + h))) (g u v) (f u v) (pixel_at size old 0 u v)
    (λ columns rows. let c = in_columns u columns in let r = in_rows v rows in same u v left above c.0 c.1 r.0 r.1)
    (λ rows. grind (arith, nat_tests, rows)) (λ rows. grind (arith, nat_tests, rows)))
  where
    in_columns : (u : ℕ) → (nat_le x u && nat_lt u (x + n)) ≡ true → (x ≤ u) × (u < x + n)
    in_columns u is = (grind (arith, nat_tests, is), grind (arith, nat_tests, is))

    in_rows : (v : ℕ) → (nat_le (y + k) v && nat_lt v (y + k + h)) ≡ true → (y + k ≤ v) × (v < y + k + h)
    in_rows v is = (grind (arith, nat_tests, is), grind (arith, nat_tests, is))

-- no columns yet
pub no_part : (size : Size) (x y h : ℕ) (f : ℕ → ℕ → ℕ) (ps : List ℕ) → IsRepainted size (in_part (part_at x y 0 h)) f ps ps
no_part size x y h f ps = none_painted size (in_part (part_at x y 0 h)) f ps (λ u v. false_and (nat_le x u && nat_lt u (x + 0)) (nat_le y v && nat_lt v (y + h)) (grind (arith, nat_tests)))

-- one more piece of a part that lies in one row of tiles: the tile of its pixels was read as a cell, which then was written
module _ (size : Size) (old cur : List Cell) (other cell : Cell) (x y done n h tile : ℕ) (g : ℕ → ℕ → ℕ)
    (tiled : IsTiled size cur) (within : x + done + n ≤ size.w) (left : x + done < size.w) (above : y < size.h) (below : y + h ≤ size.h) (narrow : (x + done) % 64 + n ≤ 64) (low : y % 64 + h ≤ 64) (is : tile ≡ tile_number (x + done) y)
    (painted : IsRepainted tile_sides (in_part (part_at ((x + done) % 64) (y % 64) n h)) g (cell_pixels (get_or cur tile other)) (cell_pixels cell)) where
  pub piece_there : get_or cur tile other ≡ cell_at cur (tile_number (x + done) y)
  piece_there = get_or_default cur tile other Blank (omega (arith, is, left, above, tiled.small.wide, tiled.small.high, tiled.sized)) ∙ ap (cell_at cur) is

  piece_anew : IsRepainted tile_sides (in_part (part_at ((x + done) % 64) (y % 64) n h)) g (cell_pixels (cell_at cur (tile_number (x + done) y))) (cell_pixels cell)
  piece_anew = subst (λ (c : Cell). IsRepainted tile_sides (in_part (part_at ((x + done) % 64) (y % 64) n h)) g (cell_pixels c) (cell_pixels cell)) piece_there painted

  piece_wide : x + done < 2048
  piece_wide = omega (arith, left, tiled.small.wide)

  pub more_painted : (f : ℕ → ℕ → ℕ) → IsRepainted size (in_part (part_at x y done h)) f (picture_of size old) (picture_of size cur)
      → ((u v : ℕ) → u < size.w → v < size.h → x + done ≤ u → u < x + done + n → y ≤ v → v < y + h → g (u % 64) (v % 64) ≡ f u v)
      → IsRepainted size (in_part (part_at x y (done + n) h)) f (picture_of size old) (picture_of size (set cur tile cell))
  more_painted f first same = subst (λ (t : ℕ). IsRepainted size (in_part (part_at x y (done + n) h)) f (picture_of size old) (picture_of size (set cur t cell))) (sym is)
      (part_right_more size x y done n h f (λ u v. g (u % 64) (v % 64)) (picture_of size old) (picture_of size cur) (picture_of size (set cur (tile_number (x + done) y) cell)) first
      (stretch_written size cur cell (x + done) y n h g tiled within above below narrow low piece_anew piece_wide) same)

  pub rest_of_more : IsOwn cell → KeepsRest size old cur → KeepsRest size old (set cur tile cell)
  rest_of_more own first = subst (λ (t : ℕ). KeepsRest size old (set cur t cell)) (sym is)
      (keeps_twice size old cur (set cur (tile_number (x + done) y) cell) first
      (rest_kept size cur cell (x + done) y n h g tiled within above below narrow low piece_anew piece_wide own))

-- no stretch yet
pub no_columns : (size : Size) (x y : ℕ) (f : ℕ → ℕ → ℕ) (ps : List ℕ) → IsRepainted size (in_part (part_at x y 0 1)) f ps ps
no_columns size x y f ps = no_part size x y 1 f ps

-- one more stretch of a row: the tile of its pixels was read as a cell, which then was written
module _ (size : Size) (old cur : List Cell) (other cell : Cell) (x y done n tile : ℕ) (row ys : List ℕ)
    (tiled : IsTiled size cur) (within : x + done + n ≤ size.w) (left : x + done < size.w) (above : y < size.h) (narrow : (x + done) % 64 + n ≤ 64) (is : tile ≡ tile_number (x + done) y)
    (long : length ys ≡ n) (same : (i : ℕ) → i < n → get_or ys i 0 ≡ get_or row (done + i) 0)
    (painted : IsRepainted tile_sides (in_part (part_at ((x + done) % 64) (y % 64) (length ys) 1)) (λ u v. get_or ys (u - (x + done) % 64) 0) (cell_pixels (get_or cur tile other)) (cell_pixels cell)) where
  anew : IsRepainted tile_sides (in_part (part_at ((x + done) % 64) (y % 64) n 1)) (λ u v. get_or ys (u - (x + done) % 64) 0) (cell_pixels (get_or cur tile other)) (cell_pixels cell)
  anew = subst (λ (k : ℕ). IsRepainted tile_sides (in_part (part_at ((x + done) % 64) (y % 64) k 1)) (λ u v. get_or ys (u - (x + done) % 64) 0) (cell_pixels (get_or cur tile other)) (cell_pixels cell)) long painted

  pub more_written : IsRepainted size (in_part (part_at x y done 1)) (λ u v. get_or row (u - x) 0) (picture_of size old) (picture_of size cur)
      → IsRepainted size (in_part (part_at x y (done + n) 1)) (λ u v. get_or row (u - x) 0) (picture_of size old) (picture_of size (set cur tile cell))
  more_written first = more_painted size old cur other cell x y done n 1 tile (λ u v. get_or ys (u - (x + done) % 64) 0) tiled within left above (omega (arith, above)) narrow (omega arith) is anew
      (λ u v. get_or row (u - x) 0) first (λ u v wide high low more top bottom. color u low more)
    where
      color : (u : ℕ) → x + done ≤ u → u < x + done + n → get_or ys (u % 64 - (x + done) % 64) 0 ≡ get_or row (u - x) 0
      color u low high =
          let near : u % 64 - (x + done) % 64 ≡ u - (x + done) = omega (arith, low, high, narrow) in
          let place : done + (u - (x + done)) ≡ u - x = omega (arith, low) in
          ap (λ k. get_or ys k 0) near ∙ same (u - (x + done)) (omega (arith, low, high)) ∙ ap (λ k. get_or row k 0) place

  pub more_kept : IsOwn cell → KeepsRest size old cur → KeepsRest size old (set cur tile cell)
  more_kept own first = rest_of_more size old cur other cell x y done n 1 tile (λ u v. get_or ys (u - (x + done) % 64) 0) tiled within left above (omega (arith, above)) narrow (omega arith) is anew own first

choice : {A : Type 0} (b : Bool) (f g o : A) → (b ≡ true → f ≡ g) → (if b then f else o) ≡ (if b then g else o)
choice true f g o same = same refl
choice false f g o same = refl

-- one pixel: its tile was read as a cell, which then was written
pub dot_written : (size : Size) (cells : List Cell) (other cell : Cell) (x y tile color : ℕ) → IsTiled size cells → x < size.w → y < size.h → tile ≡ tile_number x y
    → IsRepainted tile_sides (in_part (part_at (x % 64) (y % 64) 1 1)) (λ u v. get_or (color ∷ []) (u - x % 64) 0) (cell_pixels (get_or cells tile other)) (cell_pixels cell)
    → IsRepainted size (in_part (part_at x y 1 1)) (λ u v. color) (picture_of size cells) (picture_of size (set cells tile cell))
dot_written size cells other cell x y tile color tiled left above is painted =
    let wide : x < 2048 = omega (arith, left, tiled.small.wide) in
    let there : get_or cells tile other ≡ cell_at cells (tile_number x y)
    = get_or_default cells tile other Blank (omega (arith, is, left, above, tiled.small.wide, tiled.small.high, tiled.sized)) ∙ ap (cell_at cells) is in
    let dot = stretch_written size cells cell x y 1 1 (λ u v. get_or (color ∷ []) (u - x % 64) 0) tiled (omega (arith, left)) above (omega (arith, above)) (omega arith) (omega arith)
    (subst (λ (c : Cell). IsRepainted tile_sides (in_part (part_at (x % 64) (y % 64) 1 1)) (λ u v. get_or (color ∷ []) (u - x % 64) 0) (cell_pixels c) (cell_pixels cell)) there painted) wide in
    subst (λ (t : ℕ). IsRepainted size (in_part (part_at x y 1 1)) (λ u v. color) (picture_of size cells) (picture_of size (set cells t cell))) (sym is)
    (record {
      sized = dot.sized;
      pixel = λ u v column row. dot.pixel u v column row
          ∙ choice (in_part (part_at x y 1 1) u v) (get_or (color ∷ []) (u % 64 - x % 64) 0) color (pixel_at size (picture_of size cells) 0 u v) (λ here. ap (λ k. get_or (color ∷ []) k 0) (first u v here));
    })
  where
    first : (u v : ℕ) → in_part (part_at x y 1 1) u v ≡ true → u % 64 - x % 64 ≡ 0
    first u v here = let same : u ≡ x = grind (arith, nat_tests, here) in omega (arith, same)
