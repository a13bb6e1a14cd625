-- A tile's colours are what the picture has there, and black past the picture.
use Rattle.std.proofs.Common.{◌≡◌, ℕ, ◌+◌, ◌*◌, ◌/◌, ◌%◌, ◌<◌, ◌≤◌, List, [], length, get_or, replicate, refl, sym, ap, ◌∙◌, arith, inl, inr, true}
use Rattle.std.specs.Prelude.{pos, ◌+ℤ◌, Result, Ok, Err, IfOk}
use Rattle.std.proofs.lemmas.List.{get_or_past, get_or-replicate, length-replicate}
use Rattle.std.proofs.lemmas.Bool.{cases_lt}
use Rattle.std.proofs.lemmas.Bool.Decides.{nat_tests}
use Rattle.px_core.specs.declared.surface.Size.{Size}
use Rattle.px_core.specs.declared.rectangle.Rect.{Rect}
use Rattle.px_core.specs.Picture.{front, item, pixel_at, pixel_count, pixel_in, rows_of, skipped}
use Rattle.px_core.specs.Rectangle.{cut_out, is_session_size, pixel_of}
use Rattle.px_core.specs.Tiles.{tile_number, tile_rect, tiles_of}
use Rattle.px_core.proofs.Pictures.{item-get_or, item-listed, length-listed, length-row, length-rows_of, pixel-rows_of, row-rows_of, same_items, same_pixels}
use Rattle.px_core.proofs.TilePixels.{tile_has_pixel, tile_of_pixel}
use Rattle.surface_parts.specs.Parts.{IsSmall}
use Rattle.tile_surface.specs.declared.cell.Cell.{Cell}
use Rattle.tile_surface.specs.declared.cell.Cell.TheVariants.{Blank}
use Rattle.tile_surface.specs.Cells.{cell_at, cell_pixels, picture_of, tile_pixel, tile_sides}
use Rattle.tile_surface.specs.Ownership.{is_past, IsBlackPast}
use Rattle.tile_surface.proofs.Tiled.{blank_pixel, tiled_length, tiled_pixel}

-- ---- numbers of tiles

pub small_session : (size : Size) → is_session_size size.w size.h ≡ true → IsSmall size
small_session size session = record { wide = grind (arith, nat_tests, session); high = grind (arith, nat_tests, session) }

-- a tile with a pixel on a picture is one of the 1,024
pub tile_below : (size : Size) (r : Rect) (tile : ℕ) → IsSmall size → tiles_of size r tile ≡ true → tile < 1024
tile_below size r tile small has =
    let w = tile_has_pixel size r tile has in
    let x : ℕ = w.0 in
    let y : ℕ = w.1 in
    let is : tile ≡ tile_number x y = tile_of_pixel x y tile w.4 in
    below x y w.2 w.3 is
  where
    below : (x y : ℕ) → x < size.w → y < size.h → tile ≡ tile_number x y → tile < 1024
    below x y left above is = omega (arith, is, left, above, small.wide, small.high)

-- ---- past the picture

item_past : {A : Type 0} (xs : List A) (k : ℕ) (other : A) → length xs ≤ k → item xs k other ≡ other
item_past xs k other past = item-get_or xs k other ∙ get_or_past xs k other past

-- what is read past a picture's last row or last column
past_rows : (size : Size) (ps : List ℕ) (x y : ℕ) → size.h ≤ y → item (item (rows_of size.w size.h ps) y []) x 0 ≡ 0
past_rows size ps x y past = ap (λ (row : List ℕ). item row x 0) (item_past (rows_of size.w size.h ps) y [] (omega (arith, past, length-rows_of size.w size.h ps)))

past_columns : (size : Size) (ps : List ℕ) (x y : ℕ) → length ps ≡ pixel_count size → y < size.h → size.w ≤ x → item (item (rows_of size.w size.h ps) y []) x 0 ≡ 0
past_columns size ps x y whole above past = ap (λ (row : List ℕ). item row x 0) (row-rows_of size.w size.h ps y [] above)
    ∙ item_past (front size.w (skipped (size.w * y) ps)) x 0 (omega (arith, past, length-row size.w size.h ps y whole above))

-- ---- the colours of a tile

module _ (size : Size) (cells : List Cell) (black : IsBlackPast size cells) where
  -- what is read of the picture, past it too, is the tiles' pixel
  pub read_tiles : (x y : ℕ) → x < 2048 → y < 2048 → pixel_in (rows_of size.w size.h (picture_of size cells)) 0 (pos x) (pos y) ≡ tile_pixel cells x y
  read_tiles x y wide high = elim (cases_lt y size.h) [
    | inl above ↦ elim (cases_lt x size.w) [
      | inl left ↦ pixel-rows_of size.w size.h (picture_of size cells) x y 0 left above ∙ tiled_pixel size cells x y left above
      | inr past ↦ past_columns size (picture_of size cells) x y (tiled_length size cells) above past ∙ sym (black.black x y wide high (right x y past))
    ]
    | inr past ↦ past_rows size (picture_of size cells) x y past ∙ sym (black.black x y wide high (below x y past))
  ]
    where
      right : (x y : ℕ) → size.w ≤ x → is_past size x y ≡ true
      right x y past = grind (arith, nat_tests, past)

      below : (x y : ℕ) → size.h ≤ y → is_past size x y ≡ true
      below x y past = grind (arith, nat_tests, past)

  -- pixel k of tile 32 * row + column
  tile_item : (tile column row k : ℕ) (ps : List ℕ) → tile ≡ 32 * row + column → column < 32 → row < 32 → k < 4096 → ps ≡ cell_pixels (cell_at cells tile)
      → item ps k 0 ≡ pixel_in (rows_of size.w size.h (picture_of size cells)) 0 (pos (64 * column) +ℤ pos (k % 64)) (pos (64 * row) +ℤ pos (k / 64))
  tile_item tile column row k ps is left above below same =
      let x = 64 * column + k % 64 in
      let y = 64 * row + k / 64 in
      let number : tile ≡ tile_number (64 * column + k % 64) (64 * row + k / 64) = omega (arith, is, left, above, below) in
      let place : k ≡ 64 * ((64 * row + k / 64) % 64) + (64 * column + k % 64) % 64 = omega (arith, below) in
      ap (λ (qs : List ℕ). item qs k 0) same
      ∙ ap (λ t. item (cell_pixels (cell_at cells t)) k 0) number
      ∙ ap (λ i. item (cell_pixels (cell_at cells (tile_number (64 * column + k % 64) (64 * row + k / 64)))) i 0) place
      ∙ sym (read_tiles (64 * column + k % 64) (64 * row + k / 64) (omega (arith, left)) (omega (arith, above, below)))

  -- a rectangle of a tile's sides at a tile's place has the tile's colours
  place_is : (tile n column row : ℕ) (r : Rect) (ps : List ℕ) → tile ≡ 32 * row + column → column < 32 → row < 32 → n ≡ 4096 → r.w * r.h ≡ n → r.w ≡ 64 → r.x ≡ pos (64 * column) → r.y ≡ pos (64 * row)
      → ps ≡ cell_pixels (cell_at cells tile) → length ps ≡ n → ps ≡ cut_out size (picture_of size cells) 0 r
  place_is tile n column row r ps is left above full count wide ex ey same long =
      same_items 0 ps (cut_out size (picture_of size cells) 0 r) (long ∙ sym count ∙ sym (length-listed (r.w * r.h) 0 (pixel_of (rows_of size.w size.h (picture_of size cells)) 0 r))) (λ k lt.
      let there : 0 + k ≡ k = omega arith in
      tile_item tile column row k ps is left above (omega (arith, lt, long, full)) same
      ∙ ap (λ z. pixel_in (rows_of size.w size.h (picture_of size cells)) 0 (z +ℤ pos (k % 64)) (pos (64 * row) +ℤ pos (k / 64))) (sym ex)
      ∙ ap (λ z. pixel_in (rows_of size.w size.h (picture_of size cells)) 0 (r.x +ℤ pos (k % 64)) (z +ℤ pos (k / 64))) (sym ey)
      ∙ ap (λ w. pixel_in (rows_of size.w size.h (picture_of size cells)) 0 (r.x +ℤ pos (k % w)) (r.y +ℤ pos (k / w))) (sym wide)
      ∙ ap (pixel_of (rows_of size.w size.h (picture_of size cells)) 0 r) (sym there)
      ∙ sym (item-listed (r.w * r.h) 0 (pixel_of (rows_of size.w size.h (picture_of size cells)) 0 r) k 0 (omega (arith, lt, long, count))))

  pub tile_is : (tile n : ℕ) (ps : List ℕ) → tile < 1024 → n ≡ 4096 → (tile_rect tile).w * (tile_rect tile).h ≡ n → ps ≡ cell_pixels (cell_at cells tile) → length ps ≡ n → ps ≡ cut_out size (picture_of size cells) 0 (tile_rect tile)
  tile_is tile n ps below full count same long = place_is tile n (tile % 32) (tile / 32) (tile_rect tile) ps (omega arith) (omega arith) (omega (arith, below)) full count refl refl refl same long

-- ---- blank tiles

same_everywhere : {A : Type 0} (n k : ℕ) (x : A) → get_or (replicate n x) k x ≡ x
same_everywhere n k x = elim (cases_lt k n) [
  | inl below ↦ get_or-replicate n k x x below
  | inr past ↦ get_or_past (replicate n x) k x (omega (arith, past, length-replicate n x))
]

pub blank_tiles : (cells : List Cell) (n x y : ℕ) → cells ≡ replicate n Blank → tile_pixel cells x y ≡ 0
blank_tiles cells n x y is = ap (λ (c : Cell). pixel_at tile_sides (cell_pixels c) 0 (x % 64) (y % 64)) (ap (λ (cs : List Cell). get_or cs (tile_number x y) Blank) is ∙ same_everywhere n (tile_number x y) Blank) ∙ blank_pixel (x % 64) (y % 64)

black_picture_item : (n k : ℕ) → item {A = ℕ} (replicate n 0) k 0 ≡ 0
black_picture_item n k = item-get_or (replicate n 0) k 0 ∙ same_everywhere {A = ℕ} n k 0

pub blank_picture : (size : Size) (cells : List Cell) (n : ℕ) → cells ≡ replicate n Blank → picture_of size cells ≡ replicate (pixel_count size) 0
blank_picture size cells n is = same_pixels size (picture_of size cells) (replicate (pixel_count size) 0) 0 (tiled_length size cells) (length-replicate (pixel_count size) 0)
    (λ x y left above. tiled_pixel size cells x y left above ∙ blank_tiles cells n x y is ∙ sym (black_picture_item (pixel_count size) (size.w * y + x)))

pub blank_is_black : (size : Size) (cells : List Cell) (n : ℕ) → cells ≡ replicate n Blank → IsBlackPast size cells
blank_is_black size cells n is = record { black = λ x y wide high past. blank_tiles cells n x y is }

-- ---- answers

-- two facts of a value that there may be
pub if_ok_both : {X Y : Type 0} (r : Result X Y) (P Q R : X → Type 0) → ((x : X) → P x → Q x → R x) → IfOk r P → IfOk r Q → IfOk r R
if_ok_both (Ok x) P Q R both p q = both x p q
if_ok_both (Err e) P Q R both p q = tt
