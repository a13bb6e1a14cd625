-- Once the dirty tiles were sent, the client's picture is the session's.
use Rattle.std.proofs.Common.{◌≡◌, ℕ, zero, suc, ◌+◌, ◌*◌, ◌/◌, ◌%◌, ◌≤◌, ◌<◌, ◌≢◌, List, [], ◌∷◌, refl, ap, sym, ◌∙◌, arith, length, map, None, ◌⊎◌, inl, inr, filter, subst}
use Rattle.std.specs.Prelude.{Bool, true, false, ◌||◌, ◌==◌, Option, pos}
use Rattle.std.proofs.lemmas.Bool.Decides.{nat_tests}
use Rattle.px_core.specs.declared.depth.Depth.{Depth}
use Rattle.px_core.specs.declared.surface.Size.{Size}
use Rattle.px_core.specs.Depth.{seen}
use Rattle.px_core.specs.Picture.{pixel_count, item, listed}
use Rattle.px_core.specs.Rectangle.{whole, in_rect}
use Rattle.px_core.specs.Tiles.{Tiles, tile_number, tile_rect, tile_on, tiles_of, picture_tiles, tiles_in}
use Rattle.frame_rules.specs.Shown.{tile_of_place, ShowsOutside, canvas_after_cut, canvas_after_tiles}
use Rattle.frame_rules.proofs.TileLaws.{column_below, row_below, in_rect-common, in_rect-tile_rect, in_rect-whole, tiles_of-in_rect}
use Rattle.frame_rules.proofs.TileShown.{ShowsOutside-cut}

-- a tile of a list
abbrev pub is_among : List ℕ → Tiles
is_among [] t = false
is_among (x ∷ xs) t = (t == x) || is_among xs t

same_by_test : (a b : ℕ) → (a == b) ≡ true → a ≡ b
same_by_test a b h = grind (arith, nat_tests, h)

test_of_same : (a : ℕ) → (a == a) ≡ true
test_of_same a = grind (arith, nat_tests)

-- ---- the tiles of a picture

among_filter : (p : Tiles) (xs : List ℕ) (t : ℕ) → is_among xs t ≡ true → p t ≡ true → is_among (filter p xs) t ≡ true
among_filter p [] t h k = absurd (cc h)
among_filter p (x ∷ xs) t h k = by (t == x) (p x) refl refl
    (λ same. ap p (sym (same_by_test t x same)) ∙ k) (λ other. among_filter p xs t (ap (λ b. b || is_among xs t) (sym other) ∙ h) k)
  where
    by : (b q : Bool) → (t == x) ≡ b → p x ≡ q → ((t == x) ≡ true → p x ≡ true) → ((t == x) ≡ false → is_among (filter p xs) t ≡ true) → is_among (filter p (x ∷ xs)) t ≡ true
    by true true e f same rest = rw f (rw e refl)
    by true false e f same rest = absurd (cc (sym f ∙ same e))
    by false true e f same rest = rw f (rw e (rest e))
    by false false e f same rest = rw f (rest e)

among_listed : (n i t : ℕ) → i ≤ t → t < i + n → is_among (listed n i (λ k. k)) t ≡ true
among_listed zero i t h k = absurd (omega (arith, h, k))
among_listed (suc n) i t h k = by (t == i) refl (λ ne. among_listed n (i + 1) t (omega arith) (omega arith))
  where
    by : (b : Bool) → (t == i) ≡ b → (t ≢ i → is_among (listed n (i + 1) (λ k. k)) t ≡ true) → ((t == i) || is_among (listed n (i + 1) (λ k. k)) t) ≡ true
    by true e rest = ap (λ b. b || is_among (listed n (i + 1) (λ k. k)) t) e
    by false e rest = let ne : t ≢ i = grind (arith, nat_tests, e) in ap (λ b. b || is_among (listed n (i + 1) (λ k. k)) t) e ∙ rest ne

-- the tile of a pixel is one of the picture's
pub tile_is_there : (size : Size) (i : ℕ) → size.w ≤ 2048 → i < pixel_count size → is_among (picture_tiles size) (tile_of_place size i) ≡ true
tile_is_there size i w below =
    let x = i % size.w in
    let y = i / size.w in
    let hx = column_below size i below in
    let hy = row_below size i below in
    among_filter (tiles_of size (whole size)) (listed (32 * ((size.h + 63) / 64)) 0 (λ tile. tile)) (tile_number x y)
    (among_listed (32 * ((size.h + 63) / 64)) 0 (tile_number x y) (omega arith) (omega arith))
    (tiles_of-in_rect size (whole size) x y w hx hy (in_rect-whole size x y hx hy))

pub not_true : (b : Bool) → (b ≡ true → ⊥) → b ≡ false
not_true true h = absurd (h refl)
not_true false h = refl

-- what is shown outside dirty tiles is shown outside those of them that lie on the picture
ShowsOutside-on : (depth : Depth) (size : Size) (dirty : Tiles) (canvas : List (Option ℕ)) (picture : List ℕ) → size.w ≤ 2048 → ShowsOutside depth size dirty canvas picture → ShowsOutside depth size (is_among (tiles_in size dirty)) canvas picture
ShowsOutside-on depth size dirty canvas picture w s = record {
  canvas_length = s.canvas_length;
  picture_length = s.picture_length;
  pixels = λ i below clean. s.pixels i below (not_true (dirty (tile_of_place size i))
      (λ d. absurd (cc (sym clean ∙ among_filter dirty (picture_tiles size) (tile_of_place size i) (tile_is_there size i w below) d))));
}

-- ---- the tiles, one after the other

in_its_tile : (size : Size) (i : ℕ) → size.w ≤ 2048 → i < pixel_count size → in_rect (tile_on size (tile_of_place size i)) (pos (i % size.w)) (pos (i / size.w)) ≡ true
in_its_tile size i w below =
    let hx = column_below size i below in
    let hy = row_below size i below in
    in_rect-common (tile_rect (tile_of_place size i)) (whole size) (pos (i % size.w)) (pos (i / size.w)) (in_rect-tile_rect (i % size.w) (i / size.w) (omega arith)) (in_rect-whole size (i % size.w) (i / size.w) hx hy)

all_pixels : (depth : Depth) (xs : List (Option ℕ)) (ys : List ℕ) → length xs ≡ length ys → ((k : ℕ) → k < length xs → item xs k None ≡ seen depth (item ys k 0)) → xs ≡ map (seen depth) ys
all_pixels depth [] [] e h = refl
all_pixels depth [] (y ∷ ys) e h = absurd (omega (arith, e))
all_pixels depth (x ∷ xs) [] e h = absurd (omega (arith, e))
all_pixels depth (x ∷ xs) (y ∷ ys) e h = ap (λ p. p ∷ xs) (h 0 (omega arith)) ∙ ap (λ ps. seen depth y ∷ ps) (all_pixels depth xs ys (omega (arith, e)) (λ k b. h (suc k) (omega (arith, b))))

tiles_show : (depth : Depth) (size : Size) (picture : List ℕ) (ts : List ℕ) (canvas : List (Option ℕ)) → size.w ≤ 2048 → ShowsOutside depth size (is_among ts) canvas picture → canvas_after_tiles depth size picture ts canvas ≡ map (seen depth) picture
tiles_show depth size picture [] canvas w s =
    all_pixels depth canvas picture (s.canvas_length ∙ sym s.picture_length) (λ k b. s.pixels k (rw (← s.canvas_length) b) refl)
tiles_show depth size picture (t ∷ ts) canvas w s = tiles_show depth size picture ts (canvas_after_cut depth size picture (tile_on size t) canvas) w
    (ShowsOutside-cut depth size (tile_on size t) (is_among (t ∷ ts)) (is_among ts) canvas picture covered s)
  where
    covered : (i : ℕ) → i < pixel_count size → is_among ts (tile_of_place size i) ≡ false
        → (is_among (t ∷ ts) (tile_of_place size i) ≡ false) ⊎ (in_rect (tile_on size t) (pos (i % size.w)) (pos (i / size.w)) ≡ true)
    covered i below clean = by (tile_of_place size i == t) refl
      where
        by : (b : Bool) → (tile_of_place size i == t) ≡ b
            → (((tile_of_place size i == t) || is_among ts (tile_of_place size i)) ≡ false) ⊎ (in_rect (tile_on size t) (pos (i % size.w)) (pos (i / size.w)) ≡ true)
        by true e = inr (subst (λ tile. in_rect (tile_on size tile) (pos (i % size.w)) (pos (i / size.w)) ≡ true) (same_by_test (tile_of_place size i) t e) (in_its_tile size i w below))
        by false e = inl (ap (λ b. b || is_among ts (tile_of_place size i)) e ∙ clean)

-- once the dirty tiles that lie on the picture were sent
pub canvas_after_dirty_tiles : (depth : Depth) (size : Size) (dirty : Tiles) (canvas : List (Option ℕ)) (picture : List ℕ) → size.w ≤ 2048 → ShowsOutside depth size dirty canvas picture
    → canvas_after_tiles depth size picture (tiles_in size dirty) canvas ≡ map (seen depth) picture
canvas_after_dirty_tiles depth size dirty canvas picture w s = tiles_show depth size picture (tiles_in size dirty) canvas w (ShowsOutside-on depth size dirty canvas picture w s)
