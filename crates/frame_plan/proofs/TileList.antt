-- The tiles of a set on a picture, tile by tile.
use Rattle.std.proofs.Common.{◌≡◌, ℕ, zero, suc, ◌+◌, ◌-◌, ◌*◌, ◌/◌, ◌<◌, ◌≤◌, List, [], ◌∷◌, ◌++◌, refl, ap, sym, ◌∙◌, arith, append_assoc, append-nil}
use Rattle.std.specs.Prelude.{Bool, true, false, ◌&&◌, ◌||◌, filter, ℤ, pos, negsuc, ◌+ℤ◌, ◌-ℤ◌, int_le, nat_le, if◌then◌else◌}
use Rattle.std.specs.Int.{int_min, int_max}
use Rattle.std.proofs.lemmas.Bool.{and_parts, and_from}
use Rattle.std.proofs.lemmas.Int.{ints, clamps}
use Rattle.px_core.specs.declared.surface.Size.{Size}
use Rattle.px_core.specs.Picture.{listed, nat_of}
use Rattle.px_core.specs.Rectangle.{boxed, whole, common, common_length, has_pixel, is_inside}
use Rattle.px_core.specs.Tiles.{Tiles, all_tiles, tile_rect, tile_on, tiles_of, any_shared, share_tile, picture_tiles}
use Rattle.px_core.specs.TileFlags.{EndsBelow}
use Rattle.px_core.proofs.Stretches.{int_le_from}
use Rattle.px_core.proofs.Lengths.{nat_of_is}

-- the whole picture with itself
whole_length : (n : ℕ) → common_length (pos 0) n (pos 0) n ≡ n
whole_length n = sym (nat_of_is (int_min (pos 0 +ℤ pos n) (pos 0 +ℤ pos n) -ℤ int_max (pos 0) (pos 0)) n (omega (arith, ints, clamps)))

whole_common : (size : Size) → common (whole size) (whole size) ≡ whole size
whole_common size = ap (λ w. boxed (pos 0) (pos 0) w (common_length (pos 0) size.h (pos 0) size.h)) (whole_length size.w) ∙ ap (boxed (pos 0) (pos 0) size.w) (whole_length size.h)

-- a tile is one of a picture's where its part on it has a pixel
pub tile_there : (size : Size) (t : ℕ) → tiles_of size (whole size) t ≡ has_pixel (tile_on size t)
tile_there size t = ap (λ r. has_pixel (common (tile_rect t) r)) (whole_common size)

-- that part lies inside the picture
side_inside : (a : ℤ) (m n : ℕ) → nat_le 1 (common_length a m (pos 0) n) ≡ true → (int_le (pos 0) (int_max a (pos 0)) && int_le (int_max a (pos 0) +ℤ pos (common_length a m (pos 0) n)) (pos n)) ≡ true
side_inside a m n h =
    let z = int_min (a +ℤ pos m) (pos 0 +ℤ pos n) -ℤ int_max a (pos 0) in
    let is = positive z h in
    and_from _ _ (int_le_from (pos 0) (int_max a (pos 0)) (omega (arith, ints, clamps)))
    (int_le_from (int_max a (pos 0) +ℤ pos (nat_of z)) (pos n) (omega (arith, ints, clamps, is)))
  where
    positive : (z : ℤ) → nat_le 1 (nat_of z) ≡ true → pos (nat_of z) ≡ z
    positive (pos k) h = refl
    positive (negsuc k) h = absurd (cc h)

pub tile_inside : (size : Size) (t : ℕ) → has_pixel (tile_on size t) ≡ true → is_inside size (tile_on size t) ≡ true
tile_inside size t h =
    let r = tile_rect t in
    let s = and_parts (nat_le 1 (common_length r.x r.w (pos 0) size.w)) (nat_le 1 (common_length r.y r.h (pos 0) size.h)) h in
    and_from _ _ (side_inside r.x r.w size.w s.0) (side_inside r.y r.h size.h s.1)

-- ---- tiles from a number on

module _ (size : Size) (set : Tiles) where
  -- those of the tiles from a number on that are on the picture and in the set
  abbrev pub tiles_from : ℕ → ℕ → List ℕ
  tiles_from n k = filter set (filter (tiles_of size (whole size)) (listed n k (λ t. t)))

  turn : (on wanted : Bool) (k : ℕ) (ts : List ℕ) → tiles_of size (whole size) k ≡ on → set k ≡ wanted
      → filter set (if tiles_of size (whole size) k then k ∷ filter (tiles_of size (whole size)) ts else filter (tiles_of size (whole size)) ts)
      ≡ (if on && wanted then k ∷ filter set (filter (tiles_of size (whole size)) ts) else filter set (filter (tiles_of size (whole size)) ts))
  turn true true k ts e w = rw (e, w) refl
  turn true false k ts e w = rw (e, w) refl
  turn false wanted k ts e w = rw e refl

  next : (n k : ℕ) → k < n → n - k ≡ suc (n - (k + 1))
  next n k h = omega (arith, h)

  -- a tile that is taken
  pub one_taken : (n k : ℕ) (before all : List ℕ) → k < n → has_pixel (tile_on size k) ≡ true → set k ≡ true → before ++ tiles_from (n - k) k ≡ all
      → (before ++ k ∷ []) ++ tiles_from (n - (k + 1)) (k + 1) ≡ all
  one_taken n k before all h on wanted e =
      append_assoc before (k ∷ []) (tiles_from (n - (k + 1)) (k + 1))
      ∙ ap (λ xs. before ++ xs) (sym (ap (λ m. tiles_from m k) (next n k h) ∙ turn true true k (listed (n - (k + 1)) (k + 1) (λ t. t)) (tile_there size k ∙ on) wanted)) ∙ e

  -- one that isn't
  pub none_taken : (n k : ℕ) (before all : List ℕ) (on wanted : Bool) → k < n → has_pixel (tile_on size k) ≡ on → set k ≡ wanted → (on && wanted) ≡ false
      → before ++ tiles_from (n - k) k ≡ all → before ++ tiles_from (n - (k + 1)) (k + 1) ≡ all
  none_taken n k before all on wanted h is w neither e =
      ap (λ xs. before ++ xs) (sym (ap (λ m. tiles_from m k) (next n k h) ∙ turn on wanted k (listed (n - (k + 1)) (k + 1) (λ t. t)) (tile_there size k ∙ is) w
      ∙ ap (λ b. if b then k ∷ tiles_from (n - (k + 1)) (k + 1) else tiles_from (n - (k + 1)) (k + 1)) neither)) ∙ e

  and_false : (b : Bool) → (b && false) ≡ false
  and_false true = refl
  and_false false = refl

  -- none of the tiles is wanted
  none_wanted : (n k : ℕ) → ((t : ℕ) → k ≤ t → t < k + n → set t ≡ false) → tiles_from n k ≡ []
  none_wanted zero k h = refl
  none_wanted (suc n) k h =
      turn (tiles_of size (whole size) k) false k (listed n (k + 1) (λ t. t)) refl (h k (omega arith) (omega arith))
      ∙ ap (λ b. if b then k ∷ tiles_from n (k + 1) else tiles_from n (k + 1)) (and_false (tiles_of size (whole size) k))
      ∙ none_wanted n (k + 1) (λ t a b. h t (omega (arith, a)) (omega (arith, b)))

  -- tiles that aren't wanted needn't be looked at
  pub cut_at : (m n k : ℕ) → m ≤ n → ((t : ℕ) → k + m ≤ t → t < k + n → set t ≡ false) → tiles_from m k ≡ tiles_from n k
  cut_at zero n k le h = sym (none_wanted n k (λ t a b. h t (omega (arith, a)) b))
  cut_at (suc m) zero k le h = absurd (omega (arith, le))
  cut_at (suc m) (suc n) k le h =
      turn (tiles_of size (whole size) k) (set k) k (listed m (k + 1) (λ t. t)) refl refl
      ∙ ap (λ ts. if tiles_of size (whole size) k && set k then k ∷ ts else ts)
      (cut_at m n (k + 1) (omega (arith, le)) (λ t a b. h t (omega (arith, a)) (omega (arith, b))))
      ∙ sym (turn (tiles_of size (whole size) k) (set k) k (listed n (k + 1) (λ t. t)) refl refl)

  pub none_left : (n k : ℕ) (before all : List ℕ) → n ≤ k → before ++ tiles_from (n - k) k ≡ all → before ≡ all
  none_left n k before all h e =
      let none : n - k ≡ 0 = omega (arith, h) in
      sym (append-nil before) ∙ ap (λ m. before ++ tiles_from m k) (sym none) ∙ e

-- ---- a tile that is asked for

shared_on : (size : Size) (a : Tiles) (ts : List ℕ) → any_shared (filter (tiles_of size (whole size)) ts) a (tiles_of size (whole size))
    ≡ any_shared (filter (tiles_of size (whole size)) ts) a all_tiles
shared_on size a [] = refl
shared_on size a (t ∷ ts) = one (tiles_of size (whole size) t) refl (shared_on size a ts)
  where
    one : (b : Bool) → tiles_of size (whole size) t ≡ b
        → any_shared (filter (tiles_of size (whole size)) ts) a (tiles_of size (whole size)) ≡ any_shared (filter (tiles_of size (whole size)) ts) a all_tiles
        → any_shared (if tiles_of size (whole size) t then t ∷ filter (tiles_of size (whole size)) ts else filter (tiles_of size (whole size)) ts) a (tiles_of size (whole size))
        ≡ any_shared (if tiles_of size (whole size) t then t ∷ filter (tiles_of size (whole size)) ts else filter (tiles_of size (whole size)) ts) a all_tiles
    one true e rest = rw (e, e) (ap (λ b. (a t && true) || b) rest)
    one false e rest = rw e rest

pub asked_on : (size : Size) (a : Tiles) → share_tile size a (tiles_of size (whole size)) ≡ share_tile size a all_tiles
asked_on size a = shared_on size a (listed (32 * ((size.h + 63) / 64)) 0 (λ t. t))

-- where a set has no tile, none is asked for
none_in : (size : Size) (a : Tiles) (ts : List ℕ) → ((t : ℕ) → a t ≡ false) → any_shared ts a all_tiles ≡ false
none_in size a [] h = refl
none_in size a (t ∷ ts) h = rw (h t) (none_in size a ts h)

pub none_asked : (size : Size) (a : Tiles) (end : ℕ) → end ≤ 0 → EndsBelow a end → false ≡ share_tile size a all_tiles
none_asked size a end least ends = sym (none_in size a (picture_tiles size) (λ t. ends t (omega (arith, least))))
