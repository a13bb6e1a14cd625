-- Sets of tiles by their flags, and the tiles of a rectangle by the rows and the columns of tiles that it touches.
use Rattle.std.proofs.Common.{◌≡◌, ℕ, zero, suc, ◌+◌, ◌*◌, ◌/◌, ◌%◌, ◌≤◌, ◌<◌, ◌≢◌, List, [], ◌∷◌, length, refl, ap, sym, ◌∙◌, arith, ⊎_elim, cond, subst}
use Rattle.std.specs.Prelude.{Bool, true, false, ◌&&◌, ◌||◌, ◌==◌, nat_le, nat_lt, IsTrue, slice_set, replicate, filter, pos}
use Rattle.std.proofs.lemmas.Int.{ints}
use Rattle.std.proofs.lemmas.Bool.{and_from, and_parts, le-leb, lt-ltb, eq-eqb, leb-true, ltb-true, eqb-true, cases_eq}
use Rattle.px_core.specs.declared.surface.Size.{Size}
use Rattle.px_core.specs.declared.rectangle.Rect.{Rect}
use Rattle.px_core.specs.Picture.{listed}
use Rattle.px_core.specs.Rectangle.{within, whole}
use Rattle.px_core.specs.Tiles.{Tiles, no_tiles, either_tiles, tiles_of, any_shared, share_tile, HasPixelIn}
use Rattle.px_core.specs.TileFlags.{tiles, is_between, touches, row_tiles, box_tiles, IsShared, EndsBelow}
use Rattle.px_core.proofs.Stretches.{same_test, within-low}
use Rattle.px_core.proofs.TilePixels.{tile_has_pixel, pixel_has_tile, in_whole}

-- ---- flags

pub set_here : (flags : List Bool) (t : ℕ) → t < length flags → tiles (slice_set flags t true) t ≡ true
set_here [] t h = absurd (omega (arith, h))
set_here (b ∷ bs) zero h = refl
set_here (b ∷ bs) (suc t) h = set_here bs t (omega (arith, h))

pub set_there : (flags : List Bool) (t u : ℕ) → u ≢ t → tiles (slice_set flags t true) u ≡ tiles flags u
set_there [] t u h = refl
set_there (b ∷ bs) zero zero h = absurd (h refl)
set_there (b ∷ bs) zero (suc u) h = refl
set_there (b ∷ bs) (suc t) zero h = refl
set_there (b ∷ bs) (suc t) (suc u) h = set_there bs t u (λ e. h (ap suc e))

pub length-set : (flags : List Bool) (t : ℕ) (b : Bool) → length (slice_set flags t b) ≡ length flags
length-set [] t b = refl
length-set (x ∷ xs) zero b = refl
length-set (x ∷ xs) (suc t) b = ap suc (length-set xs t b)

pub none_in : (n : ℕ) → tiles (replicate n false) ≡ no_tiles
none_in n = λ i u. each n u i
  where
    each : (n u : ℕ) → tiles (replicate n false) u ≡ false
    each zero u = refl
    each (suc n) zero = refl
    each (suc n) (suc u) = each n u

-- a number past the last flag is no member
pub none_past : (flags : List Bool) (t : ℕ) → length flags ≤ t → tiles flags t ≡ false
none_past [] t h = refl
none_past (b ∷ bs) zero h = absurd (omega (arith, h))
none_past (b ∷ bs) (suc t) h = none_past bs t (omega (arith, h))

-- ---- adding

or_false : (a : Bool) → (a || false) ≡ a
or_false true = refl
or_false false = refl

or_true : (a : Bool) → (a || true) ≡ true
or_true true = refl
or_true false = refl

-- these flags are the old ones and those of some more tiles
abbrev pub IsAdded : List Bool → Tiles → List Bool → Type 0
IsAdded old more flags = (t : ℕ) → tiles flags t ≡ (tiles old t || more t)

pub none_added : (old : List Bool) (more : Tiles) → ((t : ℕ) → more t ≡ false) → IsAdded old more old
none_added old more none t = sym (ap (λ b. tiles old t || b) (none t) ∙ or_false (tiles old t))

pub added-set : (old flags : List Bool) (more : Tiles) → IsAdded old more flags → tiles flags ≡ either_tiles (tiles old) more
added-set old flags more h = λ i t. h t i

-- one more flag is set
pub one_added : (old flags : List Bool) (more after : Tiles) (u : ℕ) → u < length flags → after u ≡ true → ((t : ℕ) → t ≢ u → after t ≡ more t)
    → IsAdded old more flags → IsAdded old after (slice_set flags u true)
one_added old flags more after u inside is same h t = ⊎_elim (λ (e : t ≡ u). here e) (λ (n : t ≢ u). set_there flags u t n ∙ (h t ∙ ap (λ b. tiles old t || b) (sym (same t n)))) (cases_eq t u)
  where
    here : t ≡ u → tiles (slice_set flags u true) t ≡ (tiles old t || after t)
    here e = ap (tiles (slice_set flags u true)) e ∙ (set_here flags u inside ∙ sym (ap (λ b. tiles old t || b) (ap after e ∙ is) ∙ or_true (tiles old t)))

-- ---- rows and boxes of tiles

no_number : (from k : ℕ) → is_between from from k ≡ false
no_number from k = sym (same_test false (is_between from from k) (λ e. absurd (cc e))
    (λ e. let p = and_parts (nat_le from k) (nat_lt k from) e in let a = leb-true from k p.0 in let b = ltb-true k from p.1 in absurd (omega (arith, a, b))))

one_more : (from end k : ℕ) → k ≢ end → is_between from (end + 1) k ≡ is_between from end k
one_more from end k n = same_test (is_between from (end + 1) k) (is_between from end k)
    (λ e. let p = and_parts (nat_le from k) (nat_lt k (end + 1)) e in let a = leb-true from k p.0 in let b = ltb-true k (end + 1) p.1 in and_from _ _ p.0 (lt-ltb k end (omega (arith, b, n))))
    (λ e. let p = and_parts (nat_le from k) (nat_lt k end) e in let b = ltb-true k end p.1 in and_from _ _ p.0 (lt-ltb k (end + 1) (omega (arith, b))))

last_one : (from end : ℕ) → from ≤ end → is_between from (end + 1) end ≡ true
last_one from end h = and_from _ _ (le-leb from end h) (lt-ltb end (end + 1) (omega arith))

pub no_column : (row from t : ℕ) → row_tiles row from from t ≡ false
no_column row from t = ap (λ b. (t / 32 == row) && b) (no_number from (t % 32)) ∙ and_false (t / 32 == row)
  where
    and_false : (b : Bool) → (b && false) ≡ false
    and_false true = refl
    and_false false = refl

pub no_row : (top from end t : ℕ) → box_tiles top top from end t ≡ false
no_row top from end t = ap (λ b. b && is_between from end (t % 32)) (no_number top (t / 32))

-- one more column
pub column_here : (row from column : ℕ) → from ≤ column → column < 32 → row_tiles row from (column + 1) (32 * row + column) ≡ true
column_here row from column low high = and_from _ _ (eq-eqb ((32 * row + column) / 32) row (omega (arith, high)))
    (subst (λ (k : ℕ). is_between from (column + 1) k ≡ true) place (last_one from column low))
  where
    place : column ≡ (32 * row + column) % 32
    place = omega (arith, high)

pub column_there : (row from column t : ℕ) → t ≢ 32 * row + column → row_tiles row from (column + 1) t ≡ row_tiles row from column t
column_there row from column t n = by (t / 32 == row) refl
  where
    by : (b : Bool) → (t / 32 == row) ≡ b → (b && is_between from (column + 1) (t % 32)) ≡ (b && is_between from column (t % 32))
    by false e = refl
    by true e = one_more from column (t % 32) (λ k. let r = eqb-true (t / 32) row e in n (omega (arith, k, r)))

-- one more row
pub row_more : (top row from end t : ℕ) → top ≤ row → box_tiles top (row + 1) from end t ≡ (box_tiles top row from end t || row_tiles row from end t)
row_more top row from end t h = ⊎_elim (λ (e : t / 32 ≡ row). here e) (λ (n : t / 32 ≢ row). there n) (cases_eq (t / 32) row)
  where
    none_yet : is_between top row row ≡ false
    none_yet = sym (same_test false (is_between top row row) (λ e. absurd (cc e))
        (λ e. let p = and_parts (nat_le top row) (nat_lt row row) e in let b = ltb-true row row p.1 in absurd (omega (arith, b))))

    here : t / 32 ≡ row → box_tiles top (row + 1) from end t ≡ (box_tiles top row from end t || row_tiles row from end t)
    here e = ap (λ k. is_between top (row + 1) k && is_between from end (t % 32)) e ∙ (ap (λ b. b && is_between from end (t % 32)) (last_one top row h)
        ∙ sym (ap (λ k. (is_between top row k && is_between from end (t % 32)) || row_tiles row from end t) e
        ∙ (ap (λ b. (b && is_between from end (t % 32)) || row_tiles row from end t) none_yet ∙ ap (λ b. b && is_between from end (t % 32)) (eq-eqb (t / 32) row e))))

    other : t / 32 ≢ row → (t / 32 == row) ≡ false
    other n = sym (same_test false (t / 32 == row) (λ e. absurd (cc e)) (λ e. absurd (n (eqb-true (t / 32) row e))))

    there : t / 32 ≢ row → box_tiles top (row + 1) from end t ≡ (box_tiles top row from end t || row_tiles row from end t)
    there n = ap (λ b. b && is_between from end (t % 32)) (one_more top row (t / 32) n)
        ∙ sym (ap (λ b. (is_between top row (t / 32) && is_between from end (t % 32)) || (b && is_between from end (t % 32))) (other n) ∙ or_false (is_between top row (t / 32) && is_between from end (t % 32)))

pub row_added : (old flags new : List Bool) (top row from end : ℕ) → top ≤ row → tiles new ≡ either_tiles (tiles flags) (row_tiles row from end)
    → IsAdded old (box_tiles top row from end) flags → IsAdded old (box_tiles top (row + 1) from end) new
row_added old flags new top row from end h set is t =
    ap (λ f. f t) set ∙ (ap (λ b. b || row_tiles row from end t) (is t)
    ∙ (regrouped (tiles old t) (box_tiles top row from end t) (row_tiles row from end t) ∙ ap (λ b. tiles old t || b) (sym (row_more top row from end t h))))
  where
    regrouped : (a b c : Bool) → ((a || b) || c) ≡ (a || (b || c))
    regrouped true b c = refl
    regrouped false b c = refl

-- ---- the tiles of a rectangle

-- the rows (or columns) of tiles from one to before an end are those that a stretch touches
abbrev pub AreTouched : ℕ → ℕ → (ℕ → Bool) → Type 0
AreTouched from end test = (k : ℕ) → is_between from end k ≡ test k

pub box_is : (size : Size) (r : Rect) (top bottom from end : ℕ) → AreTouched top bottom (touches r.y r.h size.h) → AreTouched from end (touches r.x r.w size.w)
    → (t : ℕ) → box_tiles top bottom from end t ≡ tiles_of size r t
box_is size r top bottom from end rows columns t =
    ap (λ b. b && is_between from end (t % 32)) (rows (t / 32)) ∙ (ap (λ b. touches r.y r.h size.h (t / 32) && b) (columns (t % 32)) ∙ turned (touches r.y r.h size.h (t / 32)) (touches r.x r.w size.w (t % 32)))
  where
    turned : (a b : Bool) → (a && b) ≡ (b && a)
    turned true true = refl
    turned true false = refl
    turned false true = refl
    turned false false = refl

pub box_added : (size : Size) (r : Rect) (old flags : List Bool) (top bottom from end : ℕ) → AreTouched top bottom (touches r.y r.h size.h) → AreTouched from end (touches r.x r.w size.w)
    → IsAdded old (box_tiles top bottom from end) flags → tiles flags ≡ either_tiles (tiles old) (tiles_of size r)
box_added size r old flags top bottom from end rows columns is = added-set old flags (tiles_of size r)
    (λ t. is t ∙ ap (λ b. tiles old t || b) (box_is size r top bottom from end rows columns t))

-- no flag is set behind the rows of a box that was added, nor behind those that were set before
pub ends_behind : (old flags : List Bool) (top bottom from end before after : ℕ) → EndsBelow (tiles old) before → before ≤ after → 32 * bottom ≤ after
    → IsAdded old (box_tiles top bottom from end) flags → EndsBelow (tiles flags) after
ends_behind old flags top bottom from end before after none low high is tile far =
    is tile ∙ (ap (λ b. b || box_tiles top bottom from end tile) (none tile (omega (arith, low, far))) ∙ (ap (λ b. b && is_between from end (tile % 32)) below))
  where
    below : is_between top bottom (tile / 32) ≡ false
    below = sym (same_test false (is_between top bottom (tile / 32)) (λ e. absurd (cc e))
        (λ e. let p = and_parts (nat_le top (tile / 32)) (nat_lt (tile / 32) bottom) e in let b = ltb-true (tile / 32) bottom p.1 in absurd (omega (arith, b, high, far))))

-- ---- common tiles

any_shared_filter : (p a b : Tiles) (xs : List ℕ) → any_shared (filter p xs) a b ≡ any_shared xs (λ t. p t && a t) b
any_shared_filter p a b [] = refl
any_shared_filter p a b (x ∷ xs) = by (p x) ∙ ap (λ c. ((p x && a x) && b x) || c) (any_shared_filter p a b xs)
  where
    by : (q : Bool) → any_shared (cond q (x ∷ filter p xs) (filter p xs)) a b ≡ (((q && a x) && b x) || any_shared (filter p xs) a b)
    by true = refl
    by false = refl

shared_in : (n i : ℕ) (a b : Tiles) (t : ℕ) → i ≤ t → t < i + n → (a t && b t) ≡ true → any_shared (listed n i (λ tile. tile)) a b ≡ true
shared_in zero i a b t low high is = absurd (omega (arith, low, high))
shared_in (suc n) i a b t low high is = ⊎_elim
    (λ (e : t ≡ i). ap (λ k. (a k && b k) || any_shared (listed n (i + 1) (λ tile. tile)) a b) (sym e) ∙ ap (λ c. c || any_shared (listed n (i + 1) (λ tile. tile)) a b) is)
    (λ (d : t ≢ i). ap (λ c. (a i && b i) || c) (shared_in n (i + 1) a b t (omega (arith, low, d)) (omega (arith, high)) is) ∙ or_true (a i && b i))
    (cases_eq t i)

not_shared : (xs : List ℕ) (a b : Tiles) → ((t : ℕ) → (a t && b t) ≡ false) → any_shared xs a b ≡ false
not_shared [] a b none = refl
not_shared (x ∷ xs) a b none = ap (λ c. c || any_shared xs a b) (none x) ∙ not_shared xs a b none

-- a tile with a pixel of a rectangle on the picture is one of the picture's
on_picture : (size : Size) (r : Rect) (t : ℕ) → tiles_of size r t ≡ true → (tiles_of size (whole size) t ≡ true) × (t < 32 * ((size.h + 63) / 64))
on_picture size r t h = at (tile_has_pixel size r t h)
  where
    at : HasPixelIn size r t → (tiles_of size (whole size) t ≡ true) × (t < 32 * ((size.h + 63) / 64))
    at w =
        let x : ℕ = w.0 in
        let y : ℕ = w.1 in
        let above : y < size.h = w.3 in
        let p = and_parts (within (pos (64 * (t % 32))) 64 (pos x)) (within (pos (64 * (t / 32))) 64 (pos y)) w.4 in
        let yl = within-low (pos (64 * (t / 32))) 64 (pos y) p.1 in
        let low : 64 * (t / 32) ≤ y = omega (arith, ints, yl) in
        (pixel_has_tile size (whole size) t (x, y, w.2, w.3, w.4, in_whole size x y w.2 w.3), omega (arith, low, above))

-- the tiles of the rows before one have no member in common with a set
abbrev pub NoneShared : Tiles → Tiles → Type 0
NoneShared a b = (t : ℕ) → (a t && b t) ≡ false

pub shares : (size : Size) (r : Rect) (set : Tiles) (top bottom from end row : ℕ) → AreTouched top bottom (touches r.y r.h size.h) → AreTouched from end (touches r.x r.w size.w)
    → top ≤ row → row < bottom → IsShared true set (row_tiles row from end) → true ≡ share_tile size set (tiles_of size r)
shares size r set top bottom from end row rows columns low high found = at found.0 found.1
  where
    at : (t : ℕ) → IsTrue (set t && row_tiles row from end t) → true ≡ share_tile size set (tiles_of size r)
    at t is =
        let p = and_parts (set t) (row_tiles row from end t) is in
        let q = and_parts (t / 32 == row) (is_between from end (t % 32)) p.1 in
        let e = eqb-true (t / 32) row q.0 in
        let member : tiles_of size r t ≡ true = sym (box_is size r top bottom from end rows columns t)
        ∙ and_from _ _ (and_from _ _ (le-leb top (t / 32) (omega (arith, e, low))) (lt-ltb (t / 32) bottom (omega (arith, e, high)))) q.1 in
        let on = on_picture size r t member in
        sym (any_shared_filter (tiles_of size (whole size)) set (tiles_of size r) (listed (32 * ((size.h + 63) / 64)) 0 (λ tile. tile))
        ∙ shared_in (32 * ((size.h + 63) / 64)) 0 (λ k. tiles_of size (whole size) k && set k) (tiles_of size r) t (omega arith) (omega (arith, on.1))
        (and_from _ _ (and_from _ _ on.0 p.0) member))

pub shares_none : (size : Size) (r : Rect) (set : Tiles) (top bottom from end : ℕ) → AreTouched top bottom (touches r.y r.h size.h) → AreTouched from end (touches r.x r.w size.w)
    → NoneShared set (box_tiles top bottom from end) → false ≡ share_tile size set (tiles_of size r)
shares_none size r set top bottom from end rows columns none =
    sym (any_shared_filter (tiles_of size (whole size)) set (tiles_of size r) (listed (32 * ((size.h + 63) / 64)) 0 (λ tile. tile))
    ∙ not_shared (listed (32 * ((size.h + 63) / 64)) 0 (λ tile. tile)) (λ k. tiles_of size (whole size) k && set k) (tiles_of size r) each)
  where
    apart : (a b c : Bool) → (b && c) ≡ false → ((a && b) && c) ≡ false
    apart true b c h = h
    apart false b c h = refl

    each : (t : ℕ) → ((tiles_of size (whole size) t && set t) && tiles_of size r t) ≡ false
    each t = apart (tiles_of size (whole size) t) (set t) (tiles_of size r t) (ap (λ b. set t && b) (sym (box_is size r top bottom from end rows columns t)) ∙ none t)

both_apart : (a b c : Bool) → (a && b) ≡ false → (a && c) ≡ false → (a && (b || c)) ≡ false
both_apart true b c h k = ap (λ x. x || c) h ∙ k
both_apart false b c h k = refl

pub row_apart : (set : Tiles) (top row from end : ℕ) → top ≤ row → NoneShared set (box_tiles top row from end) → NoneShared set (row_tiles row from end)
    → NoneShared set (box_tiles top (row + 1) from end)
row_apart set top row from end h none more t =
    ap (λ b. set t && b) (row_more top row from end t h) ∙ both_apart (set t) (box_tiles top row from end t) (row_tiles row from end t) (none t) (more t)

nothing : (a b : Bool) → b ≡ false → (a && b) ≡ false
nothing true b h = h
nothing false b h = refl

pub no_row_apart : (set : Tiles) (top from end : ℕ) → NoneShared set (box_tiles top top from end)
no_row_apart set top from end t = nothing (set t) (box_tiles top top from end t) (no_row top from end t)

pub no_column_apart : (set : Tiles) (row from : ℕ) → NoneShared set (row_tiles row from from)
no_column_apart set row from t = nothing (set t) (row_tiles row from from t) (no_column row from t)

-- one more column, whose tile isn't in the set
pub column_apart : (set : Tiles) (row from column : ℕ) → set (32 * row + column) ≡ false → NoneShared set (row_tiles row from column) → NoneShared set (row_tiles row from (column + 1))
column_apart set row from column not_in none t = ⊎_elim (λ (e : t ≡ 32 * row + column). ap (λ b. b && row_tiles row from (column + 1) t) (ap set e ∙ not_in))
    (λ (n : t ≢ 32 * row + column). ap (λ b. set t && b) (column_there row from column t n) ∙ none t) (cases_eq t (32 * row + column))

-- a tile of a row that is in the set
pub column_shared : (set : Tiles) (row from column end : ℕ) → from ≤ column → column < end → column < 32 → set (32 * row + column) ≡ true → IsShared true set (row_tiles row from end)
column_shared set row from column end low high inside is = (
  32 * row + column,
  and_from _ _ is
      (and_from _ _ (eq-eqb ((32 * row + column) / 32) row (omega (arith, inside)))
      (and_from _ _ (le-leb from ((32 * row + column) % 32) (omega (arith, low, inside))) (lt-ltb ((32 * row + column) % 32) end (omega (arith, high, inside))))),
)
