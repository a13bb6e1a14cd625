-- A set of tiles, tile by tile, and where tiles stand that drawings touch.
use Rattle.std.proofs.Common.{◌≡◌, ℕ, ◌+◌, ◌≤◌, ◌≢◌, List, [], ◌∷◌, refl, ap, sym, ◌∙◌, arith, ⊎_elim}
use Rattle.std.specs.Prelude.{Bool, true, false, ◌&&◌, ◌||◌, nat_lt}
use Rattle.std.proofs.lemmas.Bool.{lt-ltb, le-ltb, ltb-true, ltb-false, cases_eq}
use Rattle.px_core.specs.declared.surface.Size.{Size}
use Rattle.px_core.specs.declared.rectangle.Rect.{Rect}
use Rattle.px_core.specs.Rectangle.{clipped}
use Rattle.px_core.specs.Tiles.{Tiles, either_tiles, tile_rect, tiles_of, HasPixelIn}
use Rattle.px_core.proofs.Stretches.{same_test}
use Rattle.px_core.proofs.TilePixels.{tile_has_pixel, pixel_has_tile, tile_of_pixel}
use Rattle.session_rules.specs.Pending.{Pending}
use Rattle.session_core.specs.Touching.{touched_by}
use Rattle.session_core.specs.Marking.{marks_in, past}

-- ---- where tiles stand

-- a tile with a pixel on the picture has one of its own there
on_picture : (size : Size) (r : Rect) (t : ℕ) → tiles_of size r t ≡ true → tiles_of size (tile_rect t) t ≡ true
on_picture size r t h = at (tile_has_pixel size r t h)
  where
    at : HasPixelIn size r t → tiles_of size (tile_rect t) t ≡ true
    at w = pixel_has_tile size (tile_rect t) t (w.0, w.1, w.2, w.3, w.4, w.4)

-- a tile's pixels are those of no other
other_tile : (size : Size) (u t : ℕ) → t ≢ u → tiles_of size (tile_rect u) t ≡ false
other_tile size u t n = sym (same_test false (tiles_of size (tile_rect u) t) (λ e. absurd (cc e)) (λ e. absurd (at (tile_has_pixel size (tile_rect u) t e))))
  where
    at : HasPixelIn size (tile_rect u) t → ⊥
    at w = n (tile_of_pixel w.0 w.1 t w.4 ∙ sym (tile_of_pixel w.0 w.1 u w.5))

-- a tile that a drawing touches lies on the picture
touched_either : (size : Size) (r : Rect) (t : ℕ) (b rest : Bool) → tiles_of size r t ≡ b → (rest ≡ true → tiles_of size (tile_rect t) t ≡ true) → (b || rest) ≡ true → tiles_of size (tile_rect t) t ≡ true
touched_either size r t true rest e later g = on_picture size r t e
touched_either size r t false rest e later g = later g

pub touched_on : (size : Size) (ps : List Pending) (t : ℕ) → touched_by size ps t ≡ true → tiles_of size (tile_rect t) t ≡ true
touched_on size [] t h = absurd (cc h)
touched_on size (p ∷ ps) t h = touched_either size (clipped p.rect p.drawing.clip) t (tiles_of size (clipped p.rect p.drawing.clip) t) (touched_by size ps t) refl (λ g. touched_on size ps t g) h

-- ---- tile by tile

-- the old tiles, and those of a set below a number
abbrev pub IsAddedUpTo : Tiles → Tiles → ℕ → Tiles → Type 0
IsAddedUpTo old more end new = (t : ℕ) → new t ≡ (old t || (more t && nat_lt t end))

pub or_false : (a : Bool) → (a || false) ≡ a
or_false true = refl
or_false false = refl

pub and_false : (a : Bool) → (a && false) ≡ false
and_false true = refl
and_false false = refl

pub or_true : (a : Bool) → (a || true) ≡ true
or_true true = refl
or_true false = refl

pub below_more : (t end : ℕ) → t ≢ end → nat_lt t (end + 1) ≡ nat_lt t end
below_more t end n = same_test (nat_lt t (end + 1)) (nat_lt t end)
    (λ e. let b = ltb-true t (end + 1) e in lt-ltb t end (omega (arith, b, n))) (λ e. let b = ltb-true t end e in lt-ltb t (end + 1) (omega (arith, b)))

pub none_added : (old more : Tiles) → IsAddedUpTo old more 0 old
none_added old more t = sym (ap (λ b. old t || (more t && b)) (le-ltb t 0 (omega arith)) ∙ (ap (λ b. old t || b) (and_false (more t)) ∙ or_false (old t)))

-- one more tile that is a member, and is added
pub one_added : (size : Size) (old more set new : Tiles) (u : ℕ) → more u ≡ true → tiles_of size (tile_rect u) u ≡ true → new ≡ either_tiles set (tiles_of size (tile_rect u))
    → IsAddedUpTo old more u set → IsAddedUpTo old more (u + 1) new
one_added size old more set new u is on added h t = ap (λ f. f t) added ∙ ⊎_elim (λ (e : t ≡ u). here e) (λ (n : t ≢ u). there n) (cases_eq t u)
  where
    last : nat_lt u (u + 1) ≡ true
    last = lt-ltb u (u + 1) (omega arith)

    here : t ≡ u → (set t || tiles_of size (tile_rect u) t) ≡ (old t || (more t && nat_lt t (u + 1)))
    here e = ap (λ k. set t || tiles_of size (tile_rect u) k) e ∙ (ap (λ b. set t || b) on ∙ (or_true (set t)
        ∙ sym (ap (λ k. old t || (more k && nat_lt k (u + 1))) e ∙ (ap (λ b. old t || (b && nat_lt u (u + 1))) is ∙ (ap (λ b. old t || b) last ∙ or_true (old t))))))

    there : t ≢ u → (set t || tiles_of size (tile_rect u) t) ≡ (old t || (more t && nat_lt t (u + 1)))
    there n = ap (λ b. set t || b) (other_tile size u t n) ∙ (or_false (set t) ∙ (h t ∙ ap (λ b. old t || (more t && b)) (sym (below_more t u n))))

-- one more tile that is none
pub none_more : (old more set : Tiles) (u : ℕ) → more u ≡ false → IsAddedUpTo old more u set → IsAddedUpTo old more (u + 1) set
none_more old more set u is h t = h t ∙ ⊎_elim (λ (e : t ≡ u). here e) (λ (n : t ≢ u). ap (λ b. old t || (more t && b)) (sym (below_more t u n))) (cases_eq t u)
  where
    here : t ≡ u → (old t || (more t && nat_lt t u)) ≡ (old t || (more t && nat_lt t (u + 1)))
    here e = ap (λ k. old t || (more k && nat_lt k u)) e ∙ (ap (λ b. old t || (b && nat_lt u u)) is
        ∙ sym (ap (λ k. old t || (more k && nat_lt k (u + 1))) e ∙ ap (λ b. old t || (b && nat_lt u (u + 1))) is))

pub and_true : (a : Bool) → (a && true) ≡ a
and_true true = refl
and_true false = refl

-- all tiles of which there are marks
pub all_added : (old set : Tiles) (marks : List ℕ) (before end : ℕ) → ((t : ℕ) → end ≤ t → marks_in marks t ≡ 0) → IsAddedUpTo old (past before marks) end set
    → set ≡ either_tiles old (past before marks)
all_added old set marks before end none h = λ i t. each t i
  where
    by : (t : ℕ) (b : Bool) → nat_lt t end ≡ b → (old t || (past before marks t && b)) ≡ (old t || past before marks t)
    by t true e = ap (λ b. old t || b) (and_true (past before marks t))
    by t false e = ap (λ b. old t || b) (and_false (past before marks t) ∙ sym (ap (nat_lt before) (none t (ltb-false t end e)) ∙ le-ltb before 0 (omega arith)))

    each : (t : ℕ) → set t ≡ (old t || past before marks t)
    each t = h t ∙ by t (nat_lt t end) refl
