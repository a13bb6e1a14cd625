-- The rectangles of a frame are exactly the tiles to send, by ascending number.
use Rattle.std.proofs.Common.{◌≡◌, ℕ, zero, suc, ◌+◌, ◌*◌, ◌/◌, ◌≤◌, List, [], ◌∷◌, ◌++◌, length, map, refl, ap, sym, ◌∙◌, arith, filter, ◌⊎◌, inl, inr}
use Rattle.std.specs.Prelude.{Bool, true, false, cond, nat_lt, ⊤, if◌then◌else◌}
use Rattle.px_core.specs.declared.surface.Size.{Size}
use Rattle.px_core.specs.Picture.{listed}
use Rattle.px_core.specs.Rectangle.{whole}
use Rattle.px_core.specs.Tiles.{Tiles, either_tiles, tiles_of, picture_tiles, tiles_in}
use Rattle.caps_sets.specs.declared.confirmed.Confirmed.{Confirmed}
use Rattle.frame_rules.specs.Blocks.{Held}
use Rattle.session_rules.specs.Pending.{Pending}
use Rattle.frame_rules.specs.Frame.{Walk, FrameOf, most_orders, first_dirty, jumped, walk_after, framed_by, frame_over}
use Rattle.frame_rules.specs.FrameOrders.{SentOrder, FrameOrder, Uses, orders_before_tiles, tile_order, end_mark, frame_orders}
use Rattle.frame_rules.specs.FrameOrders.FrameOrder.{Ordered, Tile, Synchronize}
use Rattle.headline.specs.TilesSent.{tiles_among, IsOneOf, IsAscending, dirty_tiles}

-- ---- the rectangles of a frame

among_append : (xs ys : List FrameOrder) → tiles_among (xs ++ ys) ≡ tiles_among xs ++ tiles_among ys
among_append [] ys = refl
among_append (Ordered o ∷ xs) ys = among_append xs ys
among_append (Tile r pixels ∷ xs) ys = ap (λ (l : List FrameOrder). Tile r pixels ∷ l) (among_append xs ys)
among_append (Synchronize ∷ xs) ys = among_append xs ys

no_tile : (os : List SentOrder) → tiles_among (map Ordered os) ≡ []
no_tile [] = refl
no_tile (o ∷ os) = no_tile os

no_tile_at_end : (marker : Bool) (ts : List FrameOrder) → tiles_among (ts ++ end_mark marker ∷ []) ≡ tiles_among ts
no_tile_at_end marker [] = by marker
  where
    by : (b : Bool) → tiles_among (end_mark b ∷ []) ≡ []
    by true = refl
    by false = refl
no_tile_at_end marker (Ordered o ∷ ts) = no_tile_at_end marker ts
no_tile_at_end marker (Tile r pixels ∷ ts) = ap (λ (l : List FrameOrder). Tile r pixels ∷ l) (no_tile_at_end marker ts)
no_tile_at_end marker (Synchronize ∷ ts) = no_tile_at_end marker ts

all_tiles_are : (size : Size) (picture : List ℕ) (ts : List ℕ) → tiles_among (map (tile_order size picture) ts) ≡ map (tile_order size picture) ts
all_tiles_are size picture [] = refl
all_tiles_are size picture (t ∷ ts) = ap (λ (l : List FrameOrder). tile_order size picture t ∷ l) (all_tiles_are size picture ts)

pub rectangles_are : (size : Size) (c : Confirmed) (uses : Uses) (f : FrameOf)
    → tiles_among (frame_orders size c uses f) ≡ map (tile_order size f.picture) f.tiles
rectangles_are size c uses f =
    let before = orders_before_tiles size c uses f in
    let tiles = map (tile_order size f.picture) f.tiles in
    let rest : List FrameOrder = tiles ++ end_mark c.marker ∷ [] in
    among_append (map Ordered before) rest
    ∙ (ap (λ (l : List FrameOrder). l ++ tiles_among rest) (no_tile before) ∙ (no_tile_at_end c.marker tiles ∙ all_tiles_are size f.picture f.tiles))

-- ---- the tiles of a frame

pub tiles_of_frame : (size : Size) (c : Confirmed) (first : Bool) (held : Held) (asked : Tiles) (picture : List ℕ) (ps : List Pending)
    → (frame_over size c first held asked picture ps).tiles ≡ tiles_in size (either_tiles (dirty_tiles size c first held ps) asked)
tiles_of_frame size c first held asked picture ps = by (nat_lt most_orders (length ps))
  where
    w : Walk
    w = record { dirty = first_dirty size first c; held = held }

    by : (jump : Bool) → (framed_by jump size c first w asked picture ps).tiles
        ≡ tiles_in size (either_tiles (if jump then (jumped size w ps).dirty else (walk_after size c w ps).dirty) asked)
    by true = refl
    by false = refl

-- ---- the order of tiles

abbrev AscendsFrom : ℕ → List ℕ → Type 0
AscendsFrom low [] = ⊤
AscendsFrom low (x ∷ xs) = (low ≤ x) × AscendsFrom (x + 1) xs

lower : (xs : List ℕ) (low least : ℕ) → least ≤ low → AscendsFrom low xs → AscendsFrom least xs
lower [] low least under h = tt
lower (x ∷ xs) low least under h = let above = h.0 in (omega (arith, under, above), h.1)

filtered : (p : Tiles) (xs : List ℕ) (low : ℕ) → AscendsFrom low xs → AscendsFrom low (filter p xs)
filtered p [] low h = tt
filtered p (x ∷ xs) low h = by (p x) (filtered p xs (x + 1) h.1)
  where
    by : (b : Bool) → AscendsFrom (x + 1) (filter p xs) → AscendsFrom low (cond b (x ∷ filter p xs) (filter p xs))
    by true rest = (h.0, rest)
    by false rest = let above = h.0 in lower (filter p xs) (x + 1) low (omega (arith, above)) rest

listed_ascend : (n i : ℕ) → AscendsFrom i (listed n i (λ k. k))
listed_ascend zero i = tt
listed_ascend (suc n) i = (omega arith, listed_ascend n (i + 1))

are_ascending : (xs : List ℕ) (low : ℕ) → AscendsFrom low xs → IsAscending xs
are_ascending [] low h = tt
are_ascending (x ∷ []) low h = tt
are_ascending (x ∷ y ∷ more) low h = let above = h.1.0 in (omega (arith, above), are_ascending (y ∷ more) (x + 1) h.1)

pub tiles_ascend : (size : Size) (tiles : Tiles) → IsAscending (tiles_in size tiles)
tiles_ascend size tiles =
    let count = 32 * ((size.h + 63) / 64) in
    are_ascending (tiles_in size tiles) 0 (filtered tiles (picture_tiles size) 0
    (filtered (tiles_of size (whole size)) (listed count 0 (λ tile. tile)) 0 (listed_ascend count 0)))

-- ---- which tiles

kept_in : (p : Tiles) (xs : List ℕ) (t : ℕ) → IsOneOf t (filter p xs) → (p t ≡ true) × IsOneOf t xs
kept_in p [] t h = absurd h
kept_in p (x ∷ xs) t h = by (p x) refl h (λ k. kept_in p xs t k)
  where
    more : (IsOneOf t (filter p xs) → (p t ≡ true) × IsOneOf t xs) → IsOneOf t (filter p xs) → (p t ≡ true) × ((t ≡ x) ⊎ IsOneOf t xs)
    more rest k = let r = rest k in (r.0, inr r.1)

    by : (b : Bool) → p x ≡ b → IsOneOf t (cond b (x ∷ filter p xs) (filter p xs)) → (IsOneOf t (filter p xs) → (p t ≡ true) × IsOneOf t xs)
        → (p t ≡ true) × ((t ≡ x) ⊎ IsOneOf t xs)
    by true e (inl same) rest = (ap p same ∙ e, inl same)
    by true e (inr k) rest = more rest k
    by false e k rest = more rest k

kept_all : (p : Tiles) (xs : List ℕ) (t : ℕ) → p t ≡ true → IsOneOf t xs → IsOneOf t (filter p xs)
kept_all p [] t passes h = absurd h
kept_all p (x ∷ xs) t passes h = by (p x) refl h (λ k. kept_all p xs t passes k)
  where
    by : (b : Bool) → p x ≡ b → (t ≡ x) ⊎ IsOneOf t xs → (IsOneOf t xs → IsOneOf t (filter p xs)) → IsOneOf t (cond b (x ∷ filter p xs) (filter p xs))
    by true e (inl same) rest = inl same
    by true e (inr k) rest = inr (rest k)
    by false e (inl same) rest = absurd (cc (sym e ∙ (ap p (sym same) ∙ passes)))
    by false e (inr k) rest = rest k

pub only_these : (size : Size) (tiles : Tiles) (tile : ℕ) → IsOneOf tile (tiles_in size tiles) → (tiles tile ≡ true) × IsOneOf tile (picture_tiles size)
only_these size tiles tile h = kept_in tiles (picture_tiles size) tile h

pub all_these : (size : Size) (tiles : Tiles) (tile : ℕ) → tiles tile ≡ true → IsOneOf tile (picture_tiles size) → IsOneOf tile (tiles_in size tiles)
all_these size tiles tile passes h = kept_all tiles (picture_tiles size) tile passes h
