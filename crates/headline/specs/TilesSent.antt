-- The tiles of a frame, said of its list of orders.
use Rattle.std.specs.Prelude.{◌≡◌, ℕ, ◌<◌, nat_lt, List, [], ◌∷◌, length, ⊤, Bool, ◌⊎◌, if◌then◌else◌}
use Rattle.px_core.specs.declared.surface.Size.{Size}
use Rattle.px_core.specs.Tiles.{Tiles}
use Rattle.caps_sets.specs.declared.confirmed.Confirmed.{Confirmed}
use Rattle.frame_rules.specs.Blocks.{Held}
use Rattle.session_rules.specs.Pending.{Pending}
use Rattle.frame_rules.specs.Frame.{most_orders, first_dirty, jumped, walk_after}
use Rattle.frame_rules.specs.FrameOrders.{FrameOrder}
use Rattle.frame_rules.specs.FrameOrders.FrameOrder.{Ordered, Tile, Synchronize}

-- a rectangle of a bitmap update, before others
abbrev pub tile_before : FrameOrder → List FrameOrder → List FrameOrder
tile_before (Ordered o) os = os
tile_before (Tile r pixels) os = Tile r pixels ∷ os
tile_before Synchronize os = os

-- the rectangles of bitmap updates
abbrev pub tiles_among : List FrameOrder → List FrameOrder
tiles_among [] = []
tiles_among (o ∷ os) = tile_before o (tiles_among os)

-- a number of a list
abbrev pub IsOneOf : ℕ → List ℕ → Type 0
IsOneOf n [] = ⊥
IsOneOf n (x ∷ xs) = (n ≡ x) ⊎ IsOneOf n xs

abbrev pub IsAscending : List ℕ → Type 0
IsAscending [] = ⊤
IsAscending (x ∷ []) = ⊤
IsAscending (x ∷ y ∷ more) = (x < y) × IsAscending (y ∷ more)

-- the tiles that a frame over pending drawings leaves dirty: those that its walk leaves, or, of more than 256 drawings, that the jump over them leaves
abbrev pub dirty_tiles : Size → Confirmed → Bool → Held → List Pending → Tiles
dirty_tiles size c first held ps = if nat_lt most_orders (length ps)
    then (jumped size (record { dirty = first_dirty size first c; held = held }) ps).dirty
    else (walk_after size c (record { dirty = first_dirty size first c; held = held }) ps).dirty
