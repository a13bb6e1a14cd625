-- Sets of tiles as code keeps them, a flag for each number, and the tiles of a stretch of rows and of columns.
use Rattle.std.specs.Prelude.{◌≡◌, ℕ, ◌*◌, ◌/◌, ◌%◌, ◌==◌, ◌≤◌, ◌<◌, nat_le, nat_lt, IsTrue, Bool, true, false, ◌&&◌, ℤ, pos, List, get_or, Option, Some, None}
use Rattle.std.specs.Int.{int_max}
use Rattle.px_core.specs.Rectangle.{common_length}
use Rattle.px_core.specs.Tiles.{Tiles}

-- the tiles whose flag is set; a number past the last flag is none
abbrev pub tiles : List Bool → Tiles
tiles flags tile = get_or flags tile false

-- the least member of a set that isn't below a number, and None exactly where there is none
abbrev pub IsNextTile : Tiles → ℕ → Option ℕ → Type 0
IsNextTile set from None = (tile : ℕ) → from ≤ tile → set tile ≡ false
IsNextTile set from (Some tile) = (from ≤ tile) × IsTrue (set tile) × ((lower : ℕ) → from ≤ lower → lower < tile → set lower ≡ false)

-- no tile of the set has this number or a greater one
abbrev pub EndsBelow : Tiles → ℕ → Type 0
EndsBelow set end = (tile : ℕ) → end ≤ tile → set tile ≡ false

-- whether a number is one of those from a first one to before an end
abbrev pub is_between : ℕ → ℕ → ℕ → Bool
is_between from end k = nat_le from k && nat_lt k end

-- whether row (or column) k of tiles has one of the n numbers from a first one on that are below a limit
abbrev pub touches : ℤ → ℕ → ℕ → ℕ → Bool
touches from n limit k = nat_le 1 (common_length (pos (64 * k)) 64 (int_max from (pos 0)) (common_length from n (pos 0) limit))

-- the tiles of one row, from a first column to before an end
abbrev pub row_tiles : ℕ → ℕ → ℕ → Tiles
row_tiles row from end tile = (tile / 32 == row) && is_between from end (tile % 32)

-- the tiles of some rows and some columns
abbrev pub box_tiles : ℕ → ℕ → ℕ → ℕ → Tiles
box_tiles top bottom from end tile = is_between top bottom (tile / 32) && is_between from end (tile % 32)

-- whether two sets have a common member, shown by one, or by there being none
abbrev pub IsShared : Bool → Tiles → Tiles → Type 0
IsShared true a b = (tile : ℕ) × IsTrue (a tile && b tile)
IsShared false a b = (tile : ℕ) → (a tile && b tile) ≡ false
