-- What is kept of a viewer between its takes, and what a take holds.
use Rattle.std.specs.Prelude.{ℕ, Bool, List, [], map}
use Rattle.px_core.specs.declared.surface.Size.{Size}
use Rattle.px_core.specs.Rectangle.{cut_out}
use Rattle.px_core.specs.Tiles.{tile_on}
use Rattle.caps_sets.specs.declared.confirmed.Confirmed.{Confirmed}
use Rattle.save_plan.specs.Blocks.{Held}
use Rattle.frame_rules.specs.Frame.{Sent, FrameOf}
use Rattle.frame_plan.specs.declared.cached.Cached.{Cached}

-- a viewer and what it confirmed; the number of its last frame, the blocks that it holds, and how many frames it was given
pub record DeskModel : Type 0 where
  pub v : ℕ
  pub confirmed : Confirmed
  pub number : ℕ
  pub held : Held
  pub taken : ℕ

-- before the first frame: no entry was seen, and no block is held
abbrev pub first_desk : ℕ → Confirmed → DeskModel
first_desk v c = record { v = v; confirmed = c; number = 0; held = []; taken = 0 }

-- a frame apart from its session: whether it is the viewer's first, the drawings that go as orders, the tiles that go as bitmaps with their pixels, and the
-- blocks held after it
pub record TakenFrame : Type 0 where
  pub first : Bool
  pub sent : List Sent
  pub tiles : List (ℕ × List ℕ)
  pub held : Held

-- a tile, and its pixels on a picture
abbrev pub tile_taken : Size → List ℕ → ℕ → ℕ × List ℕ
tile_taken size picture tile = (tile, cut_out size picture 0 (tile_on size tile))

abbrev pub taken_as : Size → FrameOf → TakenFrame
taken_as size f = record { first = f.first; sent = f.sent; tiles = map (tile_taken size f.picture) f.tiles; held = f.held }

-- a take: the session's size, how many frames the viewer was given before, the numbers before and after, the blocks held before, the frame, and what its
-- orders take from the viewer's caches
pub record TakeModel : Type 0 where
  pub size : Size
  pub serial : ℕ
  pub before : ℕ
  pub number : ℕ
  pub held_before : Held
  pub frame : TakenFrame
  pub cached : List Cached
