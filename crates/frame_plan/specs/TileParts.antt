-- The part of a tile that lies on a session's picture.
use Rattle.std.specs.Prelude.{ℕ, pos, List, length, IsTrue}
use Rattle.px_core.specs.declared.surface.Size.{Size}
use Rattle.px_core.specs.Rectangle.{boxed, cut_out, whole}
use Rattle.px_core.specs.Tiles.{tiles_of}
use Rattle.session_rules.specs.Journal.{state_after}
use Rattle.tile_surface.specs.Cells.{tile_sides}
use Rattle.session_core.specs.SessionModel.{SessionModel}

-- the first w pixels of each of the first h rows of a tile, whose colours go row by row from the top
abbrev pub part_of_tile : List ℕ → ℕ → ℕ → List ℕ
part_of_tile tile w h = cut_out tile_sides tile 0 (boxed (pos 0) (pos 0) w h)

-- a tile has a pixel on a picture
abbrev pub IsOnPicture : Size → ℕ → Type 0
IsOnPicture size tile = IsTrue (tiles_of size (whole size) tile)

-- the picture that a session's whole journal leaves
abbrev pub picture_by : SessionModel → List ℕ
picture_by s = (state_after s.head.size s.journal (length s.journal)).surface.picture
