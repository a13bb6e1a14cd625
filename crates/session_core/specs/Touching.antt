-- What drawings touch, and which slots of saved blocks they save into.
use Rattle.std.specs.Prelude.{ℕ, ◌==◌, Bool, false, ◌||◌, List, [], ◌∷◌}
use Rattle.px_core.specs.declared.surface.Size.{Size}
use Rattle.px_core.specs.Rectangle.{clipped}
use Rattle.px_core.specs.Tiles.{Tiles, no_tiles, either_tiles, tiles_of}
use Rattle.draw_ops.specs.declared.shape.Shape.{Shape}
use Rattle.draw_ops.specs.declared.shape.Shape.TheVariants.{Fill, Dst, Pat, Copy, Blit, Blit3, Text, Line, Save, Restore, LoadImage, LoadBrush, LoadGlyph}
use Rattle.session_rules.specs.Pending.{Pending}

-- the tiles with a pixel of the rectangle, the clip and the surface of one of the drawings
abbrev pub touched_by : Size → List Pending → Tiles
touched_by size [] = no_tiles
touched_by size (p ∷ ps) = either_tiles (tiles_of size (clipped p.rect p.drawing.clip)) (touched_by size ps)

abbrev pub saves_into : Shape → ℕ → Bool
saves_into (Save slot r) n = slot == n
saves_into (Fill r color) n = false
saves_into (Dst r code) n = false
saves_into (Pat r code brush) n = false
saves_into (Copy r code sx sy) n = false
saves_into (Blit r code image sx sy) n = false
saves_into (Blit3 r code image sx sy brush) n = false
saves_into (Text x y color font run) n = false
saves_into (Line x0 y0 x1 y1 color) n = false
saves_into (Restore slot x y) n = false
saves_into (LoadImage slot image) n = false
saves_into (LoadBrush slot brush) n = false
saves_into (LoadGlyph font code glyph) n = false

-- whether one of the drawings saves into a slot
abbrev pub saved_by : List Pending → ℕ → Bool
saved_by [] n = false
saved_by (p ∷ ps) n = saves_into p.drawing.shape n || saved_by ps n
