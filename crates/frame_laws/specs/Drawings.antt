-- The drawings of a journal as one list, and what holds of each at its place.
use Rattle.std.specs.Prelude.{◌≡◌, ℕ, ◌^◌, ◌<◌, ⊤, List, [], ◌∷◌, length, take, drop}
use Rattle.px_core.specs.declared.surface.Size.{Size}
use Rattle.draw_ops.specs.declared.shape.Drawing.{Drawing}
use Rattle.draw_ops.specs.declared.shape.Shape.{Shape}
use Rattle.draw_ops.specs.declared.shape.Shape.TheVariants.{Fill, Dst, Pat, Copy, Blit, Blit3, Text, Line, Save, Restore, LoadImage, LoadBrush, LoadGlyph}
use Rattle.draw_ops.specs.Slots.{SurfaceState}
use Rattle.draw_ops.specs.Drawing.{state_after_drawing}
use Rattle.draw_ops.specs.Fits.{FitsState}
use Rattle.session_rules.specs.declared.entry.Entry.{Entry}
use Rattle.session_rules.specs.Journal.{state_after}
use Rattle.frame_rules.specs.Describes.{drawings_from}
use Rattle.frame_laws.specs.Sound.{AreColors}
use Rattle.frame_laws.specs.SoundState.{IsSound}

-- the colours of a shape are colours, the code of its raster operation is a byte, and a brush has 64 pixels
abbrev pub HasValues : Shape → Type 0
HasValues (Fill r color) = color < 2 ^ 24
HasValues (Dst r code) = code < 256
HasValues (Pat r code brush) = code < 256
HasValues (Copy r code sx sy) = code < 256
HasValues (Blit r code image sx sy) = code < 256
HasValues (Blit3 r code image sx sy brush) = code < 256
HasValues (Text x y color font run) = color < 2 ^ 24
HasValues (Line x0 y0 x1 y1 color) = color < 2 ^ 24
HasValues (Save slot r) = ⊤
HasValues (Restore slot x y) = ⊤
HasValues (LoadImage slot image) = AreColors image.pixels
HasValues (LoadBrush slot brush) = (length brush ≡ 64) × AreColors brush
HasValues (LoadGlyph font code glyph) = ⊤

-- a drawing fits the state that it finds, and its numbers are those of its fields
pub record Suits (size : Size) (st : SurfaceState) (d : Drawing) : Type 0 where
  pub fits : FitsState size st d
  pub values : HasValues d.shape

-- so does each of some drawings, one after the other
abbrev pub AllSuit : Size → SurfaceState → List Drawing → Type 0
AllSuit size st [] = ⊤
AllSuit size st (d ∷ ds) = Suits size st d × AllSuit size (state_after_drawing size st d) ds

-- and each of them finds a sound state, as the last one leaves one
abbrev pub AllSound : Size → List Entry → SurfaceState → List Drawing → Type 0
AllSound size j st [] = IsSound size j st
AllSound size j st (d ∷ ds) = IsSound size j st × Suits size st d × AllSound size j (state_after_drawing size st d) ds

-- the drawings of a journal between two numbers of its entries
abbrev pub drawings_between : Size → List Entry → ℕ → ℕ → List Drawing
drawings_between size j before number = drawings_from size (state_after size j before).board (drop before (take number j))
