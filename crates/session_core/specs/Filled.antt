-- Which slot a drawing fills, and the last drawing that fills one.
use Rattle.std.specs.Prelude.{ℕ, suc, ◌==◌, Bool, false, List, [], ◌∷◌, Option, Some, None, if◌then◌else◌}
use Rattle.px_core.specs.declared.surface.Size.{Size}
use Rattle.draw_ops.specs.declared.shape.Drawing.{Drawing}
use Rattle.draw_ops.specs.declared.shape.Shape.{Shape}
use Rattle.draw_ops.specs.declared.shape.Shape.TheVariants as shape
use Rattle.draw_ops.specs.Content.{ImageOf, GlyphOf}
use Rattle.draw_ops.specs.Slots.{Loaded, glyph_slot}
use Rattle.session_core.specs.declared.filled.Slot.{Slot}
use Rattle.session_core.specs.declared.filled.Slot.TheVariants.{Image, Brush, Glyph, Block}

-- the slot that a shape loads or saves into
abbrev pub filled_by : Shape → Option Slot
filled_by (shape.Fill r color) = None
filled_by (shape.Dst r code) = None
filled_by (shape.Pat r code brush) = None
filled_by (shape.Copy r code sx sy) = None
filled_by (shape.Blit r code image sx sy) = None
filled_by (shape.Blit3 r code image sx sy brush) = None
filled_by (shape.Text x y color font run) = None
filled_by (shape.Line x0 y0 x1 y1 color) = None
filled_by (shape.Save slot r) = Some (Block slot)
filled_by (shape.Restore slot x y) = None
filled_by (shape.LoadImage slot image) = Some (Image slot)
filled_by (shape.LoadBrush slot brush) = Some (Brush slot)
filled_by (shape.LoadGlyph font code glyph) = Some (Glyph (glyph_slot font code))

abbrev pub is_same_slot : Slot → Slot → Bool
is_same_slot (Image a) (Image b) = a == b
is_same_slot (Image a) (Brush b) = false
is_same_slot (Image a) (Glyph b) = false
is_same_slot (Image a) (Block b) = false
is_same_slot (Brush a) (Image b) = false
is_same_slot (Brush a) (Brush b) = a == b
is_same_slot (Brush a) (Glyph b) = false
is_same_slot (Brush a) (Block b) = false
is_same_slot (Glyph a) (Image b) = false
is_same_slot (Glyph a) (Brush b) = false
is_same_slot (Glyph a) (Glyph b) = a == b
is_same_slot (Glyph a) (Block b) = false
is_same_slot (Block a) (Image b) = false
is_same_slot (Block a) (Brush b) = false
is_same_slot (Block a) (Glyph b) = false
is_same_slot (Block a) (Block b) = a == b

abbrev pub is_slot : Slot → Option Slot → Bool
is_slot wanted None = false
is_slot wanted (Some slot) = is_same_slot wanted slot

-- whether a shape fills a slot
abbrev pub fills : Slot → Shape → Bool
fills wanted s = is_slot wanted (filled_by s)

abbrev pub or_here : Option ℕ → Bool → Option ℕ
or_here None here = if here then Some 0 else None
or_here (Some i) here = Some (suc i)

-- the place of the last drawing that fills a slot
abbrev pub last_filling : Slot → List Drawing → Option ℕ
last_filling wanted [] = None
last_filling wanted (d ∷ ds) = or_here (last_filling wanted ds) (fills wanted d.shape)

-- what a shape loads as the n-th drawing
abbrev pub image_load : Shape → ℕ → Option (Loaded ImageOf)
image_load (shape.Fill r color) n = None
image_load (shape.Dst r code) n = None
image_load (shape.Pat r code brush) n = None
image_load (shape.Copy r code sx sy) n = None
image_load (shape.Blit r code image sx sy) n = None
image_load (shape.Blit3 r code image sx sy brush) n = None
image_load (shape.Text x y color font run) n = None
image_load (shape.Line x0 y0 x1 y1 color) n = None
image_load (shape.Save slot r) n = None
image_load (shape.Restore slot x y) n = None
image_load (shape.LoadImage slot image) n = Some (record { number = n; content = image })
image_load (shape.LoadBrush slot brush) n = None
image_load (shape.LoadGlyph font code glyph) n = None

-- likewise of brushes, and of glyphs
abbrev pub brush_load : Shape → ℕ → Option (Loaded (List ℕ))
brush_load (shape.Fill r color) n = None
brush_load (shape.Dst r code) n = None
brush_load (shape.Pat r code brush) n = None
brush_load (shape.Copy r code sx sy) n = None
brush_load (shape.Blit r code image sx sy) n = None
brush_load (shape.Blit3 r code image sx sy brush) n = None
brush_load (shape.Text x y color font run) n = None
brush_load (shape.Line x0 y0 x1 y1 color) n = None
brush_load (shape.Save slot r) n = None
brush_load (shape.Restore slot x y) n = None
brush_load (shape.LoadImage slot image) n = None
brush_load (shape.LoadBrush slot brush) n = Some (record { number = n; content = brush })
brush_load (shape.LoadGlyph font code glyph) n = None

abbrev pub glyph_load : Shape → ℕ → Option (Loaded GlyphOf)
glyph_load (shape.Fill r color) n = None
glyph_load (shape.Dst r code) n = None
glyph_load (shape.Pat r code brush) n = None
glyph_load (shape.Copy r code sx sy) n = None
glyph_load (shape.Blit r code image sx sy) n = None
glyph_load (shape.Blit3 r code image sx sy brush) n = None
glyph_load (shape.Text x y color font run) n = None
glyph_load (shape.Line x0 y0 x1 y1 color) n = None
glyph_load (shape.Save slot r) n = None
glyph_load (shape.Restore slot x y) n = None
glyph_load (shape.LoadImage slot image) n = None
glyph_load (shape.LoadBrush slot brush) n = None
glyph_load (shape.LoadGlyph font code glyph) n = Some (record { number = n; content = glyph })

-- the sides of the block that a shape saves
abbrev pub sides_saved : Shape → Option Size
sides_saved (shape.Fill r color) = None
sides_saved (shape.Dst r code) = None
sides_saved (shape.Pat r code brush) = None
sides_saved (shape.Copy r code sx sy) = None
sides_saved (shape.Blit r code image sx sy) = None
sides_saved (shape.Blit3 r code image sx sy brush) = None
sides_saved (shape.Text x y color font run) = None
sides_saved (shape.Line x0 y0 x1 y1 color) = None
sides_saved (shape.Save slot r) = Some (record { w = r.w; h = r.h })
sides_saved (shape.Restore slot x y) = None
sides_saved (shape.LoadImage slot image) = None
sides_saved (shape.LoadBrush slot brush) = None
sides_saved (shape.LoadGlyph font code glyph) = None

-- the sides of a block
abbrev pub sides_of : Option ImageOf → Option Size
sides_of None = None
sides_of (Some block) = Some (record { w = block.w; h = block.h })
