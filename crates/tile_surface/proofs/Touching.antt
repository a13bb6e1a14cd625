-- What a shape paints on and what it needs, before and after its slot is filled.
use Rattle.px_core.specs.declared.surface.Size.{Size}
use Rattle.px_core.specs.declared.rectangle.Rect.{Rect}
use Rattle.std.specs.Prelude.{List, Option}
use Rattle.draw_ops.specs.declared.shape.Shape.{Shape}
use Rattle.draw_ops.specs.declared.shape.Shape.TheVariants.{Fill, Dst, Pat, Copy, Blit, Blit3, Text, Line, Save, Restore, LoadImage, LoadBrush, LoadGlyph}
use Rattle.draw_ops.specs.Drawing.{slots_after}
use Rattle.draw_ops.specs.Slots.{SurfaceState}
use Rattle.surface_parts.specs.Held.{held_in, IsPaintable}
use Rattle.tile_surface.specs.declared.cell.Cell.{Cell}
use Rattle.tile_surface.specs.Touched.{OwnsShape}

pub owns_filled : (size : Size) (st : SurfaceState) (cells : List Cell) (clip : Option Rect) (shape : Shape) → OwnsShape size (held_in st) cells clip shape → OwnsShape size (held_in (slots_after size st shape)) cells clip shape
owns_filled size st cells clip (Fill r color) owns = owns
owns_filled size st cells clip (Dst r code) owns = owns
owns_filled size st cells clip (Pat r code brush) owns = owns
owns_filled size st cells clip (Copy r code sx sy) owns = owns
owns_filled size st cells clip (Blit r code image sx sy) owns = owns
owns_filled size st cells clip (Blit3 r code image sx sy brush) owns = owns
owns_filled size st cells clip (Text x y color font run) owns = owns
owns_filled size st cells clip (Line x0 y0 x1 y1 color) owns = owns
owns_filled size st cells clip (Save slot r) owns = tt
owns_filled size st cells clip (Restore slot x y) owns = owns
owns_filled size st cells clip (LoadImage slot image) owns = tt
owns_filled size st cells clip (LoadBrush slot brush) owns = tt
owns_filled size st cells clip (LoadGlyph font code glyph) owns = tt

pub paintable_before : (size : Size) (st : SurfaceState) (clip : Option Rect) (shape : Shape) → IsPaintable size (held_in (slots_after size st shape)) clip shape → IsPaintable size (held_in st) clip shape
paintable_before size st clip (Fill r color) is = is
paintable_before size st clip (Dst r code) is = is
paintable_before size st clip (Pat r code brush) is = is
paintable_before size st clip (Copy r code sx sy) is = is
paintable_before size st clip (Blit r code image sx sy) is = is
paintable_before size st clip (Blit3 r code image sx sy brush) is = is
paintable_before size st clip (Text x y color font run) is = is
paintable_before size st clip (Line x0 y0 x1 y1 color) is = is
paintable_before size st clip (Save slot r) is = tt
paintable_before size st clip (Restore slot x y) is = is
paintable_before size st clip (LoadImage slot image) is = tt
paintable_before size st clip (LoadBrush slot brush) is = tt
paintable_before size st clip (LoadGlyph font code glyph) is = tt
