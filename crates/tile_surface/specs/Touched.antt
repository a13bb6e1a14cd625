-- Which tiles a drawing needs as the surface's own.
use Rattle.std.specs.Prelude.{List, Option, IfSome}
use Rattle.px_core.specs.declared.rectangle.Rect.{Rect}
use Rattle.px_core.specs.declared.surface.Size.{Size}
use Rattle.px_core.specs.Picture.{both}
use Rattle.px_core.specs.Rectangle.{boxed, in_clip, in_rect}
use Rattle.draw_ops.specs.declared.shape.Shape.{Shape}
use Rattle.draw_ops.specs.declared.shape.Shape.TheVariants.{Fill, Dst, Pat, Copy, Blit, Blit3, Text, Line, Save, Restore, LoadImage, LoadBrush, LoadGlyph}
use Rattle.draw_ops.specs.Formulas.{line_area}
use Rattle.draw_ops.specs.Slots.{lookup}
use Rattle.surface_parts.specs.Held.{Held}
use Rattle.surface_parts.specs.Texts.{glyphs_held}
use Rattle.tile_surface.specs.declared.cell.Cell.{Cell}
use Rattle.tile_surface.specs.Needed.{OwnsRun}
use Rattle.tile_surface.specs.Ownership.{OwnsArea}

-- each tile with a pixel of a rectangle, on the picture and within a clip, is the surface's own
abbrev pub OwnsRect : Size → List Cell → Option Rect → Rect → Type 0
OwnsRect size cells clip r = OwnsArea size cells (both (in_clip clip) (in_rect r))

-- each tile that a shape paints on, within a clip, is the surface's own
abbrev pub OwnsShape : Size → Held → List Cell → Option Rect → Shape → Type 0
OwnsShape size held cells clip (Fill r color) = OwnsRect size cells clip r
OwnsShape size held cells clip (Dst r code) = OwnsRect size cells clip r
OwnsShape size held cells clip (Pat r code brush) = OwnsRect size cells clip r
OwnsShape size held cells clip (Copy r code sx sy) = OwnsRect size cells clip r
OwnsShape size held cells clip (Blit r code image sx sy) = OwnsRect size cells clip r
OwnsShape size held cells clip (Blit3 r code image sx sy brush) = OwnsRect size cells clip r
OwnsShape size held cells clip (Text x y color font run) = OwnsRun size cells (in_clip clip) (glyphs_held held font) x y run
OwnsShape size held cells clip (Line x0 y0 x1 y1 color) = OwnsArea size cells (both (in_clip clip) (line_area x0 y0 x1 y1))
OwnsShape size held cells clip (Save slot r) = Unit {0}
OwnsShape size held cells clip (Restore slot x y) = IfSome (lookup slot held.blocks) (λ block. OwnsRect size cells clip (boxed x y block.w block.h))
OwnsShape size held cells clip (LoadImage slot image) = Unit {0}
OwnsShape size held cells clip (LoadBrush slot brush) = Unit {0}
OwnsShape size held cells clip (LoadGlyph font code glyph) = Unit {0}
