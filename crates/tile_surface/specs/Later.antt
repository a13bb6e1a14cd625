-- Which tiles drawings one after another need as the surface's own, whatever those before them load or save.
use Rattle.std.specs.Prelude.{◌≡◌, ℕ, ◌+◌, ◌≤◌, ◌&&◌, ℤ, negsuc, ◌+ℤ◌, int_le, List, [], ◌∷◌, length, Option, None}
use Rattle.px_core.specs.declared.rectangle.Rect.{Rect}
use Rattle.px_core.specs.declared.surface.Size.{Size}
use Rattle.px_core.specs.Picture.{Area, both}
use Rattle.px_core.specs.Rectangle.{boxed, in_clip}
use Rattle.draw_ops.specs.declared.shape.Drawing.{Drawing}
use Rattle.draw_ops.specs.declared.shape.Shape.{Shape}
use Rattle.draw_ops.specs.declared.shape.Shape.TheVariants.{Fill, Dst, Pat, Copy, Blit, Blit3, Text, Line, Save, Restore, LoadImage, LoadBrush, LoadGlyph}
use Rattle.draw_ops.specs.Fits.{clip_rule, line_rule}
use Rattle.draw_ops.specs.Formulas.{line_area}
use Rattle.surface_parts.specs.Held.{Held, IsDrawn, IsPaintable}
use Rattle.surface_parts.specs.Pens.{IsPenAtStart}
use Rattle.tile_surface.specs.declared.cell.Cell.{Cell}
use Rattle.tile_surface.specs.Ownership.{OwnsArea}
use Rattle.tile_surface.specs.Touched.{OwnsRect, OwnsShape}

-- how far a run moves the pen to the right in all, in pixels
abbrev pub moved_by : List (ℕ × ℕ) → ℕ
moved_by [] = 0
moved_by (p ∷ run) = p.1 + moved_by run

-- the rectangle in which a run lies whatever its font holds: the cell of a glyph begins at most 64 pixels from the pen both ways, and its sides
-- are at most 32 pixels
abbrev pub run_box : ℤ → ℤ → List (ℕ × ℕ) → Rect
run_box x y run = boxed (x +ℤ negsuc 63) (y +ℤ negsuc 63) (moved_by run + 160) 160

-- the pixels to the right of and below a corner
abbrev pub from_corner : ℤ → ℤ → Area
from_corner x y u v = int_le x u && int_le y v

-- each tile that a shape may paint on, within a clip, is the surface's own, whatever the slots hold
abbrev pub OwnsLater : Size → List Cell → Option Rect → Shape → Type 0
OwnsLater size cells clip (Fill r color) = OwnsRect size cells clip r
OwnsLater size cells clip (Dst r code) = OwnsRect size cells clip r
OwnsLater size cells clip (Pat r code brush) = OwnsRect size cells clip r
OwnsLater size cells clip (Copy r code sx sy) = OwnsRect size cells clip r
OwnsLater size cells clip (Blit r code image sx sy) = OwnsRect size cells clip r
OwnsLater size cells clip (Blit3 r code image sx sy brush) = OwnsRect size cells clip r
OwnsLater size cells clip (Text x y color font run) = OwnsRect size cells clip (run_box x y run)
OwnsLater size cells clip (Line x0 y0 x1 y1 color) = OwnsArea size cells (both (in_clip clip) (line_area x0 y0 x1 y1))
OwnsLater size cells clip (Save slot r) = Unit {0}
OwnsLater size cells clip (Restore slot x y) = OwnsArea size cells (both (in_clip clip) (from_corner x y))
OwnsLater size cells clip (LoadImage slot image) = Unit {0}
OwnsLater size cells clip (LoadBrush slot brush) = Unit {0}
OwnsLater size cells clip (LoadGlyph font code glyph) = Unit {0}

-- the same of each of some drawings
abbrev pub OwnsEach : Size → List Cell → List Drawing → Type 0
OwnsEach size cells [] = Unit {0}
OwnsEach size cells (d ∷ ds) = OwnsLater size cells d.clip d.shape × OwnsEach size cells ds

-- each tile that the first of some drawings paints on is the surface's own, and each that a further one may paint on
abbrev pub OwnsAll : Size → Held → List Cell → List Drawing → Type 0
OwnsAll size held cells [] = Unit {0}
OwnsAll size held cells (d ∷ ds) = OwnsShape size held cells d.clip d.shape × OwnsEach size cells ds

-- a shape and its clip lie where they may
abbrev pub IsPlacedShape : Size → Option Rect → Shape → Type 0
IsPlacedShape size clip (Fill r color) = IsDrawn size clip r
IsPlacedShape size clip (Dst r code) = IsDrawn size clip r
IsPlacedShape size clip (Pat r code brush) = IsDrawn size clip r
IsPlacedShape size clip (Copy r code sx sy) = IsDrawn size clip r
IsPlacedShape size clip (Blit r code image sx sy) = IsDrawn size clip r
IsPlacedShape size clip (Blit3 r code image sx sy brush) = IsDrawn size clip r
IsPlacedShape size clip (Text x y color font run) = (clip_rule size clip ≡ None) × IsPenAtStart x y × (length run ≤ 64)
IsPlacedShape size clip (Line x0 y0 x1 y1 color) = (clip_rule size clip ≡ None) × (line_rule x0 y0 x1 y1 ≡ None)
IsPlacedShape size clip (Save slot r) = Unit {0}
IsPlacedShape size clip (Restore slot x y) = (clip_rule size clip ≡ None) × IsPenAtStart x y
IsPlacedShape size clip (LoadImage slot image) = Unit {0}
IsPlacedShape size clip (LoadBrush slot brush) = Unit {0}
IsPlacedShape size clip (LoadGlyph font code glyph) = Unit {0}

-- the first of some drawings can be painted
abbrev pub IsFirstPaintable : Size → Held → List Drawing → Type 0
IsFirstPaintable size held [] = Unit {0}
IsFirstPaintable size held (d ∷ ds) = IsPaintable size held d.clip d.shape
