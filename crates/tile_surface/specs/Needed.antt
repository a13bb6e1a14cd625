-- Which tiles a line or a text needs as the surface's own.
use Rattle.std.specs.Prelude.{ℕ, ℤ, pos, ◌+ℤ◌, false, IsTrue, List, [], ◌∷◌, Option, Some, None}
use Rattle.px_core.specs.declared.surface.Size.{Size}
use Rattle.px_core.specs.Picture.{Area, both}
use Rattle.px_core.specs.Rectangle.{in_rect}
use Rattle.draw_ops.specs.Content.{GlyphOf}
use Rattle.draw_ops.specs.Formulas.{glyph_cell}
use Rattle.surface_parts.specs.Parts.{in_part, part_at, Pixels}
use Rattle.tile_surface.specs.declared.cell.Cell.{Cell}
use Rattle.tile_surface.specs.Ownership.{IsOwnAt, OwnsArea}

-- the tile of each of some pixels is the surface's own
pub record OwnsPixels (cells : List Cell) (pixels : Pixels) : Type 0 where
  pub own : (x y : ℕ) → IsTrue (pixels x y) → IsOwnAt cells x y

-- the one pixel at a place that may be missing
abbrev pub is_place : Option (ℕ × ℕ) → Pixels
is_place None x y = false
is_place (Some place) x y = in_part (part_at place.0 place.1 1 1) x y

-- each tile with a pixel of a glyph's cell, on the picture and within a clip, is the surface's own; a font may lack the glyph
abbrev pub OwnsGlyph : Size → List Cell → Area → Option GlyphOf → ℤ → ℤ → Type 0
OwnsGlyph size cells clip None x y = Unit {0}
OwnsGlyph size cells clip (Some glyph) x y = OwnsArea size cells (both clip (in_rect (glyph_cell glyph x y)))

-- the same of a run's glyphs: the delta of each is added to x before it is drawn
abbrev pub OwnsRun : Size → List Cell → Area → (ℕ → Option GlyphOf) → ℤ → ℤ → List (ℕ × ℕ) → Type 0
OwnsRun size cells clip glyphs x y [] = Unit {0}
OwnsRun size cells clip glyphs x y (p ∷ run) = OwnsGlyph size cells clip (glyphs p.0) (x +ℤ pos p.1) y × OwnsRun size cells clip glyphs (x +ℤ pos p.1) y run
