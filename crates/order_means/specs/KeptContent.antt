-- Images and glyphs as a client keeps them, and how many bytes they count for in its caches.
use Rattle.std.specs.Prelude.{ℕ, ◌-◌, ◌*◌, ◌++◌, length, map, replicate}
use Rattle.px_core.specs.declared.depth.Depth.{Depth}
use Rattle.px_core.specs.Picture.{joined}
use Rattle.draw_ops.specs.Content.{ImageOf, GlyphOf}
use Rattle.draw_ops.specs.Depths.{shown_image}
use Rattle.draw_ops.specs.Formulas.{image_rows}
use Rattle.run_lengths.specs.WirePixels.{padded, padded_row}

-- an image with the columns that are added
abbrev pub padded_image : ImageOf → ImageOf
padded_image image = record { w = padded image.w; h = image.h; pixels = joined (map (padded_row image.w) (image_rows image)) }

-- an image as a client of this depth keeps it: with the columns that are added, as it is shown
abbrev pub kept_image : Depth → ImageOf → ImageOf
kept_image depth image = shown_image depth (padded_image image)

-- a glyph with bits that are padded to a multiple of four bytes, as a client keeps it
abbrev pub padded_glyph : GlyphOf → GlyphOf
padded_glyph glyph = record glyph { bits = glyph.bits ++ replicate (padded (length glyph.bits) - length glyph.bits) 0 }

-- the bytes that a padded image counts for where a cache is chosen: three a pixel at every depth, so that it fits the cell of each client
abbrev pub image_cell : ImageOf → ℕ
image_cell image = 3 * (padded image.w * image.h)

-- the bytes that a glyph takes in a cache: its padded bits
abbrev pub glyph_cell_bytes : GlyphOf → ℕ
glyph_cell_bytes glyph = padded (length glyph.bits)
