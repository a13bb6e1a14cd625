-- The glyphs of a text.
use Rattle.std.specs.Prelude.{ℕ, Option}
use Rattle.draw_ops.specs.Content.{GlyphOf}
use Rattle.draw_ops.specs.Drawing.{content_of}
use Rattle.draw_ops.specs.Slots.{lookup, glyph_slot}
use Rattle.surface_parts.specs.Held.{Held}

-- the glyphs of a font by their codes
abbrev pub glyphs_held : Held → ℕ → ℕ → Option GlyphOf
glyphs_held held font code = content_of (lookup (glyph_slot font code) held.glyphs)
