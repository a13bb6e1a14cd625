use Rattle.std.proofs.Common.{◌≡◌, drop}
use Rattle.draw_ops.specs.Fits.{empty_glyph}
use Rattle.surface_parts.proofs.slots.Slots.has_glyphs.Given as goal

-- what is missing ahead is what is missing at all
abbrev pub invariant-loop-pair : goal.invariant-loop-pair
invariant-loop-pair l = empty_glyph l.self.glyphs l.font (drop l.pair-index l.run) ≡ empty_glyph l.fn.self.glyphs l.font l.run
