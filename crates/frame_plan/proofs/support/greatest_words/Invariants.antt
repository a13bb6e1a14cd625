use Rattle.std.proofs.Common.{◌≡◌, ◌*◌, drop, map, max}
use Rattle.std.specs.Prelude.{fold}
use Rattle.order_means.specs.KeptContent.{glyph_cell_bytes}
use Rattle.frame_rules.specs.Support.{greatest_cell}
use Rattle.frame_plan.proofs.support.greatest_words.Given as goal

-- with the glyphs that are left it comes to the greatest of all
abbrev pub invariant-loop-glyph : goal.invariant-loop-glyph
invariant-loop-glyph l = fold max (4 * l.most) (map (λ g. glyph_cell_bytes g.content) (drop l.glyph-index l.glyphs)) ≡ greatest_cell l.glyphs
