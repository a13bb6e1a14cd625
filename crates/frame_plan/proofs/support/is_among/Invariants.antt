use Rattle.std.proofs.Common.{◌≡◌, drop, map}
use Rattle.cache_plan.specs.CacheUse.{is_used}
use Rattle.frame_plan.proofs.support.is_among.Given as goal

-- none of the glyphs so far is of the load
abbrev pub invariant-loop-glyph : goal.invariant-loop-glyph
invariant-loop-glyph l = is_used l.number (map (λ g. g.number) (drop l.glyph-index l.glyphs)) ≡ is_used l.number (map (λ g. g.number) l.glyphs)
