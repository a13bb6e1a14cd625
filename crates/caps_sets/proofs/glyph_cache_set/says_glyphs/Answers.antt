use Rattle.std.proofs.Common.{[], ◌∷◌, ◌∙◌}
use Rattle.caps_sets.specs.CapabilitySets.{says_glyphs}
use Rattle.caps_sets.proofs.glyph_cache_set.says_glyphs.Goals as goal

pub returns : goal.returns
unfolding says_glyphs
returns c =
    c.new.ensures
    ∙ (λ i. c.size_at.ensures i ∷ c.size_at-2.ensures i ∷ c.size_at-3.ensures i ∷ c.size_at-4.ensures i ∷ c.size_at-5.ensures i ∷ c.size_at-6.ensures i ∷ c.size_at-7.ensures i ∷ c.size_at-8.ensures i ∷ c.size_at-9.ensures i ∷ c.size_at-10.ensures i ∷ [])
