-- A run of glyphs: the glyphs of its codes, their keys, and a cache that serves them.
use Rattle.std.specs.Prelude.{◌≡◌, ℕ, ◌<◌, ⊤, List, [], ◌∷◌, map, Some}
use Rattle.px_core.specs.declared.surface.Size.{Size}
use Rattle.draw_ops.specs.Content.{GlyphOf}
use Rattle.draw_ops.specs.Slots.{SurfaceState, Loaded, lookup, glyph_slot}
use Rattle.caps_sets.specs.declared.confirmed.Confirmed.{Confirmed}
use Rattle.session_rules.specs.declared.entry.Entry.{Entry}
use Rattle.frame_laws.specs.Uses.{IsGlyphServed}

-- each code's glyph is the one of the run
abbrev pub AreGlyphs : SurfaceState → ℕ → List (ℕ × ℕ) → List (Loaded GlyphOf) → Type 0
AreGlyphs st font [] [] = ⊤
AreGlyphs st font [] (g ∷ gs) = ⊥
AreGlyphs st font (p ∷ ps) [] = ⊥
AreGlyphs st font (p ∷ ps) (g ∷ gs) = (lookup (glyph_slot font p.0) st.glyphs ≡ Some g) × AreGlyphs st font ps gs

-- each delta is below 128
abbrev pub AreDeltas : List (ℕ × ℕ) → Type 0
AreDeltas [] = ⊤
AreDeltas (p ∷ ps) = (p.1 < 128) × AreDeltas ps

-- each glyph was brought by its load, and the cache serves it
abbrev pub AreServed : Size → Confirmed → List Entry → ℕ → List (Loaded GlyphOf) → Type 0
AreServed size c j cache [] = ⊤
AreServed size c j cache (g ∷ gs) = IsGlyphServed size c j cache g × AreServed size c j cache gs

-- the keys of glyphs: the numbers of their loads
abbrev pub keys_of : List (Loaded GlyphOf) → List ℕ
keys_of gs = map (λ g. g.number) gs
