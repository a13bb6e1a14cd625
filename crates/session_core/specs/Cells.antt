-- The cells of a text's glyphs.
use Rattle.std.specs.Prelude.{◌≡◌, ℕ, ◌*◌, ⊤, ℤ, pos, negsuc, ◌+ℤ◌, ◌≤ℤ◌, List, [], ◌∷◌, None}
use Rattle.px_core.specs.declared.rectangle.Rect.{Rect}
use Rattle.draw_ops.specs.Content.{GlyphOf}
use Rattle.draw_ops.specs.Slots.{Loaded}
use Rattle.draw_ops.specs.Formulas.{glyph_cell}
use Rattle.draw_ops.specs.Fits.{glyph_rule}

-- the cells of glyphs, each of which is drawn after its delta moved the pen
abbrev pub cells_along : List (Loaded GlyphOf) → List (ℕ × ℕ) → ℤ → ℤ → List Rect
cells_along [] pairs x y = []
cells_along (g ∷ gs) [] x y = []
cells_along (g ∷ gs) (p ∷ ps) x y = glyph_cell g.content (x +ℤ pos p.1) y ∷ cells_along gs ps (x +ℤ pos p.1) y

-- glyphs that slots may hold
abbrev pub ArePlain : List (Loaded GlyphOf) → Type 0
ArePlain [] = ⊤
ArePlain (g ∷ gs) = (glyph_rule g.content ≡ None) × ArePlain gs

-- a number that is a corner's
pub record IsNear (z : ℤ) : Type 0 where
  pub low : negsuc 4095 ≤ℤ z
  pub high : z ≤ℤ pos 4095

-- a pen with so many glyphs still to draw
pub record IsPen (x y : ℤ) (n : ℕ) : Type 0 where
  pub left : negsuc 4095 ≤ℤ x
  pub right : (x +ℤ pos (255 * n)) ≤ℤ pos 25000
  pub row : IsNear y

-- a stretch that such a pen reaches
pub record IsStretch (from : ℤ) (n : ℕ) : Type 0 where
  pub low : negsuc 4999 ≤ℤ from
  pub high : (from +ℤ pos n) ≤ℤ pos 30000

-- a rectangle that such a pen reaches
pub record IsReached (r : Rect) : Type 0 where
  pub columns : IsStretch r.x r.w
  pub rows : IsStretch r.y r.h
