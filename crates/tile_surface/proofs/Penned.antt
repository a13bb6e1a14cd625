-- Texts into tiles: a run glyph by glyph.
use Rattle.std.proofs.Common.{◌≡◌, ℕ, List, [], ◌∷◌, sym, subst}
use Rattle.std.specs.Prelude.{ℤ, pos, ◌+ℤ◌, Option, Some, None}
use Rattle.px_core.specs.declared.surface.Size.{Size}
use Rattle.px_core.specs.Picture.{Area, both}
use Rattle.px_core.specs.Rectangle.{in_rect}
use Rattle.draw_ops.specs.Content.{GlyphOf}
use Rattle.draw_ops.specs.Formulas.{glyph_cell}
use Rattle.tile_surface.specs.declared.cell.Cell.{Cell}
use Rattle.tile_surface.specs.Needed.{OwnsGlyph, OwnsRun}
use Rattle.tile_surface.specs.Ownership.{StaysOwn}
use Rattle.tile_surface.proofs.Owning.{owns_area_still}

module _ (size : Size) (clip : Area) (glyphs : ℕ → Option GlyphOf) (y : ℤ) where
  pub glyph_still : (old new : List Cell) (glyph : Option GlyphOf) (x : ℤ) → StaysOwn old new → OwnsGlyph size old clip glyph x y → OwnsGlyph size new clip glyph x y
  glyph_still old new None x stays owns = owns
  glyph_still old new (Some g) x stays owns = owns_area_still size old new (both clip (in_rect (glyph_cell g x y))) stays owns

  pub run_still : (old new : List Cell) (x : ℤ) (run : List (ℕ × ℕ)) → StaysOwn old new → OwnsRun size old clip glyphs x y run → OwnsRun size new clip glyphs x y run
  run_still old new x [] stays owns = owns
  run_still old new x (p ∷ rest) stays owns = (glyph_still old new (glyphs p.0) (x +ℤ pos p.1) stays owns.0, run_still old new (x +ℤ pos p.1) rest stays owns.1)

  -- a run, as its first glyph and the rest
  pub run_parts : (cells : List Cell) (at pen : ℤ) (run rest : List (ℕ × ℕ)) (p : ℕ × ℕ) → run ≡ p ∷ rest → at +ℤ pos p.1 ≡ pen → OwnsRun size cells clip glyphs at y run
      → OwnsGlyph size cells clip (glyphs p.0) pen y × OwnsRun size cells clip glyphs pen y rest
  run_parts cells at pen run rest p first moved owns = subst (λ (z : ℤ). OwnsGlyph size cells clip (glyphs p.0) z y × OwnsRun size cells clip glyphs z y rest) moved
      (subst (λ (r : List (ℕ × ℕ)). OwnsRun size cells clip glyphs at y r) first owns)

  pub run_of_parts : (cells : List Cell) (at pen : ℤ) (run rest : List (ℕ × ℕ)) (p : ℕ × ℕ) → run ≡ p ∷ rest → at +ℤ pos p.1 ≡ pen → OwnsGlyph size cells clip (glyphs p.0) pen y
      → OwnsRun size cells clip glyphs pen y rest → OwnsRun size cells clip glyphs at y run
  run_of_parts cells at pen run rest p first moved glyph others = subst (λ (r : List (ℕ × ℕ)). OwnsRun size cells clip glyphs at y r) (sym first)
      (subst (λ (z : ℤ). OwnsGlyph size cells clip (glyphs p.0) z y × OwnsRun size cells clip glyphs z y rest) (sym moved) (glyph, others))
