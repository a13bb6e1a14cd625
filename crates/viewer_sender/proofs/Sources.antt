-- Orders whose signed numbers went through 32 bits.
use Rattle.std.proofs.Common.{◌≡◌, ℕ, List, ap, ◌∙◌}
use Rattle.std.specs.Prelude.{ℤ}
use Rattle.px_core.specs.declared.rectangle.Rect.{Rect}
use Rattle.px_core.specs.declared.depth.Depth.{Depth}
use Rattle.order_fields.specs.OrderTable.{FieldList}
use Rattle.order_fields.specs.NamedDrawing.{drawing_fields}
use Rattle.order_fields.specs.NamedDrawing.NamedDrawing.{Scr, Mem, Mem3, Glyphs}

module _ (d : Depth) (o : FieldList) (r : Rect) (a b sx sy : ℤ) (p : a ≡ sx) (q : b ≡ sy) where
  pub scr_source : (code : ℕ) → o ≡ drawing_fields d r (Scr r code a b) → o ≡ drawing_fields d r (Scr r code sx sy)
  scr_source code e = e ∙ (ap (λ z. drawing_fields d r (Scr r code z b)) p ∙ ap (λ z. drawing_fields d r (Scr r code sx z)) q)

  pub mem_source : (cache index code : ℕ) → o ≡ drawing_fields d r (Mem cache index r code a b) → o ≡ drawing_fields d r (Mem cache index r code sx sy)
  mem_source cache index code e = e ∙ (ap (λ z. drawing_fields d r (Mem cache index r code z b)) p ∙ ap (λ z. drawing_fields d r (Mem cache index r code sx z)) q)

  pub mem3_source : (cache index code entry : ℕ) → o ≡ drawing_fields d r (Mem3 cache index r code a b entry) → o ≡ drawing_fields d r (Mem3 cache index r code sx sy entry)
  mem3_source cache index code entry e =
      e ∙ (ap (λ z. drawing_fields d r (Mem3 cache index r code z b entry)) p ∙ ap (λ z. drawing_fields d r (Mem3 cache index r code sx z entry)) q)

  pub run_source : (cache color : ℕ) (pairs : List ℕ) → o ≡ drawing_fields d r (Glyphs cache a b color pairs) → o ≡ drawing_fields d r (Glyphs cache sx sy color pairs)
  run_source cache color pairs e = e ∙ (ap (λ z. drawing_fields d r (Glyphs cache z b color pairs)) p ∙ ap (λ z. drawing_fields d r (Glyphs cache sx z color pairs)) q)
