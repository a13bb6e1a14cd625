-- Parts that are written row by row.
use Rattle.std.proofs.Common.{◌≡◌, ℕ, ◌+◌, ◌*◌, ◌-◌, ◌<◌, ◌≤◌, List, get_or, ap, sym, subst, ◌∙◌, arith}
use Rattle.px_core.specs.declared.surface.Size.{Size}
use Rattle.surface_parts.specs.declared.part.Part.{Part}
use Rattle.surface_parts.specs.Parts.{in_part, part_at, IsRepainted}
use Rattle.surface_parts.proofs.Repaint.{all_rows, row_below_more}
use Rattle.tile_surface.specs.declared.cell.Cell.{Cell}
use Rattle.tile_surface.specs.Ownership.{KeepsRest, OwnsPart}
use Rattle.tile_surface.proofs.Owning.{owns_row, owns_still}

-- row y of a part, where the rows above it were written
pub next_row_by : (size : Size) (part : Part) (f g : ℕ → ℕ → ℕ) (old cur new : List ℕ) (y n : ℕ) → part.y ≤ y → n ≡ part.w
    → IsRepainted size (in_part (part_at part.x part.y part.w (y - part.y))) f old cur → IsRepainted size (in_part (part_at part.x y n 1)) g cur new
    → ((i : ℕ) → i < part.w → g (part.x + i) y ≡ f (part.x + i) y) → IsRepainted size (in_part (part_at part.x part.y part.w ((y + 1) - part.y))) f old new
next_row_by size part f g old cur new y n low wide done written same =
    all_rows size part.x part.y part.w ((y - part.y) + 1) ((y + 1) - part.y) f old new (omega (arith, low))
    (row_below_more size part.x part.w f g old cur new part.y (y - part.y) y (omega (arith, low)) done
    (subst (λ (k : ℕ). IsRepainted size (in_part (part_at part.x y k 1)) g cur new) wide written)
    (λ u more less. let there : part.x + (u - part.x) ≡ u = omega (arith, more) in ap (λ k. g k y) (sym there) ∙ same (u - part.x) (omega (arith, more, less)) ∙ ap (λ k. f k y) there))

-- the same of a row that was written from a list
pub next_row : (size : Size) (part : Part) (f : ℕ → ℕ → ℕ) (old cur new : List ℕ) (y n : ℕ) (row : List ℕ) → part.y ≤ y → n ≡ part.w
    → IsRepainted size (in_part (part_at part.x part.y part.w (y - part.y))) f old cur → IsRepainted size (in_part (part_at part.x y n 1)) (λ u v. get_or row (u - part.x) 0) cur new
    → ((i : ℕ) → i < part.w → get_or row i 0 ≡ f (part.x + i) y) → IsRepainted size (in_part (part_at part.x part.y part.w ((y + 1) - part.y))) f old new
next_row size part f old cur new y n row low wide done written same = next_row_by size part f (λ u v. get_or row (u - part.x) 0) old cur new y n low wide done written
    (λ i below. let there : (part.x + i) - part.x ≡ i = omega arith in ap (λ k. get_or row k 0) there ∙ same i below)

-- the surface owns it still
pub owns_next : (size : Size) (part : Part) (old cur : List Cell) (y n : ℕ) → part.y ≤ y → y < part.y + part.h → n ≡ part.w → OwnsPart old part → KeepsRest size old cur → OwnsPart cur (part_at part.x y n 1)
owns_next size part old cur y n low high wide owns kept =
    subst (λ (k : ℕ). OwnsPart cur (part_at part.x y k 1)) (sym wide) (owns_row cur part y low high (owns_still old cur part kept.own owns))

-- a stretch of a row of a texture ends before its last row does
pub rows_within : (w x n y h : ℕ) → y < h → x + n ≤ w → w * y + x + n ≤ w * h
rows_within w x n y h below fits = let more : w * (y + 1) ≤ w * h = grind (arith, below) in let step : w * (y + 1) ≡ w * y + w = grind arith in omega (arith, more, step, fits)
