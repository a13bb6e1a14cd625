-- Pieces of one tile that were given one colour.
use Rattle.std.proofs.Common.{◌≡◌, ℕ, ◌+◌, ◌*◌, ◌-◌, ◌<◌, ◌≤◌, List, false, length, get_or, sym, ap, ◌∙◌, arith, inl, inr}
use Rattle.std.specs.Prelude.{if◌then◌else◌}
use Rattle.std.proofs.lemmas.Bool.{cases_lt}
use Rattle.std.proofs.lemmas.Bool.Decides.{nat_tests}
use borrow.Rule.Slice.PartMut.{put_mid}
use Rattle.px_core.specs.Picture.{pixel_at}
use Rattle.px_core.proofs.Pictures.{item-get_or}
use Rattle.surface_parts.specs.Parts.{in_part, part_at, IsRepainted}
use Rattle.surface_parts.proofs.Repaint.{put_before, put_at, put_after, length_put, under_true, under_false}
use Rattle.tile_surface.specs.Cells.{tile_sides}

-- whole rows of a tile, from row y on, were given one colour
module _ (y h a m color : ℕ) (ps ys : List ℕ) (whole : length ps ≡ 4096) (rows : y + h ≤ 64) (ea : a ≡ 64 * y) (em : m ≡ 64 * h) (long : length ys ≡ m) (same : (k : ℕ) → k < m → get_or ys k 0 ≡ color) where
  fits : a + m ≤ length ps
  fits = omega (arith, whole, rows, ea, em)

  outside : (u v : ℕ) → in_part (part_at 0 y 64 h) u v ≡ false → get_or (put_mid a m ps ys) (64 * v + u) 0 ≡ get_or ps (64 * v + u) 0
      → pixel_at tile_sides (put_mid a m ps ys) 0 u v ≡ (if in_part (part_at 0 y 64 h) u v then color else pixel_at tile_sides ps 0 u v)
  outside u v none kept = item-get_or (put_mid a m ps ys) (64 * v + u) 0 ∙ kept ∙ sym (item-get_or ps (64 * v + u) 0) ∙ under_false (in_part (part_at 0 y 64 h) u v) color (pixel_at tile_sides ps 0 u v) none

  pub whole_rows : IsRepainted tile_sides (in_part (part_at 0 y 64 h)) (λ u v. color) ps (put_mid a m ps ys)
  whole_rows = record {
    sized = length_put a m ps ys fits long;
    pixel = λ u v left high. elim (cases_lt v y) [
      | inl lt ↦ outside u v (grind (arith, nat_tests, lt)) (put_before a m ps ys (64 * v + u) fits (omega (arith, lt, left, ea)))
      | inr ge ↦ elim (cases_lt v (y + h)) [
        | inl lt ↦ let there : a + (64 * v + u - a) ≡ 64 * v + u = omega (arith, ge, ea) in let below : 64 * v + u - a < m = omega (arith, ge, lt, left, ea, em) in
            item-get_or (put_mid a m ps ys) (64 * v + u) 0 ∙ ap (λ k. get_or (put_mid a m ps ys) k 0) (sym there)
            ∙ put_at a m ps ys (64 * v + u - a) fits long below ∙ same (64 * v + u - a) below
            ∙ under_true (in_part (part_at 0 y 64 h) u v) color (pixel_at tile_sides ps 0 u v) (grind (arith, nat_tests, ge, lt, left))
        | inr past ↦ outside u v (grind (arith, nat_tests, past)) (put_after a m ps ys (64 * v + u) fits long (omega (arith, past, ea, em)))
      ]
    ];
  }
