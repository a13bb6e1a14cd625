use Rattle.std.proofs.Common.{◌≡◌, ℕ, ◌+◌, ◌*◌, ◌/◌, ◌%◌, ◌-◌, ◌^◌, ◌<◌, List, get_or, refl, ap, ◌∙◌, arith}
use Rattle.std.specs.Prelude.{◌==◌, if◌then◌else◌}
use Rattle.std.proofs.lemmas.Bool.Decides.{nat_tests}
use borrow.Rule.Slice.PartMut.{mid_of}
use Rattle.surface_parts.specs.Bits.{is_row_bit, is_ink, ink_color}
use Rattle.surface_parts.proofs.Repaint.{stretch_fits, length_mid, mid_item, stretch_pixel, untouched, next_row_down}
use Rattle.surface_parts.proofs.glyphs.draw_bits.Goals as goal

-- a bit of a row's bytes is that of the glyph
row_bit : (bytes : List ℕ) (from m k : ℕ) → k / 8 < m → is_row_bit (mid_of from m bytes) k ≡ ((get_or bytes (from + k / 8) 0 / 2 ^ (7 - k % 8)) % 2 == 1)
row_bit bytes from m k below = ap (λ b. (b / 2 ^ (7 - k % 8)) % 2 == 1) (mid_item from m bytes (k / 8) below)

within_byte : (k n : ℕ) → k < 8 * n → k / 8 < n
within_byte k n h = omega (arith, h)

pub loop-y-preserved : goal.loop-y-preserved
loop-y-preserved c = let p = c.args.part in let bits = c.args.bits in let size = c.args.size in let cur = c.loop-y.pixels in let old = c.args.pixels.now in let y = c.loop-y.y in
    let high : y < size.h = omega (arith, c.requires.inside.rows) in
    let whole = c.loop-y.auto.pixels ∙ c.requires.canvas.sized in
    let n = size.w * y + p.x in
    let em : (n + p.w) - n ≡ p.w = omega arith in
    let from = bits.row_bytes * (bits.row + (y - p.y)) in
    let eb : (from + bits.row_bytes) - from ≡ bits.row_bytes = omega arith in
    let wide = length_mid n ((n + p.w) - n) p.w cur (stretch_fits size p.x y p.w cur whole high c.requires.inside.columns) em in
    next_row_down size p.x p.y p.w (ink_color size old p bits c.args.color) old cur c.draw_bit_row.new.row y n ((n + p.w) - n) c.loop-y.invariant whole c.loop-y.auto.y high c.requires.inside.columns refl em
    (c.draw_bit_row.auto.row ∙ wide)
    (λ i below. let column : bits.column + i ≡ bits.column + ((p.x + i) - p.x) = omega arith in
    let byte : (bits.column + i) / 8 < (from + bits.row_bytes) - from = omega (arith, eb, within_byte (bits.column + i) bits.row_bytes (omega (arith, below, c.requires.bits.columns))) in
    c.draw_bit_row.ensures i (omega (arith, below, wide))
    ∙ ap (λ b. if b then c.args.color else get_or (mid_of n ((n + p.w) - n) cur) i 0) (row_bit bits.bytes.now from ((from + bits.row_bytes) - from) (bits.column + i) byte ∙ ap (λ k. is_ink bits.bytes.now bits.row_bytes k (bits.row + (y - p.y))) column)
    ∙ ap (λ o. if is_ink bits.bytes.now bits.row_bytes (bits.column + ((p.x + i) - p.x)) (bits.row + (y - p.y)) then c.args.color else o)
    (stretch_pixel size n ((n + p.w) - n) p.x y i cur refl (omega (arith, below, em))
    ∙ untouched size p.x p.y p.w (y - p.y) (ink_color size old p bits c.args.color) old cur (p.x + i) y c.loop-y.invariant (omega (arith, below, c.requires.inside.columns)) high (grind (arith, nat_tests, c.loop-y.auto.y))))
