use Rattle.std.proofs.Common.{◌≡◌, ℕ, ◌+◌, ◌*◌, ◌-◌, ◌<◌, get_or, refl, ap, ◌∙◌, arith}
use Rattle.std.specs.Prelude.{Option, Some, None, if◌then◌else◌}
use Rattle.std.proofs.lemmas.Bool.Decides.{nat_tests}
use borrow.Rule.Slice.PartMut.{mid_of}
use Rattle.client_picture.specs.Bits.{is_ink, ink_color}
use Rattle.client_picture.proofs.Repaint.{stretch_fits, length_mid, stretch_pixel, untouched, no_rows, all_rows, next_row_down}
use Rattle.client_picture.proofs.glyphs.draw_bits.Goals as goal

pub loop-y-init : goal.loop-y-init
loop-y-init c = let p = c.args.part in no_rows c.args.size p.x p.y p.w (p.y - p.y) (ink_color c.args.size c.args.pixels.now p c.args.bits c.args.color) c.args.pixels.now (omega arith)

pub loop-y-preserved : goal.loop-y-preserved
loop-y-preserved c = let p = c.args.part in let bits = c.args.bits in let size = c.args.size in let cur = c.loop-y.pixels in let old = c.args.pixels.now in let y = c.loop-y.y in
    let high : y < size.h = omega (arith, c.requires.inside.rows) in
    let whole = c.loop-y.auto.pixels ∙ c.requires.canvas.sized in
    let n = size.w * y + p.x in
    let em : (n + p.w) - n ≡ p.w = omega arith in
    let row = bits.from.y + (y - p.y) in
    let wide = length_mid n ((n + p.w) - n) p.w cur (stretch_fits size p.x y p.w cur whole high c.requires.inside.columns) em in
    next_row_down size p.x p.y p.w (ink_color size old p bits c.args.color) old cur c.draw_bit_row.new.row y n ((n + p.w) - n) c.loop-y.invariant whole c.loop-y.auto.y high c.requires.inside.columns refl em
    (c.draw_bit_row.auto.row ∙ wide)
    (λ i below. let column : bits.from.x + i ≡ bits.from.x + ((p.x + i) - p.x) = omega arith in
    c.draw_bit_row.ensures i (omega (arith, below, wide))
    ∙ ap (λ k. if is_ink bits.bytes.now bits.row_bytes k row then Some c.args.color else get_or (mid_of n ((n + p.w) - n) cur) i None) column
    ∙ ap (λ (o : Option ℕ). if is_ink bits.bytes.now bits.row_bytes (bits.from.x + ((p.x + i) - p.x)) row then Some c.args.color else o)
    (stretch_pixel size n ((n + p.w) - n) p.x y i cur refl (omega (arith, below, em))
    ∙ untouched size p.x p.y p.w (y - p.y) (ink_color size old p bits c.args.color) old cur (p.x + i) y c.loop-y.invariant (omega (arith, below, c.requires.inside.columns)) high (grind (arith, nat_tests, c.loop-y.auto.y))))

pub returns : goal.returns
returns c = let p = c.args.part in all_rows c.args.size p.x p.y p.w (c.loop-y.y - p.y) p.h (ink_color c.args.size c.args.pixels.now p c.args.bits c.args.color) c.args.pixels.now c.loop-y.pixels (omega arith) c.loop-y.invariant
