use Rattle.std.proofs.Common.{◌≡◌, ◌+◌, ◌/◌, arith}
use Rattle.frame_plan.proofs.Serving.{image_needs}
use Rattle.frame_plan.proofs.support.bitmap_cache.Goals as goal

pub returns : goal.returns
returns c =
    let columns : c.div_ceil-columns.result ≡ (c.args.image.now.w + 3) / 4 = omega arith in
    let is = image_needs c.args.image.now c.div_ceil-columns.result c.args.confirmed.now.bitmaps columns in
    let first = c.first_cache.ensures in
    let sizes = c.sizes.ensures.value in
    let high = c.from-2.ensures in
    let rows = c.h.ensures in
    cc (is, first, sizes, high, rows)
