use Rattle.std.proofs.Common.{◌<◌, ◌^◌, ◌∙◌, ℕ, length, arith, Fits, w8, slice_index_or}
use Rattle.byteorder.specs.Endian.{little_number}
use Rattle.wire_num.proofs.Numbers.{little_number_is}
use Rattle.order_read.proofs.NumberBytes.{little_below}
use Rattle.order_read.proofs.number.low_number.Goals as goal

pub returns-clause-value : goal.returns-clause-value
returns-clause-value c = c.read_uint.ensures ∙ little_number_is c.args.bytes.now

pub returns-clause-fits : goal.returns-clause-fits
returns-clause-fits c =
    let bytes = λ (k : ℕ). let fits : Fits w8 (slice_index_or c.args.bytes.now k 0) = c.type_inv.bytes k in let below : slice_index_or c.args.bytes.now k 0 < 256 = omega (arith, fits) in below in
    let below : little_number (length c.args.bytes.now) c.args.bytes.now < 256 ^ length c.args.bytes.now = little_below (length c.args.bytes.now) c.args.bytes.now bytes in
    rw c.read_uint.ensures below
