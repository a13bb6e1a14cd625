use Rattle.std.proofs.Common.{arith}
use Rattle.order_read.proofs.PrimaryRead.{flags_below}
use Rattle.order_read.proofs.primary.read_list.Goals as goal

pub overflow_cast-flags : goal.overflow_cast-flags
overflow_cast-flags c =
    let below = flags_below c.args.size c.in_ok-flags.field-0 c.requires.size (rw c.from.ensures at c.in_ok-flags.ensures.fits) in
    omega (arith, below)
