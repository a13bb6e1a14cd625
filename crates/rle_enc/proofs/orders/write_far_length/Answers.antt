use Rattle.std.proofs.Common.{rules}
use Rattle.rle_enc.proofs.orders.write_far_length.Goals as goal

pub returns-then-n-lt-NEXT_TWO_BYTES : goal.returns-then-n-lt-NEXT_TWO_BYTES
returns-then-n-lt-NEXT_TWO_BYTES c = search rules
