use Rattle.std.proofs.Common.{rules}
use Rattle.rle_enc.proofs.orders.write_length.Goals as goal

pub returns-then-n-lt-NEXT_BYTE : goal.returns-then-n-lt-NEXT_BYTE
returns-then-n-lt-NEXT_BYTE c = search rules
