use Rattle.std.proofs.Common.{rules}
use Rattle.mcs_ber.proofs.connect_response.length_size.Goals as goal

pub returns-then-n-lt-TWO_BYTES : goal.returns-then-n-lt-TWO_BYTES
returns-then-n-lt-TWO_BYTES c = search rules
