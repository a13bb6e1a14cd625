use Rattle.rle_enc.proofs.Bytes.{shown_same}
use Rattle.rle_enc.proofs.data.put_shown.Goals as goal

pub returns-in-Bits24-clause-ok : goal.returns-in-Bits24-clause-ok
returns-in-Bits24-clause-ok c = rw (c.in-Bits24.is, shown_same c.args.colors.now) c.put_fours.ensures.ok

pub returns-in-Bits24-clause-memory : goal.returns-in-Bits24-clause-memory
returns-in-Bits24-clause-memory c = rw (c.in-Bits24.is, shown_same c.args.colors.now) c.put_fours.ensures.memory
