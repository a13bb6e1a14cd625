use Rattle.wire_num.proofs.Sent.{both_cut}
use Rattle.bitmap_upd.proofs.tile.put_raw.Goals as goal

pub returns-clause-memory : goal.returns-clause-memory
returns-clause-memory c = both_cut c.put_turned.result _ _ _ _ _ c.in_ok-extend_from_slice.ensures.items c.put_turned.ensures.memory
