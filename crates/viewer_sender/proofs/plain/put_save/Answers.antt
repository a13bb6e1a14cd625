use Rattle.rle_enc.proofs.Pending.{on_ok_as}
use Rattle.order_fields.specs.NamedDrawing.NamedDrawing.{SaveBlock}
use Rattle.viewer_sender.proofs.plain.put_save.Goals as goal

pub returns : goal.returns
returns c = on_ok_as _ _ c.put_drawn-2.result c.put_drawn-2.ensures (λ writes. writes (SaveBlock c.args.position c.args.r) c.save_bitmap.ensures)
