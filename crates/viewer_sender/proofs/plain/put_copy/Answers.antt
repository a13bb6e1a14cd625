use Rattle.std.proofs.Common.{w32}
use Rattle.std.proofs.lemmas.Int.{to_z-of_z}
use Rattle.rle_enc.proofs.Pending.{on_ok_as}
use Rattle.px_core.specs.declared.depth.Depth.TheVariants.{Bits24}
use Rattle.order_fields.specs.NamedDrawing.NamedDrawing.{Scr}
use Rattle.viewer_sender.proofs.Sources.{scr_source}
use Rattle.viewer_sender.proofs.plain.put_copy.Goals as goal

pub returns : goal.returns
returns c =
    let x = to_z-of_z w32 c.args.sx c.ranges.sx in
    let y = to_z-of_z w32 c.args.sy c.ranges.sy in
    on_ok_as _ _ c.put_drawn-2.result c.put_drawn-2.ensures
    (λ writes. writes (Scr c.args.r c.args.rop c.args.sx c.args.sy) (scr_source Bits24 c.scr_blt.result c.args.r _ _ c.args.sx c.args.sy x y c.args.rop c.scr_blt.ensures))
