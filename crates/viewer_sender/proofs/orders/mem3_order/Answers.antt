use Rattle.std.proofs.Common.{w32}
use Rattle.std.proofs.lemmas.Int.{to_z-of_z}
use Rattle.px_core.specs.declared.depth.Depth.TheVariants.{Bits24}
use Rattle.viewer_sender.proofs.Styles.{mem3_style}
use Rattle.viewer_sender.proofs.Sources.{mem3_source}
use Rattle.viewer_sender.proofs.orders.mem3_order.Goals as goal

pub mem3_blt-requires : goal.mem3_blt-requires
mem3_blt-requires c =
    let x = to_z-of_z w32 c.args.sx c.ranges.sx in
    let y = to_z-of_z w32 c.args.sy c.ranges.sy in
    rw (x, y) (mem3_style c.args.depth c.args.r c.args.cache c.args.index c.args.rop c.args.sx c.args.sy c.args.entry c.requires)

pub returns : goal.returns
returns c =
    let x = to_z-of_z w32 c.args.sx c.ranges.sx in
    let y = to_z-of_z w32 c.args.sy c.ranges.sy in
    c.styled.ensures.both c.args.r c.args.cache c.args.index c.args.rop c.args.entry c.args.sx c.args.sy
    (mem3_source Bits24 c.mem3_blt.result c.args.r _ _ c.args.sx c.args.sy x y c.args.cache c.args.index c.args.rop c.args.entry c.mem3_blt.ensures)
