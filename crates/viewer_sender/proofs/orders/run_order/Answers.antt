use Rattle.std.proofs.Common.{◌∙◌, ap, sym, subst, w32}
use Rattle.std.proofs.lemmas.Int.{to_z-of_z}
use Rattle.px_core.specs.declared.depth.Depth.TheVariants.{Bits24}
use Rattle.order_fields.specs.OrderTable.{IsFieldList}
use Rattle.order_fields.specs.NamedDrawing.{drawing_fields}
use Rattle.order_fields.specs.NamedDrawing.NamedDrawing.{Glyphs}
use Rattle.viewer_sender.proofs.Sources.{run_source}
use Rattle.viewer_sender.proofs.orders.run_order.Goals as goal

pub glyph_index_of-requires : goal.glyph_index_of-requires
glyph_index_of-requires c =
    let x = to_z-of_z w32 c.args.x c.ranges.x in
    let y = to_z-of_z w32 c.args.y c.ranges.y in
    rw (x, y) (subst (λ n. IsFieldList (drawing_fields Bits24 c.args.area (Glyphs c.args.cache c.args.x c.args.y n c.args.run.items))) (sym c.wire_color.ensures) c.requires)

pub returns : goal.returns
returns c =
    let x = to_z-of_z w32 c.args.x c.ranges.x in
    let y = to_z-of_z w32 c.args.y c.ranges.y in
    run_source Bits24 _ c.args.area _ _ c.args.x c.args.y x y c.args.cache c.wire_color.result c.args.run.items c.glyph_index_of.ensures
    ∙ ap (λ n. drawing_fields Bits24 c.args.area (Glyphs c.args.cache c.args.x c.args.y n c.args.run.items)) c.wire_color.ensures
