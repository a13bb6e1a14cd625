use Rattle.std.proofs.Common.{◌∙◌, refl}
use Rattle.order_fields.specs.OrderTable.{dst_blt, pat_blt, scr_blt, opaque_rect, save_bitmap, mem_blt, mem3_blt, glyph_index}
use Rattle.client_caches.proofs.TypesFit.{kind_fits, kind_draws, kind_short}
use Rattle.client_caches.proofs.drawings.drawing_of.Goals as goal

pub dst_of-requires : goal.dst_of-requires
dst_of-requires c = kind_fits c.args.fields.now c.kind-kind.result 0 dst_blt _ c.values-values.ensures.fits c.kind-kind.ensures c.in-0.is refl c.values-values.ensures.value

pub returns-in-0-clause-drawing : goal.returns-in-0-clause-drawing
returns-in-0-clause-drawing c =
    c.dst_of.ensures c.args.depth c.args.fields.now.values.bytes ∙ kind_draws c.args.depth c.args.fields.now c.kind-kind.result 0 dst_blt _ c.values-values.ensures.fits c.kind-kind.ensures c.in-0.is refl c.values-values.ensures.value

pub pat_of-requires : goal.pat_of-requires
pat_of-requires c = kind_fits c.args.fields.now c.kind-kind.result 1 pat_blt _ c.values-values.ensures.fits c.kind-kind.ensures c.in-1.is refl c.values-values.ensures.value

pub returns-in-1-clause-drawing : goal.returns-in-1-clause-drawing
returns-in-1-clause-drawing c =
    c.pat_of.ensures c.args.fields.now.values.bytes ∙ kind_draws c.args.depth c.args.fields.now c.kind-kind.result 1 pat_blt _ c.values-values.ensures.fits c.kind-kind.ensures c.in-1.is refl c.values-values.ensures.value

pub scr_of-requires : goal.scr_of-requires
scr_of-requires c = kind_fits c.args.fields.now c.kind-kind.result 2 scr_blt _ c.values-values.ensures.fits c.kind-kind.ensures c.in-2.is refl c.values-values.ensures.value

pub returns-in-2-clause-drawing : goal.returns-in-2-clause-drawing
returns-in-2-clause-drawing c =
    c.scr_of.ensures c.args.depth c.args.fields.now.values.bytes ∙ kind_draws c.args.depth c.args.fields.now c.kind-kind.result 2 scr_blt _ c.values-values.ensures.fits c.kind-kind.ensures c.in-2.is refl c.values-values.ensures.value

pub opaque_of-requires : goal.opaque_of-requires
opaque_of-requires c = kind_fits c.args.fields.now c.kind-kind.result 10 opaque_rect _ c.values-values.ensures.fits c.kind-kind.ensures c.in-10.is refl c.values-values.ensures.value

pub returns-in-10-clause-drawing : goal.returns-in-10-clause-drawing
returns-in-10-clause-drawing c =
    c.opaque_of.ensures c.args.fields.now.values.bytes ∙ kind_draws c.args.depth c.args.fields.now c.kind-kind.result 10 opaque_rect _ c.values-values.ensures.fits c.kind-kind.ensures c.in-10.is refl c.values-values.ensures.value

pub save_of-requires : goal.save_of-requires
save_of-requires c = kind_fits c.args.fields.now c.kind-kind.result 11 save_bitmap _ c.values-values.ensures.fits c.kind-kind.ensures c.in-11.is refl c.values-values.ensures.value

pub returns-in-11-clause-drawing : goal.returns-in-11-clause-drawing
returns-in-11-clause-drawing c =
    c.save_of.ensures c.args.depth c.args.fields.now.values.bytes ∙ kind_draws c.args.depth c.args.fields.now c.kind-kind.result 11 save_bitmap _ c.values-values.ensures.fits c.kind-kind.ensures c.in-11.is refl c.values-values.ensures.value

pub mem_of-requires : goal.mem_of-requires
mem_of-requires c = kind_fits c.args.fields.now c.kind-kind.result 13 mem_blt _ c.values-values.ensures.fits c.kind-kind.ensures c.in-13.is refl c.values-values.ensures.value

pub returns-in-13-clause-drawing : goal.returns-in-13-clause-drawing
returns-in-13-clause-drawing c =
    c.mem_of.ensures c.args.depth c.args.fields.now.values.bytes ∙ kind_draws c.args.depth c.args.fields.now c.kind-kind.result 13 mem_blt _ c.values-values.ensures.fits c.kind-kind.ensures c.in-13.is refl c.values-values.ensures.value

pub mem3_of-requires : goal.mem3_of-requires
mem3_of-requires c = kind_fits c.args.fields.now c.kind-kind.result 14 mem3_blt _ c.values-values.ensures.fits c.kind-kind.ensures c.in-14.is refl c.values-values.ensures.value

pub returns-in-14-clause-drawing : goal.returns-in-14-clause-drawing
returns-in-14-clause-drawing c =
    c.mem3_of.ensures c.args.fields.now.values.bytes ∙ kind_draws c.args.depth c.args.fields.now c.kind-kind.result 14 mem3_blt _ c.values-values.ensures.fits c.kind-kind.ensures c.in-14.is refl c.values-values.ensures.value

pub glyphs_of-requires : goal.glyphs_of-requires
glyphs_of-requires c = kind_fits c.args.fields.now c.kind-kind.result 27 glyph_index _ c.values-values.ensures.fits c.kind-kind.ensures c.in-27.is refl c.values-values.ensures.value

pub returns-in-27-clause-drawing : goal.returns-in-27-clause-drawing
returns-in-27-clause-drawing c =
    c.glyphs_of.ensures c.args.fields.now.values.bytes ∙ kind_draws c.args.depth c.args.fields.now c.kind-kind.result 27 glyph_index _ c.values-values.ensures.fits c.kind-kind.ensures c.in-27.is refl c.values-values.ensures.value

pub returns-in-0-clause-short : goal.returns-in-0-clause-short
returns-in-0-clause-short c = kind_short c.dst_of.result c.args.fields.now c.kind-kind.result 0 dst_blt c.values-values.ensures.fits c.kind-kind.ensures c.in-0.is refl

pub returns-in-1-clause-short : goal.returns-in-1-clause-short
returns-in-1-clause-short c = kind_short c.pat_of.result c.args.fields.now c.kind-kind.result 1 pat_blt c.values-values.ensures.fits c.kind-kind.ensures c.in-1.is refl

pub returns-in-2-clause-short : goal.returns-in-2-clause-short
returns-in-2-clause-short c = kind_short c.scr_of.result c.args.fields.now c.kind-kind.result 2 scr_blt c.values-values.ensures.fits c.kind-kind.ensures c.in-2.is refl

pub returns-in-10-clause-short : goal.returns-in-10-clause-short
returns-in-10-clause-short c = kind_short c.opaque_of.result c.args.fields.now c.kind-kind.result 10 opaque_rect c.values-values.ensures.fits c.kind-kind.ensures c.in-10.is refl

pub returns-in-11-clause-short : goal.returns-in-11-clause-short
returns-in-11-clause-short c = kind_short c.save_of.result c.args.fields.now c.kind-kind.result 11 save_bitmap c.values-values.ensures.fits c.kind-kind.ensures c.in-11.is refl

pub returns-in-13-clause-short : goal.returns-in-13-clause-short
returns-in-13-clause-short c = kind_short c.mem_of.result c.args.fields.now c.kind-kind.result 13 mem_blt c.values-values.ensures.fits c.kind-kind.ensures c.in-13.is refl

pub returns-in-14-clause-short : goal.returns-in-14-clause-short
returns-in-14-clause-short c = kind_short c.mem3_of.result c.args.fields.now c.kind-kind.result 14 mem3_blt c.values-values.ensures.fits c.kind-kind.ensures c.in-14.is refl

pub returns-in-27-clause-short : goal.returns-in-27-clause-short
returns-in-27-clause-short c = kind_short c.glyphs_of.result c.args.fields.now c.kind-kind.result 27 glyph_index c.values-values.ensures.fits c.kind-kind.ensures c.in-27.is refl
