use Rattle.std.proofs.Common.{◌≡◌, ℕ, get_or, ap, ◌∙◌, arith}
use Rattle.std.specs.Prelude.{Option, Some, None}
use Rattle.draw_ops.specs.Depths.{maybe_raster_at}
use Rattle.client_picture.proofs.Places.{set_next, set_later, read_pixel}
use Rattle.client_picture.proofs.copies.mix_pixels.Goals as goal

pub loop-k-preserved : goal.loop-k-preserved
loop-k-preserved c = let row = c.loop-k.row in let k = c.loop-k.k in let old = c.args.row.now in let source = c.args.source.now in
    let v = c.mixed.result in
    let from : c.index-source-k.result ≡ get_or source k None = read_pixel source k c.index-source-k.result (omega arith) c.index-source-k.is in
    let at : c.index-row-k.result ≡ get_or row k None = read_pixel row k c.index-row-k.result (omega arith) c.index-row-k.is in (
      set_next row k v (λ j. maybe_raster_at c.args.depth c.args.rop (Some 0) (get_or source j None) (get_or old j None))
          (omega arith) c.loop-k.invariant.0
          (c.mixed.ensures ∙ ap (λ (s : Option ℕ). maybe_raster_at c.args.depth c.args.rop (Some 0) s c.index-row-k.result) from
          ∙ ap (λ (d : Option ℕ). maybe_raster_at c.args.depth c.args.rop (Some 0) (get_or source k None) d) (at ∙ c.loop-k.invariant.1 k (omega arith))),
      set_later row k v (λ j. get_or old j None) c.loop-k.invariant.1,
    )
