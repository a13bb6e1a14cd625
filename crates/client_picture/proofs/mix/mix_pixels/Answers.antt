use Rattle.std.proofs.Common.{◌≡◌, ◌+◌, get_or, pos, ap, ◌∙◌, arith}
use Rattle.std.specs.Prelude.{Some, None, option_copied}
use Rattle.draw_ops.specs.Depths.{maybe_raster_at}
use Rattle.client_picture.specs.Pictures.{brush_operand}
use Rattle.client_picture.specs.Sources.{source_color}
use Rattle.client_picture.proofs.Places.{set_next, set_later, read_pixel}
use Rattle.client_picture.proofs.Repaint.{same_mix}
use Rattle.client_picture.proofs.mix.mix_pixels.Goals as goal

pub loop-k-preserved : goal.loop-k-preserved
loop-k-preserved c = let row = c.loop-k.row in let k = c.loop-k.k in let p = c.args.part in let mix = c.args.mix in let old = c.args.row.now in
    let v = c.over_source.result in
    let at : c.index-row-k.result ≡ get_or row k None = read_pixel row k c.index-row-k.result (omega arith) c.index-row-k.is in (
      set_next row k v (λ j. maybe_raster_at c.args.depth mix.rop (brush_operand (option_copied mix.brush) (pos (p.x + j)) (pos c.args.y)) (Some (source_color p mix.texture (p.x + j) c.args.y)) (get_or old j None))
          (omega arith) c.loop-k.invariant.0
          (c.over_source.ensures ∙ same_mix c.args.depth mix.rop _ _ _ _ _ _ c.brush_color-pattern.ensures (ap Some c.texture_color-source.ensures) (at ∙ c.loop-k.invariant.1 k (omega arith))),
      set_later row k v (λ j. get_or old j None) c.loop-k.invariant.1,
    )
