use Rattle.std.proofs.Common.{length, ◌-◌, refl, ◌∙◌}
use Rattle.px_core.specs.Pixels.{pixel_bytes}
use Rattle.rle_enc.proofs.Counting.{flat_map_four}
use Rattle.rle_enc.proofs.orders.write_pixels.Goals as goal

pub loop-rest-preserved : goal.loop-rest-preserved
loop-rest-preserved c =
    flat_map_four (pixel_bytes c.args.depth) c.loop-rest.out.items c.write_four.new.out.items c.loop-rest.rest.now (length c.loop-rest.rest.now - 4) c.in-len4-up.len_at_least refl c.in_ok-write_four.ensures ∙ c.loop-rest.invariant
