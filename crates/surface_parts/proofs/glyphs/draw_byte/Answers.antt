use Rattle.std.proofs.Common.{rules, ◌+◌, ◌<◌, arith}
use Rattle.surface_parts.proofs.Bytes.{highest_bit, moved_more}
use Rattle.surface_parts.proofs.glyphs.draw_byte.Goals.{then-bits-eq1, else-bits-eq1}
use Rattle.surface_parts.proofs.glyphs.draw_byte.Goals as goal

pub loop-k-preserved : goal.loop-k-preserved
loop-k-preserved c = let k = c.loop-k.k in let below : c.args.first + k < 8 = omega (arith, c.requires.within, c.loop-k.auto.pixels) in
    let bit = highest_bit c.args.byte c.loop-k.bits (c.args.first + k) below c.loop-k.invariant.moved in
    record {
      drawn = elim c.if-bits-eq1.branch [ then-bits-eq1 w ↦ search (rules, bit) | else-bits-eq1 w ↦ search (rules, bit) ];
      rest = search rules;
      moved = moved_more c.args.byte c.loop-k.bits (c.args.first + k) (c.args.first + (k + 1)) c.loop-k.invariant.moved (omega arith);
    }
