use Rattle.std.proofs.Common.{◌+◌, drop, ap, ◌∙◌, arith}
use Rattle.frame_rules.specs.Support.{distinct_loads}
use Rattle.frame_plan.proofs.Distinct.{loads_again, loads_new}
use Rattle.frame_plan.proofs.support.distinct_loads.Goals as goal
use Rattle.frame_plan.proofs.support.distinct_loads.Goals.{then-not-is_among, else-not-is_among}

pub loop-at-preserved : goal.loop-at-preserved
loop-at-preserved c =
    let few = c.loop-at.invariant.few in
    let rest = distinct_loads (drop (c.loop-at.at + 1) c.args.glyphs.now) in
    elim c.if-not-is_among.branch [
      | then-not-is_among w ↦ let more = w.count-is in record {
        all = ap (λ n. n + rest) more ∙ loads_new c.args.glyphs.now c.loop-at.at c.index-glyphs-at.result c.loop-at-test.true c.index-glyphs-at.is
            c.is_among.result c.number.result c.loop-at.count c.number.ensures c.is_among.ensures w.if-not-is_among.true c.loop-at.invariant.all;
        few = omega (arith, few, more);
      }
      | else-not-is_among w ↦ let more = w.count-is in record {
        all = ap (λ n. n + rest) more ∙ loads_again c.args.glyphs.now c.loop-at.at c.index-glyphs-at.result c.loop-at-test.true c.index-glyphs-at.is
            c.is_among.result c.number.result c.loop-at.count c.number.ensures c.is_among.ensures w.if-not-is_among.false c.loop-at.invariant.all;
        few = omega (arith, few, more);
      }
    ]
