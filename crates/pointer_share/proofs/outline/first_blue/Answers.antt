use Rattle.std.proofs.Common.{◌≡◌, ◌-◌, ◌∙◌, ap, sym, arith}
use Rattle.std.specs.Prelude.{slice_index}
use Rattle.pointer_share.specs.Outlines.{first_blue}
use Rattle.pointer_share.proofs.FirstSet.{found_here, goes_on, none_left}
use Rattle.pointer_share.proofs.outline.first_blue.Goals as goal

pub returns-then-is_set : goal.returns-then-is_set
returns-then-is_set c =
    ap (λ n. slice_index c.args.xor.now n) c.blue_place.ensures.value
    ∙ found_here c.args.wide c.args.xor.now c.args.mask.now c.pixels-count.result c.loop-k.k _ c.loop-k-test.true (sym c.is_set.ensures ∙ c.if-is_set.true) c.loop-k.invariant
    ∙ ap (λ n. first_blue c.args.wide c.args.xor.now c.args.mask.now n 0) c.pixels-count.ensures

pub loop-k-preserved : goal.loop-k-preserved
loop-k-preserved c =
    goes_on c.args.wide c.args.xor.now c.args.mask.now c.pixels-count.result c.loop-k.k _ c.loop-k-test.true (sym c.is_set.ensures ∙ c.if-is_set.false) c.loop-k.invariant

pub returns : goal.returns
returns c =
    let none : c.pixels-count.result - c.loop-k.k ≡ 0 = omega arith in
    none_left c.args.wide c.args.xor.now c.args.mask.now c.pixels-count.result c.loop-k.k _ none c.loop-k.invariant
    ∙ ap (λ n. first_blue c.args.wide c.args.xor.now c.args.mask.now n 0) c.pixels-count.ensures
