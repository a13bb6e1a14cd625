-- An operand that the code doesn't need is left out.
use Rattle.std.proofs.Common.{get_or, sym}
use Rattle.lane_rop.proofs.SumLaws.{without_pattern, without_source, without_both}
use Rattle.lane_rop.proofs.LaneFacts.{made_alike}
use Rattle.lane_rop.proofs.rows.mix_blocks.Goals as goal

pub returns-in-true-false-clause-mixed : goal.returns-in-true-false-clause-mixed
returns-in-true-false-clause-mixed c =
    let sums = c.args.sums.now in
    made_alike _ _ 0 c.two_blocks.result c.args.d.now c.two_blocks.new.d
    (λ k. without_source sums.code sums.low sums.high sums.of_code (sym c.in-true-false.ensures'.bits) (get_or c.args.p.now k 0) (get_or c.args.s.now k 0) (get_or c.args.d.now k 0))
    c.two_blocks.ensures.made

pub returns-in-false-true-clause-mixed : goal.returns-in-false-true-clause-mixed
returns-in-false-true-clause-mixed c =
    let sums = c.args.sums.now in
    made_alike _ _ 0 c.two_blocks-in-false-true.result c.args.d.now c.two_blocks-in-false-true.new.d
    (λ k. without_pattern sums.code sums.low sums.high sums.of_code (sym c.in-false-true.ensures.bits) (get_or c.args.p.now k 0) (get_or c.args.s.now k 0) (get_or c.args.d.now k 0))
    c.two_blocks-in-false-true.ensures.made

pub returns-in-false-false-clause-mixed : goal.returns-in-false-false-clause-mixed
returns-in-false-false-clause-mixed c =
    let sums = c.args.sums.now in
    made_alike _ _ 0 c.one_blocks.result c.args.d.now c.one_blocks.new.d
    (λ k. without_both sums.code sums.low sums.high sums.of_code (sym c.in-false-false.ensures.bits) (sym c.in-false-false.ensures'.bits) (get_or c.args.p.now k 0) (get_or c.args.s.now k 0) (get_or c.args.d.now k 0))
    c.one_blocks.ensures.made
