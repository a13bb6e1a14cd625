use Rattle.std.proofs.Common.{ℕ, ◌+◌, ◌-◌, ◌≤◌, length, replicate, refl, arith}
use Rattle.std.proofs.lemmas.Simd.{get_or-replicate, length-put_chunk}
use Rattle.lane_rop.specs.Lanes.{HasLanes}
use Rattle.lane_rop.proofs.LaneFacts.{more_lanes}
use Rattle.lane_rop.proofs.fills.fill_blocks.Goals as goal

splat : (color : ℕ) → HasLanes (replicate 16 color) (λ k. color)
splat color = record { long = refl; each = λ k l. get_or-replicate 16 k color 0 l }

pub loop-at-preserved : goal.loop-at-preserved
loop-at-preserved c = let at = c.loop-at.at in let row = c.loop-at.row in
    let room : at + 16 ≤ length row = omega (arith, c.loop-at-test.true, c.loop-at.auto.row, c.requires) in
    record {
      made = more_lanes (λ k. c.args.color) row (replicate 16 c.args.color) at room c.loop-at.invariant.made (splat c.args.color);
      within = omega (arith, c.loop-at-test.true, c.loop-at.auto.row, c.requires, length-put_chunk at row (replicate 16 c.args.color));
    }

pub returns : goal.returns
returns c = let row = c.loop-at.row in let last = length c.args.row.now - 16 in
    let room : last + 16 ≤ length row = omega (arith, c.loop-at.auto.row, c.requires) in
    λ k below. more_lanes (λ k. c.args.color) row (replicate 16 c.args.color) last room (λ j less. c.loop-at.invariant.made j (omega (arith, less, c.loop-at-test.false)))
    (splat c.args.color) k (omega (arith, below, c.requires))
