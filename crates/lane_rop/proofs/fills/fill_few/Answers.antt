use Rattle.std.proofs.Common.{◌-◌, length, replicate, refl, arith}
use Rattle.std.proofs.lemmas.Simd.{get_or-replicate}
use Rattle.lane_rop.proofs.LaneFacts.{both_ends}
use Rattle.lane_rop.proofs.fills.fill_few.Goals as goal

pub returns-then-row-ge8 : goal.returns-then-row-ge8
returns-then-row-ge8 c = let row = c.args.row.now in let color = c.args.color in let last = length row - 8 in
    both_ends (λ k. color) row (replicate 8 color) (replicate 8 color) 8 last refl refl (omega (arith, c.if-row-ge8.true)) (omega (arith, c.requires)) (λ k l. get_or-replicate 8 k color 0 l) (λ k l. get_or-replicate 8 k color 0 l)

pub returns-then-row-ge4 : goal.returns-then-row-ge4
returns-then-row-ge4 c = let row = c.args.row.now in let color = c.args.color in let last = length row - 4 in
    both_ends (λ k. color) row (replicate 4 color) (replicate 4 color) 4 last refl refl (omega (arith, c.if-row-ge4.true)) (omega (arith, c.if-row-ge8.false)) (λ k l. get_or-replicate 4 k color 0 l) (λ k l. get_or-replicate 4 k color 0 l)
