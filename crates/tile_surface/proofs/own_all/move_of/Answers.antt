use Rattle.std.proofs.Common.{◌≡◌, ◌+◌, ℕ, List, get_or, drop, ap, arith}
use Rattle.std.proofs.lemmas.List.{drop_more, drop_all}
use Rattle.tile_surface.specs.Later.{moved_by}
use Rattle.tile_surface.proofs.own_all.move_of.Goals as goal

pub loop-pair-preserved : goal.loop-pair-preserved
loop-pair-preserved c =
    let run = c.args.run.now in let i = c.loop-pair.pair-index in
    let p = get_or run i (0, 0) in
    let more : moved_by (drop i run) ≡ p.1 + moved_by (drop (i + 1) run) = ap (λ (xs : List (ℕ × ℕ)). moved_by xs) (drop_more run i (0, 0) (omega arith)) in
    record {
      left = omega (arith, more, c.loop-pair.invariant.left, c.from-moved.ensures);
      far = omega (arith, c.loop-pair.invariant.far);
    }

pub returns-clause-moved : goal.returns-clause-moved
returns-clause-moved c =
    let run = c.args.run.now in let i = c.loop-pair.pair-index in
    let end : moved_by (drop i run) ≡ 0 = ap (λ (xs : List (ℕ × ℕ)). moved_by xs) (drop_all i run (omega arith)) in
    omega (arith, end, c.loop-pair.invariant.left)
