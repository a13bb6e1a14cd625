use Rattle.std.proofs.lemmas.Result.{on_ok_weaker}
use Rattle.tile_surface.proofs.Later.{all_owned}
use Rattle.tile_surface.proofs.own_all.own_all.Goals as goal

pub returns-in_ok-own_shape-in-Some-clause-own : goal.returns-in_ok-own_shape-in-Some-clause-own
returns-in_ok-own_shape-in-Some-clause-own c = let size = c.args.size in let held = c.args.slots.now in let ds = c.args.ds.now in let old = c.own_shape.new.cells in let new = c.own_each.new.cells in
    on_ok_weaker c.own_each.result (λ each. all_owned size old new c.own_each.ensures.stays held ds c.in-Some.later.now c.in-Some.first.now c.in-Some.ensures.cases.0 c.in_ok-own_shape-in-Some.ensures.own each)
    c.own_each.ensures.own
