use Rattle.std.proofs.Common.{◌≡◌, ◌<◌, ◌+◌, List, [], ◌∷◌, ◌++◌, take, length, sym, subst, ap, ◌∙◌, arith}
use Rattle.std.proofs.lemmas.List.{take_all, take_more}
use Rattle.draw_ops.specs.declared.shape.Drawing.{Drawing}
use Rattle.tile_surface.specs.Later.{OwnsEach}
use Rattle.tile_surface.proofs.Later.{each_more, each_still}
use Rattle.tile_surface.proofs.Owning.{stays_twice}
use Rattle.tile_surface.proofs.own_all.own_each.Goals as goal

pub loop-d-preserved : goal.loop-d-preserved
loop-d-preserved c = let ds = c.args.ds.now in let i = c.loop-d.d-index in let d = c.d-item.result in let size = c.args.size in
    let old = c.args.cells.now in let cur = c.loop-d.cells in let next = c.own_later.new.cells in
    let inside : i < length ds = omega arith in
    let front : take i ds ++ d ∷ [] ≡ take (i + 1) ds = ap (λ (x : Drawing). take i ds ++ x ∷ []) c.d-item.is ∙ sym (take_more ds i d inside) in
    record {
      same = c.in_ok-own_later.ensures.same ∙ c.loop-d.invariant.same;
      stays = stays_twice old cur next c.loop-d.invariant.stays c.in_ok-own_later.ensures.stays;
      own = subst (λ (xs : List Drawing). OwnsEach size next xs) front
          (each_more size next (take i ds) d (each_still size cur next c.in_ok-own_later.ensures.stays (take i ds) c.loop-d.invariant.own) c.in_ok-own_later.ensures.own);
    }

pub returns-clause-own : goal.returns-clause-own
returns-clause-own c = let ds = c.args.ds.now in
    subst (λ (xs : List Drawing). OwnsEach c.args.size c.loop-d.cells xs) (take_all c.loop-d.d-index ds (omega arith)) c.loop-d.invariant.own
