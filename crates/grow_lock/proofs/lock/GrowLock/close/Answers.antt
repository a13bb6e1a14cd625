use Rattle.std.proofs.Common.{ap, sym, subst}
use Rattle.std.specs.Prelude.{box_value}
use Rattle.grow_lock.proofs.Turning.{HasAll, closes_with}
use Rattle.grow_lock.proofs.lock.GrowLock.close.Goals as goal

pub returns-clause-begins : goal.returns-clause-begins
returns-clause-begins g c = let last = c.close_with.ensures.values.2 in let entered = c.enter.ensures in
    (subst (λ v. HasAll (g.T.Grows.list v) c.args.self.first c.args.pass.mine) (sym c.into_inner.ensures)
    (closes_with g.T.Grows.head g.T.Grows.list _ _ last.0 c.value.inside.seat.id c.value.inside.seat.me.0 c.enter.result c.args.pass c.value.inside.seat.table_id (box_value c.value.inside.value) c.args.self.first last.1
    c.value.invariant.1 c.value.view_is entered.list.0 entered.share entered.mine c.requires.whole (ap (λ l. l.first) c.self.view_is))).0

pub returns-clause-all : goal.returns-clause-all
returns-clause-all g c = let last = c.close_with.ensures.values.2 in let entered = c.enter.ensures in
    (subst (λ v. HasAll (g.T.Grows.list v) c.args.self.first c.args.pass.mine) (sym c.into_inner.ensures)
    (closes_with g.T.Grows.head g.T.Grows.list _ _ last.0 c.value.inside.seat.id c.value.inside.seat.me.0 c.enter.result c.args.pass c.value.inside.seat.table_id (box_value c.value.inside.value) c.args.self.first last.1
    c.value.invariant.1 c.value.view_is entered.list.0 entered.share entered.mine c.requires.whole (ap (λ l. l.first) c.self.view_is))).1
