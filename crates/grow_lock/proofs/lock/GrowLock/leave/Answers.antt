use Rattle.std.proofs.Common.{◌≡◌, ◌∷◌, rules, ap, sym, ◌∙◌, subst, length, Some}
use Rattle.atomic_table.specs.Table.{rest}
use Rattle.grow_lock.specs.Boxed.{boxed}
use Rattle.grow_lock.specs.Journal.{StartsWith}
use Rattle.grow_lock.proofs.Turning.{publishes, frees}
use Rattle.grow_lock.proofs.lock.GrowLock.leave.Goals as goal

pub store-requires : goal.store-requires
store-requires g c = let x = c.turn.inside.value in let notes = c.turn.inside.seat.me.0 in
    let home = c.exchange.ensures.3 ∙ ap (λ l. (notes, (0, Some x) ∷ rest l)) c.turn.invariant.0 in
    let grows = subst (λ t. StartsWith (g.T.Grows.list t.value) t.base) (sym c.turn.view_is) c.requires.list in
    (search rules, search rules, publishes (boxed g.T.Grows.head) (boxed g.T.Grows.list) _ _ _ _ _ _ notes x home c.turn.invariant.1 grows (c.ready-count.ensures ∙ ap (λ v. length (g.T.Grows.list v)) c.deref.ensures))

pub store-requires-2 : goal.store-requires-2
store-requires-2 g c = let x = c.turn.inside.value in let notes = c.turn.inside.seat.me.0 in
    let home = c.exchange.ensures.3 ∙ ap (λ l. (notes, (0, Some x) ∷ rest l)) c.turn.invariant.0 in
    let known = subst (λ t. t.pass.head ≡ Some (g.T.Grows.head t.value)) (sym c.turn.view_is) (c.requires.lock.1 ∙ ap Some (sym c.requires.head)) in
    (search rules, search rules, frees (boxed g.T.Grows.head) (boxed g.T.Grows.list) _ _ _ _ _ _ notes x home c.store.ensures.2 known)

pub invariant_of-result : goal.invariant_of-result
invariant_of-result c = search rules

pub returns-clause-seen : goal.returns-clause-seen
returns-clause-seen c = search rules

pub returns-clause-mine : goal.returns-clause-mine
returns-clause-mine c = search rules

pub returns-clause-share : goal.returns-clause-share
returns-clause-share c = search rules
