use Rattle.std.proofs.Common.{rules, ap, ◌∙◌, ◌∷◌, Some}
use Rattle.grow_lock.specs.Boxed.{boxed}
use Rattle.grow_lock.proofs.Turning.{takes_turn}
use Rattle.grow_lock.proofs.lock.GrowLock.enter.Goals as goal

pub loop-init : goal.loop-init
loop-init g c = (c.pass.view_is, c.pass.invariant.0)

pub compare_exchange-requires : goal.compare_exchange-requires
compare_exchange-requires g c = (
  search rules,
  search rules,
  takes_turn (boxed g.T.Grows.head) (boxed g.T.Grows.list) _ _ _ _ _ _ (ap (λ p. p.head) c.loop.invariant.0 ∙ c.requires.1) c.loop.invariant.1,
)

pub begin-requires-clause-taken : goal.begin-requires-clause-taken
begin-requires-clause-taken g c = let taken = c.compare_exchange.ensures.2.0 (search rules) in (taken.0, taken.2 ∙ ap (λ l. (0, Some taken.0) ∷ l) c.loop.invariant.1, ap (λ v. v.stage) taken.1)

pub loop-preserved : goal.loop-preserved
loop-preserved g c = search rules
