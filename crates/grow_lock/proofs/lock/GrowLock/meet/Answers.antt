use Rattle.std.proofs.Common.{rules, ap, ◌∙◌, subst, List, ℕ, ◌++◌}
use Rattle.grow_lock.specs.Boxed.{boxed}
use Rattle.grow_lock.specs.Journal.{IsDisjoint}
use Rattle.grow_lock.specs.Notes.{is_in_turn}
use Rattle.grow_lock.specs.Steps.{IsJoinSound}
use Rattle.grow_lock.proofs.Passing.{joins, reads_joined}
use Rattle.grow_lock.proofs.lock.GrowLock.meet.Goals as goal

pub join_seat-requires : goal.join_seat-requires
join_seat-requires g c = (
  search rules,
  search rules,
  search rules,
  search rules,
  joins (boxed g.T.Grows.head) (boxed g.T.Grows.list) _ _ _ _ _ _ _ _ (ap (λ p. p.head) c.into.view_is ∙ c.requires.into.1) (ap (λ p. p.head) c.from.view_is ∙ c.requires.from.1)
      (ap is_in_turn c.into.invariant.1) (ap is_in_turn c.from.invariant.1),
)

pub load-requires : goal.load-requires
load-requires g c = let joined = c.join_seat.ensures.2 in (
  search rules,
  search rules,
  reads_joined (boxed g.T.Grows.head) (boxed g.T.Grows.list) _ _ _ _ _ _ (ap (λ m. m.0.head) joined ∙ ap (λ p. p.head) c.into.view_is ∙ c.requires.into.1) (ap (λ m. is_in_turn m.0.stage) joined),
)

pub returns-clause-mine : goal.returns-clause-mine
returns-clause-mine g c = let joined = c.join_seat.ensures.2 in let sound = subst IsJoinSound (ap (λ m. m.0.stage) joined) c.load.ensures.2.2 in (
  ap (λ v. v.mine) c.load.ensures.2.0 ∙ ap (λ m. m.0.mine) joined ∙ (λ i. (c.into.view_is i).mine ++ (c.from.view_is i).mine),
  subst (λ (z : List ℕ × List ℕ). IsDisjoint z.0 z.1) (λ i. ((c.into.view_is i).mine, (c.from.view_is i).mine)) sound.2,
)

pub invariant_of-result : goal.invariant_of-result
invariant_of-result g c = search rules

pub returns-clause-seen : goal.returns-clause-seen
returns-clause-seen g c = search rules

pub returns-clause-found : goal.returns-clause-found
returns-clause-found g c = search rules
