use Rattle.std.proofs.Common.{rules, ap, ◌∙◌}
use Rattle.grow_lock.specs.Boxed.{boxed}
use Rattle.grow_lock.proofs.Passing.{splits}
use Rattle.grow_lock.proofs.lock.GrowLock.split.Goals as goal

pub split_seat-seat-requires : goal.split_seat-seat-requires
split_seat-seat-requires g c = (search rules, search rules, splits (boxed g.T.Grows.head) (boxed g.T.Grows.list) _ _ _ _ _ (ap (λ p. p.head) c.pass.view_is ∙ c.requires.1))
