-- What a turn is once the value that it lent is back.
use Rattle.std.specs.Borrow.{Lends, MutBor, Fml, RattleType}
use Rattle.grow_lock.specs.Passes.{TurnModel}
use Rattle.grow_lock.specs.contracts.turn.Turn.{the_row}
use Rattle.grow_lock.specs.declared.grows.Grows as grows

module _ (T H E : RattleType) (g : grows.Ghosts T.Denot H.Denot E.Denot) where
  -- the turn with the value that was written last, and else as before
  abbrev pub LendsValue : MutBor (TurnModel T.Denot H.Denot E.Denot) → MutBor T.Denot → Fml
  LendsValue turn lent = Lends (the_row T H E g) T turn lent (λ value. record turn.now { value = value })
