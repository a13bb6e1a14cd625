-- A block in the way moves on past positions that aren't free; at the end none is.
use Rattle.std.proofs.Common.{◌<◌, ◌≤◌, ⊎_elim, arith}
use Rattle.std.proofs.lemmas.Bool.{cases_lt}
use Rattle.save_plan.proofs.room.least_free.Goals as goal

pub loop-from-preserved : goal.loop-from-preserved
loop-from-preserved c = let way = c.in-Some.ensures in (
  way.1,
  λ before high free. ⊎_elim
      (λ (earlier : before < c.loop-from.from). c.loop-from.invariant.1 before earlier free)
      (λ (later : c.loop-from.from ≤ before). way.2 before later high free)
      (cases_lt before c.loop-from.from),
)

pub returns : goal.returns
returns c = λ from free. ⊎_elim
    (λ (earlier : from < c.loop-from.from). c.loop-from.invariant.1 from earlier free)
    (λ (later : c.loop-from.from ≤ from). let there = free.there in absurd (omega (arith, there, later, c.loop-from-test.false)))
    (cases_lt from c.loop-from.from)
