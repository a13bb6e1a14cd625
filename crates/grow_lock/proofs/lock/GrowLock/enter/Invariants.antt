use Rattle.std.proofs.Common.{◌≡◌, []}
use Rattle.grow_lock.specs.Passes.{pass_of}
use Rattle.grow_lock.proofs.lock.GrowLock.enter.Given as goal

-- until it is in turn, the seat is as the pass had it
abbrev pub invariant-loop : goal.invariant-loop
invariant-loop g l = (pass_of l.seat.table_id l.seat.me.0 ≡ l.fn.pass) × (l.seat.me.1 ≡ [])
