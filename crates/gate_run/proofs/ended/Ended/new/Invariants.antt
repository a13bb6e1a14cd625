use Rattle.std.proofs.Common.{◌≡◌, ◌≤◌, vec_len, vec_capacity}
use Rattle.gate_run.proofs.ended.Ended.new.Given as goal

abbrev pub invariant-loop : goal.invariant-loop
invariant-loop l = record {
  made : vec_len l.behind ≡ l.counter;
  room : l.count ≤ vec_capacity l.behind;
}
