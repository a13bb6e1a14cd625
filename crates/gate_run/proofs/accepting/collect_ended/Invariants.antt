use Rattle.std.proofs.Common.{◌≡◌, map, All, vec_len, vec_capacity}
use Rattle.session_rules.specs.declared.entry.Entry.{Entry}
use Rattle.session_rules.specs.Journal.{Head}
use Rattle.grow_lock.specs.Passes.{LockModel}
use Rattle.gate_run.specs.Working.{IsWork}
use Rattle.gate_run.proofs.accepting.collect_ended.Given as goal

abbrev pub invariant-loop : goal.invariant-loop
invariant-loop g l = record {
  links : map (λ j. j.given.link.value) l.jobs.items ≡ map (λ j. j.given.link.value) l.fn.jobs.items;
  shares : map (λ j. j.given.pass.value.share) l.jobs.items ≡ map (λ j. j.given.pass.value.share) l.fn.jobs.items;
  work : (lock : LockModel Head Entry) → All (IsWork g.L.Link lock) l.fn.jobs.items → All (IsWork g.L.Link lock) l.jobs.items;
  len : vec_len l.jobs ≡ vec_len l.fn.jobs;
  capacity : vec_capacity l.jobs ≡ vec_capacity l.fn.jobs;
}
