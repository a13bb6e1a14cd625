use Rattle.std.proofs.Common.{◌≡◌, ◌≤◌, map, All, vec_len, vec_capacity}
use Rattle.grow_lock.specs.Passes.{IsPassOf}
use Rattle.gate_run.specs.Working.{IsWork, IsDealtOut}
use Rattle.gate_run.proofs.accepting.accept_all.Given as goal

abbrev pub invariant-loop : goal.invariant-loop
invariant-loop g l = record {
  of_lock : IsPassOf l.lock l.pass;
  passed : l.pass ≡ record l.fn.pass { share = l.pass.share };
  dealt : IsDealtOut l.fn.pass.share l.pass.share (map (λ j. j.given.pass.value.share) l.jobs.items);
  made : vec_len l.jobs ≡ l.counter;
  few : vec_len l.jobs ≤ l.links;
  room : l.links ≤ vec_capacity l.jobs;
  given : g.G.Gate.given l.gate ≡ map (λ j. j.given.link.value) l.jobs.items;
  work : All (IsWork g.G.Link.Link l.lock) l.jobs.items;
  finished : g.G.Gate.finished l.gate ≡ g.G.Gate.finished l.fn.gate;
  asked : g.G.Gate.asked l.gate ≡ g.G.Gate.asked l.fn.gate;
  ended : g.G.Gate.ended l.gate ≡ g.G.Gate.ended l.fn.gate;
  faults : g.G.Gate.faults l.gate ≡ g.G.Gate.faults l.fn.gate;
}
