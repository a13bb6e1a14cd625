use Rattle.std.proofs.Common.{◌≡◌, ◌++◌, ◌+◌, ◌≤◌, List, length, map, All, vec_len, vec_capacity}
use Rattle.grow_lock.specs.Passes.{IsPassOf}
use Rattle.grow_lock.specs.Shares.{Share}
use Rattle.gate_run.specs.Working.{IsWork, IsDealtOut}
use Rattle.gate_run.proofs.Ending.{HasEnded}
use Rattle.gate_run.proofs.finishing.finish_all.Given as goal

abbrev pub invariant-loop-job : goal.invariant-loop-job
invariant-loop-job g l = record {
  passed : IsPassOf l.lock l.pass;
  ended : (given : List g.row.G-Link.Denot) × (map (λ j. j.given.link.value) l.fn.jobs.items ≡ given ++ map (λ j. j.given.link.value) l.jobs.items)
      × HasEnded g.G.Link.Link l.lock.head l.lock.first l.pass given l.reports.items (g.G.Gate.finished l.fn.gate) (g.G.Gate.finished l.gate);
  share : (share : Share) → IsDealtOut share l.fn.pass.share (map (λ j. j.given.pass.value.share) l.fn.jobs.items)
      → IsDealtOut share l.pass.share (map (λ j. j.given.pass.value.share) l.jobs.items);
  work : All (IsWork g.G.Link.Link l.lock) l.jobs.items;
  fewer : length (g.G.Gate.finished l.gate) + length l.jobs.items ≤ length (g.G.Gate.given l.gate);
  room : vec_len l.reports + length l.jobs.items ≤ vec_capacity l.reports;
  given : g.G.Gate.given l.gate ≡ g.G.Gate.given l.fn.gate;
  asked : g.G.Gate.asked l.gate ≡ g.G.Gate.asked l.fn.gate;
  closed : g.G.Gate.ended l.gate ≡ g.G.Gate.ended l.fn.gate;
  faults : g.G.Gate.faults l.gate ≡ g.G.Gate.faults l.fn.gate;
}

abbrev pub decreases-loop-job : goal.decreases-loop-job
decreases-loop-job g l = length l.jobs.items
