use Rattle.std.proofs.Common.{◌≡◌}
use Rattle.gate_run.proofs.jobs.wait_for_threads.Given as goal

abbrev pub invariant-loop : goal.invariant-loop
invariant-loop g l = record {
  given : g.G.Gate.given l.gate ≡ g.G.Gate.given l.fn.gate;
  finished : g.G.Gate.finished l.gate ≡ g.G.Gate.finished l.fn.gate;
  asked : g.G.Gate.asked l.gate ≡ g.G.Gate.asked l.fn.gate;
  ended : g.G.Gate.ended l.gate ≡ g.G.Gate.ended l.fn.gate;
  faults : g.G.Gate.faults l.gate ≡ g.G.Gate.faults l.fn.gate;
}
