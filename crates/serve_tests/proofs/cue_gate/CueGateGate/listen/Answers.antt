use Rattle.std.proofs.Common.{length, arith, ap}
use Rattle.serve_tests.proofs.Links.{how_many}
use Rattle.serve_tests.proofs.cue_gate.CueGateGate.listen.Goals as goal

pub returns-clause-order : goal.returns-clause-order
returns-clause-order c =
    omega (arith, how_many c.self.inside.given, c.self.invariant.0, ap (λ v. length v.finished) c.self.view_is, ap (λ v. length v.given) c.self.view_is)
