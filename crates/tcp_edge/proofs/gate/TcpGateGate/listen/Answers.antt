use Rattle.std.proofs.Common.{length, arith, ap}
use Rattle.tcp_edge.proofs.Fresh.{how_many}
use Rattle.tcp_edge.proofs.gate.TcpGateGate.listen.Goals as goal

pub returns-in-Ok-clause-order : goal.returns-in-Ok-clause-order
returns-in-Ok-clause-order g c =
    omega (arith, how_many c.self.inside.given, c.self.invariant.1, ap (λ v. length v.finished) c.self.view_is, ap (λ v. length v.given) c.self.view_is)

pub returns-in-Err-clause-order : goal.returns-in-Err-clause-order
returns-in-Err-clause-order g c =
    omega (arith, how_many c.self.inside.given, c.self.invariant.1, ap (λ v. length v.finished) c.self.view_is, ap (λ v. length v.given) c.self.view_is)
