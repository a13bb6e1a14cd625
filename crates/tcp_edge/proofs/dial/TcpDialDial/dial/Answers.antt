use Rattle.std.proofs.Common.{length, arith, ap, add-one}
use Rattle.tcp_edge.proofs.Fresh.{one_more, how_many}
use Rattle.tcp_edge.proofs.dial.TcpDialDial.dial.Goals as goal

pub returns-in-Some-clause-given : goal.returns-in-Some-clause-given
returns-in-Some-clause-given g c = rw (← c.self.view_is, c.in-Some.ensures, add-one) (one_more c.self.inside.given)

pub returns-in-Some-clause-order : goal.returns-in-Some-clause-order
returns-in-Some-clause-order g c =
    omega (arith, how_many c.self.inside.given, c.self.invariant.1, ap (λ v. length v.finished) c.self.view_is, ap (λ v. length v.given) c.self.view_is)

pub returns-clause-order : goal.returns-clause-order
returns-clause-order g c =
    omega (arith, how_many c.self.inside.given, c.self.invariant.1, ap (λ v. length v.finished) c.self.view_is, ap (λ v. length v.given) c.self.view_is)
