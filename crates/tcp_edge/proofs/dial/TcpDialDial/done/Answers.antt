use Rattle.std.proofs.Common.{length, arith, ap}
use Rattle.tcp_edge.proofs.Fresh.{how_many}
use Rattle.tcp_edge.proofs.dial.TcpDialDial.done.Goals as goal

pub push_reserved-requires : goal.push_reserved-requires
push_reserved-requires g c = omega (arith, c.requires, how_many c.self.inside.given, c.self.invariant.0, ap (λ v. length v.finished) c.self.view_is, ap (λ v. length v.given) c.self.view_is)

pub invariant_of-self : goal.invariant_of-self
invariant_of-self g c = (
  omega (arith, c.self.invariant.0, c.push_reserved.ensures.capacity),
  omega (arith, c.push_reserved.ensures.len, c.requires, how_many c.self.inside.given, ap (λ v. length v.finished) c.self.view_is, ap (λ v. length v.given) c.self.view_is),
)
