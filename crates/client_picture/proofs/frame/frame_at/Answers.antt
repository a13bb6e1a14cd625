use Rattle.std.proofs.Common.{arith}
use Rattle.std.proofs.lemmas.Int.{ints}
use Rattle.client_picture.proofs.frame.frame_at.Goals as goal

pub returns : goal.returns
returns c = record {
  seen = record {
    left = record { low = c.edge.ensures.low; before = λ lt. omega (arith, ints, c.edge.ensures.before lt); behind = λ lt. omega (arith, ints, c.edge.ensures.behind lt) };
    right = record { low = c.edge-3.ensures.low; before = λ lt. omega (arith, ints, c.from.ensures, c.edge-3.ensures.before lt); behind = λ lt. omega (arith, ints, c.from.ensures, c.edge-3.ensures.behind lt) };
    top = record { low = c.edge-2.ensures.low; before = λ lt. omega (arith, ints, c.edge-2.ensures.before lt); behind = λ lt. omega (arith, ints, c.edge-2.ensures.behind lt) };
    bottom = record { low = c.edge-4.ensures.low; before = λ lt. omega (arith, ints, c.from-2.ensures, c.edge-4.ensures.before lt); behind = λ lt. omega (arith, ints, c.from-2.ensures, c.edge-4.ensures.behind lt) };
  };
}
