use Rattle.std.proofs.Common.{◌≡◌, ◌∙◌, ap, true}
use Rattle.update_read.specs.Cutters.{begins_with}
use Rattle.update_read.proofs.WholePieces.{first_stays}
use Rattle.update_read.proofs.cutter.Cutter.whole.Goals as goal

pub returns-then-takes-clause-whole : goal.returns-then-takes-clause-whole
returns-then-takes-clause-whole c = λ some.
    record {
      between = c.takes.ensures.between c.if-takes.true;
      begins = ap (begins_with c.args.self.now.fast) (first_stays c.whole_size.result c.args.bytes.now some) ∙ c.takes.ensures.begins c.if-takes.true;
      whole = c.whole_size.ensures.whole some;
    }
