use Rattle.std.proofs.Common.{arith}
use Rattle.std.proofs.lemmas.Grind.{common_steps}
use Rattle.wire_num.specs.Cursor.{rest}
use Rattle.wire_num.proofs.Steps.{end_is}
use Rattle.wire_num.proofs.cursor.Cursor.end.Goals as goal

pub returns-then-self : goal.returns-then-self
returns-then-self c = let read = end_is (rest c.args.self.now) in grind (arith, common_steps, read)
