use Rattle.std.proofs.Common.{arith}
use Rattle.std.proofs.lemmas.Grind.{common_steps}
use Rattle.wire_num.proofs.Bytes.{bytes_at_is}
use Rattle.wire_num.specs.Cursor.{rest}
use Rattle.wire_num.proofs.cursor.Cursor.bytes.Goals as goal

pub returns-then-left-n : goal.returns-then-left-n
returns-then-left-n c = let read = bytes_at_is c.args.n (rest c.args.self.now) in grind (arith, common_steps, read)

pub returns : goal.returns
returns c = let read = bytes_at_is c.args.n (rest c.args.self.now) in grind (arith, common_steps, read)
