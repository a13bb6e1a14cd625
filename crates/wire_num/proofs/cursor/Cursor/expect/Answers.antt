use Rattle.std.proofs.Common.{arith, rules}
use Rattle.std.proofs.lemmas.Grind.{common_steps}
use Rattle.wire_num.proofs.Bytes.{wanted_is}
use Rattle.wire_num.specs.Cursor.{rest}
use Rattle.wire_num.proofs.cursor.Cursor.expect.Goals as goal

pub returns-then-not-starts_with : goal.returns-then-not-starts_with
returns-then-not-starts_with c = let read = wanted_is c.args.wanted.now (rest c.args.self.now) in grind (arith, common_steps, read)

pub returns : goal.returns
returns c = let read = wanted_is c.args.wanted.now (rest c.args.self.now) in grind (arith, common_steps, read)

pub invariant_of-self : goal.invariant_of-self
invariant_of-self c = search rules
