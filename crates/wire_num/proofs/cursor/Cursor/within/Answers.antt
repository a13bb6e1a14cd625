use Rattle.std.proofs.Common.{arith, rules}
use Rattle.std.proofs.lemmas.Grind.{common_steps}
use Rattle.std.proofs.lemmas.List.{drop-take}
use Rattle.wire_num.proofs.Bytes.{bytes_at_is}
use Rattle.wire_num.specs.Cursor.{rest}
use Rattle.wire_num.proofs.cursor.Cursor.within.Goals as goal

pub returns-clause-field : goal.returns-clause-field
returns-clause-field c =
    let inside = drop-take c.self.inside.at c.args.n c.self.inside.bytes.now in
    let read = bytes_at_is c.args.n (rest c.args.self.now) in
    grind (arith, common_steps, inside, read)

pub returns-then-self-n-clause-field : goal.returns-then-self-n-clause-field
returns-then-self-n-clause-field c = let read = bytes_at_is c.args.n (rest c.args.self.now) in grind (arith, common_steps, read)

pub returns-clause-offsets : goal.returns-clause-offsets
returns-clause-offsets c = search rules
