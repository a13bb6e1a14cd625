use Rattle.std.proofs.Common.{arith}
use Rattle.std.proofs.lemmas.Grind.{common_steps}
use Rattle.wire_num.specs.Cursor.{rest}
use Rattle.order_read.proofs.NumberBytes.{counted}
use Rattle.order_read.proofs.ValuesRead.{counted_there, counted_missing}
use Rattle.order_read.proofs.fields.read_counted.Goals as goal

pub returns-in-Ok-clause-read : goal.returns-in-Ok-clause-read
returns-in-Ok-clause-read c =
    let e = counted_there _ _ _ _ _ c.in_ok-count.ensures.0 (rw c.from.ensures at c.in-Ok.ensures.0) in
    grind (arith, common_steps, e)

pub returns-in-Ok-clause-fits : goal.returns-in-Ok-clause-fits
returns-in-Ok-clause-fits c =
    let e = counted c.from.result (rest c.read_byte.new.cursor) c.in-Ok.bytes.now (rest c.bytes.new.self) c.in-Ok.ensures.0 in
    grind (arith, common_steps, e)

pub returns-in-Err-clause-read : goal.returns-in-Err-clause-read
returns-in-Err-clause-read c =
    let e = counted_missing _ _ _ c.in_ok-count.ensures.0 (rw c.from.ensures at c.in-Err.ensures.0) in
    grind (arith, common_steps, e)
