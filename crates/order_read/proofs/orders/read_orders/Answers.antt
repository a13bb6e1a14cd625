use Rattle.std.proofs.Common.{length, arith}
use Rattle.std.proofs.lemmas.List.{take_all}
use Rattle.order_read.specs.Reading.{IsFront}
use Rattle.order_read.proofs.orders.read_orders.Goals as goal

pub returns-in-Ok-clause-read : goal.returns-in-Ok-clause-read
returns-in-Ok-clause-read c =
    let read = rw (c.new-cursor.ensures, c.new-out.ensures.items) at c.in-Ok.ensures.read in
    let whole : IsFront c.args.body.now c.args.body.now = take_all (length c.args.body.now) c.args.body.now (omega arith) in
    (read.0, read.2 c.args.body.now whole, read.1)
