use Rattle.std.proofs.Common.{sym, arith}
use Rattle.wire_num.proofs.Bytes.{taken_few, taken_split}
use Rattle.rle_dec.proofs.reads.read_bytes.Goals as goal

pub returns-in-Some : goal.returns-in-Some
returns-in-Some c =
    taken_split c.args.n c.args.stream.now c.in-Some.field.now c.in-Some.rest.now c.in-Some.ensures.cases.0 c.in-Some.ensures.cases.1 c.in-Some.ensures.cases.2

pub returns-in-None : goal.returns-in-None
returns-in-None c = sym (taken_few c.args.n c.args.stream.now c.args.stream.now (omega (arith, c.in-None.ensures.cases)))
