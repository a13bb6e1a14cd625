use Rattle.std.proofs.Common.{◌≡◌, take, arith, rules}
use Rattle.std.proofs.lemmas.Grind.{common_steps}
use Rattle.byteorder.proofs.Bytes.{take-bytes_low_first}
use Rattle.byteorder.specs.Endian.{little_bytes}
use Rattle.order_fields.proofs.tail.Tail.put_low.Goals as goal

pub returns-in_default : goal.returns-in_default
returns-in_default c =
    let same : take c.args.size (little_bytes 8 c.args.number) ≡ little_bytes c.args.size c.args.number =
    take-bytes_low_first 0 8 c.args.size c.args.number c.requires.size in
    grind (arith, common_steps, same)

pub returns-in-2 : goal.returns-in-2
returns-in-2 c = search rules
