use Rattle.std.proofs.Common.{◌≡◌, ◌∙◌, ap, length, rules, to_z, of_z, w64}
use Rattle.byteorder.specs.Endian.{twos_complement}
use Rattle.wire_num.proofs.Numbers.{little_number_is}
use Rattle.order_read.proofs.number.signed_number.Goals as goal

pub returns-clause-value : goal.returns-clause-value
returns-clause-value c =
    let same : to_z w64 (of_z w64 c.read_int.result) ≡ c.read_int.result = search rules in
    same ∙ c.read_int.ensures ∙ ap (λ x. twos_complement (length c.args.bytes.now) x) (little_number_is c.args.bytes.now)
