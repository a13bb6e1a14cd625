use Rattle.std.proofs.Common.{◌≡◌, ◌∙◌, rules, to_z, of_z, w64}
use Rattle.order_read.proofs.NumberBytes.{signed_read}
use Rattle.order_read.proofs.number.read_signed.Goals as goal

pub returns-clause-read : goal.returns-clause-read
returns-clause-read c =
    let same : to_z w64 (of_z w64 c.signed_number.result) ≡ c.signed_number.result = search rules in
    (signed_read c.args.size _ c.in_ok-bytes.field-0.now _ (to_z w64 (of_z w64 c.signed_number.result)) c.in_ok-bytes.ensures.0 (same ∙ c.signed_number.ensures.value), c.in_ok-bytes.ensures.1)
