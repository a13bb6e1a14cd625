use Rattle.std.proofs.Common.{◌≡◌, ◌<◌, ◌∙◌, arith, rules, ap, to_z, of_z, w8, w64}
use Rattle.order_fields.specs.OrderTable.{fits_coordinate}
use Rattle.order_read.proofs.NumberBytes.{signed_byte_is, signed_byte_fits}
use Rattle.order_read.proofs.number.signed_byte.Goals as goal

pub returns-clause-value : goal.returns-clause-value
returns-clause-value c =
    let below : c.args.byte < 256 = omega arith in
    let wide : to_z w64 (of_z w64 c.from.result) ≡ c.from.result = search rules in
    let short : to_z w8 (of_z w8 c.cast_signed.result) ≡ c.cast_signed.result = search rules in
    wide ∙ c.from.ensures ∙ short ∙ c.cast_signed.ensures ∙ signed_byte_is c.args.byte below

pub returns-clause-fits : goal.returns-clause-fits
returns-clause-fits c =
    let below : c.args.byte < 256 = omega arith in
    let wide : to_z w64 (of_z w64 c.from.result) ≡ c.from.result = search rules in
    let short : to_z w8 (of_z w8 c.cast_signed.result) ≡ c.cast_signed.result = search rules in
    ap fits_coordinate (wide ∙ c.from.ensures ∙ short ∙ c.cast_signed.ensures ∙ signed_byte_is c.args.byte below) ∙ signed_byte_fits c.args.byte below
