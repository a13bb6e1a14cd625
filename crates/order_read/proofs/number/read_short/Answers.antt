use Rattle.std.proofs.Common.{◌≡◌, pos, ap, ◌∙◌, sym, rules, to_z, w64}
use Rattle.std.specs.Prelude.{Ok}
use Rattle.std.proofs.lemmas.Int.{to_z_pos}
use Rattle.wire_num.specs.Cursor.{rest}
use Rattle.wire_num.specs.Field.{map_read}
use Rattle.order_read.proofs.NumberBytes.{short_below}
use Rattle.order_read.proofs.number.read_short.Goals as goal

pub overflow_cast-result : goal.overflow_cast-result
overflow_cast-result c =
    let below = short_below c.args.size c.in_ok-number.number c.requires (rw c.from.ensures at c.in_ok-number.ensures.fits) in
    search rules

pub returns-clause-read : goal.returns-clause-read
returns-clause-read c =
    let below = short_below c.args.size c.in_ok-number.number c.requires (rw c.from.ensures at c.in_ok-number.ensures.fits) in
    let same : to_z w64 c.in_ok-number.number ≡ pos c.in_ok-number.number = to_z_pos w64 c.in_ok-number.number below in
    let read = rw c.from.ensures at c.in_ok-number.ensures.read.0 in
    (ap (map_read pos) read ∙ ap (λ z. Ok (z, rest c.read_number.new.cursor)) (sym same), c.in_ok-number.ensures.read.1)

pub returns-clause-fits : goal.returns-clause-fits
returns-clause-fits c =
    let below = short_below c.args.size c.in_ok-number.number c.requires (rw c.from.ensures at c.in_ok-number.ensures.fits) in
    let same : to_z w64 c.in_ok-number.number ≡ pos c.in_ok-number.number = to_z_pos w64 c.in_ok-number.number below in
    rw same (rw c.from.ensures at c.in_ok-number.ensures.fits)
