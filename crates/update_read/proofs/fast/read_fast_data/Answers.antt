use Rattle.std.proofs.Common.{◌∙◌, ap, sym, List, ℕ}
use Rattle.std.specs.Prelude.{Ok}
use Rattle.wire_num.specs.Cursor.{rest}
use Rattle.update_read.specs.Forms.{told_form}
use Rattle.update_read.proofs.Tiles.{part_read}
use Rattle.update_read.proofs.Found.{data_read, place_behind}
use Rattle.update_read.proofs.fast.read_fast_data.Goals as goal

pub returns-clause-fields : goal.returns-clause-fields
returns-clause-fields c =
    let bytes = rw c.from.ensures at c.in_ok-bytes.ensures.0 in
    let whole = data_read (told_form c.args.form) (rest c.args.cursor.now) (rest c.u16_le.new.self) c.in_ok-count.count (Ok (c.in_ok-bytes.field-0.now, rest c.bytes.new.self)) c.in_ok-count.ensures.0 bytes in
    let part = part_read c.args.cursor.now.bytes c.in_ok-bytes.field-0.now c.u16_le.new.self c.bytes.new.self c.at-from.result c.at-to.result c.in_ok-count.count c.in_ok-count.ensures.1 c.in_ok-bytes.ensures.1
    c.at-from.ensures.place c.at-to.ensures.place c.at-from.ensures.inside c.at-to.ensures.inside bytes in
    (whole ∙ ap (λ (xs : List ℕ). Ok ((told_form c.args.form, xs), rest c.bytes.new.self)) (sym part), c.in_ok-bytes.ensures.1 ∙ c.in_ok-count.ensures.1)

pub returns-clause-place : goal.returns-clause-place
returns-clause-place c =
    let bytes = rw c.from.ensures at c.in_ok-bytes.ensures.0 in
    let first = rw c.at-from.ensures.place at c.at-from.ensures.inside in
    let last = rw c.at-to.ensures.place at c.at-to.ensures.inside in
    let le = place_behind c.in_ok-count.count c.in_ok-bytes.field-0.now c.u16_le.new.self c.bytes.new.self c.in_ok-bytes.ensures.1 first last bytes in
    (rw (c.at-from.ensures.place, c.at-to.ensures.place) le, c.at-to.ensures.place, c.at-to.ensures.place, last)
