use Rattle.std.proofs.Common.{◌≡◌, ◌∙◌, ap, sym, Ok, Err}
use Rattle.wire_num.specs.Cursor.{CursorOf, rest}
use Rattle.wire_num.specs.declared.short.Short.{Short}
use Rattle.update_read.proofs.Contents.{total_from, went_back}
use Rattle.update_read.proofs.share.read_total.Goals as goal

pub returns-in-Ok-clause-field : goal.returns-in-Ok-clause-field
returns-in-Ok-clause-field c =
    let fit = rw (c.from-total.ensures, c.left-left.ensures) at (sym c.fits.ensures.test ∙ c.if-not-fits.false) in
    let field = rw c.from-total.ensures at c.in-Ok.ensures.field in (
      total_from c.in_ok-u16_le.field-0 (rest c.args.cursor.now) (rest c.u16_le.new.self) (Ok (rest c.in-Ok.content, rest c.within.new.self)) c.in_ok-u16_le.ensures.0 fit field.0,
      field.1 ∙ c.in_ok-u16_le.ensures.1,
    )

pub returns-in-Err-clause-field : goal.returns-in-Err-clause-field
returns-in-Err-clause-field c =
    let fit = rw (c.from-total.ensures, c.left-left.ensures) at (sym c.fits.ensures.test ∙ c.if-not-fits.false) in
    let field = rw c.from-total.ensures at c.in-Err.ensures.field in
    let old = c.args.cursor.now in
    let bytes : c.within.new.self.bytes ≡ old.bytes = ap (λ (k : CursorOf). k.bytes) field.1 ∙ c.in_ok-u16_le.ensures.1 in (
      total_from c.in_ok-u16_le.field-0 (rest old) (rest c.u16_le.new.self) (Err (rest c.u16_le.new.self)) c.in_ok-u16_le.ensures.0 fit field.0,
      went_back c.at-first.result old c.within.new.self c.refused-in-Err.new.cursor c.refused-in-Err.ensures.place bytes c.at-first.ensures.place,
      ap (λ (s : Short). s.at) c.refused-in-Err.ensures.refused ∙ c.at-first.ensures.place,
    )
