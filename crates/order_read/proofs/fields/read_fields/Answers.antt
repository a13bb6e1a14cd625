use Rattle.std.proofs.Common.{sym, ◌≡◌, ◌∙◌, [], true, false}
use Rattle.std.proofs.lemmas.Result.{err_from_is_err_and}
use Rattle.wire_num.specs.Cursor.{rest}
use Rattle.order_fields.specs.OrderTable.{row_of, last_values}
use Rattle.order_fields.specs.Kept.{is_row_counted}
use Rattle.order_read.proofs.KnownTypes.{known, fields_read, fields_refused, bytes_refused, is_list, few_bytes, no_bytes, none_fit, present, absent, uncounted}
use Rattle.order_read.proofs.fields.read_fields.Goals as goal
use Rattle.order_read.proofs.fields.read_fields.Goals.{then-left-eq1+in_ok-bytes, else-left-eq1}

pub read_values-requires-clause-count : goal.read_values-requires-clause-count
read_values-requires-clause-count c =
    let k = known c.args.kind c.args.regs.now c.requires.kind c.requires.sound in
    rw (c.requires.layout.kinds, c.requires.last) k.count

pub read_values-requires-clause-sized : goal.read_values-requires-clause-sized
read_values-requires-clause-sized c =
    let k = known c.args.kind c.args.regs.now c.requires.kind c.requires.sound in
    rw c.requires.layout.kinds k.short

pub read_values-requires-clause-fits : goal.read_values-requires-clause-fits
read_values-requires-clause-fits c =
    let k = known c.args.kind c.args.regs.now c.requires.kind c.requires.sound in
    rw (c.requires.layout.kinds, c.requires.last) k.fits

pub returns-in_err-left-clause-read : goal.returns-in_err-left-clause-read
returns-in_err-left-clause-read c =
    let p = err_from_is_err_and c.from_residual.result c.from_residual.ensures.1 in
    let read = c.in_err-left.ensures.read in
    rw (p.1, p.2) (fields_refused c.args.kind c.args.flags c.args.delta c.args.regs.now c.args.layout.kinds.now c.args.values.now _ _ c.requires.kind c.requires.layout.kinds c.requires.last read.0, read.1, read.2)

pub returns-then-not-layout-clause-read : goal.returns-then-not-layout-clause-read
returns-then-not-layout-clause-read c =
    let read = c.in_ok-left.ensures.read in
    let off : is_row_counted (row_of c.args.kind) ≡ false = sym c.requires.layout.counted ∙ c.if-not-layout.true in
    let k = known c.args.kind c.args.regs.now c.requires.kind c.requires.sound in
    let none : (last_values c.args.regs.now c.args.kind).bytes ≡ [] = no_bytes _ _ off k.bytes in
    let whole = fields_read c.args.kind c.args.flags c.in_ok-left.left c.args.delta c.args.regs.now c.args.layout.kinds.now c.args.values.now c.read_values.new.values _ _ _ _ c.requires.kind c.requires.layout.kinds c.requires.last read.0
    (uncounted (is_row_counted (row_of c.args.kind)) c.in_ok-left.left (last_values c.args.regs.now c.args.kind).bytes (rest c.read_values.new.cursor) off) in
    (rw (← none) whole, read.1)

pub returns-then-not-layout-clause-fits : goal.returns-then-not-layout-clause-fits
returns-then-not-layout-clause-fits c =
    let off : is_row_counted (row_of c.args.kind) ≡ false = sym c.requires.layout.counted ∙ c.if-not-layout.true in
    is_list c.args.kind c.read_values.new.values [] c.requires.kind (rw c.requires.layout.kinds at c.in_ok-left.ensures.fits) (none_fit _ off)

pub returns-in_err-bytes-clause-read : goal.returns-in_err-bytes-clause-read
returns-in_err-bytes-clause-read c =
    let p = err_from_is_err_and c.from_residual-in_err-bytes.result c.from_residual-in_err-bytes.ensures.1 in
    let read = c.in_ok-left.ensures.read in
    let on : is_row_counted (row_of c.args.kind) ≡ true = sym c.requires.layout.counted ∙ c.if-not-layout.false in
    let counted = c.in_err-bytes.ensures.read in
    let whole = bytes_refused c.args.kind c.args.flags c.in_ok-left.left c.args.delta c.args.regs.now c.args.layout.kinds.now c.args.values.now c.read_values.new.values _ _ _ c.requires.kind c.requires.layout.kinds c.requires.last read.0
    (present (is_row_counted (row_of c.args.kind)) c.in_ok-left.left (last_values c.args.regs.now c.args.kind).bytes (rest c.read_values.new.cursor) on c.if-left-eq1.true ∙ counted.0) in
    rw (p.1, p.2, counted.1) (whole, read.1, counted.2)

pub returns-clause-fits : goal.returns-clause-fits
returns-clause-fits c =
    let on : is_row_counted (row_of c.args.kind) ≡ true = sym c.requires.layout.counted ∙ c.if-not-layout.false in
    let k = known c.args.kind c.args.regs.now c.requires.kind c.requires.sound in
    let fits = rw c.requires.layout.kinds at c.in_ok-left.ensures.fits in
    elim c.if-left-eq1.branch [
      | then-left-eq1+in_ok-bytes w ↦ rw (c.in_ok-copied.ensures, w.bytes-is) (is_list c.args.kind c.read_values.new.values w.in_ok-bytes.bytes.now c.requires.kind fits (few_bytes _ _ on w.in_ok-bytes.ensures.fits))
      | else-left-eq1 w ↦ rw (c.in_ok-copied.ensures, w.bytes-is, w.last_bytes-bytes.ensures) (is_list c.args.kind c.read_values.new.values _ c.requires.kind fits k.bytes)
    ]

pub returns-clause-read : goal.returns-clause-read
returns-clause-read c =
    let on : is_row_counted (row_of c.args.kind) ≡ true = sym c.requires.layout.counted ∙ c.if-not-layout.false in
    let read = c.in_ok-left.ensures.read in
    elim c.if-left-eq1.branch [
      | then-left-eq1+in_ok-bytes w ↦
          let whole = fields_read c.args.kind c.args.flags c.in_ok-left.left c.args.delta c.args.regs.now c.args.layout.kinds.now c.args.values.now c.read_values.new.values _ _ _ _ c.requires.kind c.requires.layout.kinds c.requires.last read.0
          (present (is_row_counted (row_of c.args.kind)) c.in_ok-left.left (last_values c.args.regs.now c.args.kind).bytes (rest c.read_values.new.cursor) on w.if-left-eq1.true ∙ w.in_ok-bytes.ensures.read.0) in
          rw (c.in_ok-copied.ensures, w.cursor-is, w.bytes-is) (whole, w.in_ok-bytes.ensures.read.1 ∙ read.1)
      | else-left-eq1 w ↦
          let whole = fields_read c.args.kind c.args.flags c.in_ok-left.left c.args.delta c.args.regs.now c.args.layout.kinds.now c.args.values.now c.read_values.new.values _ _ _ _ c.requires.kind c.requires.layout.kinds c.requires.last read.0
          (absent (is_row_counted (row_of c.args.kind)) c.in_ok-left.left (last_values c.args.regs.now c.args.kind).bytes (rest c.read_values.new.cursor) w.if-left-eq1.false) in
          rw (c.in_ok-copied.ensures, w.cursor-is, w.bytes-is, w.last_bytes-bytes.ensures) (whole, read.1)
    ]
