use Rattle.wire_num.specs.Cursor.{rest}
use Rattle.std.proofs.Common.{refl, ◌∙◌, pos, add-one}
use Rattle.std.proofs.lemmas.List.{length-set}
use Rattle.order_fields.specs.declared.kind.FieldKind.TheVariants.{Coordinate}
use Rattle.order_fields.proofs.FieldsAt.{fit_at}
use Rattle.order_read.proofs.ValuesRead.{short_at, fit_set, one_read, all_read, from_first}
use Rattle.order_read.proofs.fields.read_values.Goals as goal

pub loop-i-init : goal.loop-i-init
loop-i-init c =
    (λ counted bytes. from_first c.args.kinds.now counted c.args.flags c.args.delta c.args.values.now bytes (rest c.args.cursor.now), refl, c.requires.fits, c.requires.count)

pub read_field-requires-clause-size : goal.read_field-requires-clause-size
read_field-requires-clause-size c = short_at c.loop-i.i c.args.kinds.now Coordinate c.requires.sized c.loop-i-test.true

pub returns-clause-read : goal.returns-clause-read
returns-clause-read c =
    (λ counted bytes. c.loop-i.invariant.0 counted bytes ∙ all_read c.loop-i.i c.args.kinds.now counted c.loop-i.left c.args.delta c.loop-i.values bytes (rest c.loop-i.cursor) c.loop-i-test.false c.loop-i.invariant.3, c.loop-i.invariant.1)

pub read_field-requires-clause-last : goal.read_field-requires-clause-last
read_field-requires-clause-last c = fit_at c.loop-i.i c.args.kinds.now c.loop-i.values Coordinate (pos 0) c.loop-i.invariant.2 c.loop-i-test.true

pub loop-i-preserved : goal.loop-i-preserved
loop-i-preserved c =
    let read = c.in_ok-read_field.ensures.read in
    rw add-one (
      λ counted bytes. c.loop-i.invariant.0 counted bytes ∙ one_read c.loop-i.i c.args.kinds.now counted c.loop-i.left c.args.delta c.loop-i.values bytes _ _ c.read_field.new.value c.loop-i-test.true c.loop-i.invariant.3 read.0,
      read.1 ∙ c.loop-i.invariant.1,
      fit_set c.loop-i.i c.args.kinds.now c.loop-i.values Coordinate c.read_field.new.value c.loop-i.invariant.2 c.loop-i-test.true c.in_ok-read_field.ensures.fits,
      length-set c.loop-i.values c.loop-i.i c.read_field.new.value ∙ c.loop-i.invariant.3,
    )
