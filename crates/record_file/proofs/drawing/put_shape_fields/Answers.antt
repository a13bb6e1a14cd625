use Rattle.std.proofs.Common.{◌≡◌, ◌++◌, List, ◌∙◌, ap, sym, subst, rules, to_z, of_z, w32}
use Rattle.std.specs.Prelude.{IsTrue}
use Rattle.record_rules.specs.declared.field.Field.{Field}
use Rattle.record_rules.specs.Fields.{fields_bytes, are_in_place}
use Rattle.record_rules.specs.Tables.{shape_fields}
use Rattle.record_file.proofs.drawing.put_shape_fields.Goals as goal

pub put_fields-requires-in-Blit3-clause-place : goal.put_fields-requires-in-Blit3-clause-place
put_fields-requires-in-Blit3-clause-place c =
    let x : to_z w32 (of_z w32 c.in-Blit3.sx) ≡ c.in-Blit3.sx = search rules in
    let y : to_z w32 (of_z w32 c.in-Blit3.sy) ≡ c.in-Blit3.sy = search rules in
    let known = rw (x, y) at c.blit3_fields.ensures in
    subst (λ (fs : List Field). IsTrue (are_in_place fs)) (ap shape_fields c.in-Blit3.is ∙ sym known) c.requires.place

pub returns-in-Fill : goal.returns-in-Fill
returns-in-Fill c =
    let known = rw c.rect_fields-x.ensures at c.put_fields.ensures.fields in
    known ∙ ap (λ s. c.args.out.now ++ fields_bytes (shape_fields s)) (sym c.in-Fill.is)
