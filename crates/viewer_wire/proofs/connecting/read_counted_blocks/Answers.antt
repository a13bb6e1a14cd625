use Rattle.std.proofs.Common.{[], ap, sym, ◌∙◌}
use Rattle.wire_num.specs.FieldValue.{end_at}
use Rattle.wire_num.specs.Layout.{End, Within, Packed, fields_at}
use Rattle.wire_num.specs.Cursor.{rest}
use Rattle.mcs_ber.proofs.Within.{at_end, onward, refused_in_content}
use Rattle.viewer_rules.specs.HostAnswers.{server_blocks_answer}
use Rattle.viewer_wire.proofs.Counted.{counted_ok, counted_err, field_alone}
use Rattle.viewer_wire.proofs.connecting.read_counted_blocks.Goals as goal

pub returns-in-Ok-clause-fields : goal.returns-in-Ok-clause-fields
returns-in-Ok-clause-fields c =
    let count = c.in_ok-length.ensures in
    let content = c.in_ok-content.ensures.field in
    onward (λ _. []) (fields_at (Within Packed server_blocks_answer End)) end_at _ _ _ _
    (counted_ok Packed server_blocks_answer (rest c.args.cursor.now) _ _ _ _ _ count.0 content.0 c.in-Ok.ensures.fields.0 c.in-Ok.ensures.end End) (content.1 ∙ count.1)
    (field_alone (λ _. []) end_at _ _ c.end.ensures)

pub returns-in-Ok-clause-end : goal.returns-in-Ok-clause-end
returns-in-Ok-clause-end c = at_end _ _ c.end.ensures

pub returns-in-Err-clause-fields : goal.returns-in-Err-clause-fields
returns-in-Err-clause-fields c =
    let count = c.in_ok-length.ensures in
    let content = c.in_ok-content.ensures in
    let inner = c.in-Err.ensures.fields in (
      counted_err Packed server_blocks_answer (rest c.args.cursor.now) _ _ _ _ _ _ count.0 content.field.0 inner.0
          (refused_in_content _ _ _ _ _ _ _ content.fits content.behind content.offsets inner.1 c.at.ensures.place c.at.ensures.inside c.go_to.ensures) End,
      ap (λ r. r.bytes) c.go_to.ensures ∙ content.field.1 ∙ count.1,
      inner.2 ∙ sym c.at.ensures.place ∙ sym (ap (λ r. r.at) c.go_to.ensures),
    )
