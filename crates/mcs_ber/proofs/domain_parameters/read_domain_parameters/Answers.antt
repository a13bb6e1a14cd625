use Rattle.std.proofs.Common.{ap, sym, ◌∙◌}
use Rattle.wire_num.specs.Cursor.{rest}
use Rattle.mcs_ber.proofs.Within.{refused_in_content}
use Rattle.mcs_ber.proofs.Parameters.{parameters_ok, parameters_err}
use Rattle.mcs_ber.proofs.domain_parameters.read_domain_parameters.Goals as goal

pub returns-in-Ok : goal.returns-in-Ok
returns-in-Ok c =
    let tag = c.in_ok-expect.ensures in
    let count = c.in_ok-length.ensures in
    let content = c.in_ok-content.ensures.field in (
      parameters_ok (rest c.args.cursor.now) _ _ _ _ _ _ tag.0 count.0 content.0 c.in-Ok.ensures.fields.0 c.in-Ok.ensures.end,
      content.1 ∙ count.1 ∙ tag.1,
    )

pub returns-in-Err : goal.returns-in-Err
returns-in-Err c =
    let tag = c.in_ok-expect.ensures in
    let count = c.in_ok-length.ensures in
    let content = c.in_ok-content.ensures in
    let inner = c.in-Err.ensures.fields in (
      parameters_err (rest c.args.cursor.now) _ _ _ _ _ _ _ tag.0 count.0 content.field.0 inner.0
          (refused_in_content _ _ _ _ _ _ _ content.fits content.behind content.offsets inner.1 c.at.ensures.place c.at.ensures.inside c.go_to.ensures),
      ap (λ r. r.bytes) c.go_to.ensures ∙ content.field.1 ∙ count.1 ∙ tag.1,
      inner.2 ∙ sym c.at.ensures.place ∙ sym (ap (λ r. r.at) c.go_to.ensures),
    )
