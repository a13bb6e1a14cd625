use Rattle.std.proofs.Common.{ap, sym, ◌∙◌, arith, rules}
use Rattle.std.proofs.lemmas.Grind.{common_steps}
use Rattle.wire_num.specs.Cursor.{rest}
use Rattle.mcs_ber.proofs.Within.{refused_in_content}
use Rattle.mcs_ber.proofs.Initial.{connect_ok, connect_err}
use Rattle.mcs_ber.proofs.connect_initial.read_connect_initial.Goals as goal
use Rattle.mcs_ber.specs.ConnectInitial.{connect_initial}

pub returns-in_err-end-in-Ok-clause-fields : goal.returns-in_err-end-in-Ok-clause-fields
returns-in_err-end-in-Ok-clause-fields c =
    let refused = connect_ok (rest c.args.cursor.now) _ _ _ _ _ _ _ _ c.in_ok-expect.ensures.0 c.in_ok-length.ensures.0 c.in_ok-content.ensures.field.0 c.in-Ok.ensures.fields.0 c.in-Ok.ensures.end c.in_err-end-in-Ok.ensures.0 in
    grind (arith, common_steps, refused)

pub returns-in_ok-end-in-Ok-clause-fields : goal.returns-in_ok-end-in-Ok-clause-fields
returns-in_ok-end-in-Ok-clause-fields c =
    let tag = c.in_ok-expect.ensures in
    let count = c.in_ok-length.ensures in
    let content = c.in_ok-content.ensures.field in
    (connect_ok (rest c.args.cursor.now) _ _ _ _ _ _ _ _ tag.0 count.0 content.0 c.in-Ok.ensures.fields.0 c.in-Ok.ensures.end c.in_ok-end-in-Ok.ensures.0, content.1 ∙ count.1 ∙ tag.1)

pub returns-in-Err-clause-fields : goal.returns-in-Err-clause-fields
returns-in-Err-clause-fields c =
    let tag = c.in_ok-expect.ensures in
    let count = c.in_ok-length.ensures in
    let content = c.in_ok-content.ensures in
    let inner = c.in-Err.ensures.fields in (
      connect_err (rest c.args.cursor.now) _ _ _ _ _ _ _ tag.0 count.0 content.field.0 inner.0
          (refused_in_content _ _ _ _ _ _ _ content.fits content.behind content.offsets inner.1 c.at.ensures.place c.at.ensures.inside c.go_to.ensures),
      ap (λ r. r.bytes) c.go_to.ensures ∙ content.field.1 ∙ count.1 ∙ tag.1,
      inner.2 ∙ sym c.at.ensures.place ∙ sym (ap (λ r. r.at) c.go_to.ensures),
    )

pub returns-in_err-expect-clause-fields : goal.returns-in_err-expect-clause-fields
unfolding connect_initial
returns-in_err-expect-clause-fields c = search rules

pub returns-in_err-length-clause-fields : goal.returns-in_err-length-clause-fields
unfolding connect_initial
returns-in_err-length-clause-fields c = search rules

pub returns-in_err-content-clause-fields : goal.returns-in_err-content-clause-fields
unfolding connect_initial
returns-in_err-content-clause-fields c = search rules
