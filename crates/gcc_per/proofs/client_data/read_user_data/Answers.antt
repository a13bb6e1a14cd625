use Rattle.std.proofs.Common.{ap, ◌∙◌, rules}
use Rattle.gcc_per.proofs.Within.{refused_in_content}
use Rattle.gcc_per.proofs.UserData.{blocks_refused}
use Rattle.gcc_per.proofs.client_data.read_user_data.Goals as goal
use Rattle.gcc_per.specs.ClientData.{user_data_at}

pub returns-in-Err : goal.returns-in-Err
returns-in-Err c =
    let count = c.in_ok-size.ensures in
    let content = c.in_ok-content.ensures in
    let inner = c.in-Err.ensures in (
      blocks_refused _ _ _ _ _ _ _ _ count.0 content.field.0 inner.0
          (refused_in_content _ _ _ _ _ _ _ content.fits content.behind content.offsets inner.1 c.at.ensures.place c.at.ensures.inside c.go_to.ensures),
      ap (λ r. r.bytes) c.go_to.ensures ∙ content.field.1 ∙ count.1,
    )

pub returns-in_err-end-in-Ok : goal.returns-in_err-end-in-Ok
unfolding user_data_at
returns-in_err-end-in-Ok c = search rules

pub returns-in_ok-end-in-Ok : goal.returns-in_ok-end-in-Ok
unfolding user_data_at
returns-in_ok-end-in-Ok c = search rules
