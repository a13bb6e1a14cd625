use Rattle.std.proofs.Common.{◌∙◌, arith}
use Rattle.std.proofs.lemmas.Grind.{common_steps}
use Rattle.wire_num.specs.Layout.{Open}
use Rattle.info_lic.specs.ClientInfo.{other_texts}
use Rattle.info_lic.proofs.Texts.{after_password, after_shell}
use Rattle.info_lic.proofs.client_info.read_other_texts.Goals as goal

pub returns-in_err-read_text : goal.returns-in_err-read_text
unfolding other_texts
returns-in_err-read_text c =
    let missing = c.in_err-read_text.ensures.rows.0 (after_password c.args.counts) in
    grind (arith, common_steps, missing)

pub returns-in_err-read_text-2 : goal.returns-in_err-read_text-2
unfolding other_texts
returns-in_err-read_text-2 c =
    let missing = c.in_ok-read_text.ensures.rows.0 (after_password c.args.counts) ∙ c.in_err-read_text-2.ensures.rows.0 (after_shell c.args.counts) in
    grind (arith, common_steps, missing)

pub returns-in_err-read_text-3 : goal.returns-in_err-read_text-3
unfolding other_texts
returns-in_err-read_text-3 c =
    let missing =
    c.in_ok-read_text.ensures.rows.0 (after_password c.args.counts) ∙ c.in_ok-read_text-2.ensures.rows.0 (after_shell c.args.counts)
    ∙ c.in_err-read_text-3.ensures.rows.0 Open in
    grind (arith, common_steps, missing)

pub returns : goal.returns
unfolding other_texts
returns c = (
  c.in_ok-read_text.ensures.rows.0 (after_password c.args.counts) ∙ c.in_ok-read_text-2.ensures.rows.0 (after_shell c.args.counts)
      ∙ c.in_ok-read_text-3.ensures.rows.0 Open,
  c.in_ok-read_text-3.ensures.rows.1 ∙ c.in_ok-read_text-2.ensures.rows.1 ∙ c.in_ok-read_text.ensures.rows.1,
)
