use Rattle.std.proofs.Common.{◌∙◌, arith, rules}
use Rattle.std.proofs.lemmas.Grind.{common_steps}
use Rattle.info_lic.specs.ClientInfo.{other_texts, info_texts}
use Rattle.info_lic.proofs.Texts.{after_domain}
use Rattle.info_lic.proofs.client_info.read_texts.Goals as goal

pub returns-in_err-read_text-clause-fields : goal.returns-in_err-read_text-clause-fields
unfolding info_texts
returns-in_err-read_text-clause-fields c =
    let missing = c.in_err-read_text.ensures.rows.0 (after_domain c.args.counts) in
    grind (arith, common_steps, missing)

pub returns-in_err-user-clause-fields : goal.returns-in_err-user-clause-fields
unfolding info_texts
returns-in_err-user-clause-fields c =
    let missing = c.in_ok-read_text.ensures.rows.0 (after_domain c.args.counts) ∙ c.in_err-user.ensures.rows.0 (other_texts c.args.counts) in
    grind (arith, common_steps, missing)

pub returns-in_err-read_other_texts-clause-fields : goal.returns-in_err-read_other_texts-clause-fields
unfolding info_texts
returns-in_err-read_other_texts-clause-fields c =
    let missing =
    c.in_ok-read_text.ensures.rows.0 (after_domain c.args.counts) ∙ c.in_ok-user.ensures.rows.0 (other_texts c.args.counts)
    ∙ c.in_err-read_other_texts.ensures.0 in
    grind (arith, common_steps, missing)

pub returns-clause-fields : goal.returns-clause-fields
unfolding info_texts
returns-clause-fields c = (
  c.in_ok-read_text.ensures.rows.0 (after_domain c.args.counts) ∙ c.in_ok-user.ensures.rows.0 (other_texts c.args.counts)
      ∙ c.in_ok-read_other_texts.ensures.0,
  c.in_ok-read_other_texts.ensures.1 ∙ c.in_ok-user.ensures.rows.1 ∙ c.in_ok-read_text.ensures.rows.1,
)

pub returns-clause-user : goal.returns-clause-user
unfolding info_texts
returns-clause-user c = search rules
