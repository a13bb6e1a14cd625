use Rattle.std.proofs.Common.{[], ◌∷◌, arith, ◌∙◌}
use Rattle.std.proofs.lemmas.Grind.{common_steps}
use Rattle.wire_num.specs.Layout.{fields_at}
use Rattle.wire_num.specs.Cursor.{rest}
use Rattle.mcs_ber.specs.ConnectInitial.{user_data, three_parameters}
use Rattle.mcs_ber.proofs.Within.{onward}
use Rattle.mcs_ber.proofs.Initial.{target_refused, minimum_refused, maximum_refused, three_passed}
use Rattle.mcs_ber.proofs.connect_initial.read_three_parameters.Goals as goal

pub returns-in_err-read_domain_parameters-clause-fields :
    goal.returns-in_err-read_domain_parameters-clause-fields
returns-in_err-read_domain_parameters-clause-fields c =
    let refused = target_refused (rest c.args.cursor.now) _ c.in_err-read_domain_parameters.ensures.0 in
    grind (arith, common_steps, refused)

pub returns-in_err-read_domain_parameters-2-clause-fields :
    goal.returns-in_err-read_domain_parameters-2-clause-fields
returns-in_err-read_domain_parameters-2-clause-fields c =
    let refused = minimum_refused (rest c.args.cursor.now) (rest c.read_domain_parameters.new.cursor) _ c.in_ok-read_domain_parameters.ensures.0 c.in_err-read_domain_parameters-2.ensures.0 in
    grind (arith, common_steps, refused)

pub returns-in_err-read_domain_parameters-3-clause-fields :
    goal.returns-in_err-read_domain_parameters-3-clause-fields
returns-in_err-read_domain_parameters-3-clause-fields c =
    let refused = maximum_refused (rest c.args.cursor.now) (rest c.read_domain_parameters.new.cursor) (rest c.read_domain_parameters-2.new.cursor) _ c.in_ok-read_domain_parameters.ensures.0 c.in_ok-read_domain_parameters-2.ensures.0 c.in_err-read_domain_parameters-3.ensures.0 in
    grind (arith, common_steps, refused)

pub returns-clause-fields : goal.returns-clause-fields
returns-clause-fields c =
    let one = c.in_ok-read_domain_parameters.ensures in
    let two = c.in_ok-read_domain_parameters-2.ensures in
    let three = c.in_ok-read_domain_parameters-3.ensures in
    onward (λ size. size ∷ []) (fields_at three_parameters) (fields_at user_data) c.read_user_data.result c.args.cursor.now c.read_domain_parameters-3.new.cursor c.read_user_data.new.cursor (three_passed _ _ _ _ one.0 two.0 three.0) (three.1 ∙ two.1 ∙ one.1) c.read_user_data.ensures.fields
