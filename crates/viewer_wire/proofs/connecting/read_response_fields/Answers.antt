use Rattle.std.proofs.Common.{[]}
use Rattle.wire_num.specs.Layout.{End, Within, Basic, fields_at}
use Rattle.mcs_ber.proofs.Within.{onward}
use Rattle.viewer_rules.specs.HostAnswers.{user_data_answer, response_answer}
use Rattle.viewer_wire.proofs.connecting.read_response_fields.Goals as goal

pub returns-in-Ok-clause-fields : goal.returns-in-Ok-clause-fields
unfolding response_answer
returns-in-Ok-clause-fields c = onward (λ _. []) (fields_at response_answer) (fields_at (Within Basic user_data_answer End)) _ _ _ _ (c.in-Ok.ensures.0 (Within Basic user_data_answer End)) c.in-Ok.ensures.1 (c.read_counted_user_data.ensures.fields)

pub returns-in-Err-clause-fields : goal.returns-in-Err-clause-fields
unfolding response_answer
returns-in-Err-clause-fields c = (c.in-Err.ensures.0 (Within Basic user_data_answer End), c.in-Err.ensures.1, c.in-Err.ensures.2)
