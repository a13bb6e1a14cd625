use Rattle.std.proofs.Common.{[]}
use Rattle.wire_num.specs.FieldValue.{end_at}
use Rattle.wire_num.specs.Layout.{End, fields_at}
use Rattle.mcs_ber.proofs.Within.{at_end, onward}
use Rattle.viewer_rules.specs.HostAnswers.{server_blocks_answer}
use Rattle.viewer_wire.proofs.Counted.{field_alone}
use Rattle.viewer_wire.proofs.connecting.read_blocks.Goals as goal

pub returns-in-Ok-clause-fields : goal.returns-in-Ok-clause-fields
unfolding server_blocks_answer
returns-in-Ok-clause-fields c = onward (λ _. []) (fields_at server_blocks_answer) (end_at) _ _ _ _ (c.in-Ok.ensures.0 End) c.in-Ok.ensures.1 (field_alone (λ _. []) end_at _ _ c.end.ensures)

pub returns-in-Err-clause-fields : goal.returns-in-Err-clause-fields
unfolding server_blocks_answer
returns-in-Err-clause-fields c = (c.in-Err.ensures.0 End, c.in-Err.ensures.1, c.in-Err.ensures.2)

pub returns-in-Ok-clause-end : goal.returns-in-Ok-clause-end
returns-in-Ok-clause-end c = at_end _ _ c.end.ensures
