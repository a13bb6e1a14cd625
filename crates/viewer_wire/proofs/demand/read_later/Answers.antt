use Rattle.std.proofs.Common.{[]}
use Rattle.wire_num.specs.FieldValue.{end_at}
use Rattle.wire_num.specs.Layout.{End, fields_at}
use Rattle.mcs_ber.proofs.Within.{onward}
use Rattle.viewer_rules.specs.HostAnswers.{later_answer, later_answer}
use Rattle.viewer_wire.proofs.Counted.{field_alone}
use Rattle.viewer_wire.proofs.demand.read_later.Goals as goal

pub returns-in-Ok : goal.returns-in-Ok
unfolding later_answer
returns-in-Ok c = onward (λ _. []) (fields_at later_answer) (end_at) _ _ _ _ (c.in-Ok.ensures.0 End) c.in-Ok.ensures.1 (field_alone (λ _. []) end_at _ _ c.end.ensures)

pub returns-in-Err : goal.returns-in-Err
unfolding later_answer
returns-in-Err c = (c.in-Err.ensures.0 End, c.in-Err.ensures.1, c.in-Err.ensures.2)
