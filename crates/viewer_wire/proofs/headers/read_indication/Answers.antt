use Rattle.wire_num.specs.Layout.{Exactly, Packed}
use Rattle.viewer_rules.specs.HostAnswers.{indication_rows, indication}
use Rattle.viewer_wire.proofs.Counted.{rows_onward}
use Rattle.viewer_wire.proofs.headers.read_indication.Goals as goal

pub returns-in-Ok : goal.returns-in-Ok
unfolding indication
returns-in-Ok c = rows_onward indication_rows (Exactly Packed) _ _ _ _ c.in-Ok.ensures.0 c.in-Ok.ensures.1 c.read_length.ensures

pub returns-in-Err : goal.returns-in-Err
unfolding indication
returns-in-Err c = (λ next. c.in-Err.ensures.0 (Exactly Packed next), c.in-Err.ensures.1, c.in-Err.ensures.2)
