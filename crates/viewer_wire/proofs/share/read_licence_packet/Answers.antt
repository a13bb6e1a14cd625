use Rattle.std.proofs.Common.{[]}
use Rattle.wire_num.specs.Layout.{fields_at}
use Rattle.mcs_ber.proofs.Within.{onward}
use Rattle.viewer_rules.specs.HostAnswers.{indication, licence_answer}
use Rattle.viewer_wire.proofs.share.read_licence_packet.Goals as goal

pub returns-in-Ok : goal.returns-in-Ok
returns-in-Ok c = onward (λ _. []) (fields_at (indication licence_answer)) (fields_at licence_answer) _ _ _ _ (c.in-Ok.ensures.0 licence_answer) c.in-Ok.ensures.1 c.read_licence_fields.ensures

pub returns-in-Err : goal.returns-in-Err
returns-in-Err c = (c.in-Err.ensures.0 licence_answer, c.in-Err.ensures.1, c.in-Err.ensures.2)
