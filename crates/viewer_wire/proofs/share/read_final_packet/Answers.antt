use Rattle.std.proofs.Common.{[]}
use Rattle.wire_num.specs.Layout.{fields_at}
use Rattle.mcs_ber.proofs.Within.{onward}
use Rattle.viewer_rules.specs.HostAnswers.{indication, final_answer}
use Rattle.viewer_wire.proofs.share.read_final_packet.Goals as goal

pub returns-in-Ok : goal.returns-in-Ok
returns-in-Ok c = onward (λ _. []) (fields_at (indication (final_answer c.args.which c.args.user))) (fields_at (final_answer c.args.which c.args.user)) _ _ _ _ (c.in-Ok.ensures.0 (final_answer c.args.which c.args.user)) c.in-Ok.ensures.1 c.read_final_answer.ensures

pub returns-in-Err : goal.returns-in-Err
returns-in-Err c = (c.in-Err.ensures.0 (final_answer c.args.which c.args.user), c.in-Err.ensures.1, c.in-Err.ensures.2)
