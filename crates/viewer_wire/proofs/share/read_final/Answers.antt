use Rattle.std.proofs.Common.{[]}
use Rattle.wire_num.specs.Layout.{fields_at}
use Rattle.viewer_rules.specs.HostAnswers.{indication, final_answer}
use Rattle.viewer_wire.proofs.Counted.{whole_ok, whole_err}
use Rattle.viewer_wire.proofs.share.read_final.Goals as goal

pub returns-in-Ok : goal.returns-in-Ok
returns-in-Ok c = whole_ok {X = Unit {0}} (λ _. []) (fields_at (indication (final_answer c.args.which c.args.user))) tt c.args.packet.now _ _ c.new-cursor.ensures c.in-Ok.ensures

pub returns-in-Err : goal.returns-in-Err
returns-in-Err c = whole_err {X = Unit {0}} (λ _. []) (fields_at (indication (final_answer c.args.which c.args.user))) _ c.args.packet.now _ _ _ c.new-cursor.ensures c.in-Err.ensures c.at.ensures.place c.at.ensures.inside
