use Rattle.std.proofs.Common.{◌≡◌, [], subst, ℕ}
use Rattle.std.specs.Prelude.{Ok, Err}
use Rattle.wire_num.specs.FieldValue.{placed}
use Rattle.wire_num.specs.Layout.{fields_at}
use Rattle.viewer_rules.specs.HostAnswers.{join_answer}
use Rattle.viewer_rules.specs.ViewerHandshake.{channel_of, after_join}
use Rattle.viewer_wire.proofs.Answering.{answered_ok, answered_err}
use Rattle.viewer_wire.proofs.answer.answer_join.Goals as goal

pub returns-in-Ok : goal.returns-in-Ok
returns-in-Ok c = λ k. answered_ok c.args.packet.now (fields_at (join_answer c.args.user (channel_of c.args.user c.args.which)) c.args.packet.now) (λ _. after_join c.args.name c.args.user c.args.which) [] _ _
    (subst (λ (n : ℕ). placed (λ at. at) c.args.packet.now (fields_at (join_answer c.args.user n) c.args.packet.now) ≡ Ok []) c.channel_of.ensures c.in-Ok.ensures) c.send_after_join.ensures

pub returns-in-Err : goal.returns-in-Err
returns-in-Err c = λ k. answered_err c.args.packet.now (fields_at (join_answer c.args.user (channel_of c.args.user c.args.which)) c.args.packet.now) (λ _. after_join c.args.name c.args.user c.args.which) c.in-Err.short.at []
    (subst (λ (n : ℕ). placed (λ at. at) c.args.packet.now (fields_at (join_answer c.args.user n) c.args.packet.now) ≡ Err c.in-Err.short.at) c.channel_of.ensures c.in-Err.ensures)
