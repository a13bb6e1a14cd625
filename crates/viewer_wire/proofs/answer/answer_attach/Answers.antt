use Rattle.std.proofs.Common.{[], ◌∷◌, ◌+◌}
use Rattle.std.specs.Prelude.{slice_index}
use Rattle.wire_num.specs.Layout.{fields_at}
use Rattle.mcs_dom.specs.User.{first_user}
use Rattle.viewer_rules.specs.declared.stage.Channel.TheVariants as channel
use Rattle.viewer_rules.specs.HostAnswers.{attach_answer}
use Rattle.viewer_rules.specs.ViewerHandshake.{joins}
use Rattle.viewer_wire.proofs.Answering.{answered_ok, answered_err}
use Rattle.viewer_wire.proofs.answer.answer_attach.Goals as goal

pub returns-in-Ok : goal.returns-in-Ok
returns-in-Ok c = λ name k. answered_ok c.args.packet.now (fields_at attach_answer c.args.packet.now) (λ values. joins (first_user + slice_index values 0) channel.User) (c.in-Ok.above ∷ []) _ _ c.in-Ok.ensures.read c.send_join.ensures

pub returns-in-Err : goal.returns-in-Err
returns-in-Err c = λ name k. answered_err c.args.packet.now (fields_at attach_answer c.args.packet.now) (λ values. joins (first_user + slice_index values 0) channel.User) _ [] c.in-Err.ensures.read
