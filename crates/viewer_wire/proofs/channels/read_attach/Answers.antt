use Rattle.std.proofs.Common.{[], ◌∷◌}
use Rattle.wire_num.specs.Layout.{fields_at}
use Rattle.viewer_rules.specs.HostAnswers.{attach_answer}
use Rattle.viewer_wire.proofs.Counted.{whole_ok, whole_err}
use Rattle.viewer_wire.proofs.channels.read_attach.Goals as goal

pub returns-in-Ok-clause-read : goal.returns-in-Ok-clause-read
returns-in-Ok-clause-read c = whole_ok (λ above. above ∷ []) (fields_at attach_answer) _ c.args.packet.now _ _ c.new-cursor.ensures c.in-Ok.ensures.read

pub returns-in-Err-clause-read : goal.returns-in-Err-clause-read
returns-in-Err-clause-read c = whole_err (λ above. above ∷ []) (fields_at attach_answer) _ c.args.packet.now _ _ _ c.new-cursor.ensures c.in-Err.ensures.read c.at.ensures.place c.at.ensures.inside
