use Rattle.std.proofs.Common.{◌∙◌, sym}
use Rattle.record_file.proofs.Played.{f12_input, absent_input}
use Rattle.record_file.proofs.play.input.Goals.{then-is_f12-via-then-is_f12, then-is_f12-via-else-is_f12+then-not-present}
use Rattle.record_file.proofs.play.input.Goals as goal

pub returns-then-is_f12-clause-played : goal.returns-then-is_f12-clause-played
returns-then-is_f12-clause-played c = elim c.then-is_f12.branch [
  | then-is_f12-via-then-is_f12 w ↦ f12_input c.args.session.now c.args.by c.args.event (sym c.is_f12.ensures ∙ w.if-is_f12.true)
  | then-is_f12-via-else-is_f12+then-not-present w ↦ absent_input c.args.session.now c.args.by c.args.event c.recall_legal.ensures.journal (sym w.present.ensures ∙ w.if-not-present.true)
]
