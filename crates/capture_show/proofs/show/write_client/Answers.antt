use Rattle.std.proofs.Common.{ℕ, List, subst}
use Rattle.capture_show.specs.Answers.{Writes}
use Rattle.capture_show.proofs.Texts.{marked_text}
use Rattle.capture_show.proofs.show.write_client.Goals as goal

pub returns-then-has_mark-clause-written : goal.returns-then-has_mark-clause-written
returns-then-has_mark-clause-written g c = λ s h.
    subst (λ (text : List ℕ). Writes c.write_picture.result text (g.K.Sink.told c.args.output.now) (g.K.Sink.told c.write_picture.new.output))
    (marked_text c.args.client.now s h c.if-has_mark.ensures) c.write_picture.ensures.written
