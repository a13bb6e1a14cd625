use Rattle.std.proofs.Common.{◌∙◌, ap, sym, Some}
use Rattle.record_file.specs.Told.{told_picture, pixels_in}
use Rattle.record_file.specs.Replays.{ReplayOf}
use Rattle.record_file.proofs.Feeding.{read_tells}
use Rattle.record_file.proofs.replay.Replay.picture.Goals as goal

pub returns-in-Some-clause-read : goal.returns-in-Some-clause-read
returns-in-Some-clause-read c = λ stream h.
    ap Some c.as_slice.ensures.value ∙ sym (ap pixels_in c.in-Some.is) ∙ ap (λ (r : ReplayOf). told_picture r.told) c.self.view_is ∙ (read_tells c.args.self.now stream h).picture

pub returns-in-None-clause-read : goal.returns-in-None-clause-read
returns-in-None-clause-read c = λ stream h.
    sym (ap pixels_in c.in-None.is) ∙ ap (λ (r : ReplayOf). told_picture r.told) c.self.view_is ∙ (read_tells c.args.self.now stream h).picture
