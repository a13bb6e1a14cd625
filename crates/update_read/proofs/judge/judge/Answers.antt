use Rattle.std.proofs.Common.{refl}
use Rattle.std.specs.Prelude.{slice_index}
use Rattle.update_read.proofs.Judged.{first_told}
use Rattle.update_read.proofs.judge.judge.Goals as goal

pub returns-then-count-eq1-clause-told : goal.returns-then-count-eq1-clause-told
returns-then-count-eq1-clause-told c s front b e fits start =
    first_told c.judge_first.result c.args.fast s (slice_index c.args.packet.now 0) c.args.packet.now front b e c.if-count-eq1.true refl (c.judge_first.ensures s start)
