use Rattle.std.proofs.Common.{sym}
use Rattle.update_read.proofs.FastJudged.{no_length}
use Rattle.update_read.proofs.judge.judge_fast.Goals as goal

pub returns-in-None-clause-told : goal.returns-in-None-clause-told
returns-in-None-clause-told c fast s front b e fits start = no_length fast s c.args.packet.now front b e c.requires.some c.requires.first (sym c.in-None.ensures.value)
