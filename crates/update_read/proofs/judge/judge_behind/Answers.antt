use Rattle.std.proofs.Common.{◌<◌, sym, subst}
use Rattle.update_read.specs.declared.state.State.{State}
use Rattle.update_read.specs.Cutters.{pending_by}
use Rattle.update_read.proofs.Found.{told_behind, others_told, others_none}
use Rattle.update_read.proofs.judge.judge_behind.Goals as goal

pub returns-in-Update-clause-told : goal.returns-in-Update-clause-told
returns-in-Update-clause-told c = λ u s start told.
    told_behind c.in-Update.found c.args.state c.judge_rest.result u s c.args.packet.now c.in-Update.is told (λ most few. c.judge_rest.ensures.told s most start few)

pub returns-in-Update-clause-fewer : goal.returns-in-Update-clause-fewer
returns-in-Update-clause-fewer c = λ some.
    subst (λ (st : State). pending_by c.judge_rest.result c.args.packet.now < pending_by st c.args.packet.now) (sym c.in-Update.is) c.judge_rest.ensures.fewer

pub returns-clause-told : goal.returns-clause-told
returns-clause-told c = λ u s start told. others_told c.args.state u s c.args.packet.now c.in_default.not-Update told

pub returns-clause-fewer : goal.returns-clause-fewer
returns-clause-fewer c = λ some. others_none c.args.state c.args.packet.now c.in_default.not-Update some
