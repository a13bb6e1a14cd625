use Rattle.std.proofs.Common.{◌+◌, ap, sym, subst, arith, drop, length}
use Rattle.order_means.specs.Updates.{Updates}
use Rattle.update_read.specs.Cutters.{Tells}
use Rattle.update_read.proofs.Judged.{capped_more}
use Rattle.update_read.proofs.FastJudged.{head_there, fast_goes_on, fast_is_whole, fast_too_short}
use Rattle.update_read.proofs.judge.judge_counted.Goals as goal

pub judge_update-requires : goal.judge_update-requires
judge_update-requires c = head_there c.args.packet.now (c.args.head, c.args.total) c.requires.head

pub returns-then-total-head : goal.returns-then-total-head
returns-then-total-head c fast s front b e fits start =
    let is = fast_too_short fast s c.args.packet.now front b (c.args.head, c.args.total) e c.requires.first c.requires.head fits c.if-count-head.true c.if-total-head.true in
    (s + 1, ap (λ (u : Updates). u.bodies) is, ap (λ (u : Updates). u.next.stage) is, rw c.saturating_add.ensures (capped_more s c.args.start 1 start))

pub returns-then-count-total : goal.returns-then-count-total
returns-then-count-total c fast s front b e fits start =
    fast_goes_on fast s c.args.packet.now front b (c.args.head, c.args.total) e c.requires.first c.requires.head fits c.requires.most c.if-count-total.true

pub returns : goal.returns
returns c fast s front b e fits start =
    let either = c.else-count-head.either in
    let many = c.if-count-total.false in
    let is = fast_is_whole fast s c.args.packet.now front b (c.args.head, c.args.total) e c.requires.first c.requires.head fits many (λ all. grind (arith, either, all)) in
    subst (λ (u : Updates). Tells c.judge_update.result u s c.args.packet.now) (sym is) (c.judge_update.ensures.told s (length (drop c.args.head c.args.packet.now)) start (omega arith))
