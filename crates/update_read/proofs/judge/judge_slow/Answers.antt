use Rattle.std.proofs.Common.{◌≡◌, ◌+◌, ◌*◌, ◌∙◌, ap, sym, arith}
use Rattle.std.specs.Prelude.{slice_index}
use Rattle.order_means.specs.Updates.{Updates}
use Rattle.update_read.proofs.Judged.{few_bytes, goes_on, too_short, capped_more}
use Rattle.update_read.proofs.judge.judge_slow.Goals as goal

pub returns-then-count-lt-HEADER_SIZE-clause-told : goal.returns-then-count-lt-HEADER_SIZE-clause-told
returns-then-count-lt-HEADER_SIZE-clause-told c fast s front b e fits start = few_bytes fast s c.args.packet.now front b e c.requires.some c.if-count-lt-HEADER_SIZE.true c.requires.slow

pub returns-then-length-lt-LEAST_LENGTH-clause-told : goal.returns-then-length-lt-LEAST_LENGTH-clause-told
returns-then-length-lt-LEAST_LENGTH-clause-told c fast s front b e fits start =
    let is = too_short fast s c.args.packet.now front b e c.if-count-eq-HEADER_SIZE.true (rw c.length_of-length.ensures.value at c.if-length-lt-LEAST_LENGTH.true) c.requires.slow in
    (s + 2, ap (λ (u : Updates). u.bodies) is, ap (λ (u : Updates). u.next.stage) is, rw c.saturating_add.ensures (capped_more s c.args.start 2 start))

pub returns-clause-told : goal.returns-clause-told
returns-clause-told c fast s front b e fits start =
    let value : c.length_of-length.result ≡ 256 * slice_index c.args.packet.now 2 + slice_index c.args.packet.now 3 = c.length_of-length.ensures.value in
    let most = c.length_of-length.ensures.most in
    let either = c.else-count-eq-HEADER_SIZE.either in
    let not_whole = c.if-count-length.false in
    goes_on fast s c.args.packet.now front b e fits c.if-count-lt-HEADER_SIZE.false (omega (arith, value, most)) (λ four. grind (arith, either, four, value)) (λ whole. not_whole (whole ∙ sym value)) c.requires.slow
