use Rattle.std.proofs.Common.{◌+◌, length, ap, refl}
use Rattle.order_means.specs.Updates.{Updates}
use Rattle.update_read.proofs.Judged.{body_found, field_refused, capped_more}
use Rattle.update_read.proofs.judge.read_packet.Goals as goal

pub returns-in-Ok : goal.returns-in-Ok
returns-in-Ok c fast s front b e fits start =
    body_found fast s c.args.packet.now front b c.in-Ok.body (length c.args.packet.now) c.go_to.new.self c.read_indication.new.cursor e fits c.requires.least c.requires.whole c.requires.slow
    (rw c.new-cursor.ensures at c.go_to.ensures) c.in-Ok.ensures refl

pub returns-in-Err : goal.returns-in-Err
returns-in-Err c fast s front b e fits start =
    let read = c.in-Err.ensures in
    let inside = rw c.at.ensures.place at c.at.ensures.inside in
    let is = field_refused fast s c.args.packet.now front b c.go_to.new.self c.read_indication.new.cursor e fits c.requires.least c.requires.whole c.requires.slow (rw c.new-cursor.ensures at c.go_to.ensures) read.0 read.1 inside in (
      s + c.read_indication.new.cursor.at,
      ap (λ (u : Updates). u.bodies) is,
      ap (λ (u : Updates). u.next.stage) is,
      rw (c.saturating_add.ensures, c.at.ensures.place) (capped_more s c.args.start c.read_indication.new.cursor.at start),
    )
