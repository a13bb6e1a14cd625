use Rattle.std.proofs.Common.{◌+◌, ap}
use Rattle.order_means.specs.Updates.{Updates}
use Rattle.update_read.proofs.Judged.{capped_more}
use Rattle.update_read.proofs.Found.{update_told, update_refused, found_sound, found_fewer}
use Rattle.update_read.proofs.judge.judge_update.Goals as goal

pub returns-in-Ok-clause-told : goal.returns-in-Ok-clause-told
returns-in-Ok-clause-told c = λ s most start few.
    let read = c.in-Ok.ensures.fields in
    update_told c.in-Ok.found s most c.args.from c.args.packet.now c.go_to.new.self c.read_fast_update.new.cursor (rw c.new-cursor.ensures at c.go_to.ensures) read.0 read.1 c.in-Ok.ensures.place few

pub returns-in-Ok-clause-sound : goal.returns-in-Ok-clause-sound
returns-in-Ok-clause-sound c =
    found_sound c.in-Ok.found c.args.packet.now c.args.from c.go_to.new.self c.read_fast_update.new.cursor (rw c.new-cursor.ensures at c.go_to.ensures) c.in-Ok.ensures.fields.1 c.in-Ok.ensures.place

pub returns-in-Ok-clause-fewer : goal.returns-in-Ok-clause-fewer
returns-in-Ok-clause-fewer c =
    let read = c.in-Ok.ensures.fields in
    found_fewer c.in-Ok.found c.args.from c.args.packet.now c.go_to.new.self c.read_fast_update.new.cursor (rw c.new-cursor.ensures at c.go_to.ensures) read.0 read.1 c.in-Ok.ensures.place

pub returns-in-Err-clause-told : goal.returns-in-Err-clause-told
returns-in-Err-clause-told c = λ s most start few.
    let read = c.in-Err.ensures.fields in
    let inside = rw c.at.ensures.place at c.at.ensures.inside in
    let is = update_refused s most c.args.from c.args.packet.now c.go_to.new.self c.read_fast_update.new.cursor (rw c.new-cursor.ensures at c.go_to.ensures) read.0 read.1 inside in (
      s + c.read_fast_update.new.cursor.at,
      ap (λ (u : Updates). u.bodies) is,
      ap (λ (u : Updates). u.next.stage) is,
      rw (c.saturating_add.ensures, c.at.ensures.place) (capped_more s c.args.start c.read_fast_update.new.cursor.at start),
    )
