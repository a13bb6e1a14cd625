use Rattle.std.proofs.Common.{refl}
use Rattle.update_read.proofs.Contents.{IsTotal, headers_refused, body_read}
use Rattle.update_read.proofs.share.read_share.Goals as goal

pub returns-in-Ok : goal.returns-in-Ok
returns-in-Ok c =
    let is : IsTotal c.in_ok-content.content c.args.cursor.now c.read_total.new.cursor = record { total = c.in_ok-content.ensures.field.0; same = c.in_ok-content.ensures.field.1; part = c.in_ok-content.ensures.part } in
    let read = c.in-Ok.ensures in
    let inside = rw c.at.ensures.place at c.at.ensures.inside in
    body_read c.at.result c.at-in-Ok.result _ c.args.cursor.now c.read_total.new.cursor c.in_ok-content.content c.read_headers.new.cursor is read.1 inside read.0 c.at.ensures.place c.at-in-Ok.ensures.place

pub returns-in-Err : goal.returns-in-Err
returns-in-Err c =
    let is : IsTotal c.in_ok-content.content c.args.cursor.now c.read_total.new.cursor = record { total = c.in_ok-content.ensures.field.0; same = c.in_ok-content.ensures.field.1; part = c.in_ok-content.ensures.part } in
    let read = c.in-Err.ensures in
    let inside = rw c.at-in-Err.ensures.place at c.at-in-Err.ensures.inside in
    let whole = headers_refused c.args.cursor.now c.read_total.new.cursor c.in_ok-content.content c.read_headers.new.cursor is read.1 inside read.0 in
    rw (c.refused.ensures.refused, c.refused.ensures.place) (rw (is.same, c.at-in-Err.ensures.place) whole, is.same, refl)
