use Rattle.std.proofs.Common.{None}
use Rattle.px_core.specs.Picture.{pixel_at}
use Rattle.client_view.specs.Widened.{widened_picture}
use Rattle.capture_show.specs.Shown.{rows_text, picture_head}
use Rattle.capture_show.proofs.Showing.{writes_behind, front_extends}
use Rattle.capture_show.proofs.picture.write_picture.Goals as goal

pub returns-in-Ok-clause-written : goal.returns-in-Ok-clause-written
returns-in-Ok-clause-written g c =
    let client = c.args.client.now.viewer in
    let size = client.pictures.size in
    let head = picture_head size client.marks client.orders client.tiles in
    let made = rw (c.size.ensures, c.marks.ensures.value, c.orders.ensures.value, c.tiles.ensures.value) at c.picture_head-head.ensures in
    writes_behind c.write_rows.result (g.K.Sink.told c.args.output.now) (g.K.Sink.told c.put_made.new.output) (g.K.Sink.told c.write_rows.new.output) head
    (rows_text size.w (λ x y. pixel_at size (widened_picture client.pictures.depth client.pictures.marked) None x y) size.h) (c.in-Ok.ensures.written head made) c.write_rows.ensures.written

pub returns-in-Err-clause-written : goal.returns-in-Err-clause-written
returns-in-Err-clause-written g c =
    let client = c.args.client.now.viewer in
    let size = client.pictures.size in
    let head = picture_head size client.marks client.orders client.tiles in
    let made = rw (c.size.ensures, c.marks.ensures.value, c.orders.ensures.value, c.tiles.ensures.value) at c.picture_head-head.ensures in
    front_extends (g.K.Sink.told c.args.output.now) (g.K.Sink.told c.put_made.new.output) head (rows_text size.w (λ x y. pixel_at size (widened_picture client.pictures.depth client.pictures.marked) None x y) size.h)
    (c.in-Err.ensures.written head made)
