use Rattle.std.proofs.Common.{None}
use Rattle.std.proofs.lemmas.Result.{err_from_is_err_and}
use Rattle.px_core.specs.Picture.{pixel_at}
use Rattle.client_view.specs.Widened.{widened_picture}
use Rattle.capture_show.proofs.Showing.{rows_stop}
use Rattle.capture_show.proofs.picture.write_rows.Goals as goal

pub returns-in_err-write_row-clause-written : goal.returns-in_err-write_row-clause-written
returns-in_err-write_row-clause-written g c =
    let p = err_from_is_err_and c.from_residual.result c.from_residual.ensures.1 in
    let pictures = c.args.client.now.viewer.pictures in
    rw p.1 (rows_stop pictures.size.w (λ x y. pixel_at pictures.size (widened_picture pictures.depth pictures.marked) None x y) c.loop-y.y pictures.size.h (g.K.Sink.told c.args.output.now) (g.K.Sink.told c.loop-y.output)
    (g.K.Sink.told c.write_row.new.output) (rw c.size-y-end.ensures at c.loop-y-test.true) c.loop-y.invariant.written c.in_err-write_row.ensures.written)
