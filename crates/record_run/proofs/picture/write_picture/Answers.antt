use Rattle.std.proofs.lemmas.Result.{err_from_is_err_and}
use Rattle.record_rules.specs.Fields.{colors_bytes}
use Rattle.record_run.specs.Shown.{picture_head}
use Rattle.record_run.proofs.Written.{writes_behind, front_extends}
use Rattle.record_run.proofs.picture.write_picture.Goals as goal

pub returns-in_err-put_made-clause-written : goal.returns-in_err-put_made-clause-written
returns-in_err-put_made-clause-written g c =
    let p = err_from_is_err_and c.from_residual.result c.from_residual.ensures.1 in
    let head = picture_head c.args.size c.args.stop in
    rw p.1 (front_extends (g.K.Sink.told c.args.output.now) (g.K.Sink.told c.put_made.new.output) head (colors_bytes c.args.pixels.now) (c.in_err-put_made.ensures.written head c.picture_head.ensures))

pub returns-clause-written : goal.returns-clause-written
returns-clause-written g c =
    let head = picture_head c.args.size c.args.stop in
    writes_behind c.write_pixels.result (g.K.Sink.told c.args.output.now) (g.K.Sink.told c.put_made.new.output) (g.K.Sink.told c.write_pixels.new.output) head (colors_bytes c.args.pixels.now)
    (c.in_ok-put_made.ensures.written head c.picture_head.ensures) c.write_pixels.ensures.written
