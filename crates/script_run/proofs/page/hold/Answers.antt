use Rattle.std.proofs.lemmas.Result.{err_from_is_err_and, on_ok_weaker, on_err_weaker}
use Rattle.script_run.proofs.Held.{held_put, front_longer, front_after}
use Rattle.script_run.proofs.page.hold.Goals as goal

pub returns-in_err-flush-clause-front : goal.returns-in_err-flush-clause-front
returns-in_err-flush-clause-front g c =
    let p = err_from_is_err_and c.from_residual.result c.from_residual.ensures.1 in
    rw p.1 (front_longer (g.K.Sink.told c.args.output.now) (g.K.Sink.told c.flush.new.output) c.args.page.now c.args.text.now c.in_err-flush.ensures.front)

pub returns-clause-held : goal.returns-clause-held
returns-clause-held g c = on_ok_weaker c.put.result
    (λ written. held_put (g.K.Sink.told c.args.output.now) (g.K.Sink.told c.flush.new.output) (g.K.Sink.told c.put.new.output)
    c.args.page.now c.flush.new.page c.args.text.now c.in_ok-flush.ensures.written c.in_ok-flush.ensures.empty written) c.put.ensures.written

pub returns-clause-front : goal.returns-clause-front
returns-clause-front g c = on_err_weaker c.put.result
    (λ front. front_after (g.K.Sink.told c.args.output.now) (g.K.Sink.told c.flush.new.output) (g.K.Sink.told c.put.new.output)
    c.args.page.now c.args.text.now c.in_ok-flush.ensures.written front) c.put.ensures.front
