use Rattle.edge_io.specs.Outside.{outside_of}
use Rattle.viewer_run.proofs.Arrivals.{stays_first}
use Rattle.viewer_run.proofs.arriving.attend_first.Goals as goal

pub returns-in-Ok-clause-stays : goal.returns-in-Ok-clause-stays
returns-in-Ok-clause-stays g c = λ confirmed fresh.
    let a = c.attend_whole-pass in
    stays_first c.args.stay.now.lock.now.head c.args.stay.now.v confirmed c.args.first c.in-Ok.first c.args.ends.now.rest.now c.args.ends.now.conn.hearing a.result.1.sender a.result.1.desk c.args.pass a.result.0
    c.args.ends.now.noted a.new.ends.noted (outside_of g.S.Source g.K.Sink c.args.halves.now.input.now c.args.halves.now.output.now) (outside_of g.S.Source g.K.Sink a.new.halves.input.now a.new.halves.output.now) a.result.2
    c.in-Ok.is fresh a.ensures.attends a.ensures.whole
