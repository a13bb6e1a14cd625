use Rattle.std.proofs.Common.{sym, subst, Ok, rules}
use Rattle.answer_run.specs.Visits.{Asks}
use Rattle.answer_run.proofs.Visiting.{area_asked, stop_asked}
use Rattle.answer_run.proofs.visitor.ask.Goals as goal

pub returns-in-Refresh-clause-done : goal.returns-in-Refresh-clause-done
returns-in-Refresh-clause-done g c =
    subst (λ one. Asks (Ok tt) one c.args.solo.now c.refresh.new.solo (g.K.Sink.told c.args.output.now) (g.K.Sink.told c.args.output.now)) (sym c.in-Refresh.is)
    (area_asked c.in-Refresh.area c.args.solo.now c.refresh.new.solo (g.K.Sink.told c.args.output.now) c.refresh.ensures.done)

pub returns-in-Suppress-clause-done : goal.returns-in-Suppress-clause-done
returns-in-Suppress-clause-done g c =
    subst (λ one. Asks (Ok tt) one c.args.solo.now c.suppress.new.solo (g.K.Sink.told c.args.output.now) (g.K.Sink.told c.args.output.now)) (sym c.in-Suppress.is)
    (stop_asked c.in-Suppress.stop c.args.solo.now c.suppress.new.solo (g.K.Sink.told c.args.output.now) c.suppress.ensures.done)

pub returns-in-Packet-clause-done : goal.returns-in-Packet-clause-done
returns-in-Packet-clause-done g c = search rules
