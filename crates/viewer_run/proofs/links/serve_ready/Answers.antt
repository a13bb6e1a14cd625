use Rattle.std.proofs.Common.{subst, Ok, Err}
use Rattle.std.specs.Prelude.{Result}
use Rattle.edge_io.specs.Outside.{output_of, outside_of}
use Rattle.serve_rules.specs.declared.ends.ConnEnd.{ConnEnd}
use Rattle.serve_rules.specs.declared.noted.Noted.{Noted}
use Rattle.viewer_run.specs.declared.arriving.Visit.{Visit}
use Rattle.viewer_run.specs.Arriving.{GuestServed}
use Rattle.viewer_run.proofs.links.serve_ready.Goals as goal

pub returns-in-Ok-clause-served : goal.returns-in-Ok-clause-served
returns-in-Ok-clause-served g c = record {
  came = Ok c.in-Ok.visited;
  between = output_of g.K.Sink c.serve_guest-pass.new.halves.output.now;
  guest_served = subst (λ (came : Result (Visit × Noted) ConnEnd). GuestServed c.args.host.now.lock.now.head c.args.guest.now c.args.conn.hearing c.args.pass
      c.serve_guest-pass.result.0 (outside_of g.S.Source g.K.Sink c.args.halves.now.input.now c.args.halves.now.output.now)
      (outside_of g.S.Source g.K.Sink c.serve_guest-pass.new.halves.input.now c.serve_guest-pass.new.halves.output.now) came) c.in-Ok.is c.serve_guest-pass.ensures.served;
  reported = (record { viewer = c.report_of.ensures.viewer; places = c.report_of.ensures.places }, c.report_of.ensures.last);
}

pub returns-in-Err-clause-served : goal.returns-in-Err-clause-served
returns-in-Err-clause-served g c = record {
  came = Err c.in-Err.end;
  between = output_of g.K.Sink c.serve_guest-pass.new.halves.output.now;
  guest_served = subst (λ (came : Result (Visit × Noted) ConnEnd). GuestServed c.args.host.now.lock.now.head c.args.guest.now c.args.conn.hearing c.args.pass
      c.serve_guest-pass.result.0 (outside_of g.S.Source g.K.Sink c.args.halves.now.input.now c.args.halves.now.output.now)
      (outside_of g.S.Source g.K.Sink c.serve_guest-pass.new.halves.input.now c.serve_guest-pass.new.halves.output.now) came) c.in-Err.is c.serve_guest-pass.ensures.served;
  reported = (record { nobody = c.turn_away.ensures.nobody; none = c.turn_away.ensures.none }, c.turn_away.ensures.last);
}
