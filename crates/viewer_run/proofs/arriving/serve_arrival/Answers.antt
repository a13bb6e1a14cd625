use Rattle.std.proofs.Common.{◌∷◌, [], ◌++◌, ap, ◌∙◌, ℕ, refl}
use Rattle.session_rules.specs.declared.entry.Entry.TheVariants.{Join}
use Rattle.viewer_run.specs.Visiting.{ArrivesIn}
use Rattle.viewer_run.proofs.Arrivals.{arrived, last_place}
use Rattle.viewer_run.proofs.arriving.serve_arrival.Goals as goal

pub attend_first-pass-requires-clause-first : goal.attend_first-pass-requires-clause-first
attend_first-pass-requires-clause-first g c κs within = (
  c.args.guest.now.confirmed,
  (arrived c.args.host.now.lock.now.head c.args.guest.now.name c.args.guest.now.confirmed c.args.pass c.arrive-pass.result.0 c.arrive-pass.result.1 c.in-Ok.arrival c.in-Ok.is
      c.arrive-pass.ensures.came).first,
)

pub returns-in-Ok-clause-served : goal.returns-in-Ok-clause-served
returns-in-Ok-clause-served g c =
    let joined = c.arrive-pass.result.0 in
    let arrival = c.in-Ok.arrival in
    let arrives : ArrivesIn c.args.host.now.lock.now.head c.args.guest.now.name c.args.guest.now.confirmed c.args.pass joined arrival
    = arrived c.args.host.now.lock.now.head c.args.guest.now.name c.args.guest.now.confirmed c.args.pass joined c.arrive-pass.result.1 arrival c.in-Ok.is c.arrive-pass.ensures.came in
    record {
      joined = joined;
      arrival = arrival;
      viewer = refl;
      arrives = arrives;
      noted_joined = c.note_join.new.noted;
      joined_places = c.note_join.ensures.list
          ∙ ap (λ (n : ℕ). c.args.ends.now.noted.places.list ++ n ∷ []) (last_place c.args.pass joined arrives.base (Join arrival.v arrives.role) arrives.turn);
      joined_notice = c.note_join.ensures.notice;
      viewed = c.attend_first-pass.result.0;
      noted_viewed = c.attend_first-pass.new.ends.noted;
      stays = c.attend_first-pass.ensures.stays c.args.guest.now.confirmed arrives.first;
      leaves = c.leave_noted-pass.ensures.leaves;
      notice = c.leave_noted-pass.ensures.notice;
    }
