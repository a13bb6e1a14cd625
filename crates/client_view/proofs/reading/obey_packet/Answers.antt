use Rattle.std.proofs.Common.{◌≡◌, ◌∙◌, ap, refl, sym}
use Rattle.std.proofs.lemmas.Result.{err_from_is_err_and}
use Rattle.caps_sets.specs.Confirmed.{takes_fast}
use Rattle.update_read.specs.declared.step.Step.TheVariants.{More}
use Rattle.update_read.specs.Cutters.{CutterOf, step_of}
use Rattle.client_view.proofs.Streams.{all_updates, gives_body, packet_read, packet_refused, packet_refused_stops, update_less, update_refused, update_stops}
use Rattle.client_view.proofs.reading.obey_packet.Goals as goal

pub loop-step-init : goal.loop-step-init
loop-step-init c =
    let m = c.args.viewer.now in
    record {
      left = λ v u s g. all_updates m.confirmed m.pictures.size v u m c.args.packet.now s g;
      same = record { confirmed = refl; size = refl };
      fast = refl;
      stays = refl;
      step = c.step-step.ensures;
    }

pub returns-in-More-clause-read : goal.returns-in-More-clause-read
returns-in-More-clause-read c = λ v u s g fast.
    let m = c.args.viewer.now in
    let i = c.loop-step.invariant in
    let e : step_of c.loop-step.packet ≡ More = sym i.step ∙ c.in-More.is in
    packet_read m.confirmed m.pictures.size v u c.loop-step.viewer c.loop-step.packet (i.left v u s g) e (i.fast ∙ fast ∙ ap takes_fast (sym i.same.confirmed))

pub returns-in-Refused-clause-read : goal.returns-in-Refused-clause-read
returns-in-Refused-clause-read c = λ v u s g fast.
    let m = c.args.viewer.now in
    let i = c.loop-step.invariant in
    packet_refused m.confirmed m.pictures.size v u c.loop-step.viewer c.loop-step.packet c.in-Refused.at (i.left v u s g) (sym i.step ∙ c.in-Refused.is)

pub returns-in-Refused-clause-stopped : goal.returns-in-Refused-clause-stopped
returns-in-Refused-clause-stopped c = λ v u s g.
    let m = c.args.viewer.now in
    packet_refused_stops m.confirmed m.pictures.size v u c.loop-step.viewer c.loop-step.packet (c.loop-step.invariant.left v u s g)

pub returns-in_err-obey_update-in-Update-clause-read : goal.returns-in_err-obey_update-in-Update-clause-read
returns-in_err-obey_update-in-Update-clause-read c = λ v u s g fast.
    let m = c.args.viewer.now in
    let i = c.loop-step.invariant in
    let l = i.left v u s g in
    let p = err_from_is_err_and c.from_residual.result c.from_residual.ensures.1 in
    let b = gives_body l.left c.loop-step.packet c.in-Update.at c.in-Update.form (sym i.step ∙ c.in-Update.is) l.gives in
    let shown = rw (c.body.ensures, i.same.confirmed, i.same.size) at (c.in_err-obey_update-in-Update.ensures.shown l.here b.place l.view b.at_is) in
    rw (p.1, p.2) (update_refused c.in_err-obey_update-in-Update.field-0.0 m.confirmed m.pictures.size v u c.loop-step.viewer c.loop-step.packet c.in-Update.at c.in-Update.form l b shown)

pub returns-in_err-obey_update-in-Update-clause-stopped : goal.returns-in_err-obey_update-in-Update-clause-stopped
returns-in_err-obey_update-in-Update-clause-stopped c = λ v u s g.
    let m = c.args.viewer.now in
    let i = c.loop-step.invariant in
    let l = i.left v u s g in
    let p = err_from_is_err_and c.from_residual.result c.from_residual.ensures.1 in
    let b = gives_body l.left c.loop-step.packet c.in-Update.at c.in-Update.form (sym i.step ∙ c.in-Update.is) l.gives in
    let stopped = rw (c.body.ensures, i.same.confirmed, i.same.size) at (c.in_err-obey_update-in-Update.ensures.stopped l.here l.view) in
    rw p.1 (update_stops m.confirmed m.pictures.size v u c.loop-step.viewer _ c.loop-step.packet c.in-Update.at c.in-Update.form l b stopped)

pub loop-step-preserved : goal.loop-step-preserved
loop-step-preserved c =
    let m = c.args.viewer.now in
    let i = c.loop-step.invariant in
    record {
      left = λ v u s g.
          let l = i.left v u s g in
          let b = gives_body l.left c.loop-step.packet c.in-Update.at c.in-Update.form (sym i.step ∙ c.in-Update.is) l.gives in
          let shown = rw (c.body.ensures, i.same.confirmed, i.same.size) at (c.in_ok-obey_update-in-Update.ensures.shown l.here b.place l.view b.at_is) in
          update_less m.confirmed m.pictures.size v u c.loop-step.viewer _ c.loop-step.packet _ c.in-Update.at c.in-Update.form l b shown (c.go_on-step.ensures.cut l.left l.gives);
      same = record { confirmed = c.in_ok-obey_update-in-Update.ensures.same.confirmed ∙ i.same.confirmed; size = c.in_ok-obey_update-in-Update.ensures.same.size ∙ i.same.size };
      fast = c.go_on-step.ensures.fast ∙ i.fast;
      stays = c.go_on-step.ensures.stays ∙ ap (λ (p : CutterOf). record p { state = c.go_on-step.new.self.state }) i.stays;
      step = c.go_on-step.ensures.step;
    }
