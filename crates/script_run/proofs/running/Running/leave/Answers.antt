use Rattle.std.proofs.Common.{◌≡◌, ◌∙◌, ℕ, refl, ap}
use Rattle.std.specs.Prelude.{true, false, ◌==◌, Some}
use Rattle.session_rules.specs.Steps.Step.{LeaveStep}
use Rattle.script_rules.specs.Script.{without_preset}
use Rattle.script_run.specs.Hosts.{HostModel, place_of, seat_of}
use Rattle.script_run.proofs.SeatLemmas.{seat_removed}
use Rattle.script_run.proofs.Leaving.{leave_on, leave_told}
use Rattle.script_run.proofs.Taking.{has_seat}
use Rattle.script_run.proofs.running.Running.leave.Goals as goal

pub place_here-i-requires : goal.place_here-i-requires
place_here-i-requires c =
    let course = rw (← c.self.view_is) at c.requires.course in
    let mine = rw (← c.self.view_is) at c.requires.present in
    rw c.deref.ensures.value (has_seat (record { begun = true; session = c.self.inside.session; seats = c.self.inside.seats.items }) c.args.viewer course mine)

pub returns-clause-done : goal.returns-clause-done
returns-clause-done c =
    let v = c.args.viewer in
    let e = c.leave.ensures in
    let old = c.self.inside.seats.items in
    let host : HostModel = record { begun = true; session = c.self.inside.session; seats = old } in
    let new : HostModel = record { begun = true; session = c.leave.new.self; seats = c.remove.new.self.items } in
    let mine = rw (← c.self.view_is) at c.requires.present in
    let at : place_of v old ≡ Some c.place_here-i.result = rw c.deref.ensures.value at c.place_here-i.ensures.place in
    let others : (u : ℕ) → (v == u) ≡ false → seat_of u c.remove.new.self.items ≡ seat_of u old =
    λ u ne. ap (λ ss. seat_of u ss) c.remove.ensures.items ∙ seat_removed v old c.place_here-i.result at u ne in
    rw (← c.self.view_is) (λ run preset r.
    let k = leave_on host new run (without_preset (LeaveStep v)) v refl c.ranges.viewer.fits r mine c.recall_legal.ensures.size c.recall_legal.ensures.journal e.head e.journal e.asked
    e.suppressed others in
    record { line = k.0; is_run = k.1 })

pub returns-clause-told : goal.returns-clause-told
returns-clause-told c =
    let host : HostModel = record { begun = true; session = c.self.inside.session; seats = c.self.inside.seats.items } in
    let mine = rw (← c.self.view_is) at c.requires.present in
    rw (← c.self.view_is) (λ run r. leave_told host run c.args.viewer c.ranges.viewer.fits r mine)
