use Rattle.std.proofs.Common.{[], length, sym, ap, ◌∙◌, subst}
use Rattle.std.specs.Prelude.{Ok, Result}
use Rattle.wire_num.specs.declared.out_of_memory.OutOfMemory.{OutOfMemory}
use Rattle.session_core.specs.SessionModel.{is_suppressed}
use Rattle.frame_plan.specs.declared.taken.Taken.{Taken}
use Rattle.caps_sets.specs.declared.confirmed.Confirmed.{Confirmed}
use Rattle.pointer_share.specs.Desk.{IsDeskOf}
use Rattle.viewer_sender.specs.Seats.{key_of, desk_after}
use Rattle.viewer_run.specs.Sending.{TakesAs}
use Rattle.viewer_run.proofs.OneTake.{of_seat, took}
use Rattle.viewer_run.proofs.Coming.{first_work}
use Rattle.viewer_run.proofs.visits.first_frame.Goals as goal

pub unreachable-requires : goal.unreachable-requires
unreachable-requires c =
    let s = c.in_ok-seat.seat.sender in
    let made = c.in_ok-seat.ensures in
    first_work c.args.session.now s made.number c.requires.some (ap (is_suppressed c.args.session.now) made.viewer ∙ c.requires.fresh)
    (sym c.in-Nothing.is ∙ c.in_ok-take.ensures.taken)

pub returns-clause-first : goal.returns-clause-first
returns-clause-first c =
    let session = c.args.session.now in
    let x = c.in_ok-seat.seat in
    let made = c.in_ok-seat.ensures in
    let t = c.take in
    let is = c.in_ok-take.was ∙ ap Ok c.in-Frame.is in (
      x.sender,
      x.desk,
      record {
        viewer = made.viewer;
        confirms = made.confirmed;
        number = made.number;
        idle = record { all = made.encoded ∙ sym made.taken; sound = made.sound };
        follows = ((made.stands, made.held), subst (λ (k : Confirmed). IsDeskOf k [] x.desk) (sym made.confirmed) made.desk);
      },
      subst (λ (r : Result Taken OutOfMemory). TakesAs session.head session.journal x.sender t.new.self.sender x.desk t.new.self.desk r) is
          (took session t.new.session x.sender t.new.self.sender x.desk t.new.self.desk t.result t.ensures.taken t.ensures.own t.ensures.sender
          (of_seat t.result session t.new.session x t.new.self t.ensures.unchanged) t.ensures.noted),
    )
