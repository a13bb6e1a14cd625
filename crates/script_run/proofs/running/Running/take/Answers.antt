use Rattle.std.proofs.Common.{◌≡◌, ◌∙◌, ap, sym, subst}
use Rattle.std.specs.Prelude.{true, Some, [], IsTrue, slice_set}
use Rattle.caps_sets.specs.Confirmed.{plain}
use Rattle.session_core.specs.SessionModel.{is_here, asked_by}
use Rattle.frame_plan.specs.Plans.{is_work, asked_if}
use Rattle.viewer_sender.specs.Senders.{desk_of}
use Rattle.viewer_sender.specs.Seats.{SeatModel, bytes_given}
use Rattle.script_run.specs.Hosts.{HostModel, place_of}
use Rattle.script_run.proofs.SeatLemmas.{seat_here, seat_changed}
use Rattle.script_run.proofs.StepsOn.{suppressed_same}
use Rattle.script_run.proofs.Taking.{has_seat, is_mine, take_on}
use Rattle.script_run.proofs.running.Running.take.Goals as goal

pub place_here-i-requires : goal.place_here-i-requires
place_here-i-requires c =
    let course = rw (← c.self.view_is) at c.requires.course in
    let mine = rw (← c.self.view_is) at c.requires.present in
    rw c.deref.ensures.value (has_seat (record { begun = true; session = c.self.inside.session; seats = c.self.inside.seats.items }) c.args.viewer course mine)

pub next_frame-requires-clause-present : goal.next_frame-requires-clause-present
next_frame-requires-clause-present c =
    let v = c.args.viewer in
    let old = c.self.inside.seats.items in
    let host : HostModel = record { begun = true; session = c.self.inside.session; seats = old } in
    let course = rw (← c.self.view_is) at c.requires.course in
    let mine = rw (← c.self.view_is) at c.requires.present in
    let at : place_of v old ≡ Some c.place_here-i.result = rw c.deref.ensures.value at c.place_here-i.ensures.place in
    let here = seat_here v old c.place_here-i.result c.index_mut-seat.result.now at c.index_mut-seat.ensures.value in
    subst (λ w. IsTrue (is_here c.self.inside.session w)) (sym (is_mine host v c.index_mut-seat.result.now course mine here.0).viewer) mine

pub next_frame-requires-clause-seen : goal.next_frame-requires-clause-seen
next_frame-requires-clause-seen c =
    let v = c.args.viewer in
    let old = c.self.inside.seats.items in
    let host : HostModel = record { begun = true; session = c.self.inside.session; seats = old } in
    let course = rw (← c.self.view_is) at c.requires.course in
    let mine = rw (← c.self.view_is) at c.requires.present in
    let at : place_of v old ≡ Some c.place_here-i.result = rw c.deref.ensures.value at c.place_here-i.ensures.place in
    let here = seat_here v old c.place_here-i.result c.index_mut-seat.result.now at c.index_mut-seat.ensures.value in
    (is_mine host v c.index_mut-seat.result.now course mine here.0).seen

pub next_frame-requires-clause-idle : goal.next_frame-requires-clause-idle
next_frame-requires-clause-idle c =
    let v = c.args.viewer in
    let old = c.self.inside.seats.items in
    let host : HostModel = record { begun = true; session = c.self.inside.session; seats = old } in
    let course = rw (← c.self.view_is) at c.requires.course in
    let mine = rw (← c.self.view_is) at c.requires.present in
    let at : place_of v old ≡ Some c.place_here-i.result = rw c.deref.ensures.value at c.place_here-i.ensures.place in
    let here = seat_here v old c.place_here-i.result c.index_mut-seat.result.now at c.index_mut-seat.ensures.value in
    (is_mine host v c.index_mut-seat.result.now course mine here.0).idle

pub returns-clause-done : goal.returns-clause-done
returns-clause-done c =
    let v = c.args.viewer in
    let old = c.self.inside.seats.items in
    let i = c.place_here-i.result in
    let x : SeatModel = c.index_mut-seat.result.now in
    let y : SeatModel = c.next_frame.new.self in
    let s = c.self.inside.session in
    let e = c.in_ok-sent.ensures in
    let host : HostModel = record { begun = true; session = s; seats = old } in
    let new : HostModel = record { begun = true; session = c.next_frame.new.session; seats = slice_set old i y } in
    let course = rw (← c.self.view_is) at c.requires.course in
    let mine = rw (← c.self.view_is) at c.requires.present in
    let at : place_of v old ≡ Some i = rw c.deref.ensures.value at c.place_here-i.ensures.place in
    let here = seat_here v old i x at c.index_mut-seat.ensures.value in
    let own = is_mine host v x course mine here.0 in
    let asked : asked_by c.next_frame.new.session ≡ asked_if (is_work s (desk_of x.sender)) v (asked_by s) =
    e.asked ∙ ap (λ w. asked_if (is_work s (desk_of x.sender)) w (asked_by s)) own.viewer in
    rw (← c.self.view_is) (λ run preset r.
    let k = take_on host new run v x y c.take_answer.result (bytes_given c.in_ok-sent.sent) preset plain r mine e.head e.journal asked (suppressed_same s c.next_frame.new.session e.suppressed) here.0
    (seat_changed v old i y at (e.sent.viewer ∙ here.1)) c.take_answer.ensures e.sent in
    record { line = k.0; is_run = k.1 })

pub returns-clause-told : goal.returns-clause-told
returns-clause-told c =
    let v = c.args.viewer in
    let old = c.self.inside.seats.items in
    let i = c.place_here-i.result in
    let x : SeatModel = c.index_mut-seat.result.now in
    let y : SeatModel = c.next_frame.new.self in
    let s = c.self.inside.session in
    let e = c.in_ok-sent.ensures in
    let host : HostModel = record { begun = true; session = s; seats = old } in
    let new : HostModel = record { begun = true; session = c.next_frame.new.session; seats = slice_set old i y } in
    let course = rw (← c.self.view_is) at c.requires.course in
    let mine = rw (← c.self.view_is) at c.requires.present in
    let at : place_of v old ≡ Some i = rw c.deref.ensures.value at c.place_here-i.ensures.place in
    let here = seat_here v old i x at c.index_mut-seat.ensures.value in
    let own = is_mine host v x course mine here.0 in
    let asked : asked_by c.next_frame.new.session ≡ asked_if (is_work s (desk_of x.sender)) v (asked_by s) =
    e.asked ∙ ap (λ w. asked_if (is_work s (desk_of x.sender)) w (asked_by s)) own.viewer in
    rw (← c.self.view_is) (λ run r.
    (take_on host new run v x y c.take_answer.result (bytes_given c.in_ok-sent.sent) [] plain r mine e.head e.journal asked (suppressed_same s c.next_frame.new.session e.suppressed) here.0
    (seat_changed v old i y at (e.sent.viewer ∙ here.1)) c.take_answer.ensures e.sent).2)
