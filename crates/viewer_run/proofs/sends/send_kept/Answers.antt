use Rattle.std.proofs.Common.{List, ℕ, refl, ap, ◌∙◌, subst, Err}
use Rattle.edge_io.specs.Outside.{output_of}
use Rattle.viewer_sender.specs.Seats.{SeatModel}
use Rattle.serve_rules.specs.declared.ends.ConnEnd.TheVariants.{OutOfMemory}
use Rattle.viewer_run.specs.Sending.{WritesFrame}
use Rattle.viewer_run.proofs.OneTake.{unsent, number_stays, sent}
use Rattle.viewer_run.proofs.Writing.{pointed}
use Rattle.viewer_run.proofs.sends.send_kept.Goals as goal

pub returns-in-Ok : goal.returns-in-Ok
returns-in-Ok g c =
    let old = c.args.seat.now in
    let new = c.encode.new.self in
    let was = output_of g.K.Sink c.args.output.now in
    let now = output_of g.K.Sink c.write_frame.new.output in
    let e = c.in-Ok.ensures.bytes in
    sent old.sender new.sender old.desk new.desk c.args.take e.frame was now c.write_frame.result
    (record { bytes_are = e.bytes; after = c.in-Ok.ensures.after; rest = c.in-Ok.ensures.rest })
    (pointed old.desk new.desk e.pointed.packet e.frame was now c.write_frame.result e.pointed.tells e.pointed.leads
    (subst (λ (bytes : List ℕ). WritesFrame bytes was now c.write_frame.result) (c.deref.ensures.value ∙ e.pointed.whole) c.write_frame.ensures))

pub returns-in-Err : goal.returns-in-Err
returns-in-Err g c = unsent _ _ _ _ _ (output_of g.K.Sink c.args.output.now) (output_of g.K.Sink c.args.output.now) OutOfMemory (number_stays c.in-Err.field-0 c.args.seat.now.sender c.encode.new.self.sender
    (λ e. let h = c.encode.ensures.only_spent (c.in-Err.is ∙ ap Err e) in (h.0, ap (λ (s : SeatModel). s.sender) h.1))
    (λ e. c.encode.ensures.memory (c.in-Err.is ∙ ap Err e))) tt refl (λ is. absurd is)
