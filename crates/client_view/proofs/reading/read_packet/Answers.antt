use Rattle.std.proofs.Common.{◌∙◌, refl, sym}
use Rattle.client_view.proofs.Streams.{opened_ok, opened_refused, opened_stops}
use Rattle.client_view.proofs.reading.read_packet.Goals as goal

pub returns-in-Ok-clause-read : goal.returns-in-Ok-clause-read
returns-in-Ok-clause-read c = λ r s.
    let m = c.args.viewer.now in
    let o = c.opened-opened.ensures.opens r.cut s.cut in
    let kept = c.opened-opened.ensures.fast in
    opened_ok m.confirmed m.pictures.size r c.args.packet.now m c.obey_packet.new.viewer c.args.cutter.now c.opened-opened.result c.obey_packet.new.packet c.pass.new.self refl (sym c.in-Ok.ensures.same.confirmed) s kept o
    (c.in-Ok.ensures.read r.view _ s.view o.gives (kept ∙ s.fast)) c.pass.ensures.fast (c.pass.ensures.past r.cut s.cut)

pub returns-in-Err-clause-read : goal.returns-in-Err-clause-read
returns-in-Err-clause-read c = λ r s.
    let m = c.args.viewer.now in
    let o = c.opened-opened.ensures.opens r.cut s.cut in
    let kept = c.opened-opened.ensures.fast in
    opened_refused c.in-Err.fault m.confirmed m.pictures.size r c.args.packet.now m c.obey_packet.new.viewer c.args.cutter.now c.opened-opened.result c.obey_packet.new.packet refl s kept o
    (c.in-Err.ensures.read r.view _ s.view o.gives (kept ∙ s.fast))

pub returns-in-Err-clause-stopped : goal.returns-in-Err-clause-stopped
returns-in-Err-clause-stopped c = λ r s.
    let m = c.args.viewer.now in
    let o = c.opened-opened.ensures.opens r.cut s.cut in
    let kept = c.opened-opened.ensures.fast in
    opened_stops c.in-Err.fault m.confirmed m.pictures.size r c.args.packet.now m c.obey_packet.new.viewer c.args.cutter.now c.opened-opened.result refl s kept o
    (c.in-Err.ensures.stopped r.view _ s.view o.gives)
