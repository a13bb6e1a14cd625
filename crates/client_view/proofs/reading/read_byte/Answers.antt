use Rattle.std.proofs.Common.{◌≡◌, ◌∙◌, ◌∷◌, [], ap, sym, subst}
use Rattle.std.specs.Prelude.{Ok, Err}
use Rattle.order_means.specs.Updates.{Cutting, updates_by}
use Rattle.order_means.specs.FrameMarks.{read_on}
use Rattle.update_read.specs.declared.state.State.{State}
use Rattle.update_read.specs.Cutters.{CutterOf, Gives, IsSoundBy}
use Rattle.client_view.specs.Clients.{Reads}
use Rattle.client_view.proofs.Streams.{byte_read, byte_stops, byte_comes}
use Rattle.client_view.proofs.reading.read_byte.Goals as goal

pub come_to-requires : goal.come_to-requires
come_to-requires c =
    let kept = ap (λ (p : CutterOf). p.packet) (c.obey_packet.ensures.stays ∙ ap (λ (p : CutterOf). record p { state = c.obey_packet.new.packet.state }) c.gathered-packet.ensures) in
    subst (IsSoundBy c.state-state.result) kept c.state-state.ensures.sound

pub returns-in-Ok-clause-read : goal.returns-in-Ok-clause-read
returns-in-Ok-clause-read c = λ r s.
    let m = c.args.viewer.now in
    let same : c.come_to.new.self ≡ c.obey_packet.new.packet =
    c.come_to.ensures ∙ ap (λ (t : State). record c.push.new.self { state = t }) c.state-state.ensures.value
    ∙ ap (λ (p : CutterOf). record p { state = c.obey_packet.new.packet.state }) (sym c.gathered-packet.ensures) ∙ sym c.obey_packet.ensures.stays in
    let gives = subst (Gives (updates_by c.args.cutter.now.fast r.cut.place r.cut.stage c.args.byte)) (sym c.gathered-packet.ensures) (c.push.ensures.cut r.cut s.cut) in
    subst (Reads (Ok tt) (read_on m.confirmed m.pictures.size r (c.args.byte ∷ [])) c.obey_packet.new.viewer) (sym same)
    (byte_read (Ok tt) m.confirmed m.pictures.size r c.args.byte c.args.cutter.now.fast c.obey_packet.new.viewer c.obey_packet.new.packet s.fast
    (c.in-Ok.ensures.read r.view _ s.view gives (ap (λ (p : CutterOf). p.fast) c.gathered-packet.ensures ∙ c.push.ensures.fast ∙ s.fast)))

pub returns-in-Err-clause-read : goal.returns-in-Err-clause-read
returns-in-Err-clause-read c = λ r s.
    let m = c.args.viewer.now in
    let gives = subst (Gives (updates_by c.args.cutter.now.fast r.cut.place r.cut.stage c.args.byte)) (sym c.gathered-packet.ensures) (c.push.ensures.cut r.cut s.cut) in
    byte_read (Err c.in-Err.fault) m.confirmed m.pictures.size r c.args.byte c.args.cutter.now.fast c.obey_packet.new.viewer c.obey_packet.new.packet s.fast
    (c.in-Err.ensures.read r.view _ s.view gives (ap (λ (p : CutterOf). p.fast) c.gathered-packet.ensures ∙ c.push.ensures.fast ∙ s.fast))

pub returns-in-Err-clause-stopped : goal.returns-in-Err-clause-stopped
returns-in-Err-clause-stopped c = λ r s.
    let m = c.args.viewer.now in
    let gives = subst (Gives (updates_by c.args.cutter.now.fast r.cut.place r.cut.stage c.args.byte)) (sym c.gathered-packet.ensures) (c.push.ensures.cut r.cut s.cut) in
    byte_comes m.confirmed m.pictures.size r c.args.byte m c.obey_packet.new.viewer c.args.cutter.now s
    (byte_stops (Err c.in-Err.fault) m.confirmed m.pictures.size r c.args.byte c.args.cutter.now.fast c.obey_packet.new.viewer s.fast (c.in-Err.ensures.stopped r.view _ s.view gives))
