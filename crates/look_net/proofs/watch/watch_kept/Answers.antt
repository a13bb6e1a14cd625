use Rattle.std.proofs.Common.{[], List, ℕ, ap, sym, ◌∙◌, subst}
use Rattle.tpkt_x224.specs.declared.tpkt.Packet.TheVariants.{Whole, Part}
use Rattle.caps_sets.specs.Confirmed.{takes_fast}
use Rattle.viewer_rules.specs.declared.stage.Stage.{Stage}
use Rattle.viewer_rules.specs.HostStream.{host_packet_at}
use Rattle.viewer_rules.specs.ViewerHandshake.{packet_told, awaits_fast}
use Rattle.look_net.specs.Watches.{WatchesPacket}
use Rattle.look_net.proofs.HostHeads.{awaited_head, stream_of, packet_slow, whole_kept}
use Rattle.look_net.proofs.Loop.{whole_is, packet_goes, part_goes, version_goes, length_goes, not_other, not_whole}
use Rattle.look_net.proofs.watch.watch_kept.Goals as goal

pub watch_packet-done-requires-clause-slow : goal.watch_packet-done-requires-clause-slow
watch_packet-done-requires-clause-slow c =
    let head = ap (host_packet_at c.awaits_fast.result) (sym c.deref.ensures.value) ∙ sym c.in-Whole.ensures in
    λ silent.
    rw c.deref-in-Whole.ensures.value (packet_slow c.args.viewer.now.confirmed c.args.watcher.now.stage c.args.part.now.items _ (rw c.awaits_fast.ensures at head) (not_whole _) silent)

pub watch_packet-done-requires-clause-whole : goal.watch_packet-done-requires-clause-whole
watch_packet-done-requires-clause-whole c =
    let part = c.args.part.now.items in
    let head = ap (host_packet_at c.awaits_fast.result) (sym c.deref.ensures.value) ∙ sym c.in-Whole.ensures in
    rw c.deref-in-Whole.ensures.value (whole_kept c.awaits_fast.result part _ head (c.requires _ (stream_of _ part _ head (not_whole _))))

pub returns-in-Whole-clause-gone : goal.returns-in-Whole-clause-gone
returns-in-Whole-clause-gone c = λ s stays goes.
    let conf = c.args.viewer.now.confirmed in
    let part = c.args.part.now.items in
    let head = rw c.awaits_fast.ensures at (ap (host_packet_at c.awaits_fast.result) (sym c.deref.ensures.value) ∙ sym c.in-Whole.ensures) in
    let x = whole_is c.args.viewer.now.name conf s part _ (awaited_head conf c.args.watcher.now.stage part _ head (not_whole _)) (c.requires _ (stream_of _ part _ head (not_whole _))) in
    packet_goes c.watch_packet-done.result c.args.viewer.now.name conf (packet_told c.args.viewer.now.name conf s.stage s part)
    c.watch_packet-done.new.watcher c.args.out.now.items c.watch_packet-done.new.out.items _ c.clear.new.self.items x
    (subst (λ (p : List ℕ). WatchesPacket c.watch_packet-done.result (packet_told c.args.viewer.now.name conf s.stage s p) conf
    c.watch_packet-done.new.watcher c.args.out.now.items c.watch_packet-done.new.out.items) c.deref-in-Whole.ensures.value (c.watch_packet-done.ensures s stays goes)) c.clear.ensures.items

pub returns-in-Part-clause-gone : goal.returns-in-Part-clause-gone
returns-in-Part-clause-gone c = λ s stays goes.
    let head = rw (c.awaits_fast.ensures, stays.stage_is) at (ap (host_packet_at c.awaits_fast.result) (sym c.deref.ensures.value) ∙ sym c.in-Part.ensures) in
    part_goes c.args.viewer.now.name c.args.viewer.now.confirmed s c.args.watcher.now c.args.part.now.items c.args.out.now.items head stays

pub returns-in-Part-clause-waits : goal.returns-in-Part-clause-waits
returns-in-Part-clause-waits c = stream_of _ c.args.part.now.items Part (ap (host_packet_at c.awaits_fast.result) (sym c.deref.ensures.value) ∙ sym c.in-Part.ensures) not_other

pub returns-in-NotTpkt-clause-gone : goal.returns-in-NotTpkt-clause-gone
returns-in-NotTpkt-clause-gone c = λ s stays goes.
    let head = rw (c.awaits_fast.ensures, stays.stage_is) at (ap (host_packet_at c.awaits_fast.result) (sym c.deref.ensures.value) ∙ sym c.in-NotTpkt.ensures) in
    version_goes c.args.viewer.now.name c.args.viewer.now.confirmed s c.args.watcher.now c.args.part.now.items c.args.out.now.items [] head stays goes

pub returns-in-BadLength-clause-gone : goal.returns-in-BadLength-clause-gone
returns-in-BadLength-clause-gone c = λ s stays goes.
    let head = rw (c.awaits_fast.ensures, stays.stage_is) at (ap (host_packet_at c.awaits_fast.result) (sym c.deref.ensures.value) ∙ sym c.in-BadLength.ensures) in
    length_goes c.args.viewer.now.name c.args.viewer.now.confirmed s c.args.watcher.now c.args.part.now.items c.args.out.now.items [] _ head stays goes
    (rw (c.length_place.ensures, c.deref-in-BadLength.ensures.value) at c.saturating_add-at.ensures)
