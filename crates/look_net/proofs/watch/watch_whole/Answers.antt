use Rattle.std.proofs.Common.{sym, ap, ◌∙◌, ◌++◌, List, ℕ}
use Rattle.tpkt_x224.specs.declared.tpkt.Packet.TheVariants.{Part}
use Rattle.fast_path.specs.Heads.{stream_packet_at}
use Rattle.viewer_rules.proofs.HostStream.{reads_hosts}
use Rattle.look_net.proofs.HostHeads.{stream_of, front_slow, whole_there}
use Rattle.look_net.proofs.Loop.{packet_gone, packet_stops, kept_gone, none_kept, version_stops, length_stops, nil_of, not_other, not_whole}
use Rattle.look_net.proofs.watch.watch_whole.Goals as goal

pub returns-in-Ok-clause-gone : goal.returns-in-Ok-clause-gone
returns-in-Ok-clause-gone c = λ w stays keeps goes.
    packet_gone c.args.viewer.now.name c.args.viewer.now.confirmed w c.args.part.now.items c.args.bytes.now c.in-Whole.n c.watch_packet.new.watcher c.args.out.now.items c.watch_packet.new.out.items keeps goes c.requires.none
    (rw (c.awaits_fast.ensures, stays.stage_is) at (sym c.in-Whole.ensures)) (c.in-Ok.ensures w.at stays goes)

pub returns-in-Err-clause-gone : goal.returns-in-Err-clause-gone
returns-in-Err-clause-gone c = λ w stays keeps goes.
    packet_stops c.in-Err.fault c.args.viewer.now.name c.args.viewer.now.confirmed w c.args.part.now.items c.args.bytes.now c.in-Whole.n c.watch_packet.new.watcher c.args.out.now.items c.watch_packet.new.out.items keeps goes c.requires.none
    (rw (c.awaits_fast.ensures, stays.stage_is) at (sym c.in-Whole.ensures)) (c.in-Err.ensures w.at stays goes)

pub returns-in-Ok-keep-clause-gone : goal.returns-in-Ok-keep-clause-gone
returns-in-Ok-keep-clause-gone c = λ w stays keeps goes.
    kept_gone c.args.viewer.now.name c.args.viewer.now.confirmed w c.args.watcher.now c.args.part.now.items c.args.bytes.now c.keep.new.part.items c.args.out.now.items stays keeps goes c.requires.none (rw (c.awaits_fast.ensures, stays.stage_is) at (sym c.in-Part.ensures)) c.in-Ok-keep.ensures.kept

pub returns-in-Err-keep-clause-gone : goal.returns-in-Err-keep-clause-gone
returns-in-Err-keep-clause-gone c = λ w stays keeps goes.
    none_kept c.in-Err-keep.fault c.args.viewer.now.name c.args.viewer.now.confirmed w c.args.watcher.now c.args.part.now.items c.args.bytes.now c.args.out.now.items c.in-Err-keep.ensures.kept.0 keeps goes

pub returns-in-NotTpkt-clause-gone : goal.returns-in-NotTpkt-clause-gone
returns-in-NotTpkt-clause-gone c = λ w stays keeps goes.
    version_stops c.args.viewer.now.name c.args.viewer.now.confirmed w c.args.watcher.now c.args.part.now.items c.args.bytes.now c.args.out.now.items stays keeps goes c.requires.none (rw (c.awaits_fast.ensures, stays.stage_is) at (sym c.in-NotTpkt.ensures))

pub returns-in-BadLength-clause-gone : goal.returns-in-BadLength-clause-gone
returns-in-BadLength-clause-gone c = λ w stays keeps goes.
    length_stops c.args.viewer.now.name c.args.viewer.now.confirmed w c.args.watcher.now c.args.part.now.items c.args.bytes.now c.args.out.now.items _ stays keeps goes c.requires.none (rw (c.awaits_fast.ensures, stays.stage_is) at (sym c.in-BadLength.ensures)) (rw c.length_place.ensures at c.saturating_add.ensures)

pub watch_packet-requires-clause-slow : goal.watch_packet-requires-clause-slow
watch_packet-requires-clause-slow c = λ silent.
    front_slow c.args.viewer.now.confirmed c.args.watcher.now.stage c.args.bytes.now c.in-Whole.n ((reads_hosts _).bounds c.args.bytes.now c.in-Whole.n (sym c.in-Whole.ensures)).0 (rw c.awaits_fast.ensures at (sym c.in-Whole.ensures)) silent

pub watch_packet-requires-clause-whole : goal.watch_packet-requires-clause-whole
watch_packet-requires-clause-whole c = whole_there c.awaits_fast.result c.args.bytes.now c.in-Whole.n (sym c.in-Whole.ensures)

pub returns-in-Ok-keep-clause-waits : goal.returns-in-Ok-keep-clause-waits
returns-in-Ok-keep-clause-waits c =
    ap stream_packet_at (c.in-Ok-keep.ensures.kept ∙ ap (λ (xs : List ℕ). xs ++ c.args.bytes.now) (nil_of c.args.part.now.items c.requires.none))
    ∙ stream_of _ c.args.bytes.now Part (sym c.in-Part.ensures) not_other
