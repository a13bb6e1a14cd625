use Rattle.std.proofs.Common.{◌∙◌, ap, sym}
use Rattle.wire_num.specs.Cursor.{CursorOf, rest}
use Rattle.order_means.specs.PointerPackets.{indicated_at}
use Rattle.update_read.specs.PacketParts.{packet_content}
use Rattle.update_read.proofs.KindFound.{packet_bounds, not_packet, is_packet, found_as}
use Rattle.update_read.proofs.content.find_content.Goals as goal

pub go_to-requires : goal.go_to-requires
go_to-requires c = rw c.new-cursor.ensures (packet_bounds c.args.packet.now (sym c.is_packet.ensures ∙ c.if-is_packet.true))

pub returns-then-is_packet : goal.returns-then-is_packet
returns-then-is_packet c =
    let kind = c.args.kind in
    found_as c.read_indicated.result c.go_to.new.self.bytes c.args.packet.now (indicated_at kind (rest c.go_to.new.self)) (packet_content kind c.args.packet.now)
    (ap (λ (k : CursorOf). k.bytes) c.go_to.ensures ∙ ap (λ (k : CursorOf). k.bytes) c.new-cursor.ensures)
    (ap (λ (k : CursorOf). indicated_at kind (rest k)) (c.go_to.ensures ∙ ap (λ (k : CursorOf). record { bytes = k.bytes; at = 4 }) c.new-cursor.ensures)
    ∙ is_packet kind c.args.packet.now (sym c.is_packet.ensures ∙ c.if-is_packet.true))
    c.read_indicated.ensures

pub returns : goal.returns
returns c = (c.args.packet.now, not_packet c.args.kind c.args.packet.now (sym c.is_packet.ensures ∙ c.if-is_packet.false))
