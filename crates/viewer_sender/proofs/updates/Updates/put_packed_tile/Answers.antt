use Rattle.std.proofs.Common.{◌∙◌, drop, ap}
use Rattle.rle_enc.proofs.Pending.{on_ok_as}
use Rattle.order_means.specs.UpdateBodies.{tile_packet}
use Rattle.viewer_sender.specs.Gathering.{gathering, with_packet, orders_in}
use Rattle.viewer_sender.specs.Framings.{is_fast}
use Rattle.viewer_sender.proofs.TilePacket.{packet_put}
use Rattle.viewer_sender.proofs.updates.Updates.put_packed_tile.Goals as goal

pub returns : goal.returns
returns c =
    let u = c.self.inside in
    let depth = c.args.depth in
    let no_header = c.args.no_header in
    let r = c.args.r in
    let pixels = c.args.pixels.now in
    on_ok_as _ _ c.put.result c.put.ensures.ok (λ e.
    ap (λ ps. gathering (is_fast u.framing) ps (orders_in u.user.items u.end) u.count (drop u.end u.user.items))
    (packet_put (is_fast u.framing) depth no_header r pixels u.packets.items _ _ _ _ c.in_ok-put_tile_headers.ensures c.size-size.ensures c.of-body.ensures e)
    ∙ ap (λ g. with_packet g (tile_packet depth g.fast no_header r pixels)) c.self.view_is)
