use Rattle.pointer_share.proofs.Written.{entry_whole}
use Rattle.pointer_share.proofs.packet.entry_packet.Goals as goal

pub returns : goal.returns
returns c = entry_whole c.args.index _ _ _ _ c.new-out.ensures.items c.in_ok-put_packet_headers.ensures.ok c.in_ok-extend_from_slice.ensures.items c.point.ensures
