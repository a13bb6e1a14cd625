use Rattle.std.proofs.Common.{refl, []}
use Rattle.tpkt_x224.proofs.Cutting.{joined, pieces_joined}
use Rattle.tpkt_x224.proofs.Stream.{stream_joined, each_packet, none_left, part_left, cut_is_stream, stream_is_cut}
use Rattle.tpkt_x224.proofs.pieces.packets_in_any_pieces.Goals as goal

pub returns-clause-joined : goal.returns-clause-joined
returns-clause-joined c = stream_joined

pub returns-clause-each : goal.returns-clause-each
returns-clause-each c = each_packet

pub returns-clause-left : goal.returns-clause-left
returns-clause-left c = none_left

pub returns-clause-part : goal.returns-clause-part
returns-clause-part c = part_left

pub returns-clause-only : goal.returns-clause-only
returns-clause-only c = λ bytes packets rest. (cut_is_stream bytes packets rest, stream_is_cut bytes packets rest)

pub returns-clause-two : goal.returns-clause-two
returns-clause-two c = joined

pub returns-clause-all : goal.returns-clause-all
returns-clause-all c = λ pieces. pieces_joined [] pieces refl
