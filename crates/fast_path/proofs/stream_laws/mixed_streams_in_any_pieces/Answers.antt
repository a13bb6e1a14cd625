use Rattle.std.proofs.Common.{refl, []}
use Rattle.tpkt_x224.proofs.AnyCutting as cutting
use Rattle.tpkt_x224.proofs.AnyStream as stream
use Rattle.fast_path.specs.Heads.{IsStreamPacket, stream_packet_at}
use Rattle.fast_path.proofs.Mixed.{reads_streams, stream_whole, part_left}
use Rattle.fast_path.proofs.stream_laws.mixed_streams_in_any_pieces.Goals as goal

pub returns-clause-joined : goal.returns-clause-joined
returns-clause-joined c = stream.stream_joined stream_packet_at IsStreamPacket reads_streams stream_whole

pub returns-clause-each : goal.returns-clause-each
returns-clause-each c = stream.each_packet stream_packet_at IsStreamPacket reads_streams stream_whole

pub returns-clause-left : goal.returns-clause-left
returns-clause-left c = stream.none_left stream_packet_at IsStreamPacket reads_streams stream_whole

pub returns-clause-part : goal.returns-clause-part
returns-clause-part c = part_left

pub returns-clause-only : goal.returns-clause-only
returns-clause-only c = λ bytes packets rest. (
  stream.cut_is_stream stream_packet_at IsStreamPacket reads_streams stream_whole bytes packets rest,
  stream.stream_is_cut stream_packet_at IsStreamPacket reads_streams stream_whole bytes packets rest,
)

pub returns-clause-two : goal.returns-clause-two
returns-clause-two c = cutting.joined stream_packet_at reads_streams

pub returns-clause-all : goal.returns-clause-all
returns-clause-all c = λ pieces. cutting.pieces_joined stream_packet_at reads_streams [] pieces refl
