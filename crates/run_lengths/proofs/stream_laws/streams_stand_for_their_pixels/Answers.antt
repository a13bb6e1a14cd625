use Rattle.run_lengths.proofs.Laws.{decompressed_is_unrle, unrle_decompresses}
use Rattle.run_lengths.proofs.stream_laws.streams_stand_for_their_pixels.Goals as goal

pub returns : goal.returns
returns c = record { given = unrle_decompresses; alone = decompressed_is_unrle }
