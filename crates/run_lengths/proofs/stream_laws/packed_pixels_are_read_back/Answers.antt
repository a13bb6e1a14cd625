use Rattle.run_lengths.specs.Packer.{packed}
use Rattle.run_lengths.proofs.Laws.{decompressed_is_unrle}
use Rattle.run_lengths.proofs.Stretches.{packed_decompresses}
use Rattle.run_lengths.proofs.stream_laws.packed_pixels_are_read_back.Goals as goal

pub returns : goal.returns
returns c = record {
  relation = packed_decompresses;
  pixels = λ depth w h ps some row whole few colors. decompressed_is_unrle depth (packed depth w ps) w h ps some (packed_decompresses depth w h ps some row whole few colors);
}
