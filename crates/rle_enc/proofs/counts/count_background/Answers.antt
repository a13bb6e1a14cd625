use Rattle.std.proofs.Common.{◌∙◌, ap, sym}
use Rattle.run_lengths.specs.Packer.{background_count}
use Rattle.rle_enc.specs.Stretch.{spots_of}
use Rattle.rle_enc.proofs.Counting.{black_count_leading}
use Rattle.rle_enc.proofs.counts.count_background.Goals as goal

pub returns-in-None-clause-is : goal.returns-in-None-clause-is
returns-in-None-clause-is c = c.count_color.ensures.is ∙ sym (black_count_leading c.args.pixels.now) ∙ ap (λ a. background_count (spots_of a c.args.pixels.now)) (sym c.in-None.is)
