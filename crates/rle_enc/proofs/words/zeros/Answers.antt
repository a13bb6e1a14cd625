use Rattle.rle_enc.proofs.Telling.{zeros_below, zeros_end}
use Rattle.rle_enc.proofs.words.zeros.Goals as goal

pub returns-clause-zeros : goal.returns-clause-zeros
returns-clause-zeros c = zeros_below c.args.word c.ranges.word.fits

pub returns-clause-stops : goal.returns-clause-stops
returns-clause-stops c = zeros_end c.args.word c.ranges.word.fits
