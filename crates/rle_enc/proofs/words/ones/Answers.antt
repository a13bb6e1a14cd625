use Rattle.rle_enc.proofs.Telling.{few_ones, ones_below, ones_end}
use Rattle.rle_enc.proofs.words.ones.Goals as goal

pub returns-clause-few : goal.returns-clause-few
returns-clause-few c = few_ones c.args.word c.trailing_ones.result c.trailing_ones.ensures

pub returns-clause-ones : goal.returns-clause-ones
returns-clause-ones c = ones_below c.args.word c.trailing_ones.result c.ranges.word.fits c.trailing_ones.ensures

pub returns-clause-stops : goal.returns-clause-stops
returns-clause-stops c = ones_end c.args.word c.trailing_ones.result c.ranges.word.fits c.trailing_ones.ensures
