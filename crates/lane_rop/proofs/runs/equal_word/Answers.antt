use Rattle.lane_rop.proofs.Counting.{pair_bits}
use Rattle.lane_rop.proofs.runs.equal_word.Goals as goal

pub returns : goal.returns
returns c = pair_bits c.args.pixels.now c.args.others.now c.requires.pixels c.requires.others
