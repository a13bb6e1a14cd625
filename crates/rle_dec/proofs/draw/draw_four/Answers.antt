use Rattle.rle_dec.proofs.Places.{four_placed}
use Rattle.rle_dec.proofs.draw.draw_four.Goals as goal

pub returns : goal.returns
returns c = four_placed c.args.out.now c.args.at c.args.first c.args.second c.args.third c.args.fourth c.requires
