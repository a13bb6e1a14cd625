use Rattle.std.proofs.Common.{arith, ◌∙◌, length-set}
use Rattle.board_app.proofs.Shades.{shades_more, all_shades}
use Rattle.board_app.proofs.patterns.shades.Goals as goal

pub loop-i-preserved : goal.loop-i-preserved
loop-i-preserved c = (
  length-set _ _ _ ∙ c.loop-i.invariant.0,
  shades_more c.loop-i.i _ c.loop-i.pixels (omega (arith, c.loop-i.invariant.0)) c.loop-i.invariant.1 c.shade.ensures,
)

pub returns : goal.returns
returns c = all_shades c.loop-i.i c.loop-i.pixels (omega arith) c.loop-i.invariant.0 c.loop-i.invariant.1
