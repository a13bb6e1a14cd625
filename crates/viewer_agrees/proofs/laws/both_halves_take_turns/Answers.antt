use Rattle.viewer_agrees.proofs.Turns.{ten_turns}
use Rattle.viewer_agrees.proofs.laws.both_halves_take_turns.Goals as goal

pub returns : goal.returns
returns c = ten_turns
