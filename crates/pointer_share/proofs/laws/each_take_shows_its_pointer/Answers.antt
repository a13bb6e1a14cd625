use Rattle.pointer_share.proofs.Shown.{take_points, key_tells}
use Rattle.pointer_share.proofs.laws.each_take_shows_its_pointer.Goals as goal

pub returns : goal.returns
returns c = record {
  shows = λ wide cells some few key v keys d. take_points wide cells some few key v keys d;
  keys = key_tells;
}
