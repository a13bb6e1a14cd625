use Rattle.session_rules.specs.Steps.{play_at_first}
use Rattle.session_rules.proofs.Journals.{entries_from-append, answers_from-append}
use Rattle.session_rules.proofs.Takes.{takes_from-append}
use Rattle.session_rules.proofs.laws.steps_go_on.Goals as goal

pub returns : goal.returns
returns c = record {
  journal = λ head xs ys. entries_from-append head (play_at_first head.size) xs ys;
  answers = λ head xs ys. answers_from-append head (play_at_first head.size) xs ys;
  takes = λ head xs ys v. takes_from-append head (play_at_first head.size) v xs ys;
}
