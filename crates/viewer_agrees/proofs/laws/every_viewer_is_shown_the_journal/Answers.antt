use Rattle.std.proofs.Common.{[]}
use Rattle.viewer_agrees.proofs.Watched.{all_shown, first_shown, none_taken_out}
use Rattle.viewer_agrees.proofs.laws.every_viewer_is_shown_the_journal.Goals as goal

pub returns-clause-whole : goal.returns-clause-whole
returns-clause-whole c = all_shown

pub returns-clause-front : goal.returns-clause-front
returns-clause-front c = first_shown

pub returns-clause-untouched : goal.returns-clause-untouched
returns-clause-untouched c = λ head asked v. none_taken_out head asked v []
