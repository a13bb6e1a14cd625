use Rattle.std.proofs.Common.{rules}
use Rattle.session_core.proofs.session.Session.input.Goals as goal

pub returns-clause-answer : goal.returns-clause-answer
returns-clause-answer c = search rules

pub returns-clause-journal : goal.returns-clause-journal
returns-clause-journal c = search rules

pub react-requires : goal.react-requires
react-requires c = search rules

pub returns-then-not-is_f12-clause-answer : goal.returns-then-not-is_f12-clause-answer
returns-then-not-is_f12-clause-answer c = search rules
