use Rattle.std.proofs.Common.{subst}
use Rattle.session_rules.specs.Journal.{IsLegalJournal}
use Rattle.gate_run.proofs.serving.close.Goals as goal

pub returns-clause-legal : goal.returns-clause-legal
returns-clause-legal g c = subst (λ head. IsLegalJournal head c.close-session.result.journal) c.close-session.ensures.head c.recall_legal.ensures.journal
