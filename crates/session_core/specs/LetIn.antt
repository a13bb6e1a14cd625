-- Who may join.
use Rattle.std.specs.Prelude.{◌≡◌, ℕ, ◌<◌, List, length, Some, None, Result, Ok, Err}
use Rattle.session_rules.specs.declared.entry.Role.{Role}
use Rattle.session_rules.specs.Journal.{Head, Reached, most_viewers, most_joins}
use Rattle.session_rules.specs.Steps.{row_role}
use Rattle.session_rules.specs.Steps.Step.{JoinStep}
use Rattle.session_rules.specs.Entering.{entry_of_step, answer_at}
use Rattle.session_core.specs.declared.faults.JoinFault.{JoinFault}
use Rattle.session_core.specs.Faults.{join_answer}

-- the role by which a name joins, or the refusal of its step
abbrev pub IsLetIn : Head → Reached → List ℕ → Result Role JoinFault → Type 0
IsLetIn head r name (Ok role) = (row_role name head.rows ≡ Some role) × (length r.viewers < most_viewers) × (r.joins < most_joins)
IsLetIn head r name (Err fault) = (join_answer (Err fault) ≡ Some (answer_at head r (JoinStep name))) × (entry_of_step head r (JoinStep name) ≡ None)
