use Rattle.std.proofs.Common.{◌≡◌, drop}
use Rattle.session_rules.specs.Steps.{are_names_distinct}
use Rattle.session_core.specs.Heads.{rows_of}
use Rattle.host_program.proofs.guests.are_names_distinct.Given as goal

-- each row that was passed has a name that no later one has
abbrev pub invariant-loop-i : goal.invariant-loop-i
invariant-loop-i l = are_names_distinct (rows_of (drop l.i l.rows)) ≡ are_names_distinct (rows_of l.rows)
