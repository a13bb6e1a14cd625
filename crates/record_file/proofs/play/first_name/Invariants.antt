use Rattle.std.proofs.Common.{◌≡◌, drop}
use Rattle.session_core.specs.Heads.{rows_of}
use Rattle.record_file.specs.Plays.{first_name}
use Rattle.record_file.proofs.play.first_name.Given as goal

-- none of the rows that were passed has the role
abbrev pub invariant-loop-row : goal.invariant-loop-row
invariant-loop-row l = first_name l.role (rows_of (drop l.row-index l.rows)) ≡ first_name l.role (rows_of l.rows)
