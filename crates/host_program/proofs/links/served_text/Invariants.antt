use Rattle.std.proofs.Common.{◌≡◌, ◌+◌, ◌++◌, drop}
use Rattle.host_program.specs.Links.{lines_from, served_text}
use Rattle.host_program.proofs.links.served_text.Given as goal

-- the lines so far and those of the links that are left are all of them
abbrev pub invariant-loop-i : goal.invariant-loop-i
invariant-loop-i l = l.text.items ++ lines_from (l.i + 1) (drop l.i l.reports) ≡ served_text l.reports
