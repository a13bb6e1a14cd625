use Rattle.std.proofs.Common.{◌≡◌, ◌++◌, length}
use Rattle.record_rules.specs.Reading.{pairs_in}
use Rattle.record_file.proofs.read_field.pairs_in.Given as goal

-- the pairs that are left stand in the rest
abbrev pub invariant-loop-rest : goal.invariant-loop-rest
invariant-loop-rest l = pairs_in l.bytes ≡ l.pairs.items ++ pairs_in l.rest

abbrev pub decreases-loop-rest : goal.decreases-loop-rest
decreases-loop-rest l = length l.rest
