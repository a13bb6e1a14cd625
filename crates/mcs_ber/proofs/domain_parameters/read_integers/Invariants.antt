use Rattle.std.proofs.Common.{◌≡◌, ◌-◌}
use Rattle.wire_num.specs.Layout.{fields_at}
use Rattle.wire_num.specs.Cursor.{rest}
use Rattle.mcs_ber.specs.DomainParameters.{integers}
use Rattle.mcs_ber.proofs.domain_parameters.read_integers.Given as goal

abbrev pub invariant-loop : goal.invariant-loop
invariant-loop l =
    (fields_at (integers (8 - l.counter)) (rest l.cursor) ≡ fields_at (integers 8) (rest l.fn.cursor)) × (l.cursor.bytes ≡ l.fn.cursor.bytes)
