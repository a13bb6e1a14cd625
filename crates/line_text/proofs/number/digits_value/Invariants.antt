use Rattle.std.proofs.Common.{◌≡◌, ◌≤◌, drop}
use Rattle.line_text.specs.Numbers.{digits_behind, at_most}
use Rattle.line_text.proofs.number.digits_value.Given as goal

abbrev pub invariant-loop-digit : goal.invariant-loop-digit
invariant-loop-digit l = record {
  value : at_most l.most (digits_behind 10 l.value (drop l.digit-index l.digits)) ≡ at_most l.most (digits_behind 10 0 l.digits);
  small : l.value ≤ l.most;
}
