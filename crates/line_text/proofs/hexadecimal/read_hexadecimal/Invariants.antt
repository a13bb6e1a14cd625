use Rattle.std.proofs.Common.{◌≡◌, ◌<◌, ◌^◌, drop}
use Rattle.line_text.specs.Numbers.{digits_behind}
use Rattle.line_text.proofs.hexadecimal.read_hexadecimal.Given as goal

abbrev pub invariant-loop-digit : goal.invariant-loop-digit
invariant-loop-digit l = record {
  value : digits_behind 16 l.value (drop l.digit-index l.word) ≡ digits_behind 16 0 l.word;
  small : l.value < 16 ^ l.digit-index;
}
