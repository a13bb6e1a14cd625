use Rattle.std.proofs.Common.{◌≡◌, ◌++◌, length}
use Rattle.std.specs.Option.{option_map}
use Rattle.line_text.specs.Hexadecimal.{hexadecimals_of}
use Rattle.line_text.proofs.hexadecimal.read_hexadecimals.Given as goal

abbrev pub invariant-loop-rest : goal.invariant-loop-rest
invariant-loop-rest l = record {
  numbers : option_map (λ ns. l.numbers.items ++ ns) (hexadecimals_of l.digits l.rest) ≡ hexadecimals_of l.digits l.word;
}

abbrev pub decreases-loop-rest : goal.decreases-loop-rest
decreases-loop-rest l = length l.rest
