use Rattle.std.proofs.Common.{◌≡◌, ◌++◌, length}
use Rattle.std.specs.Option.{option_map}
use Rattle.line_text.specs.Hexadecimal.{hexadecimals_of}
use Rattle.script_lines.proofs.load.read_bytes.Given as goal

-- the bytes so far, and those that are left, are those of the word
abbrev pub invariant-loop-rest : goal.invariant-loop-rest
invariant-loop-rest l = record {
  bytes : option_map (λ ns. l.bytes.items ++ ns) (hexadecimals_of 2 l.rest) ≡ hexadecimals_of 2 l.word;
}

abbrev pub decreases-loop-rest : goal.decreases-loop-rest
decreases-loop-rest l = length l.rest
