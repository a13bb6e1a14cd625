use Rattle.std.proofs.Common.{◌≡◌, ◌++◌, ℕ, List, length}
use Rattle.line_text.specs.Hexadecimal.{hexadecimal_text}
use Rattle.script_lines.proofs.hexadecimal.append_hexadecimals.Given as goal

-- what was appended and the digits of the bytes that are left are the digits of the bytes
abbrev pub invariant-loop-rest : goal.invariant-loop-rest
invariant-loop-rest l = record {
  front : List ℕ;
  held : l.out.items ≡ l.fn.out.items ++ front;
  whole : hexadecimal_text l.fn.bytes ≡ front ++ hexadecimal_text l.rest;
}

abbrev pub decreases-loop-rest : goal.decreases-loop-rest
decreases-loop-rest l = length l.rest
