use Rattle.std.proofs.Common.{◌≡◌, ◌*◌, length, take}
use Rattle.line_text.specs.Hexadecimal.{hexadecimal_text}
use Rattle.script_lines.proofs.hexadecimal.write_digits.Given as goal

-- the digits of the bytes so far stand at the front
abbrev pub invariant-loop-at : goal.invariant-loop-at
invariant-loop-at l = record {
  room : length l.digits ≡ 2 * length l.bytes;
  written : take (2 * l.at) l.digits ≡ hexadecimal_text (take l.at l.bytes);
}
