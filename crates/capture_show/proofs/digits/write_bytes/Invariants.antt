use Rattle.std.proofs.Common.{◌≡◌, ◌*◌, length, take}
use Rattle.line_text.specs.Hexadecimal.{hexadecimal_text}
use Rattle.capture_show.proofs.digits.write_bytes.Given as goal

-- the bytes at the front have the first digits
abbrev pub invariant-loop-at : goal.invariant-loop-at
invariant-loop-at l = record {
  room : length l.digits ≡ 2 * length l.bytes;
  written : take (2 * l.at) l.digits ≡ hexadecimal_text (take l.at l.bytes);
}
