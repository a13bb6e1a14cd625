use Rattle.std.proofs.Common.{◌≡◌, true, drop}
use Rattle.draw_ops.specs.Ranges.{are_bytes}
use Rattle.session_core.proofs.ranges.bytes_are_in_range.Given as goal

-- those that were passed are in range
abbrev pub invariant-loop-byte : goal.invariant-loop-byte
invariant-loop-byte l = are_bytes (drop l.byte-index l.bytes) ≡ true → are_bytes l.bytes ≡ true
