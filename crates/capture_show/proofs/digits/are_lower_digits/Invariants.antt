use Rattle.std.proofs.Common.{◌≡◌, drop}
use Rattle.std.specs.Prelude.{◌&&◌, ◌==◌}
use Rattle.script_rules.specs.Script.{all_bytes}
use Rattle.script_rules.specs.Capture.{is_lower_digit}
use Rattle.capture_show.proofs.digits.are_lower_digits.Given as goal

abbrev pub invariant-loop-byte : goal.invariant-loop-byte
invariant-loop-byte l = (all_bytes is_lower_digit (drop l.byte-index l.word) && (l.wrong == 0)) ≡ all_bytes is_lower_digit l.fn.word
