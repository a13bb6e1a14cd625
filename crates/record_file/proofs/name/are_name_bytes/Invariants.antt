use Rattle.std.proofs.Common.{◌≡◌, drop}
use Rattle.script_rules.specs.Script.{is_name_byte, all_bytes}
use Rattle.record_file.proofs.name.are_name_bytes.Given as goal

abbrev pub invariant-loop-byte : goal.invariant-loop-byte
invariant-loop-byte l = all_bytes is_name_byte (drop l.byte-index l.bytes) ≡ all_bytes is_name_byte l.fn.bytes
