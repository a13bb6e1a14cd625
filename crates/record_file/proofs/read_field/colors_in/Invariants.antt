use Rattle.std.proofs.Common.{◌≡◌, ◌++◌, length}
use Rattle.std.specs.Prelude.{true}
use Rattle.px_core.specs.Colors.{are_colors}
use Rattle.record_rules.specs.Reading.{colors_in}
use Rattle.record_file.proofs.read_field.colors_in.Given as goal

-- the colours that are left stand in the rest
abbrev pub invariant-loop-rest : goal.invariant-loop-rest
invariant-loop-rest l = record {
  left : colors_in l.bytes ≡ l.colors.items ++ colors_in l.rest;
  colors : are_colors l.colors.items ≡ true;
}

abbrev pub decreases-loop-rest : goal.decreases-loop-rest
decreases-loop-rest l = length l.rest
