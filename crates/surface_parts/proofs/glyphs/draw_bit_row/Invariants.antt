use Rattle.std.proofs.Common.{◌≡◌, ℕ, ◌+◌, ◌-◌, ◌<◌, ◌≤◌, length, get_or}
use Rattle.std.specs.Prelude.{if◌then◌else◌}
use Rattle.surface_parts.specs.Bits.{is_row_bit}
use Rattle.surface_parts.proofs.glyphs.draw_bit_row.Given as goal

-- the places so far are drawn, and the others as they were
abbrev pub invariant-loop-done : goal.invariant-loop-done
invariant-loop-done l = record {
  drawn : (j : ℕ) → j < l.done → get_or l.row j 0 ≡ (if is_row_bit l.bytes (l.column + j) then l.color else get_or l.initial.row j 0);
  rest : (j : ℕ) → l.done ≤ j → get_or l.row j 0 ≡ get_or l.initial.row j 0;
  within : l.done ≤ length l.row;
}

abbrev pub decreases-loop-done : goal.decreases-loop-done
decreases-loop-done l = length l.row - l.done
