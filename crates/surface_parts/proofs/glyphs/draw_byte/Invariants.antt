use Rattle.std.proofs.Common.{◌≡◌, ℕ, ◌+◌, ◌*◌, ◌^◌, ◌<◌, ◌≤◌, get_or, [], ◌∷◌}
use Rattle.std.specs.Prelude.{if◌then◌else◌}
use Rattle.surface_parts.specs.Bits.{is_row_bit}
use Rattle.surface_parts.proofs.glyphs.draw_byte.Given as goal

-- the places so far are drawn, and the others as they were; the bits were moved once for each place
abbrev pub invariant-loop-k : goal.invariant-loop-k
invariant-loop-k l = record {
  drawn : (j : ℕ) → j < l.k → get_or l.pixels j 0 ≡ (if is_row_bit (l.byte ∷ []) (l.first + j) then l.color else get_or l.initial.pixels j 0);
  rest : (j : ℕ) → l.k ≤ j → get_or l.pixels j 0 ≡ get_or l.initial.pixels j 0;
  moved : l.bits ≡ l.byte * 2 ^ (l.first + l.k);
}
