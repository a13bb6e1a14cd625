use Rattle.std.proofs.Common.{◌≡◌, ℕ, ◌+◌, ◌<◌, ◌≤◌, get_or}
use Rattle.std.specs.Prelude.{Some, None, if◌then◌else◌}
use Rattle.client_picture.specs.Bits.{is_ink}
use Rattle.client_picture.proofs.glyphs.draw_bit_row.Given as goal

-- the places so far are drawn, and the others as they were
abbrev pub invariant-loop-k : goal.invariant-loop-k
invariant-loop-k l =
    ((j : ℕ) → j < l.k → get_or l.row j None ≡ (if is_ink l.bits.bytes.now l.bits.row_bytes (l.bits.from.x + j) l.at then Some l.fn.color else get_or l.initial.row j None))
    × ((j : ℕ) → l.k ≤ j → get_or l.row j None ≡ get_or l.initial.row j None)
