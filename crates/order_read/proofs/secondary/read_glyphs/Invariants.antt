use Rattle.std.proofs.Common.{◌≡◌, ◌-◌}
use Rattle.wire_num.specs.Cursor.{rest}
use Rattle.order_fields.specs.Secondary.{glyphs_at}
use Rattle.order_read.specs.Others.{others}
use Rattle.order_read.proofs.Appending.{HasPushed}
use Rattle.order_read.proofs.secondary.read_glyphs.Given as goal

-- the glyphs that are left stand here, and the others were appended
abbrev pub invariant-loop : goal.invariant-loop
invariant-loop l = record {
  pushed : HasPushed (others (glyphs_at l.count l.cache) (rest l.fn.cursor)) (others (glyphs_at (l.count - l.counter) l.cache) (rest l.cursor)) l.fn.cursor.bytes l.fn.out.items l.out.items;
  bytes : l.cursor.bytes ≡ l.fn.cursor.bytes;
}
