use Rattle.std.proofs.Common.{◌≡◌, ◌-◌}
use Rattle.wire_num.specs.Cursor.{rest}
use Rattle.order_fields.specs.OrderStream.{orders_in}
use Rattle.order_read.proofs.StreamsRead.{HasRead, HasCome}
use Rattle.order_read.proofs.orders.read_all.Given as goal

-- the orders that are left stand here, and the others were appended
abbrev pub invariant-loop : goal.invariant-loop
invariant-loop l = record {
  read : HasRead (orders_in l.depth (rest l.fn.cursor) l.count l.fn.regs) (orders_in l.depth (rest l.cursor) (l.count - l.counter) l.regs) l.fn.cursor.bytes l.fn.out.items l.out.items;
  bytes : l.cursor.bytes ≡ l.fn.cursor.bytes;
  come : HasCome l.depth (rest l.fn.cursor) l.counter l.fn.regs (rest l.cursor) l.regs;
}
