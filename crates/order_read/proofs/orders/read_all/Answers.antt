use Rattle.std.proofs.Common.{◌≡◌, ◌-◌, ◌∙◌, refl, subst, List, ℕ, arith}
use Rattle.std.proofs.lemmas.Result.{err_from_is_err_and}
use Rattle.order_read.specs.Reading.{Appends}
use Rattle.order_read.proofs.StreamsRead.{none_read, one_order, more_read, order_refused, at_first, come_further, registers_here, registers_stay}
use Rattle.order_read.proofs.orders.read_all.Goals as goal

pub loop-init : goal.loop-init
loop-init c =
    let all : c.args.count - 0 ≡ c.args.count = omega arith in
    record { read = rw all (none_read _ _ _); bytes = refl; come = at_first c.args.depth _ _ }

pub returns-in_err-read_order-clause-read : goal.returns-in_err-read_order-clause-read
returns-in_err-read_order-clause-read c =
    let p = err_from_is_err_and c.from_residual.result c.from_residual.ensures.1 in
    rw (p.1, p.2) (order_refused c.args.depth c.in_err-read_order.field-0.0 _ c.args.count c.loop.counter c.loop.regs c.read_order.new.regs c.args.cursor.now c.loop.cursor c.read_order.new.cursor
    c.args.out.now.items c.loop.out.items c.read_order.new.out.items c.read_order.new.out.items c.loop-test.true c.loop.invariant.bytes c.loop.invariant.read c.in_err-read_order.ensures)

pub returns-in_err-read_order-clause-registers : goal.returns-in_err-read_order-clause-registers
returns-in_err-read_order-clause-registers c =
    let p = err_from_is_err_and c.from_residual.result c.from_residual.ensures.1 in
    let same = registers_stay c.args.depth c.in_err-read_order.field-0.0 _ _ _ _ _ _ c.in_err-read_order.ensures in
    rw p.1 (rw same (c.loop.counter, omega (arith, c.loop-test.true), registers_here c.args.depth _ _ _ _ _ c.loop.invariant.come))

pub returns-in_err-end-clause-registers : goal.returns-in_err-end-clause-registers
returns-in_err-end-clause-registers c =
    let p = err_from_is_err_and c.from_residual-in_err-end.result c.from_residual-in_err-end.ensures.1 in
    rw p.1 (c.loop.counter, omega (arith, c.loop-test.false, c.loop.auto), registers_here c.args.depth _ _ _ _ _ c.loop.invariant.come)

pub loop-preserved : goal.loop-preserved
loop-preserved c =
    let read = c.in_ok-read_order.ensures in
    let told = subst (λ (bs : List ℕ). Appends bs read.0 c.loop.out.items c.read_order.new.out.items) c.loop.invariant.bytes read.3 in
    record {
      read = more_read _ _ _ _ read.0 _ _ _ c.loop.invariant.read (one_order c.args.depth c.args.count c.loop.counter _ _ c.loop.regs c.read_order.new.regs read.0 c.loop-test.true read.1) told;
      bytes = read.2 ∙ c.loop.invariant.bytes;
      come = come_further c.args.depth _ _ _ _ _ _ _ _ c.loop.invariant.come read.1;
    }
