use Rattle.std.proofs.Common.{◌-◌, length, arith}
use Rattle.rle_dec.specs.Orders.{order_of}
use Rattle.rle_dec.proofs.Progress.{order_fits, rest_is_shorter}
use Rattle.rle_dec.proofs.Steps.{step_drawn, step_refused}
use Rattle.rle_dec.proofs.bitmap.draw_any.Goals as goal

pub draw_order-end-requires-clause-size : goal.draw_order-end-requires-clause-size
draw_order-end-requires-clause-size c =
    let fits = order_fits c.args.depth (length c.args.out.now - c.args.at) c.args.stream.now c.in-Ok.rest.now (order_of c.args.depth c.in-Ok.order) c.in-Ok.ensures.is in
    omega (arith, fits, c.requires.more)

pub returns-in-Ok-clause-step : goal.returns-in-Ok-clause-step
returns-in-Ok-clause-step c = (
  omega (arith, c.draw_order-end.ensures.within, c.draw_order-end.auto.out),
  rest_is_shorter c.args.depth (length c.args.out.now - c.args.at) c.args.stream.now c.in-Ok.rest.now (order_of c.args.depth c.in-Ok.order) c.in-Ok.ensures.is,
  step_drawn c.args.depth c.args.w c.args.at c.draw_order-end.result c.args.foreground.now c.unwrap_or.result c.args.before.now c.before_after.result c.args.out.now c.draw_order-end.new.out c.args.stream.now c.in-Ok.rest.now (order_of c.args.depth c.in-Ok.order)
      c.requires.more c.draw_order-end.auto.out c.in-Ok.ensures.is c.unwrap_or.ensures (c.before_after.ensures c.args.depth) c.draw_order-end.ensures.drawn,
)

pub returns-in-Err-clause-refused : goal.returns-in-Err-clause-refused
returns-in-Err-clause-refused c = step_refused c.args.depth c.args.w c.args.at c.args.foreground.now c.args.before.now c.args.out.now c.args.stream.now c.in-Err.refused.now c.requires.more c.in-Err.ensures.is
