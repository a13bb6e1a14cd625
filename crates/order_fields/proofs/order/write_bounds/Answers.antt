use Rattle.std.proofs.Common.{Some}
use Rattle.order_fields.specs.OrderDelta.{edges_of}
use Rattle.order_fields.proofs.BoundsBack.{bounds_back}
use Rattle.order_fields.proofs.order.write_bounds.Goals as goal

pub returns-in_err-put_bytes-clause-read_back : goal.returns-in_err-put_bytes-clause-read_back
returns-in_err-put_bytes-clause-read_back c rest = bounds_back c.args.zero_bounds c.args.regs.now.bounds (Some (edges_of c.args.r)) rest c.requires

pub returns-clause-read_back : goal.returns-clause-read_back
returns-clause-read_back c rest = bounds_back c.args.zero_bounds c.args.regs.now.bounds (Some (edges_of c.args.r)) rest c.requires
