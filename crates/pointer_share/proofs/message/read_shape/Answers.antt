use Rattle.std.proofs.Common.{◌∙◌}
use Rattle.wire_num.specs.Cursor.{rest}
use Rattle.pointer_share.proofs.FirstSet.{taken_length}
use Rattle.pointer_share.proofs.message.read_shape.Goals as goal

pub outline-requires-clause-xor : goal.outline-requires-clause-xor
outline-requires-clause-xor c = taken_length c.xor_size.result (rest c.args.cursor.now) c.in_ok-xor.xor.now (rest c.bytes.new.self) c.in_ok-xor.ensures.0 ∙ c.xor_size.ensures

pub outline-requires-clause-mask : goal.outline-requires-clause-mask
outline-requires-clause-mask c = taken_length 16 (rest c.bytes.new.self) c.in_ok-mask.mask.now (rest c.bytes-2.new.self) c.in_ok-mask.ensures.0
