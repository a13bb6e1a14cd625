use Rattle.std.proofs.Common.{◌-◌, arith, rules}
use Rattle.wire_num.specs.Cursor.{rest}
use Rattle.caps_sets.proofs.Sets.{content_size}
use Rattle.caps_sets.proofs.confirm_active.read_set.Goals as goal
use Rattle.caps_sets.specs.ConfirmActive.{set_at, with_content_of}

pub with_set-requires : goal.with_set-requires
with_set-requires c =
    let size = content_size (c.in_ok-set_type.length - 4) (rest c.read_header.new.cursor) c.in_ok-content.content.now (rest c.bytes.new.self) c.in_ok-content.ensures.0 in
    omega (arith, size, c.if-length-least_length.false, c.least_length.ensures.length, c.least_length.ensures.header)

pub returns-then-length-least_length : goal.returns-then-length-least_length
unfolding set_at with_content_of
returns-then-length-least_length c = search rules
