use Rattle.std.proofs.Common.{◌≡◌, ◌∙◌, [], ◌∷◌, ap, rules, to_z, of_z, w32}
use Rattle.wire_num.specs.Cursor.{rest}
use Rattle.order_fields.specs.Secondary.Cached.{Glyph}
use Rattle.order_fields.specs.OrderStream.Order.{Other}
use Rattle.order_read.specs.Told.Told.{Stored}
use Rattle.order_read.proofs.Appending.{pushed}
use Rattle.order_read.proofs.OthersRead.{glyph_read}
use Rattle.order_read.proofs.secondary.read_glyph.Goals as goal

pub returns : goal.returns
returns c =
    let head = c.in_ok-head.head in
    let x : to_z w32 (of_z w32 head.x) ≡ head.x = search rules in
    let y : to_z w32 (of_z w32 head.y) ≡ head.y = search rules in
    let glyph = rw (x, y) at c.in_ok-glyph.ensures in
    let whole = glyph_read c.args.cache head (rest c.args.cursor.now) (rest c.read_glyph_head.new.cursor) (rest c.bytes.new.self) c.in_ok-bits.bits.now c.in_ok-head.ensures.0 (rw c.glyph_length.ensures at c.in_ok-bits.ensures.0) in
    let o = Other (Glyph (record { cache = c.args.cache; index = head.index; x = head.x; y = head.y; cx = head.cx; cy = head.cy; bits = c.in_ok-bits.bits.now })) in
    (o ∷ [], whole, c.in_ok-bits.ensures.1 ∙ c.in_ok-head.ensures.1, pushed _ _ _ _ o c.in_ok-push.ensures.items (λ body front. ap (λ g. Stored (Glyph (record { cache = c.args.cache; index = head.index; x = g.x; y = g.y; cx = g.cx; cy = g.cy; bits = g.bits }))) glyph))
