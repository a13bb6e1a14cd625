use Rattle.std.proofs.Common.{◌∙◌, ap, [], ◌∷◌, List, ℕ}
use Rattle.wire_num.specs.Cursor.{rest}
use Rattle.order_fields.specs.Secondary.Cached.{Bitmap}
use Rattle.order_fields.specs.OrderStream.Order.{Other}
use Rattle.order_read.specs.Told.Told.{Stored}
use Rattle.order_read.proofs.Appending.{pushed, part_at}
use Rattle.order_read.proofs.OthersRead.{bitmap_read}
use Rattle.order_read.proofs.secondary.read_bitmap.Goals as goal

pub returns : goal.returns
returns c =
    let head = c.in_ok-head.head in
    let bytes = rw c.from.ensures at c.in_ok-bytes.ensures.0 in
    let whole = bitmap_read c.args.flags c.args.packed head (rest c.args.cursor.now) (rest c.read_bitmap_head.new.cursor) (rest c.bytes.new.self) c.in_ok-bytes.field-0.now c.in_ok-head.ensures.0 bytes in
    let o = Other (Bitmap (record { cache = head.cache; index = head.index; w = head.w; h = head.h; depth = head.depth; flags = c.args.flags; packed = c.args.packed; bytes = c.in_ok-bytes.field-0.now })) in (
      o ∷ [],
      whole,
      c.in_ok-bytes.ensures.1 ∙ c.in_ok-head.ensures.1,
      pushed _ _ _ _ o c.in_ok-push.ensures.items (λ body front.
          ap (λ (bytes : List ℕ). Stored (Bitmap (record { cache = head.cache; index = head.index; w = head.w; h = head.h; depth = head.depth; flags = c.args.flags; packed = c.args.packed; bytes = bytes })))
          (part_at c.args.cursor.now.bytes body c.in_ok-bytes.field-0.now c.read_bitmap_head.new.cursor c.bytes.new.self c.at-from.result c.at.result head.count front c.in_ok-head.ensures.1 c.in_ok-bytes.ensures.1
          c.at-from.ensures.place c.at.ensures.place c.at-from.ensures.inside c.at.ensures.inside bytes)),
    )
