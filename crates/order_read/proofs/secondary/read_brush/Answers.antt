use Rattle.std.proofs.Common.{◌∙◌, ap, List, ℕ, [], ◌∷◌}
use Rattle.std.proofs.lemmas.Result.{err_from_is_err_and}
use Rattle.wire_num.specs.Cursor.{rest}
use Rattle.px_core.specs.Depth.{brush_bytes}
use Rattle.px_core.specs.Pixels.{pixels_of}
use Rattle.order_fields.specs.Secondary.Cached.{Brush}
use Rattle.order_fields.specs.OrderStream.Order.{Other}
use Rattle.order_read.specs.Told.Told.{Stored}
use Rattle.order_read.proofs.NumberBytes.{counted}
use Rattle.order_read.proofs.Appending.{pushed}
use Rattle.order_read.proofs.OthersRead.{brush_read, brush_refused}
use Rattle.order_read.proofs.secondary.read_brush.Goals as goal

pub returns-in_err-bytes : goal.returns-in_err-bytes
returns-in_err-bytes c =
    let p = err_from_is_err_and c.from_residual-in_err-bytes.result c.from_residual-in_err-bytes.ensures.1 in
    let bytes = rw (c.from.ensures, c.brush_bytes.ensures) at c.in_err-bytes.ensures in
    rw (p.1, p.2, bytes.1) (brush_refused c.args.depth c.in_ok-entry.entry (rest c.args.cursor.now) (rest c.read_brush_head.new.cursor) _ c.in_ok-entry.ensures.0 bytes.0, c.in_ok-entry.ensures.1, bytes.2)

pub brush_of-requires : goal.brush_of-requires
brush_of-requires c = counted (brush_bytes c.args.depth) (rest c.read_brush_head.new.cursor) c.in_ok-bytes.bytes.now (rest c.bytes.new.self) (rw (c.from.ensures, c.brush_bytes.ensures) at c.in_ok-bytes.ensures.0)

pub returns : goal.returns
returns c =
    let whole = brush_read c.args.depth c.in_ok-entry.entry (rest c.args.cursor.now) (rest c.read_brush_head.new.cursor) (rest c.bytes.new.self) c.in_ok-bytes.bytes.now c.in_ok-entry.ensures.0 (rw (c.from.ensures, c.brush_bytes.ensures) at c.in_ok-bytes.ensures.0) in
    let o = Other (Brush (record { entry = c.in_ok-entry.entry; pixels = pixels_of c.args.depth c.in_ok-bytes.bytes.now })) in (
      o ∷ [],
      whole,
      c.in_ok-bytes.ensures.1 ∙ c.in_ok-entry.ensures.1,
      pushed _ _ _ _ o c.in_ok-push.ensures.items (λ body front. ap (λ (pixels : List ℕ). Stored (Brush (record { entry = c.in_ok-entry.entry; pixels = pixels }))) c.in_ok-brush.ensures),
    )
