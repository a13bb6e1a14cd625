use Rattle.std.proofs.Common.{◌≡◌, ◌<◌, ◌+◌, ◌∙◌, refl, ap, sym, subst, arith, length, ℕ, List}
use Rattle.wire_num.specs.Cursor.{rest, CursorOf}
use Rattle.order_read.specs.Reading.{Appends}
use Rattle.order_read.proofs.Appending.{appends_within}
use Rattle.order_read.proofs.OthersRead.{IsContent, total_missing, content_left, content_refused, content_read, within_whole}
use Rattle.order_read.proofs.secondary.read_secondary.Goals as goal

pub returns-in-Err : goal.returns-in-Err
returns-in-Err c =
    let field = rw c.from.ensures at c.in-Err.ensures.field in
    let whole = total_missing c.args.depth c.in_ok-total.total (rest c.args.cursor.now) (rest c.u16_le.new.self) c.in_ok-total.ensures.0 field.0 in
    let bytes : c.within.new.self.bytes ≡ c.args.cursor.now.bytes = ap (λ (k : CursorOf). k.bytes) field.1 ∙ c.in_ok-total.ensures.1 in
    rw c.go_to.ensures (rw (bytes, c.at-first.ensures.place) whole, bytes, refl)

pub refuse-requires-in-Err-BadOrder : goal.refuse-requires-in-Err-BadOrder
refuse-requires-in-Err-BadOrder c =
    let is : IsContent c.in_ok-total.total c.args.cursor.now c.u16_le.new.self c.within.new.self c.in-Ok.content =
    record { count = c.in_ok-total.ensures.0; same = c.in_ok-total.ensures.1; part = rw c.from.ensures at c.in-Ok.ensures.field.0; fits = rw c.from.ensures at c.in-Ok.ensures.fits; behind = rw c.from.ensures at c.in-Ok.ensures.behind; offsets = rw c.from.ensures at c.in-Ok.ensures.offsets } in
    let read = rw c.in-Err-BadOrder.field-0-is at c.in-Err-BadOrder.ensures in
    let inside = rw c.at-in-Err-BadOrder.ensures.place at c.at-in-Err-BadOrder.ensures.inside in
    rw c.at-in-Err-BadOrder.ensures.place (within_whole c.in_ok-total.total _ _ _ _ c.read_inside.new.cursor is read.1 inside)

pub returns-in-Ok-read_inside : goal.returns-in-Ok-read_inside
returns-in-Ok-read_inside c =
    let is : IsContent c.in_ok-total.total c.args.cursor.now c.u16_le.new.self c.within.new.self c.in-Ok.content =
    record { count = c.in_ok-total.ensures.0; same = c.in_ok-total.ensures.1; part = rw c.from.ensures at c.in-Ok.ensures.field.0; fits = rw c.from.ensures at c.in-Ok.ensures.fits; behind = rw c.from.ensures at c.in-Ok.ensures.behind; offsets = rw c.from.ensures at c.in-Ok.ensures.offsets } in
    let read = c.in-Ok-read_inside.ensures in
    let bytes : c.within.new.self.bytes ≡ c.args.cursor.now.bytes = ap (λ (k : CursorOf). k.bytes) is.behind ∙ is.same in
    let inner : c.in-Ok.content.bytes ≡ _ = ap (λ (k : CursorOf). k.bytes) is.offsets in
    let told = appends_within (c.u16_le.new.self.at + (c.in_ok-total.total + 10)) c.u16_le.new.self.bytes c.in-Ok.content.bytes read.0 c.args.out.now.items c.read_inside.new.out.items inner is.fits read.3 in (
      read.0,
      content_read c.args.depth c.in_ok-total.total _ _ _ _ c.read_inside.new.cursor read.0 is read.1 (sym c.left.ensures ∙ c.if-left-eq0.true),
      bytes,
      subst (λ (bs : List ℕ). Appends bs read.0 c.args.out.now.items c.read_inside.new.out.items) is.same told,
    )

pub returns-in-Ok-2 : goal.returns-in-Ok-2
returns-in-Ok-2 c =
    let is : IsContent c.in_ok-total.total c.args.cursor.now c.u16_le.new.self c.within.new.self c.in-Ok.content =
    record { count = c.in_ok-total.ensures.0; same = c.in_ok-total.ensures.1; part = rw c.from.ensures at c.in-Ok.ensures.field.0; fits = rw c.from.ensures at c.in-Ok.ensures.fits; behind = rw c.from.ensures at c.in-Ok.ensures.behind; offsets = rw c.from.ensures at c.in-Ok.ensures.offsets } in
    let bytes : c.within.new.self.bytes ≡ c.args.cursor.now.bytes = ap (λ (k : CursorOf). k.bytes) is.behind ∙ is.same in
    let read = c.in-Ok-read_inside.ensures in
    let inside = rw c.at.ensures.place at c.at.ensures.inside in
    let some : 0 < length (rest c.read_inside.new.cursor) = let n = c.left.ensures in let ne = c.if-left-eq0.false in grind (arith, n, ne) in
    let whole = content_left c.args.depth c.in_ok-total.total _ _ _ _ c.read_inside.new.cursor read.0 is read.2 inside read.1 some in
    rw (c.refuse.ensures.refused, c.refuse.ensures.place) (rw (bytes, c.at.ensures.place) whole, bytes, refl)

pub returns-in-Err-BadOrder : goal.returns-in-Err-BadOrder
returns-in-Err-BadOrder c =
    let is : IsContent c.in_ok-total.total c.args.cursor.now c.u16_le.new.self c.within.new.self c.in-Ok.content =
    record { count = c.in_ok-total.ensures.0; same = c.in_ok-total.ensures.1; part = rw c.from.ensures at c.in-Ok.ensures.field.0; fits = rw c.from.ensures at c.in-Ok.ensures.fits; behind = rw c.from.ensures at c.in-Ok.ensures.behind; offsets = rw c.from.ensures at c.in-Ok.ensures.offsets } in
    let bytes : c.within.new.self.bytes ≡ c.args.cursor.now.bytes = ap (λ (k : CursorOf). k.bytes) is.behind ∙ is.same in
    let read = rw c.in-Err-BadOrder.field-0-is at c.in-Err-BadOrder.ensures in
    let inside = rw c.at-in-Err-BadOrder.ensures.place at c.at-in-Err-BadOrder.ensures.inside in
    let whole = content_refused c.args.depth c.in_ok-total.total _ _ _ _ c.read_inside.new.cursor is read.1 inside read.0 in
    rw (c.refuse-in-Err-BadOrder.ensures.refused, c.refuse-in-Err-BadOrder.ensures.place) (rw (bytes, c.at-in-Err-BadOrder.ensures.place) whole, bytes, refl)
