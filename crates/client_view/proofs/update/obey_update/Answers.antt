use Rattle.std.proofs.Common.{◌≡◌, ◌∙◌, ◌+◌, ap, sym, subst, drop, refl, [], true, ℕ, inl, inr, arith}
use Rattle.std.specs.Prelude.{Ok, not}
use Rattle.wire_num.specs.Field.{Read}
use Rattle.order_means.specs.FrameMarks.{Update, marked_if, view_after_tiles, view_after_read, update_by_form}
use Rattle.client_view.specs.Views.{capped}
use Rattle.order_means.specs.Updates.{body_at}
use Rattle.update_read.specs.Forms.{told_form}
use Rattle.client_view.specs.Refusals.{Shows}
use Rattle.order_means.specs.FrameMarks.Update.{Orders, Tiles}
use Rattle.update_read.specs.Told.{told_tiles}
use Rattle.client_view.specs.OnTheWay.{AfterFirstTiles, MidUpdate, MidBody}
use Rattle.client_view.proofs.Obeyed.{marked_stands, counts_of}
use Rattle.client_view.proofs.Streams.{stops_by, mid_body}
use Rattle.client_view.proofs.Updated.{bad_update}
use Rattle.client_view.proofs.update.obey_update.Goals as goal

pub returns-then-not-viewer-clause-shown : goal.returns-then-not-viewer-clause-shown
returns-then-not-viewer-clause-shown c = λ v place s at.
    let m = c.args.viewer.now in
    let test : not m.confirmed.marker ≡ true = grind arith in (
      marked_if true v,
      ap (view_after_read m.confirmed m.pictures.size (body_at place (told_form c.args.form) c.args.body.now) v) (rw c.in-Ok-Synchronize.field-0-is at c.in-Ok-Synchronize.ensures) ∙ ap (λ b. Ok (marked_if b v)) test,
      marked_stands v m c.mark.new.viewer s c.mark.ensures,
    )

pub returns-in-Err-BadUpdate-clause-shown : goal.returns-in-Err-BadUpdate-clause-shown
returns-in-Err-BadUpdate-clause-shown c = λ v place s at.
    let m = c.args.viewer.now in (
      place + (0 + c.in-Err-BadUpdate.offset),
      bad_update m.confirmed m.pictures.size v place (told_form c.args.form) c.args.body.now (update_by_form (told_form c.args.form) c.args.body.now) c.in-Err-BadUpdate.offset (rw c.in-Err-BadUpdate.field-0-is at c.in-Err-BadUpdate.ensures),
      c.behind_place.ensures place at ∙ ap (λ (n : ℕ). capped (place + (0 + n))) c.in-Err-BadUpdate.offset-is,
    )

pub returns-in-Ok-Orders-clause-stopped : goal.returns-in-Ok-Orders-clause-stopped
returns-in-Ok-Orders-clause-stopped c = λ v s.
    let m = c.args.viewer.now in
    let u = Orders c.in-Ok-Orders.count (drop c.in-Ok-Orders.from c.args.body.now) in
    stops_by c.obey_orders.result c.obey_orders.result (MidUpdate m.confirmed m.pictures.size v u) (MidBody m.confirmed m.pictures.size v (told_form c.args.form) c.args.body.now) c.obey_orders.new.viewer refl
    (λ w h. mid_body m.confirmed m.pictures.size v (told_form c.args.form) c.args.body.now u w (rw c.in-Ok-Orders.field-0-is at c.in-Ok-Orders.ensures) h) (c.obey_orders.ensures.stopped v s)

pub returns-in-Ok-Tiles-clause-stopped : goal.returns-in-Ok-Tiles-clause-stopped
returns-in-Ok-Tiles-clause-stopped c = λ v s.
    let m = c.args.viewer.now in
    let u = Tiles (told_tiles c.args.body.now c.in-Ok-Tiles.tiles.items) in
    stops_by c.meant.result c.obey_tiles.result (AfterFirstTiles m.pictures.size v (told_tiles c.args.body.now c.in-Ok-Tiles.tiles.items)) (MidBody m.confirmed m.pictures.size v (told_form c.args.form) c.args.body.now) c.obey_tiles.new.viewer c.meant.ensures.same
    (λ w h. mid_body m.confirmed m.pictures.size v (told_form c.args.form) c.args.body.now u w (rw c.in-Ok-Tiles.field-0-is at c.in-Ok-Tiles.ensures) (inr h)) (rw c.deref.ensures.value at (c.obey_tiles.ensures.stopped v s))

pub returns-in-Err-BadUpdate-clause-stopped : goal.returns-in-Err-BadUpdate-clause-stopped
returns-in-Err-BadUpdate-clause-stopped c = λ v s. (v, inl refl, counts_of v c.args.viewer.now s)

pub returns-in-Err-OutOfMemory-clause-stopped : goal.returns-in-Err-OutOfMemory-clause-stopped
returns-in-Err-OutOfMemory-clause-stopped c = λ v s. (v, inl refl, counts_of v c.args.viewer.now s)

pub returns-in-Ok-Tiles-clause-shown : goal.returns-in-Ok-Tiles-clause-shown
returns-in-Ok-Tiles-clause-shown c = λ v place s at.
    let m = c.args.viewer.now in
    let ts = told_tiles c.args.body.now c.in-Ok-Tiles.tiles.items in
    let read : update_by_form (told_form c.args.form) c.args.body.now ≡ Ok (Tiles ts, []) = rw c.in-Ok-Tiles.field-0-is at c.in-Ok-Tiles.ensures in
    let shown = c.meant.ensures.shown place (view_after_tiles m.pictures.size v ts) c.obey_tiles.new.viewer at (rw c.deref.ensures.value at (c.obey_tiles.ensures.obeyed v s)) in
    subst (λ (x : Read Update). Shows c.meant.result (view_after_read m.confirmed m.pictures.size (body_at place (told_form c.args.form) c.args.body.now) v x) c.obey_tiles.new.viewer) (sym read) shown
