use Rattle.std.proofs.Common.{◌≡◌, ◌∙◌, ap, refl, sym, subst, drop, List, ℕ, inl, inr}
use Rattle.std.specs.Prelude.{Result}
use Rattle.px_core.specs.declared.depth.Depth.{Depth}
use Rattle.order_fields.specs.OrderTable.{Registers}
use Rattle.order_fields.specs.OrderStream.{Stream, orders_in}
use Rattle.order_read.specs.Told.{told_reads}
use Rattle.order_means.specs.ClientState.{ClientState}
use Rattle.order_means.specs.FrameMarks.{View, Refusal, with_registers, view_after_stream}
use Rattle.client_view.specs.Told.{view_after_all_told}
use Rattle.order_means.specs.Updates.{body_at}
use Rattle.client_view.specs.Refusals.{Shows}
use Rattle.client_view.specs.OnTheWay.{AfterFirstTold, WithinStream, MidUpdate}
use Rattle.order_means.specs.FrameMarks.Update.{Orders}
use Rattle.client_view.proofs.Streams.{stops_by}
use Rattle.client_view.proofs.Updated.{stream_shown, registers_stand, within_stream}
use Rattle.client_view.proofs.update.obey_orders.Goals as goal

pub returns-in-Ok-clause-shown : goal.returns-in-Ok-clause-shown
returns-in-Ok-clause-shown c = λ v place form s at.
    let m = c.args.viewer.now in
    let regs = c.read_orders.new.regs in
    let orders = c.behind-orders.result.now in
    let ts = told_reads orders c.deref.result.now in
    let stream = orders_in c.depth-depth.result orders c.args.count m.regs in
    let read = c.in-Ok.ensures.read in
    let told = ap (told_reads orders) c.deref.ensures.value ∙ read.1 in
    let obeyed = c.obey_all.ensures.obeyed (with_registers v regs) (registers_stand v m regs s) in
    let meaning = view_after_all_told m.confirmed m.pictures.size (with_registers v regs) ts in
    let here : v.client.registers ≡ m.regs = ap (λ (x : ClientState). x.registers) s.client in
    let deep : v.client.depth ≡ c.depth-depth.result = ap (λ (x : ClientState). x.depth) s.client ∙ sym c.depth-depth.ensures in
    let shown = stream_shown m.confirmed m.pictures.size place form c.args.body.now v stream regs ts read.0 read.2 told in
    let moved = ap (λ (x : Depth). view_after_stream m.confirmed m.pictures.size (body_at place form c.args.body.now) v (orders_in x (drop c.args.from c.args.body.now) c.args.count v.client.registers)) deep
    ∙ ap (λ (x : Registers). view_after_stream m.confirmed m.pictures.size (body_at place form c.args.body.now) v (orders_in c.depth-depth.result (drop c.args.from c.args.body.now) c.args.count x)) here
    ∙ ap (λ (bs : List ℕ). view_after_stream m.confirmed m.pictures.size (body_at place form c.args.body.now) v (orders_in c.depth-depth.result bs c.args.count m.regs)) (sym c.behind-orders.ensures.value) in
    subst (λ (x : Result View Refusal). Shows c.meant.result x c.obey_all.new.viewer) (sym (moved ∙ shown)) (c.meant.ensures.shown place meaning c.obey_all.new.viewer at obeyed)

pub returns-in-Ok-clause-stopped : goal.returns-in-Ok-clause-stopped
returns-in-Ok-clause-stopped c = λ v s.
    let m = c.args.viewer.now in
    let regs = c.read_orders.new.regs in
    let orders = c.behind-orders.result.now in
    let ts = told_reads orders c.deref.result.now in
    let stream = orders_in c.depth-depth.result orders c.args.count m.regs in
    let read = c.in-Ok.ensures.read in
    let told = ap (told_reads orders) c.deref.ensures.value ∙ read.1 in
    let here : v.client.registers ≡ m.regs = ap (λ (x : ClientState). x.registers) s.client in
    let deep : v.client.depth ≡ c.depth-depth.result = ap (λ (x : ClientState). x.depth) s.client ∙ sym c.depth-depth.ensures in
    let same : orders_in v.client.depth (drop c.args.from c.args.body.now) c.args.count v.client.registers ≡ stream =
    ap (λ (x : Depth). orders_in x (drop c.args.from c.args.body.now) c.args.count v.client.registers) deep
    ∙ ap (λ (x : Registers). orders_in c.depth-depth.result (drop c.args.from c.args.body.now) c.args.count x) here ∙ ap (λ (bs : List ℕ). orders_in c.depth-depth.result bs c.args.count m.regs) (sym c.behind-orders.ensures.value) in
    stops_by c.meant.result c.obey_all.result (AfterFirstTold m.confirmed m.pictures.size (with_registers v regs) ts) (MidUpdate m.confirmed m.pictures.size v (Orders c.args.count (drop c.args.from c.args.body.now))) c.obey_all.new.viewer c.meant.ensures.same
    (λ w h. inr (subst (λ (x : Stream). WithinStream m.confirmed m.pictures.size v x w) (sym same) (within_stream m.confirmed m.pictures.size v w stream regs ts read.0 read.2 told h)))
    (c.obey_all.ensures.stopped (with_registers v regs) (registers_stand v m regs s))

pub returns-in-Err-BadOrder-clause-stopped : goal.returns-in-Err-BadOrder-clause-stopped
returns-in-Err-BadOrder-clause-stopped c = λ v s. (v, inl refl, record { marked = s.marked; marks = s.marks; orders = s.orders; tiles = s.tiles })

pub returns-in-Err-OutOfMemory-clause-stopped : goal.returns-in-Err-OutOfMemory-clause-stopped
returns-in-Err-OutOfMemory-clause-stopped c = λ v s. (v, inl refl, record { marked = s.marked; marks = s.marks; orders = s.orders; tiles = s.tiles })
