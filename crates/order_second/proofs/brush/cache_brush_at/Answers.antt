use Rattle.std.proofs.Common.{◌≡◌, ◌∙◌, List, ℕ, [], ◌++◌, length, refl, sym, ap, subst, append-nil}
use Rattle.std.specs.Prelude.{OnOk, OnErr}
use Rattle.std.proofs.lemmas.Result.{err_from_is_err_and}
use Rattle.wire_num.specs.Written.{AppendsFront}
use Rattle.px_core.specs.Depth.{shown_colors}
use Rattle.px_core.specs.Pixels.{pixels_bytes}
use Rattle.px_core.specs.Picture.{turned_over}
use Rattle.order_means.specs.CacheOrders.{cache_brush_bytes}
use Rattle.order_second.proofs.Brushes.{brush_is}
use Rattle.order_second.proofs.brush.cache_brush_at.Goals as goal

nothing_written : (old more : List ℕ) → AppendsFront old more old
nothing_written old more = record { sent = []; rest = more; whole = refl; written = sym (append-nil old) }

pub returns-in_err-bytes-clause-memory : goal.returns-in_err-bytes-clause-memory
returns-in_err-bytes-clause-memory c =
    let p = err_from_is_err_and c.from_residual-in_err-bytes.result c.from_residual-in_err-bytes.ensures.1 in
    rw p.1 (nothing_written c.args.out.now.items (cache_brush_bytes c.args.depth c.args.entry c.args.brush.now))

pub returns-clause-ok : goal.returns-clause-ok
returns-clause-ok c =
    let d = c.args.depth in
    let brush = c.args.brush.now in
    let whole : length brush ≡ 64 = sym (ap length c.pixels.ensures.value) ∙ c.pixels.ensures.number in
    let value : c.in_ok-bytes.bytes.items ≡ pixels_bytes d (shown_colors d (turned_over 8 8 brush)) =
    c.in_ok-bytes.ensures.value ∙ ap (pixels_bytes d) (c.deref.ensures.value ∙ c.show_all-wire.ensures.shown
    ∙ ap (shown_colors d) (c.in_ok-turn_over.ensures.value ∙ ap (turned_over 8 8) c.pixels.ensures.value)) in
    let same : c.deref-2.result.now ≡ c.in_ok-bytes.bytes.items = c.deref-2.ensures.value in
    let is = ap (λ bs. c.brush_head.result ++ bs) same ∙ brush_is d c.args.entry brush c.in_ok-bytes.bytes.items c.brush_head.result c.brush_head.ensures whole value in
    subst (λ (bs : List ℕ). OnOk c.put_both.result (c.put_both.new.out.items ≡ c.args.out.now.items ++ bs)) is c.put_both.ensures.ok

pub returns-clause-memory : goal.returns-clause-memory
returns-clause-memory c =
    let d = c.args.depth in
    let brush = c.args.brush.now in
    let whole : length brush ≡ 64 = sym (ap length c.pixels.ensures.value) ∙ c.pixels.ensures.number in
    let value : c.in_ok-bytes.bytes.items ≡ pixels_bytes d (shown_colors d (turned_over 8 8 brush)) =
    c.in_ok-bytes.ensures.value ∙ ap (pixels_bytes d) (c.deref.ensures.value ∙ c.show_all-wire.ensures.shown
    ∙ ap (shown_colors d) (c.in_ok-turn_over.ensures.value ∙ ap (turned_over 8 8) c.pixels.ensures.value)) in
    let same : c.deref-2.result.now ≡ c.in_ok-bytes.bytes.items = c.deref-2.ensures.value in
    let is = ap (λ bs. c.brush_head.result ++ bs) same ∙ brush_is d c.args.entry brush c.in_ok-bytes.bytes.items c.brush_head.result c.brush_head.ensures whole value in
    subst (λ (bs : List ℕ). OnErr c.put_both.result (AppendsFront c.args.out.now.items bs c.put_both.new.out.items)) is c.put_both.ensures.memory
