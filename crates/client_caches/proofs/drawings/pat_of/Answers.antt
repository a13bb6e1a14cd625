use Rattle.std.proofs.Common.{◌≡◌, true, lit<, ap, ap₂, sym, ◌∙◌, arith}
use Rattle.std.specs.Prelude.{◌&&◌}
use Rattle.px_core.specs.Rectangle.{has_pixel}
use Rattle.order_fields.specs.OrderTable.{pat_blt}
use Rattle.order_fields.specs.NamedDrawing.{number, rect_at, is_cached_brush}
use Rattle.client_caches.specs.Named.{FitBox}
use Rattle.client_caches.proofs.FieldsFit.{kind_at, shown}
use Rattle.client_caches.proofs.drawings.pat_of.Goals as goal

pub returns : goal.returns
returns c = λ run.
    let vs = c.args.values.now in
    let corner : FitBox vs 0 = record { first = kind_at 0 pat_blt.kinds vs c.requires (lit< tt); second = kind_at 1 pat_blt.kinds vs c.requires (lit< tt); third = kind_at 2 pat_blt.kinds vs c.requires (lit< tt); fourth = kind_at 3 pat_blt.kinds vs c.requires (lit< tt) } in
    let code : c.byte.result ≡ number vs 4 = c.byte.ensures (kind_at 4 pat_blt.kinds vs c.requires (lit< tt)) in
    let entry : c.byte-2.result ≡ number vs 10 = c.byte-2.ensures (kind_at 10 pat_blt.kinds vs c.requires (lit< tt)) in
    let r : c.rect_at-rect.result ≡ rect_at vs 0 = c.rect_at-rect.ensures corner in
    let has : has_pixel c.rect_at-rect.result ≡ true = grind arith in
    let brush : is_cached_brush c.args.depth vs 7 ≡ true = grind arith in
    shown _ _ _ (ap₂ (λ a b. a && b) (ap has_pixel (sym r) ∙ has) brush) cc
