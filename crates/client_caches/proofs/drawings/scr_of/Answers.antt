use Rattle.std.proofs.Common.{rules, ◌≡◌, true, lit<, ap, sym, ◌∙◌, to_z, of_z, w32, arith}
use Rattle.px_core.specs.Rectangle.{has_pixel}
use Rattle.order_fields.specs.OrderTable.{scr_blt}
use Rattle.order_fields.specs.NamedDrawing.{value, number, rect_at}
use Rattle.client_caches.specs.Named.{FitBox}
use Rattle.client_caches.proofs.FieldsFit.{kind_at, shown}
use Rattle.client_caches.proofs.drawings.scr_of.Goals as goal

pub returns : goal.returns
returns c = λ depth run.
    let vs = c.args.values.now in
    let corner : FitBox vs 0 = record { first = kind_at 0 scr_blt.kinds vs c.requires (lit< tt); second = kind_at 1 scr_blt.kinds vs c.requires (lit< tt); third = kind_at 2 scr_blt.kinds vs c.requires (lit< tt); fourth = kind_at 3 scr_blt.kinds vs c.requires (lit< tt) } in
    let code : c.byte.result ≡ number vs 4 = c.byte.ensures (kind_at 4 scr_blt.kinds vs c.requires (lit< tt)) in
    let sx : c.coordinate.result ≡ value vs 5 = c.coordinate.ensures (kind_at 5 scr_blt.kinds vs c.requires (lit< tt)) in
    let sy : c.coordinate-2.result ≡ value vs 6 = c.coordinate-2.ensures (kind_at 6 scr_blt.kinds vs c.requires (lit< tt)) in
    let m : to_z w32 (of_z w32 c.coordinate.result) ≡ c.coordinate.result = search rules in
    let n : to_z w32 (of_z w32 c.coordinate-2.result) ≡ c.coordinate-2.result = search rules in
    let r : c.rect_at-rect.result ≡ rect_at vs 0 = c.rect_at-rect.ensures corner in
    let has : has_pixel c.rect_at-rect.result ≡ true = grind arith in
    shown _ _ _ (ap has_pixel (sym r) ∙ has) cc
