use Rattle.std.proofs.Common.{◌≡◌, ◌∙◌, ℕ, pos, true, get_or, ap, sym, refl, lit<}
use Rattle.px_core.proofs.Pictures.{item-get_or}
use Rattle.order_fields.specs.OrderTable.{opaque_rect, fits_coordinate, IsBelow}
use Rattle.order_fields.specs.NamedDrawing.{value, color_said}
use Rattle.client_caches.proofs.FieldsFit.{kind_at, shown}
use Rattle.client_caches.proofs.Fills.{wide_coordinate, short_coordinate, wide_byte, byte_size}
use Rattle.client_caches.proofs.drawings.fill_values.Goals as goal

pub returns : goal.returns
returns c = λ run.
    let vs = c.args.values.now in
    let here : (k : ℕ) → get_or vs k (pos 0) ≡ value vs k = λ k. sym (item-get_or vs k (pos 0)) in
    let f0 : fits_coordinate (value vs 0) ≡ true = kind_at 0 opaque_rect.kinds vs c.requires (lit< tt) in
    let f1 : fits_coordinate (value vs 1) ≡ true = kind_at 1 opaque_rect.kinds vs c.requires (lit< tt) in
    let f2 : fits_coordinate (value vs 2) ≡ true = kind_at 2 opaque_rect.kinds vs c.requires (lit< tt) in
    let f3 : fits_coordinate (value vs 3) ≡ true = kind_at 3 opaque_rect.kinds vs c.requires (lit< tt) in
    let f4 : IsBelow 256 (value vs 4) = kind_at 4 opaque_rect.kinds vs c.requires (lit< tt) in
    let f5 : IsBelow 256 (value vs 5) = kind_at 5 opaque_rect.kinds vs c.requires (lit< tt) in
    let f6 : IsBelow 256 (value vs 6) = kind_at 6 opaque_rect.kinds vs c.requires (lit< tt) in
    let w = rw (here 2, wide_coordinate (value vs 2) f2) at c.side_of.ensures in
    let h = rw (here 3, wide_coordinate (value vs 3) f3) at c.side_of-2.ensures in
    let color = rw (here 4, here 5, here 6, wide_byte (value vs 4) f4, wide_byte (value vs 5) f5, wide_byte (value vs 6) f6, byte_size (value vs 4) f4, byte_size (value vs 5) f5, byte_size (value vs 6) f6) at c.new-bytes.ensures in
    let said = c.color_said.ensures ∙ ap (color_said c.args.depth) color in
    let has = rw (w, h) at c.has_pixel.ensures in
    rw (here 0, here 1, wide_coordinate (value vs 0) f0, wide_coordinate (value vs 1) f1, short_coordinate (value vs 0) f0, short_coordinate (value vs 1) f1, w, h, said)
    (shown _ _ _ (sym has ∙ c.if-not-has_pixel.false) refl)
