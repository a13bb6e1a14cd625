use Rattle.std.proofs.Common.{rules, ◌≡◌, ◌∙◌, ap, sym, ◌<◌, true, lit<, lit≤, to_z, of_z, w32, arith}
use Rattle.order_fields.specs.OrderTable.{glyph_index, IsBelow}
use Rattle.order_fields.specs.NamedDrawing.{value, number, color_said, is_cached_run}
use Rattle.client_caches.proofs.FieldsFit.{kind_at, below_more, number_below, shown}
use Rattle.client_caches.proofs.drawings.glyphs_of.Goals as goal

pub returns : goal.returns
returns c = λ run.
    let vs = c.args.values.now in
    let cache : c.byte.result ≡ number vs 0 = c.byte.ensures (kind_at 0 glyph_index.kinds vs c.requires (lit< tt)) in
    let fits : IsBelow 16777216 (value vs 4) = kind_at 4 glyph_index.kinds vs c.requires (lit< tt) in
    let told : c.number.result ≡ number vs 4 = c.number.ensures (below_more 16777216 4294967296 (value vs 4) (lit≤ tt) fits) in
    let below : number vs 4 < 16777216 = number_below 16777216 (value vs 4) fits in
    let color : c.low.result ≡ number vs 4 = omega (arith, told, below, c.low.ensures) in
    let said : c.color_said.result ≡ color_said c.args.depth (number vs 4) = c.color_said.ensures ∙ ap (color_said c.args.depth) color in
    let x : c.coordinate.result ≡ value vs 19 = c.coordinate.ensures (kind_at 19 glyph_index.kinds vs c.requires (lit< tt)) in
    let y : c.coordinate-2.result ≡ value vs 20 = c.coordinate-2.ensures (kind_at 20 glyph_index.kinds vs c.requires (lit< tt)) in
    let m : to_z w32 (of_z w32 c.coordinate.result) ≡ c.coordinate.result = search rules in
    let n : to_z w32 (of_z w32 c.coordinate-2.result) ≡ c.coordinate-2.result = search rules in
    let is : is_cached_run c.args.depth vs ≡ true = sym (c.is_cached_run.ensures (kind_at 5 glyph_index.kinds vs c.requires (lit< tt))) ∙ c.if-not-is_cached_run.false in
    shown _ _ _ is cc
