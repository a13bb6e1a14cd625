use Rattle.std.proofs.Common.{◌≡◌, ◌∙◌, refl, sym, ap}
use Rattle.order_fields.specs.OrderTable.{opaque_rect}
use Rattle.client_caches.specs.Named.{fill_in}
use Rattle.client_caches.proofs.TypesFit.{kind_fits, kind_draws}
use Rattle.client_caches.proofs.Fills.{same_fill, no_fill}
use Rattle.client_caches.proofs.drawings.fill_of.Goals as goal

pub fill_values-requires : goal.fill_values-requires
fill_values-requires c =
    let is : c.kind.result ≡ 10 = cc in
    kind_fits c.args.fields.now c.kind.result 10 opaque_rect _ c.values.ensures.fits c.kind.ensures is refl c.values.ensures.value

pub returns : goal.returns
returns c =
    let is : c.kind.result ≡ 10 = cc in
    let told = c.fill_values.ensures c.args.fields.now.values.bytes ∙ kind_draws c.args.depth c.args.fields.now c.kind.result 10 opaque_rect _ c.values.ensures.fits c.kind.ensures is refl c.values.ensures.value in
    sym (same_fill c.fill_values.result) ∙ ap fill_in told

pub returns-then-kind-ne-OPAQUE_RECT : goal.returns-then-kind-ne-OPAQUE_RECT
returns-then-kind-ne-OPAQUE_RECT c = sym (no_fill c.args.depth c.args.fields.now c.kind.result c.kind.ensures c.if-kind-ne-OPAQUE_RECT.true)
