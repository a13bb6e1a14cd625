use Rattle.std.proofs.Common.{rules, ◌≡◌, ◌∙◌, ap, sym, to_z, of_z, w32}
use Rattle.std.specs.Prelude.{Ok}
use Rattle.std.proofs.lemmas.Result.{err_from_is_err_and}
use Rattle.px_core.specs.declared.rectangle.Rect.{Rect}
use Rattle.order_fields.specs.NamedDrawing.NamedDrawing.{Mem3}
use Rattle.order_means.specs.ClientState.{ClientState, brush_used, image_used, source_rect}
use Rattle.client_picture.specs.Pictures.{Pictures}
use Rattle.client_caches.proofs.Stores.{refused_by}
use Rattle.client_view.specs.Told.{client_after_clipped}
use Rattle.client_view.specs.Views.{client_of, IsSourceOf}
use Rattle.client_view.proofs.Drawn.{mixed_by, no_mixed_image, no_mixed_brush}
use Rattle.client_view.proofs.draw.draw_mixed.Goals as goal

pub returns-in_err-image-clause-drawn : goal.returns-in_err-image-clause-drawn
returns-in_err-image-clause-drawn c = λ blocks registers.
    let s : ClientState = client_of registers c.args.caches.now blocks c.args.pictures.now in
    let p = err_from_is_err_and c.from_residual.result c.from_residual.ensures.1 in
    let n : to_z w32 (of_z w32 c.args.sx) ≡ c.args.sx = search rules in
    let m : to_z w32 (of_z w32 c.args.sy) ≡ c.args.sy = search rules in
    let place : c.source_rect.result ≡ source_rect c.args.rect c.args.sx c.args.sy = rw (n, m) at c.source_rect.ensures in
    rw (p.1, p.2) (refused_by c.in_err-image.field-0.0 (image_used c.args.confirmed.now s c.args.cache c.args.index c.source_rect.result) (client_after_clipped c.args.confirmed.now c.args.pictures.now.size c.args.bounds s (Mem3 c.args.cache c.args.index c.args.rect c.args.rop c.args.sx c.args.sy c.args.entry))
    (λ g e. no_mixed_image c.args.confirmed.now c.args.pictures.now.size c.args.bounds c.args.cache c.args.index c.args.rect c.args.rop c.args.sx c.args.sy c.args.entry s g (ap (λ (r : Rect). image_used c.args.confirmed.now s c.args.cache c.args.index r) (sym place) ∙ e)) (c.in_err-image.ensures.used s))

pub returns-in_err-brush-clause-drawn : goal.returns-in_err-brush-clause-drawn
returns-in_err-brush-clause-drawn c = λ blocks registers.
    let s : ClientState = client_of registers c.args.caches.now blocks c.args.pictures.now in
    let p = err_from_is_err_and c.from_residual-in_err-brush.result c.from_residual-in_err-brush.ensures.1 in
    let n : to_z w32 (of_z w32 c.args.sx) ≡ c.args.sx = search rules in
    let m : to_z w32 (of_z w32 c.args.sy) ≡ c.args.sy = search rules in
    let place : c.source_rect.result ≡ source_rect c.args.rect c.args.sx c.args.sy = rw (n, m) at c.source_rect.ensures in
    rw (p.1, p.2) (refused_by c.in_err-brush.field-0.0 (brush_used c.args.confirmed.now s c.args.entry) (client_after_clipped c.args.confirmed.now c.args.pictures.now.size c.args.bounds s (Mem3 c.args.cache c.args.index c.args.rect c.args.rop c.args.sx c.args.sy c.args.entry))
    (λ g e. no_mixed_brush c.args.confirmed.now c.args.pictures.now.size c.args.bounds c.args.cache c.args.index c.args.rect c.args.rop c.args.sx c.args.sy c.args.entry s c.in_ok-image.image.now g (ap (λ (r : Rect). image_used c.args.confirmed.now s c.args.cache c.args.index r) (sym place) ∙ c.in_ok-image.ensures.used s) e) (c.in_err-brush.ensures s))

pub returns-clause-drawn : goal.returns-clause-drawn
returns-clause-drawn c = λ blocks registers.
    let s : ClientState = client_of registers c.args.caches.now blocks c.args.pictures.now in
    let n : to_z w32 (of_z w32 c.args.sx) ≡ c.args.sx = search rules in
    let m : to_z w32 (of_z w32 c.args.sy) ≡ c.args.sy = search rules in
    let place : c.source_rect.result ≡ source_rect c.args.rect c.args.sx c.args.sy = rw (n, m) at c.source_rect.ensures in
    let is : IsSourceOf c.in_ok-image.image.now c.args.sx c.args.sy c.source_of-source.result = rw (n, m) at c.source_of-source.ensures in
    mixed_by c.args.confirmed.now c.args.pictures.now.size c.args.bounds c.args.cache c.args.index c.args.rect c.args.rop c.args.sx c.args.sy c.args.entry s c.in_ok-image.image.now c.in_ok-brush.brush.now c.source_of-source.result (ap (λ (r : Rect). image_used c.args.confirmed.now s c.args.cache c.args.index r) (sym place) ∙ c.in_ok-image.ensures.used s) (c.in_ok-brush.ensures s) is
    ∙ ap (λ (p : Pictures). Ok (client_of registers c.args.caches.now blocks p)) (sym c.mix.ensures)
