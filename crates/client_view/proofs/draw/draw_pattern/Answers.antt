use Rattle.std.proofs.Common.{◌∙◌, ap, sym}
use Rattle.std.specs.Prelude.{Ok}
use Rattle.std.proofs.lemmas.Result.{err_from_is_err_and}
use Rattle.order_fields.specs.NamedDrawing.NamedDrawing.{Pat}
use Rattle.order_means.specs.ClientState.{ClientState, brush_used}
use Rattle.client_picture.specs.Pictures.{Pictures}
use Rattle.client_caches.proofs.Stores.{refused_by}
use Rattle.client_view.specs.Told.{client_after_clipped}
use Rattle.client_view.specs.Views.{client_of}
use Rattle.client_view.proofs.Drawn.{patterned, no_pattern}
use Rattle.client_view.proofs.draw.draw_pattern.Goals as goal

pub returns-in_err-brush-clause-drawn : goal.returns-in_err-brush-clause-drawn
returns-in_err-brush-clause-drawn c = λ blocks registers.
    let s : ClientState = client_of registers c.args.caches.now blocks c.args.pictures.now in
    let p = err_from_is_err_and c.from_residual.result c.from_residual.ensures.1 in
    rw (p.1, p.2) (refused_by c.in_err-brush.field-0.0 (brush_used c.args.confirmed.now s c.args.entry) (client_after_clipped c.args.confirmed.now c.args.pictures.now.size c.args.bounds s (Pat c.args.rect c.args.rop c.args.entry))
    (λ g e. no_pattern c.args.confirmed.now c.args.pictures.now.size c.args.bounds c.args.rect c.args.rop c.args.entry s g e) (c.in_err-brush.ensures s))

pub returns-clause-drawn : goal.returns-clause-drawn
returns-clause-drawn c = λ blocks registers.
    let s : ClientState = client_of registers c.args.caches.now blocks c.args.pictures.now in
    patterned c.args.confirmed.now c.args.pictures.now.size c.args.bounds c.args.rect c.args.rop c.args.entry s c.in_ok-brush.brush.now (c.in_ok-brush.ensures s)
    ∙ ap (λ (p : Pictures). Ok (client_of registers c.args.caches.now blocks p)) (sym c.mix.ensures)
