use Rattle.std.proofs.Common.{◌≡◌, true, ap, sym, subst, ◌∙◌}
use Rattle.std.specs.Prelude.{IfOk}
use Rattle.std.specs.Vec.{vec_len, vec_capacity}
use Rattle.px_core.specs.declared.surface.Size.{Size}
use Rattle.px_core.specs.Rectangle.{cut_out, whole}
use Rattle.px_core.specs.Tiles.{tile_rect, tiles_of}
use Rattle.surface_parts.specs.Surfaces.{SurfaceOf}
use Rattle.session_core.specs.SessionModel.{SessionModel}
use Rattle.session_core.specs.Standing.{IsOpen}
use Rattle.session_core.proofs.Sessions.{looked_at}
use Rattle.session_core.proofs.session.Session.lend.Goals as goal

pub lend-requires : goal.lend-requires
lend-requires c = let i = c.self.inside in
    subst (λ (z : Size). tiles_of z (whole z) c.args.t ≡ true) (sym (c.self.invariant.is_session.surface_size ∙ ap (λ (v : SessionModel). v.head.size) c.self.view_is)) c.requires

pub invariant_of-self : goal.invariant_of-self
invariant_of-self c = let i = c.self.inside in
    subst (λ (f : SurfaceOf). IsOpen i.head (record i.standing { surface = f }) i.kept.items i.marks i.typed (vec_len i.kept) (vec_capacity i.kept)) (sym c.lend.ensures.unchanged) c.self.invariant

pub returns-clause-lent : goal.returns-clause-lent
returns-clause-lent c = let i = c.self.inside in
    subst (λ (f : SurfaceOf). IfOk c.lend.result (λ tile. tile ≡ cut_out f.size f.state.picture 0 (tile_rect c.args.t)))
    (looked_at i.head i.standing i.kept.items _ c.self.invariant.is_session c.self.view_is) c.lend.ensures.lent
