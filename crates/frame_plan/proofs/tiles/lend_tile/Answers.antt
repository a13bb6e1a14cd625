use Rattle.std.proofs.Common.{◌≡◌, ◌≤◌, ℕ, List, ap, sym, subst, ◌∙◌}
use Rattle.px_core.specs.declared.surface.Size.{Size}
use Rattle.px_core.specs.declared.rectangle.Rect.{Rect}
use Rattle.px_core.specs.Rectangle.{whole}
use Rattle.px_core.specs.Tiles.{tile_on}
use Rattle.tile_surface.proofs.Lending.{small_session, tile_below}
use Rattle.frame_plan.specs.TileParts.{part_of_tile, picture_by}
use Rattle.frame_plan.proofs.TileParts.{part_is, tile_on_wide, tile_on_high}
use Rattle.frame_plan.proofs.tiles.lend_tile.Goals as goal

pub tile_on-part-requires : goal.tile_on-part-requires
tile_on-part-requires c = let s = c.args.session.now in tile_below s.head.size (whole s.head.size) c.args.tile (small_session s.head.size c.recall_legal.ensures.size) c.requires

pub new-requires-clause-wide : goal.new-requires-clause-wide
new-requires-clause-wide c = subst (λ (r : Rect). r.w ≤ 64) (sym c.tile_on-part.ensures) (tile_on_wide c.size.result c.args.tile)

pub new-requires-clause-high : goal.new-requires-clause-high
new-requires-clause-high c = subst (λ (r : Rect). r.h ≤ 64) (sym c.tile_on-part.ensures) (tile_on_high c.size.result c.args.tile)

pub returns-clause-lent : goal.returns-clause-lent
returns-clause-lent c = let s = c.args.session.now in
    let part : c.tile_on-part.result ≡ tile_on s.head.size c.args.tile = c.tile_on-part.ensures ∙ ap (λ (z : Size). tile_on z c.args.tile) c.size.ensures in
    let pixels = c.in_ok-lent.lent in
    c.new.ensures ∙ ap (λ (ps : List ℕ). (c.args.tile, ps)) (ap (λ (r : Rect). part_of_tile pixels r.w r.h) part ∙ part_is s.head.size (picture_by s) pixels c.args.tile c.in_ok-lent.ensures.lent)
