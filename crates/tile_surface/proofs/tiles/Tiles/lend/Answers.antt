use Rattle.std.proofs.Common.{◌≡◌, ℕ, List, length, true, map, refl, sym, subst, ap, ◌∙◌, arith}
use Rattle.std.specs.Vec.{with_items}
use Rattle.std.proofs.lemmas.List.{with_items_is}
use Rattle.std.specs.Prelude.{IfOk}
use Rattle.px_core.specs.Rectangle.{cut_out, whole}
use Rattle.px_core.specs.Tiles.{tile_rect, tiles_of}
use Rattle.surface_parts.specs.Held.{state_of}
use Rattle.surface_parts.specs.Surfaces.{IsSoundSurface, SurfaceOf}
use Rattle.tile_surface.specs.declared.cell.Cell.{Cell}
use Rattle.tile_surface.specs.Cells.{cell_at, cell_pixels}
use Rattle.tile_surface.proofs.Lending.{if_ok_both, small_session, tile_below, tile_is}
use Rattle.tile_surface.proofs.Owning.{black_same}
use Rattle.tile_surface.proofs.Tiled.{same_length, same_picture}
use Rattle.tile_surface.proofs.tiles.Tiles.lend.Goals as goal

pub lend_tile-requires : goal.lend_tile-requires
lend_tile-requires c = let i = c.self.inside in
    let has : tiles_of i.size (whole i.size) c.args.t ≡ true = subst (λ (v : SurfaceOf). tiles_of v.size (whole v.size) c.args.t ≡ true) (sym c.self.view_is) c.requires in
    let below = tile_below i.size (whole i.size) c.args.t (small_session i.size c.self.invariant.0.session) has in
    record { tile = omega (arith, below, c.self.invariant.1, ap (λ (cells : List Cell). length cells) c.as_mut_slice.ensures.value) }

pub invariant_of-self : goal.invariant_of-self
invariant_of-self c = let i = c.self.inside in let new = (with_items i.cells c.lend_tile.new.cells).items in
    let same : map cell_pixels (with_items i.cells c.lend_tile.new.cells).items ≡ map cell_pixels i.cells.items
    = ap (map cell_pixels) (with_items_is i.cells c.lend_tile.new.cells (c.lend_tile.auto.cells ∙ c.as_mut_slice.ensures.len)) ∙ c.lend_tile.ensures.same ∙ ap (map cell_pixels) c.as_mut_slice.ensures.value in (
      subst (λ (ps : List ℕ). IsSoundSurface i.size (state_of ps i.slots i.count)) (sym (same_picture i.size i.cells.items new same)) c.self.invariant.0,
      same_length i.cells.items new same ∙ c.self.invariant.1,
      black_same i.size i.cells.items new same c.self.invariant.2,
      c.self.invariant.3,
      c.self.invariant.4,
    )

pub returns-clause-lent : goal.returns-clause-lent
returns-clause-lent c = let i = c.self.inside in
    let has : tiles_of i.size (whole i.size) c.args.t ≡ true = subst (λ (v : SurfaceOf). tiles_of v.size (whole v.size) c.args.t ≡ true) (sym c.self.view_is) c.requires in
    let below = tile_below i.size (whole i.size) c.args.t (small_session i.size c.self.invariant.0.session) has in
    subst (λ (v : SurfaceOf). IfOk c.lend_tile.result (λ tile. tile ≡ cut_out v.size v.state.picture 0 (tile_rect c.args.t))) c.self.view_is
    (if_ok_both c.lend_tile.result _ _ _ (λ tile is sized. tile_is i.size i.cells.items c.self.invariant.2 c.args.t 4096 tile below refl refl (is ∙ ap (λ (cells : List Cell). cell_pixels (cell_at cells c.args.t)) c.as_mut_slice.ensures.value) sized)
    c.lend_tile.ensures.lent c.lend_tile.ensures.sized)

pub returns-clause-unchanged : goal.returns-clause-unchanged
returns-clause-unchanged c = let i = c.self.inside in let new = (with_items i.cells c.lend_tile.new.cells).items in
    let same : map cell_pixels (with_items i.cells c.lend_tile.new.cells).items ≡ map cell_pixels i.cells.items
    = ap (map cell_pixels) (with_items_is i.cells c.lend_tile.new.cells (c.lend_tile.auto.cells ∙ c.as_mut_slice.ensures.len)) ∙ c.lend_tile.ensures.same ∙ ap (map cell_pixels) c.as_mut_slice.ensures.value in
    let seen : List ℕ → SurfaceOf = λ ps. record { size = i.size; state = state_of ps i.slots i.count } in
    ap seen (same_picture i.size i.cells.items new same) ∙ c.self.view_is
