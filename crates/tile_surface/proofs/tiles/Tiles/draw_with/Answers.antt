use Rattle.std.proofs.Common.{◌≡◌, ◌+◌, ℕ, List, length, map, ap, sym, subst, ◌∙◌, arith}
use Rattle.std.specs.Vec.{with_items}
use Rattle.std.proofs.lemmas.List.{with_items_is}
use Rattle.draw_ops.specs.declared.shape.Drawing.{Drawing}
use Rattle.draw_ops.specs.Drawing.{state_after_drawings}
use Rattle.draw_ops.specs.Fits.{AllFitState}
use Rattle.draw_ops.specs.Slots.{SurfaceState}
use Rattle.surface_parts.specs.Held.{state_of}
use Rattle.surface_parts.specs.Surfaces.{IsSoundSurface, SurfaceOf}
use Rattle.tile_surface.specs.declared.cell.Cell.{Cell}
use Rattle.tile_surface.specs.Cells.{cell_pixels, picture_of}
use Rattle.tile_surface.specs.Ownership.{IsBlackPast}
use Rattle.tile_surface.proofs.Drawn.{on_err, sound_same}
use Rattle.tile_surface.proofs.Later.{all_placed, first_paintable}
use Rattle.tile_surface.proofs.Owning.{black_same, black_still}
use Rattle.tile_surface.proofs.Tiled.{same_length, same_picture}
use Rattle.tile_surface.proofs.tiles.Tiles.draw_with.Goals as goal

-- a surface after drawings
abbrev after : SurfaceOf → List Drawing → SurfaceOf
after v ds = record { size = v.size; state = state_after_drawings v.size v.state ds }

pub own_all-requires-clause-first : goal.own_all-requires-clause-first
own_all-requires-clause-first c = let i = c.self.inside in let ds = c.args.ds.now in
    let st : SurfaceState = state_of (picture_of i.size i.cells.items) i.slots i.count in
    first_paintable i.size st ds c.self.invariant.0 (subst (λ (v : SurfaceOf). AllFitState v.size v.state ds) (sym c.self.view_is) c.requires.fit)

pub own_all-requires-clause-placed : goal.own_all-requires-clause-placed
own_all-requires-clause-placed c = let i = c.self.inside in let ds = c.args.ds.now in
    let st : SurfaceState = state_of (picture_of i.size i.cells.items) i.slots i.count in
    all_placed i.size st ds (subst (λ (v : SurfaceOf). AllFitState v.size v.state ds) (sym c.self.view_is) c.requires.fit)

pub invariant_of-self : goal.invariant_of-self
invariant_of-self c = let i = c.self.inside in let new = (with_items i.cells c.own_all.new.cells).items in
    let same : map cell_pixels (with_items i.cells c.own_all.new.cells).items ≡ map cell_pixels i.cells.items
    = ap (map cell_pixels) (with_items_is i.cells c.own_all.new.cells (c.own_all.auto.cells ∙ c.as_mut_slice.ensures.len)) ∙ c.own_all.ensures.same ∙ ap (map cell_pixels) c.as_mut_slice.ensures.value in (
      sound_same i.size i.cells.items new i.slots i.count same c.self.invariant.0,
      same_length i.cells.items new same ∙ c.self.invariant.1,
      black_same i.size i.cells.items new same c.self.invariant.2,
      c.self.invariant.3,
      c.self.invariant.4,
    )

pub returns-in_err-own_all-clause-unchanged : goal.returns-in_err-own_all-clause-unchanged
returns-in_err-own_all-clause-unchanged c = let i = c.self.inside in let new = (with_items i.cells c.own_all.new.cells).items in
    let same : map cell_pixels (with_items i.cells c.own_all.new.cells).items ≡ map cell_pixels i.cells.items
    = ap (map cell_pixels) (with_items_is i.cells c.own_all.new.cells (c.own_all.auto.cells ∙ c.as_mut_slice.ensures.len)) ∙ c.own_all.ensures.same ∙ ap (map cell_pixels) c.as_mut_slice.ensures.value in
    let seen : List ℕ → SurfaceOf = λ ps. record { size = i.size; state = state_of ps i.slots i.count } in
    on_err c.from_residual.result (ap seen (same_picture i.size i.cells.items new same) ∙ c.self.view_is)

pub draw_each-requires-clause-sound : goal.draw_each-requires-clause-sound
draw_each-requires-clause-sound c = let i = c.self.inside in let mid = c.as_mut_slice-2.result.now in
    let same : map cell_pixels mid ≡ map cell_pixels i.cells.items
    = ap (map cell_pixels) (c.as_mut_slice-2.ensures.value ∙ with_items_is i.cells c.own_all.new.cells (c.own_all.auto.cells ∙ c.as_mut_slice.ensures.len)) ∙ c.own_all.ensures.same ∙ ap (map cell_pixels) c.as_mut_slice.ensures.value in
    sound_same i.size i.cells.items mid i.slots i.count same c.self.invariant.0

pub draw_each-requires-clause-fit : goal.draw_each-requires-clause-fit
draw_each-requires-clause-fit c = let i = c.self.inside in let ds = c.args.ds.now in let mid = c.as_mut_slice-2.result.now in
    let same : map cell_pixels mid ≡ map cell_pixels i.cells.items
    = ap (map cell_pixels) (c.as_mut_slice-2.ensures.value ∙ with_items_is i.cells c.own_all.new.cells (c.own_all.auto.cells ∙ c.as_mut_slice.ensures.len)) ∙ c.own_all.ensures.same ∙ ap (map cell_pixels) c.as_mut_slice.ensures.value in
    subst (λ (ps : List ℕ). AllFitState i.size (state_of ps i.slots i.count) ds) (sym (same_picture i.size i.cells.items mid same))
    (subst (λ (v : SurfaceOf). AllFitState v.size v.state ds) (sym c.self.view_is) c.requires.fit)

pub invariant_of-self-2 : goal.invariant_of-self-2
invariant_of-self-2 c = let i = c.self.inside in let ds = c.args.ds.now in let owned = with_items i.cells c.own_all.new.cells in let mid = c.as_mut_slice-2.result.now in let new = c.draw_each.new.cells in
    let same : map cell_pixels mid ≡ map cell_pixels i.cells.items
    = ap (map cell_pixels) (c.as_mut_slice-2.ensures.value ∙ with_items_is i.cells c.own_all.new.cells (c.own_all.auto.cells ∙ c.as_mut_slice.ensures.len)) ∙ c.own_all.ensures.same ∙ ap (map cell_pixels) c.as_mut_slice.ensures.value in
    let written : (with_items owned new).items ≡ new = with_items_is owned new (c.draw_each.auto.cells ∙ c.as_mut_slice-2.ensures.len) in
    let pattern : length (with_items i.pattern c.draw_each.new.pattern).items ≡ length i.pattern.items
    = ap (λ (ps : List ℕ). length ps) (with_items_is i.pattern c.draw_each.new.pattern (c.draw_each.auto.pattern ∙ c.as_mut_slice-3.ensures.len)) ∙ c.draw_each.auto.pattern ∙ ap (λ (ps : List ℕ). length ps) c.as_mut_slice-3.ensures.value in
    let source : length (with_items i.source c.draw_each.new.source).items ≡ length i.source.items
    = ap (λ (ps : List ℕ). length ps) (with_items_is i.source c.draw_each.new.source (c.draw_each.auto.source ∙ c.as_mut_slice-4.ensures.len)) ∙ c.draw_each.auto.source ∙ ap (λ (ps : List ℕ). length ps) c.as_mut_slice-4.ensures.value in (
      subst (λ (cells : List Cell). IsSoundSurface i.size (state_of (picture_of i.size cells) c.draw_each.new.slots (i.count + length ds))) (sym written) c.draw_each.ensures.sound,
      ap (λ (cells : List Cell). length cells) written ∙ c.draw_each.ensures.kept.own.sized ∙ same_length i.cells.items mid same ∙ c.self.invariant.1,
      subst (λ (cells : List Cell). IsBlackPast i.size cells) (sym written) (black_still i.size mid new c.draw_each.ensures.kept (black_same i.size i.cells.items mid same c.self.invariant.2)),
      omega (arith, pattern, c.self.invariant.3),
      omega (arith, source, c.self.invariant.4),
    )

pub returns-clause-drawn : goal.returns-clause-drawn
returns-clause-drawn c = let i = c.self.inside in let ds = c.args.ds.now in let owned = with_items i.cells c.own_all.new.cells in let mid = c.as_mut_slice-2.result.now in let new = c.draw_each.new.cells in
    let same : map cell_pixels mid ≡ map cell_pixels i.cells.items
    = ap (map cell_pixels) (c.as_mut_slice-2.ensures.value ∙ with_items_is i.cells c.own_all.new.cells (c.own_all.auto.cells ∙ c.as_mut_slice.ensures.len)) ∙ c.own_all.ensures.same ∙ ap (map cell_pixels) c.as_mut_slice.ensures.value in
    let written : (with_items owned new).items ≡ new = with_items_is owned new (c.draw_each.auto.cells ∙ c.as_mut_slice-2.ensures.len) in
    let final : state_of (picture_of i.size (with_items owned new).items) c.draw_each.new.slots (i.count + length ds) ≡ state_after_drawings i.size (state_of (picture_of i.size i.cells.items) i.slots i.count) ds
    = ap (λ (cells : List Cell). state_of (picture_of i.size cells) c.draw_each.new.slots (i.count + length ds)) written ∙ c.draw_each.ensures.drawn
    ∙ ap (λ (ps : List ℕ). state_after_drawings i.size (state_of ps i.slots i.count) ds) (same_picture i.size i.cells.items mid same) in
    let seen : SurfaceState → SurfaceOf = λ s. record { size = i.size; state = s } in
    ap seen final ∙ ap (λ (v : SurfaceOf). after v ds) c.self.view_is
