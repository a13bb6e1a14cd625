use Rattle.std.proofs.Common.{◌≡◌, ◌+◌, ℕ, List, length, map, ap, sym, subst, ◌∙◌, arith}
use Rattle.std.specs.Prelude.{None}
use Rattle.std.specs.Vec.{with_items}
use Rattle.std.proofs.lemmas.List.{with_items_is}
use Rattle.draw_ops.specs.declared.shape.Drawing.{Drawing}
use Rattle.draw_ops.specs.Drawing.{state_after_drawing}
use Rattle.draw_ops.specs.Fits.{broken_rule, slot_misfit}
use Rattle.draw_ops.specs.Slots.{SurfaceState}
use Rattle.surface_parts.specs.Held.{state_of}
use Rattle.surface_parts.specs.Surfaces.{IsSoundSurface, SurfaceOf}
use Rattle.surface_parts.proofs.Sound.{is_paintable, sound_after}
use Rattle.tile_surface.specs.declared.cell.Cell.{Cell}
use Rattle.tile_surface.specs.Cells.{cell_pixels, picture_of}
use Rattle.tile_surface.specs.Ownership.{IsBlackPast}
use Rattle.tile_surface.proofs.Drawn.{drawn_same, on_err, sound_same}
use Rattle.tile_surface.proofs.Owning.{black_same, black_still}
use Rattle.tile_surface.proofs.Tiled.{same_length, same_picture}
use Rattle.tile_surface.proofs.Touching.{paintable_before}
use Rattle.tile_surface.proofs.tiles.Tiles.draw_fitting.Goals as goal

-- a surface after a drawing
abbrev after : SurfaceOf → Drawing → SurfaceOf
after v d = record { size = v.size; state = state_after_drawing v.size v.state d }

pub own_shape-requires-clause-paintable : goal.own_shape-requires-clause-paintable
own_shape-requires-clause-paintable c = let i = c.self.inside in let d = c.args.d.now in
    let st : SurfaceState = state_of (picture_of i.size i.cells.items) i.slots i.count in
    let rules : broken_rule i.size d ≡ None = subst (λ (v : SurfaceOf). broken_rule v.size d ≡ None) (sym c.self.view_is) c.requires.rules in
    let fits : slot_misfit i.size st d.shape ≡ None = subst (λ (v : SurfaceOf). slot_misfit v.size v.state d.shape ≡ None) (sym c.self.view_is) c.requires.slots in
    paintable_before i.size st d.clip d.shape (is_paintable i.size st d rules fits c.self.invariant.0)

pub invariant_of-self : goal.invariant_of-self
invariant_of-self c = let i = c.self.inside in let new = (with_items i.cells c.own_shape.new.cells).items in
    let same : map cell_pixels (with_items i.cells c.own_shape.new.cells).items ≡ map cell_pixels i.cells.items
    = ap (map cell_pixels) (with_items_is i.cells c.own_shape.new.cells (c.own_shape.auto.cells ∙ c.as_mut_slice.ensures.len)) ∙ c.own_shape.ensures.same ∙ ap (map cell_pixels) c.as_mut_slice.ensures.value in (
      sound_same i.size i.cells.items new i.slots i.count same c.self.invariant.0,
      same_length i.cells.items new same ∙ c.self.invariant.1,
      black_same i.size i.cells.items new same c.self.invariant.2,
      c.self.invariant.3,
      c.self.invariant.4,
    )

pub returns-in_err-own_shape-clause-unchanged : goal.returns-in_err-own_shape-clause-unchanged
returns-in_err-own_shape-clause-unchanged c = let i = c.self.inside in let new = (with_items i.cells c.own_shape.new.cells).items in
    let same : map cell_pixels (with_items i.cells c.own_shape.new.cells).items ≡ map cell_pixels i.cells.items
    = ap (map cell_pixels) (with_items_is i.cells c.own_shape.new.cells (c.own_shape.auto.cells ∙ c.as_mut_slice.ensures.len)) ∙ c.own_shape.ensures.same ∙ ap (map cell_pixels) c.as_mut_slice.ensures.value in
    let seen : List ℕ → SurfaceOf = λ ps. record { size = i.size; state = state_of ps i.slots i.count } in
    on_err c.from_residual.result (ap seen (same_picture i.size i.cells.items new same) ∙ c.self.view_is)

pub draw_owned-requires-clause-sound : goal.draw_owned-requires-clause-sound
draw_owned-requires-clause-sound c = let i = c.self.inside in let new = (with_items i.cells c.own_shape.new.cells).items in
    let same : map cell_pixels (with_items i.cells c.own_shape.new.cells).items ≡ map cell_pixels i.cells.items
    = ap (map cell_pixels) (with_items_is i.cells c.own_shape.new.cells (c.own_shape.auto.cells ∙ c.as_mut_slice.ensures.len)) ∙ c.own_shape.ensures.same ∙ ap (map cell_pixels) c.as_mut_slice.ensures.value in
    sound_same i.size i.cells.items c.as_mut_slice-2.result.now i.slots i.count (ap (map cell_pixels) c.as_mut_slice-2.ensures.value ∙ same) c.self.invariant.0

pub invariant_of-self-2 : goal.invariant_of-self-2
invariant_of-self-2 c = let i = c.self.inside in let d = c.args.d.now in let owned = with_items i.cells c.own_shape.new.cells in let mid = c.as_mut_slice-2.result.now in let new = c.draw_owned.new.cells in
    let st : SurfaceState = state_of (picture_of i.size i.cells.items) i.slots i.count in
    let rules : broken_rule i.size d ≡ None = subst (λ (v : SurfaceOf). broken_rule v.size d ≡ None) (sym c.self.view_is) c.requires.rules in
    let same : map cell_pixels mid ≡ map cell_pixels i.cells.items
    = ap (map cell_pixels) (c.as_mut_slice-2.ensures.value ∙ with_items_is i.cells c.own_shape.new.cells (c.own_shape.auto.cells ∙ c.as_mut_slice.ensures.len)) ∙ c.own_shape.ensures.same ∙ ap (map cell_pixels) c.as_mut_slice.ensures.value in
    let written : (with_items owned new).items ≡ new = with_items_is owned new (c.draw_owned.auto.cells ∙ c.as_mut_slice-2.ensures.len) in
    let drawn = drawn_same i.size i.cells.items mid new i.slots c.draw_owned.new.slots i.count d same c.draw_owned.ensures.drawn in
    let final : state_of (picture_of i.size (with_items owned new).items) c.draw_owned.new.slots (i.count + 1) ≡ state_after_drawing i.size st d
    = ap (λ (cells : List Cell). state_of (picture_of i.size cells) c.draw_owned.new.slots (i.count + 1)) written ∙ drawn in
    let pattern : length (with_items i.pattern c.draw_owned.new.pattern).items ≡ length i.pattern.items
    = ap (λ (ps : List ℕ). length ps) (with_items_is i.pattern c.draw_owned.new.pattern (c.draw_owned.auto.pattern ∙ c.as_mut_slice-3.ensures.len)) ∙ c.draw_owned.auto.pattern ∙ ap (λ (ps : List ℕ). length ps) c.as_mut_slice-3.ensures.value in
    let source : length (with_items i.source c.draw_owned.new.source).items ≡ length i.source.items
    = ap (λ (ps : List ℕ). length ps) (with_items_is i.source c.draw_owned.new.source (c.draw_owned.auto.source ∙ c.as_mut_slice-4.ensures.len)) ∙ c.draw_owned.auto.source ∙ ap (λ (ps : List ℕ). length ps) c.as_mut_slice-4.ensures.value in (
      subst (λ (s : SurfaceState). IsSoundSurface i.size s) (sym final) (sound_after i.size st d rules c.requires.colors c.self.invariant.0),
      ap (λ (cells : List Cell). length cells) written ∙ c.draw_owned.ensures.kept.own.sized ∙ same_length i.cells.items mid same ∙ c.self.invariant.1,
      subst (λ (cells : List Cell). IsBlackPast i.size cells) (sym written) (black_still i.size mid new c.draw_owned.ensures.kept (black_same i.size i.cells.items mid same c.self.invariant.2)),
      omega (arith, pattern, c.self.invariant.3),
      omega (arith, source, c.self.invariant.4),
    )

pub returns-clause-drawn : goal.returns-clause-drawn
returns-clause-drawn c = let i = c.self.inside in let d = c.args.d.now in let owned = with_items i.cells c.own_shape.new.cells in let mid = c.as_mut_slice-2.result.now in let new = c.draw_owned.new.cells in
    let st : SurfaceState = state_of (picture_of i.size i.cells.items) i.slots i.count in
    let same : map cell_pixels mid ≡ map cell_pixels i.cells.items
    = ap (map cell_pixels) (c.as_mut_slice-2.ensures.value ∙ with_items_is i.cells c.own_shape.new.cells (c.own_shape.auto.cells ∙ c.as_mut_slice.ensures.len)) ∙ c.own_shape.ensures.same ∙ ap (map cell_pixels) c.as_mut_slice.ensures.value in
    let written : (with_items owned new).items ≡ new = with_items_is owned new (c.draw_owned.auto.cells ∙ c.as_mut_slice-2.ensures.len) in
    let drawn = drawn_same i.size i.cells.items mid new i.slots c.draw_owned.new.slots i.count d same c.draw_owned.ensures.drawn in
    let final : state_of (picture_of i.size (with_items owned new).items) c.draw_owned.new.slots (i.count + 1) ≡ state_after_drawing i.size st d
    = ap (λ (cells : List Cell). state_of (picture_of i.size cells) c.draw_owned.new.slots (i.count + 1)) written ∙ drawn in
    let seen : SurfaceState → SurfaceOf = λ s. record { size = i.size; state = s } in
    ap seen final ∙ ap (λ (v : SurfaceOf). after v d) c.self.view_is
