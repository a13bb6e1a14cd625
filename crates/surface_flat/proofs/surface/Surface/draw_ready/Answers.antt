use Rattle.std.proofs.Common.{◌≡◌, ◌+◌, ℕ, List, length, ap, sym, ◌∙◌, subst, arith}
use Rattle.std.specs.Prelude.{None}
use Rattle.px_core.specs.Rectangle.{in_clip}
use Rattle.draw_ops.specs.Fits.{broken_rule, slot_misfit, glyph_rule}
use Rattle.draw_ops.specs.Formulas.{picture_after}
use Rattle.draw_ops.specs.Drawing.{slots_after, painting_of, state_after_drawing}
use Rattle.draw_ops.specs.Slots.{SurfaceState}
use Rattle.std.specs.Vec.{with_items}
use Rattle.std.proofs.lemmas.List.{with_items_is}
use Rattle.draw_ops.specs.declared.shape.Drawing.{Drawing}
use Rattle.surface_parts.specs.Surfaces.{SurfaceOf, AllInSlots, IsSoundSurface}
use Rattle.surface_parts.specs.Held.{Held, held_in, state_of, state_filled, IsPaintable}
use Rattle.surface_parts.proofs.Sound.{sound_after, drawn_after, is_paintable, glyphs_after, is_save_inside}
use Rattle.surface_flat.proofs.surface.Surface.draw_ready.Goals as goal

-- a surface after a drawing
abbrev after : SurfaceOf → Drawing → SurfaceOf
after v d = record { size = v.size; state = state_after_drawing v.size v.state d }

pub fill-requires-clause-inside : goal.fill-requires-clause-inside
fill-requires-clause-inside c = let i = c.self.inside in let d = c.args.d.now in
    let rules : broken_rule i.size d ≡ None = subst (λ (v : SurfaceOf). broken_rule v.size d ≡ None) (sym c.self.view_is) c.requires.rules in
    c.requires.room.inside i.size (is_save_inside i.size d rules)

pub paint-requires-clause-paintable : goal.paint-requires-clause-paintable
paint-requires-clause-paintable c = let i = c.self.inside in let d = c.args.d.now in
    let st : SurfaceState = state_of i.pixels.items i.slots i.count in
    let rules : broken_rule i.size d ≡ None = subst (λ (v : SurfaceOf). broken_rule v.size d ≡ None) (sym c.self.view_is) c.requires.rules in
    let fits : slot_misfit i.size st d.shape ≡ None = subst (λ (v : SurfaceOf). slot_misfit v.size v.state d.shape ≡ None) (sym c.self.view_is) c.requires.slots in
    let filled : c.fill.new.self ≡ held_in (slots_after i.size st d.shape)
    = c.fill.ensures ∙ ap (λ (ps : List ℕ). held_in (state_filled i.size (state_of ps i.slots i.count) c.args.room)) c.as_slice.ensures.value ∙ ap held_in (c.requires.room.fills i.size st (ap (λ (v : SurfaceOf). v.state.count) c.self.view_is)) in
    subst (λ (h : Held). IsPaintable i.size h d.clip d.shape) (sym filled) (is_paintable i.size st d rules fits c.self.invariant.0)

pub paint-requires-clause-glyphs : goal.paint-requires-clause-glyphs
paint-requires-clause-glyphs c = let i = c.self.inside in let d = c.args.d.now in
    let st : SurfaceState = state_of i.pixels.items i.slots i.count in
    let rules : broken_rule i.size d ≡ None = subst (λ (v : SurfaceOf). broken_rule v.size d ≡ None) (sym c.self.view_is) c.requires.rules in
    let filled : c.fill.new.self ≡ held_in (slots_after i.size st d.shape)
    = c.fill.ensures ∙ ap (λ (ps : List ℕ). held_in (state_filled i.size (state_of ps i.slots i.count) c.args.room)) c.as_slice.ensures.value ∙ ap held_in (c.requires.room.fills i.size st (ap (λ (v : SurfaceOf). v.state.count) c.self.view_is)) in
    subst (λ (h : Held). AllInSlots (λ glyph. glyph_rule glyph.content ≡ None) h.glyphs) (sym filled) (glyphs_after i.size st d rules c.self.invariant.0)

pub invariant_of-self : goal.invariant_of-self
invariant_of-self c =
    let i = c.self.inside in let d = c.args.d.now in let new = c.paint.new.pixels in
    let st : SurfaceState = state_of i.pixels.items i.slots i.count in
    let rules : broken_rule i.size d ≡ None = subst (λ (v : SurfaceOf). broken_rule v.size d ≡ None) (sym c.self.view_is) c.requires.rules in
    let filled : c.fill.new.self ≡ held_in (slots_after i.size st d.shape)
    = c.fill.ensures ∙ ap (λ (ps : List ℕ). held_in (state_filled i.size (state_of ps i.slots i.count) c.args.room)) c.as_slice.ensures.value ∙ ap held_in (c.requires.room.fills i.size st (ap (λ (v : SurfaceOf). v.state.count) c.self.view_is)) in
    let drawn : c.paint.new.pixels ≡ picture_after i.size (in_clip d.clip) (painting_of i.size (state_of i.pixels.items (held_in (slots_after i.size st d.shape)) i.count) d.shape) i.pixels.items
    = c.paint.ensures i.count
    ∙ ap (λ (ps : List ℕ). picture_after i.size (in_clip d.clip) (painting_of i.size (state_of ps c.fill.new.self i.count) d.shape) ps) c.as_mut_slice.ensures.value
    ∙ ap (λ (h : Held). picture_after i.size (in_clip d.clip) (painting_of i.size (state_of i.pixels.items h i.count) d.shape) i.pixels.items) filled in
    let final : state_of (with_items i.pixels c.paint.new.pixels).items c.fill.new.self (i.count + 1) ≡ state_after_drawing i.size st d
    = ap (λ (ps : List ℕ). state_of ps c.fill.new.self (i.count + 1)) (with_items_is i.pixels c.paint.new.pixels (c.paint.auto.pixels ∙ c.as_mut_slice.ensures.len))
    ∙ ap (λ (h : Held). state_of c.paint.new.pixels h (i.count + 1)) filled ∙ drawn_after i.size st d c.paint.new.pixels drawn in
    let pattern : length (with_items i.pattern c.paint.new.pattern).items ≡ length i.pattern.items
    = ap (λ (ps : List ℕ). length ps) (with_items_is i.pattern c.paint.new.pattern (c.paint.auto.pattern ∙ c.as_mut_slice-2.ensures.len)) ∙ c.paint.auto.pattern ∙ ap (λ (ps : List ℕ). length ps) c.as_mut_slice-2.ensures.value in
    let source : length (with_items i.source c.paint.new.source).items ≡ length i.source.items
    = ap (λ (ps : List ℕ). length ps) (with_items_is i.source c.paint.new.source (c.paint.auto.source ∙ c.as_mut_slice-3.ensures.len)) ∙ c.paint.auto.source ∙ ap (λ (ps : List ℕ). length ps) c.as_mut_slice-3.ensures.value in (
      subst (λ (s : SurfaceState). IsSoundSurface i.size s) (sym final) (sound_after i.size st d rules c.requires.colors c.self.invariant.0),
      omega (arith, pattern, c.self.invariant.1),
      omega (arith, source, c.self.invariant.2),
    )

pub returns : goal.returns
returns c =
    let i = c.self.inside in let d = c.args.d.now in let new = c.paint.new.pixels in
    let st : SurfaceState = state_of i.pixels.items i.slots i.count in
    let rules : broken_rule i.size d ≡ None = subst (λ (v : SurfaceOf). broken_rule v.size d ≡ None) (sym c.self.view_is) c.requires.rules in
    let filled : c.fill.new.self ≡ held_in (slots_after i.size st d.shape)
    = c.fill.ensures ∙ ap (λ (ps : List ℕ). held_in (state_filled i.size (state_of ps i.slots i.count) c.args.room)) c.as_slice.ensures.value ∙ ap held_in (c.requires.room.fills i.size st (ap (λ (v : SurfaceOf). v.state.count) c.self.view_is)) in
    let drawn : c.paint.new.pixels ≡ picture_after i.size (in_clip d.clip) (painting_of i.size (state_of i.pixels.items (held_in (slots_after i.size st d.shape)) i.count) d.shape) i.pixels.items
    = c.paint.ensures i.count
    ∙ ap (λ (ps : List ℕ). picture_after i.size (in_clip d.clip) (painting_of i.size (state_of ps c.fill.new.self i.count) d.shape) ps) c.as_mut_slice.ensures.value
    ∙ ap (λ (h : Held). picture_after i.size (in_clip d.clip) (painting_of i.size (state_of i.pixels.items h i.count) d.shape) i.pixels.items) filled in
    let final : state_of (with_items i.pixels c.paint.new.pixels).items c.fill.new.self (i.count + 1) ≡ state_after_drawing i.size st d
    = ap (λ (ps : List ℕ). state_of ps c.fill.new.self (i.count + 1)) (with_items_is i.pixels c.paint.new.pixels (c.paint.auto.pixels ∙ c.as_mut_slice.ensures.len))
    ∙ ap (λ (h : Held). state_of c.paint.new.pixels h (i.count + 1)) filled ∙ drawn_after i.size st d c.paint.new.pixels drawn in
    let seen : SurfaceState → SurfaceOf = λ s. record { size = i.size; state = s } in
    ap seen final ∙ ap (λ (v : SurfaceOf). after v d) c.self.view_is
