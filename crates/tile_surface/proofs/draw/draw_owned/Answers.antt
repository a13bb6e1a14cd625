use Rattle.std.proofs.Common.{◌≡◌, ◌+◌, refl, ap, sym, subst, ◌∙◌}
use Rattle.std.specs.Prelude.{None}
use Rattle.px_core.specs.Rectangle.{in_clip}
use Rattle.draw_ops.specs.Drawing.{painting_of, slots_after}
use Rattle.draw_ops.specs.Fits.{glyph_rule}
use Rattle.draw_ops.specs.Formulas.{picture_after}
use Rattle.draw_ops.specs.Slots.{SurfaceState}
use Rattle.draw_ops.specs.StateColors.{StateHasColors}
use Rattle.draw_ops.proofs.KeptColors.{drawing_keeps}
use Rattle.surface_parts.specs.Held.{Held, held_in, state_of, IsPaintable}
use Rattle.surface_parts.specs.Surfaces.{AllInSlots}
use Rattle.surface_parts.proofs.Sound.{drawn_after, glyphs_after, is_paintable, is_save_inside}
use Rattle.tile_surface.specs.Cells.{picture_of}
use Rattle.tile_surface.specs.Touched.{OwnsShape}
use Rattle.tile_surface.proofs.Touching.{owns_filled}
use Rattle.tile_surface.proofs.draw.draw_owned.Goals as goal

pub fill_slot-requires-clause-inside : goal.fill_slot-requires-clause-inside
fill_slot-requires-clause-inside c = c.requires.room.inside c.args.size (is_save_inside c.args.size c.args.d.now c.requires.rules)

pub paint-requires-clause-paintable : goal.paint-requires-clause-paintable
paint-requires-clause-paintable c = let size = c.args.size in let d = c.args.d.now in
    let st : SurfaceState = state_of (picture_of size c.args.cells.now) c.args.slots.now c.args.count in
    let filled : c.fill_slot.new.slots ≡ held_in (slots_after size st d.shape) = c.fill_slot.ensures ∙ ap held_in (c.requires.room.fills size st refl) in
    subst (λ (h : Held). IsPaintable size h d.clip d.shape) (sym filled) (is_paintable size st d c.requires.rules c.requires.fits c.requires.sound)

pub paint-requires-clause-glyphs : goal.paint-requires-clause-glyphs
paint-requires-clause-glyphs c = let size = c.args.size in let d = c.args.d.now in
    let st : SurfaceState = state_of (picture_of size c.args.cells.now) c.args.slots.now c.args.count in
    let filled : c.fill_slot.new.slots ≡ held_in (slots_after size st d.shape) = c.fill_slot.ensures ∙ ap held_in (c.requires.room.fills size st refl) in
    subst (λ (h : Held). AllInSlots (λ glyph. glyph_rule glyph.content ≡ None) h.glyphs) (sym filled) (glyphs_after size st d c.requires.rules c.requires.sound)

pub paint-requires-clause-colors : goal.paint-requires-clause-colors
paint-requires-clause-colors c = let size = c.args.size in let d = c.args.d.now in let old = picture_of size c.args.cells.now in
    let st : SurfaceState = state_of old c.args.slots.now c.args.count in
    let filled : c.fill_slot.new.slots ≡ held_in (slots_after size st d.shape) = c.fill_slot.ensures ∙ ap held_in (c.requires.room.fills size st refl) in
    let kept = drawing_keeps size st d c.requires.sound.colors c.requires.colors in
    subst (λ (h : Held). StateHasColors (state_of old h 0)) (sym filled)
    (record { picture = c.requires.sound.colors.picture; images = kept.images; brushes = kept.brushes; blocks = kept.blocks })

pub paint-requires-clause-own : goal.paint-requires-clause-own
paint-requires-clause-own c = let size = c.args.size in let d = c.args.d.now in
    let st : SurfaceState = state_of (picture_of size c.args.cells.now) c.args.slots.now c.args.count in
    let filled : c.fill_slot.new.slots ≡ held_in (slots_after size st d.shape) = c.fill_slot.ensures ∙ ap held_in (c.requires.room.fills size st refl) in
    subst (λ (h : Held). OwnsShape size h c.args.cells.now d.clip d.shape) (sym filled) (owns_filled size st c.args.cells.now d.clip d.shape c.requires.own)

pub returns-clause-drawn : goal.returns-clause-drawn
returns-clause-drawn c = let size = c.args.size in let d = c.args.d.now in let count = c.args.count in
    let old = picture_of size c.args.cells.now in let new = picture_of size c.paint.new.cells in
    let st : SurfaceState = state_of (picture_of size c.args.cells.now) c.args.slots.now c.args.count in
    let filled : c.fill_slot.new.slots ≡ held_in (slots_after size st d.shape) = c.fill_slot.ensures ∙ ap held_in (c.requires.room.fills size st refl) in
    let drawn : new ≡ picture_after size (in_clip d.clip) (painting_of size (state_of old (held_in (slots_after size st d.shape)) count) d.shape) old
    = c.paint.ensures.painted count ∙ ap (λ (h : Held). picture_after size (in_clip d.clip) (painting_of size (state_of old h count) d.shape) old) filled in
    ap (λ (h : Held). state_of new h (count + 1)) filled ∙ drawn_after size st d new drawn
