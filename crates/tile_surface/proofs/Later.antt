-- Drawings one after another: what they need whatever those before them load or save.
use Rattle.std.proofs.Common.{◌≡◌, ℕ, zero, suc, ◌≤◌, ◌<◌, List, [], ◌∷◌, ◌++◌, length, true, false, refl, sym, subst, arith}
use Rattle.std.specs.Prelude.{◌&&◌, nat_le, ℤ, pos, ◌+ℤ◌, ◌≤ℤ◌, int_le, All, Option, Some, None, IfSome}
use Rattle.std.proofs.lemmas.Int.{ints}
use Rattle.std.proofs.lemmas.Bool.{and_parts, and_from}
use Rattle.std.proofs.lemmas.Bool.Decides.{nat_tests}
use Rattle.px_core.specs.declared.rectangle.Rect.{Rect}
use Rattle.px_core.specs.declared.surface.Size.{Size}
use Rattle.px_core.specs.Picture.{Area, both}
use Rattle.px_core.specs.Rectangle.{boxed, in_clip, in_rect, within}
use Rattle.px_core.proofs.Stretches.{within-low, within-high, within-from}
use Rattle.draw_ops.specs.declared.shape.Drawing.{Drawing}
use Rattle.draw_ops.specs.declared.shape.Shape.{Shape}
use Rattle.draw_ops.specs.declared.shape.Shape.TheVariants.{Fill, Dst, Pat, Copy, Blit, Blit3, Text, Line, Save, Restore, LoadImage, LoadBrush, LoadGlyph}
use Rattle.draw_ops.specs.Content.{GlyphOf, ImageOf}
use Rattle.draw_ops.specs.Slots.{SurfaceState, Loaded, lookup, glyph_slot}
use Rattle.draw_ops.specs.Drawing.{content_of, state_after_drawing}
use Rattle.draw_ops.specs.Fits.{clip_rule, no_clip_rule, place_rule, rect_rule, run_rule, starts_at_0, deltas_are_small, code_rule, brush_slot_rule, image_slot_rule, copied_rule, first_some, rules_of, glyph_rule, AllFitState}
use Rattle.draw_ops.specs.Formulas.{glyph_cell, line_area}
use Rattle.surface_parts.specs.Held.{Held, held_in, IsDrawn}
use Rattle.surface_parts.specs.Pens.{IsPenAtStart}
use Rattle.surface_parts.specs.Surfaces.{AllInSlots, IsSoundSurface}
use Rattle.surface_parts.specs.Texts.{glyphs_held}
use Rattle.surface_parts.proofs.Many.{fit_rules, fit_slots}
use Rattle.surface_parts.proofs.Rules.{kept_if, passed, place_keeps, rect_keeps, glyph_keeps}
use Rattle.surface_parts.proofs.Sound.{is_paintable}
use Rattle.tile_surface.specs.declared.cell.Cell.{Cell}
use Rattle.tile_surface.specs.Later.{from_corner, run_box, IsFirstPaintable, IsPlacedShape, OwnsAll, OwnsEach, OwnsLater}
use Rattle.tile_surface.specs.Needed.{OwnsGlyph, OwnsRun}
use Rattle.tile_surface.specs.Ownership.{OwnsArea, StaysOwn}
use Rattle.tile_surface.specs.Touched.{OwnsRect, OwnsShape}
use Rattle.tile_surface.proofs.Owning.{owns_area_still}
use Rattle.tile_surface.proofs.Penned.{run_still}
use Rattle.tile_surface.proofs.Touching.{paintable_before}

-- ---- a part of what is the surface's own

module _ (size : Size) (cells : List Cell) (clip : Area) where
  pub owns_smaller : (large small : Area) → ((u v : ℕ) → u < size.w → v < size.h → small (pos u) (pos v) ≡ true → large (pos u) (pos v) ≡ true) → OwnsArea size cells (both clip large) → OwnsArea size cells (both clip small)
  owns_smaller large small in_large owns = record {
    own = λ x y left above is.
        let p = and_parts (clip (pos x) (pos y)) (small (pos x) (pos y)) is in
        owns.own x y left above (and_from (clip (pos x) (pos y)) (large (pos x) (pos y)) p.0 (in_large x y left above p.1));
  }

stretch_in : (a : ℤ) (m : ℕ) (b : ℤ) (n : ℕ) (z : ℤ) → b ≤ℤ a → (a +ℤ pos m) ≤ℤ (b +ℤ pos n) → within a m z ≡ true → within b n z ≡ true
stretch_in a m b n z low high is =
    let l = within-low a m z is in
    let h = within-high a m z is in
    within-from b n z (omega (arith, ints, low, l)) (omega (arith, ints, high, h))

-- a rectangle lies in another
record LiesIn (small large : Rect) : Type 0 where
  left : large.x ≤ℤ small.x
  right : (small.x +ℤ pos small.w) ≤ℤ (large.x +ℤ pos large.w)
  above : large.y ≤ℤ small.y
  below : (small.y +ℤ pos small.h) ≤ℤ (large.y +ℤ pos large.h)

rect_in : (small large : Rect) → LiesIn small large → (u v : ℤ) → in_rect small u v ≡ true → in_rect large u v ≡ true
rect_in small large lies u v is = let p = and_parts (within small.x small.w u) (within small.y small.h v) is in
    and_from (within large.x large.w u) (within large.y large.h v) (stretch_in small.x small.w large.x large.w u lies.left lies.right p.0) (stretch_in small.y small.h large.y large.h v lies.above lies.below p.1)

owns_rect_in : (size : Size) (cells : List Cell) (clip : Area) (small large : Rect) → LiesIn small large → OwnsArea size cells (both clip (in_rect large)) → OwnsArea size cells (both clip (in_rect small))
owns_rect_in size cells clip small large lies owns = owns_smaller size cells clip (in_rect large) (in_rect small) (λ u v left above is. rect_in small large lies (pos u) (pos v) is) owns

-- ---- a text, whatever its font holds

module _ (size : Size) (cells : List Cell) (clip : Area) (y : ℤ) where
  glyph_in_box : (at : ℤ) (p : ℕ × ℕ) (rest : List (ℕ × ℕ)) (o : Option (Loaded GlyphOf)) → ((l : Loaded GlyphOf) → o ≡ Some l → glyph_rule l.content ≡ None)
      → OwnsArea size cells (both clip (in_rect (run_box at y (p ∷ rest)))) → OwnsGlyph size cells clip (content_of o) (at +ℤ pos p.1) y
  glyph_in_box at p rest None sound owns = tt
  glyph_in_box at p rest (Some l) sound owns = let k = glyph_keeps l.content (sound l refl) in
      owns_rect_in size cells clip (glyph_cell l.content (at +ℤ pos p.1) y) (run_box at y (p ∷ rest)) (record {
        left = omega (arith, ints, k.left);
        right = omega (arith, ints, k.right, k.wide);
        above = omega (arith, ints, k.above);
        below = omega (arith, ints, k.below, k.high);
      }) owns

  rest_in_box : (at : ℤ) (p : ℕ × ℕ) (rest : List (ℕ × ℕ)) → LiesIn (run_box (at +ℤ pos p.1) y rest) (run_box at y (p ∷ rest))
  rest_in_box at p rest = record {
    left = omega (arith, ints);
    right = omega (arith, ints);
    above = omega (arith, ints);
    below = omega (arith, ints);
  }

  run_in_box : (held : Held) (font : ℕ) → AllInSlots (λ glyph. glyph_rule glyph.content ≡ None) held.glyphs → (at : ℤ) (run : List (ℕ × ℕ))
      → OwnsArea size cells (both clip (in_rect (run_box at y run))) → OwnsRun size cells clip (glyphs_held held font) at y run
  run_in_box held font sound at [] owns = tt
  run_in_box held font sound at (p ∷ rest) owns = (
    glyph_in_box at p rest (lookup (glyph_slot font p.0) held.glyphs) (λ l e. sound (glyph_slot font p.0) l e) owns,
    run_in_box held font sound (at +ℤ pos p.1) rest (owns_rect_in size cells clip (run_box (at +ℤ pos p.1) y rest) (run_box at y (p ∷ rest)) (rest_in_box at p rest) owns),
  )

-- ---- a block, whatever its sides

rect_from_corner : (x y : ℤ) (w h : ℕ) (u v : ℤ) → in_rect (boxed x y w h) u v ≡ true → from_corner x y u v ≡ true
rect_from_corner x y w h u v is = let p = and_parts (within x w u) (within y h v) is in
    and_from (int_le x u) (int_le y v) (and_parts (int_le x u) _ p.0).0 (and_parts (int_le y v) _ p.1).0

block_in_rest : (size : Size) (cells : List Cell) (clip : Option Rect) (x y : ℤ) (o : Option ImageOf) → OwnsArea size cells (both (in_clip clip) (from_corner x y))
    → IfSome o (λ block. OwnsRect size cells clip (boxed x y block.w block.h))
block_in_rest size cells clip x y None owns = tt
block_in_rest size cells clip x y (Some b) owns = owns_smaller size cells (in_clip clip) (from_corner x y) (in_rect (boxed x y b.w b.h)) (λ u v left above is. rect_from_corner x y b.w b.h (pos u) (pos v) is) owns

at_least : (a b : ℤ) → int_le a b ≡ true → a ≤ℤ b
at_least a b is = omega (arith, ints, is)

-- the pixels to the right of and below a corner, in a rectangle with sides that are long enough
pub owns_rest : (size : Size) (cells : List Cell) (clip : Area) (x y : ℤ) → size.w ≤ 2048 → size.h ≤ 2048 → IsPenAtStart x y → OwnsArea size cells (both clip (in_rect (boxed x y 65536 65536))) → OwnsArea size cells (both clip (from_corner x y))
owns_rest size cells clip x y wide high pen owns = owns_smaller size cells clip (in_rect (boxed x y 65536 65536)) (from_corner x y) inside owns
  where
    inside : (u v : ℕ) → u < size.w → v < size.h → from_corner x y (pos u) (pos v) ≡ true → in_rect (boxed x y 65536 65536) (pos u) (pos v) ≡ true
    inside u v left above is = let p = and_parts (int_le x (pos u)) (int_le y (pos v)) is in
        and_from (within x 65536 (pos u)) (within y 65536 (pos v))
        (within-from x 65536 (pos u) (at_least x (pos u) p.0) (omega (arith, ints, pen.left, left, wide)))
        (within-from y 65536 (pos v) (at_least y (pos v) p.1) (omega (arith, ints, pen.above, above, high)))

-- ---- a shape, whatever the slots hold

owns_shape : (size : Size) (held : Held) (cells : List Cell) (clip : Option Rect) (shape : Shape) → AllInSlots (λ glyph. glyph_rule glyph.content ≡ None) held.glyphs → OwnsLater size cells clip shape → OwnsShape size held cells clip shape
owns_shape size held cells clip (Fill r color) sound owns = owns
owns_shape size held cells clip (Dst r code) sound owns = owns
owns_shape size held cells clip (Pat r code brush) sound owns = owns
owns_shape size held cells clip (Copy r code sx sy) sound owns = owns
owns_shape size held cells clip (Blit r code image sx sy) sound owns = owns
owns_shape size held cells clip (Blit3 r code image sx sy brush) sound owns = owns
owns_shape size held cells clip (Text x y color font run) sound owns = run_in_box size cells (in_clip clip) y held font sound x run owns
owns_shape size held cells clip (Line x0 y0 x1 y1 color) sound owns = owns
owns_shape size held cells clip (Save slot r) sound owns = tt
owns_shape size held cells clip (Restore slot x y) sound owns = block_in_rest size cells clip x y (lookup slot held.blocks) owns
owns_shape size held cells clip (LoadImage slot image) sound owns = tt
owns_shape size held cells clip (LoadBrush slot brush) sound owns = tt
owns_shape size held cells clip (LoadGlyph font code glyph) sound owns = tt

-- ---- what was the surface's own stays so

module _ (size : Size) (old new : List Cell) (stays : StaysOwn old new) where
  area_still : (area : Area) → OwnsArea size old area → OwnsArea size new area
  area_still area owns = owns_area_still size old new area stays owns

  later_still : (clip : Option Rect) (shape : Shape) → OwnsLater size old clip shape → OwnsLater size new clip shape
  later_still clip (Fill r color) owns = area_still (both (in_clip clip) (in_rect r)) owns
  later_still clip (Dst r code) owns = area_still (both (in_clip clip) (in_rect r)) owns
  later_still clip (Pat r code brush) owns = area_still (both (in_clip clip) (in_rect r)) owns
  later_still clip (Copy r code sx sy) owns = area_still (both (in_clip clip) (in_rect r)) owns
  later_still clip (Blit r code image sx sy) owns = area_still (both (in_clip clip) (in_rect r)) owns
  later_still clip (Blit3 r code image sx sy brush) owns = area_still (both (in_clip clip) (in_rect r)) owns
  later_still clip (Text x y color font run) owns = area_still (both (in_clip clip) (in_rect (run_box x y run))) owns
  later_still clip (Line x0 y0 x1 y1 color) owns = area_still (both (in_clip clip) (line_area x0 y0 x1 y1)) owns
  later_still clip (Save slot r) owns = tt
  later_still clip (Restore slot x y) owns = area_still (both (in_clip clip) (from_corner x y)) owns
  later_still clip (LoadImage slot image) owns = tt
  later_still clip (LoadBrush slot brush) owns = tt
  later_still clip (LoadGlyph font code glyph) owns = tt

  pub each_still : (ds : List Drawing) → OwnsEach size old ds → OwnsEach size new ds
  each_still [] owns = tt
  each_still (d ∷ ds) owns = (later_still d.clip d.shape owns.0, each_still ds owns.1)

  -- the drawings that are left after one was drawn
  pub rest_owned : (held : Held) (ds : List Drawing) → AllInSlots (λ glyph. glyph_rule glyph.content ≡ None) held.glyphs → OwnsEach size old ds → OwnsAll size held new ds
  rest_owned held [] sound owns = tt
  rest_owned held (d ∷ ds) sound owns = (owns_shape size held new d.clip d.shape sound (later_still d.clip d.shape owns.0), each_still ds owns.1)

  shape_still : (held : Held) (clip : Option Rect) (shape : Shape) → OwnsShape size held old clip shape → OwnsShape size held new clip shape
  shape_still held clip (Fill r color) owns = area_still (both (in_clip clip) (in_rect r)) owns
  shape_still held clip (Dst r code) owns = area_still (both (in_clip clip) (in_rect r)) owns
  shape_still held clip (Pat r code brush) owns = area_still (both (in_clip clip) (in_rect r)) owns
  shape_still held clip (Copy r code sx sy) owns = area_still (both (in_clip clip) (in_rect r)) owns
  shape_still held clip (Blit r code image sx sy) owns = area_still (both (in_clip clip) (in_rect r)) owns
  shape_still held clip (Blit3 r code image sx sy brush) owns = area_still (both (in_clip clip) (in_rect r)) owns
  shape_still held clip (Text x y color font run) owns = run_still size (in_clip clip) (glyphs_held held font) y old new x run stays owns
  shape_still held clip (Line x0 y0 x1 y1 color) owns = area_still (both (in_clip clip) (line_area x0 y0 x1 y1)) owns
  shape_still held clip (Save slot r) owns = tt
  shape_still held clip (Restore slot x y) owns = block (lookup slot held.blocks) owns
    where
      block : (o : Option ImageOf) → IfSome o (λ b. OwnsRect size old clip (boxed x y b.w b.h)) → IfSome o (λ b. OwnsRect size new clip (boxed x y b.w b.h))
      block None owns = tt
      block (Some b) owns = area_still (both (in_clip clip) (in_rect (boxed x y b.w b.h))) owns
  shape_still held clip (LoadImage slot image) owns = tt
  shape_still held clip (LoadBrush slot brush) owns = tt
  shape_still held clip (LoadGlyph font code glyph) owns = tt

  -- the first drawing's tiles, then those of the further ones
  pub all_owned : (held : Held) (ds rest : List Drawing) (d : Drawing) → ds ≡ d ∷ rest → OwnsShape size held old d.clip d.shape → OwnsEach size new rest → OwnsAll size held new ds
  all_owned held ds rest d first own each = subst (λ (xs : List Drawing). OwnsAll size held new xs) (sym first) (shape_still held d.clip d.shape own, each)

pub each_more : (size : Size) (cells : List Cell) (ds : List Drawing) (d : Drawing) → OwnsEach size cells ds → OwnsLater size cells d.clip d.shape → OwnsEach size cells (ds ++ d ∷ [])
each_more size cells [] d owns own = (own, tt)
each_more size cells (x ∷ ds) d owns own = (owns.0, each_more size cells ds d owns.1 own)

-- ---- what the rules say of the places of shapes

placed_rect : (size : Size) (clip : Option Rect) (r : Rect) (rest : List (Option ℕ)) → first_some (rect_rule r ∷ clip_rule size clip ∷ rest) ≡ None → IsDrawn size clip r
placed_rect size clip r rest h = let all = passed (rect_rule r ∷ clip_rule size clip ∷ rest) h in record { placed = (rect_keeps r all.0).placed; clipped = all.1.0 }

pen_at : (x y : ℤ) → place_rule x y ≡ None → IsPenAtStart x y
pen_at x y h = let p = place_keeps x y h in record { left = omega (arith, ints, p.0.low); right = p.0.high; above = omega (arith, ints, p.1.low); below = p.1.high }

unclipped : (size : Size) (clip : Option Rect) → no_clip_rule clip ≡ None → clip_rule size clip ≡ None
unclipped size None h = refl
unclipped size (Some r) h = absurd (cc h)

short_run : (run : List (ℕ × ℕ)) → run_rule run ≡ None → length run ≤ 64
short_run run h = let e = and_parts (nat_le (length run) 64) (starts_at_0 run && deltas_are_small run) (kept_if (nat_le (length run) 64 && (starts_at_0 run && deltas_are_small run)) 8 h) in at_most (length run) e.0
  where
    at_most : (n : ℕ) → nat_le n 64 ≡ true → n ≤ 64
    at_most n e = grind (arith, nat_tests, e)

placed_shape : (size : Size) (clip : Option Rect) (shape : Shape) → first_some (rules_of size clip shape) ≡ None → IsPlacedShape size clip shape
placed_shape size clip (Fill r color) h = placed_rect size clip r [] h
placed_shape size clip (Dst r code) h = placed_rect size clip r (code_rule false false code ∷ []) h
placed_shape size clip (Pat r code brush) h = placed_rect size clip r (code_rule true false code ∷ brush_slot_rule brush ∷ []) h
placed_shape size clip (Copy r code sx sy) h = placed_rect size clip r (code_rule false true code ∷ copied_rule size r sx sy ∷ []) h
placed_shape size clip (Blit r code image sx sy) h = placed_rect size clip r (code_rule false true code ∷ image_slot_rule image ∷ []) h
placed_shape size clip (Blit3 r code image sx sy brush) h = placed_rect size clip r (code_rule true true code ∷ image_slot_rule image ∷ brush_slot_rule brush ∷ []) h
placed_shape size clip (Text x y color font run) h = let all = passed (rules_of size clip (Text x y color font run)) h in (all.1.0, pen_at x y all.0, short_run run all.1.1.1.1.0)
placed_shape size clip (Line x0 y0 x1 y1 color) h = let all = passed (rules_of size clip (Line x0 y0 x1 y1 color)) h in (all.0, all.1.0)
placed_shape size clip (Save slot r) h = tt
placed_shape size clip (Restore slot x y) h = let all = passed (rules_of size clip (Restore slot x y)) h in (unclipped size clip all.1.0, pen_at x y all.0)
placed_shape size clip (LoadImage slot image) h = tt
placed_shape size clip (LoadBrush slot brush) h = tt
placed_shape size clip (LoadGlyph font code glyph) h = tt

pub all_placed : (size : Size) (st : SurfaceState) (ds : List Drawing) → AllFitState size st ds → All (λ d. IsPlacedShape size d.clip d.shape) ds
all_placed size st [] h k d lt = absurd (omega (arith, lt))
all_placed size st (x ∷ ds) h zero d lt = placed_shape size x.clip x.shape (fit_rules size st x h.0)
all_placed size st (x ∷ ds) h (suc k) d lt = all_placed size (state_after_drawing size st x) ds h.1 k d (omega (arith, lt))

pub first_paintable : (size : Size) (st : SurfaceState) (ds : List Drawing) → IsSoundSurface size st → AllFitState size st ds → IsFirstPaintable size (held_in st) ds
first_paintable size st [] is h = tt
first_paintable size st (d ∷ ds) is h = paintable_before size st d.clip d.shape (is_paintable size st d (fit_rules size st d h.0) (fit_slots size st d h.0) is)
