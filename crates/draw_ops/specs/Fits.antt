-- Which drawings are refused, and why: the nine rules that a drawing must keep on a surface of a size, and what the slots that it reads must hold.
use Rattle.std.specs.Prelude.{◌≡◌, ℕ, ◌+◌, ◌*◌, ◌/◌, ◌==◌, nat_lt, nat_le, Bool, true, false, ◌&&◌, ◌||◌, not, ℤ, pos, negsuc, int_le, List, [], ◌∷◌}
use Rattle.std.specs.Prelude.{length, Option, Some, None, option_map, if◌then◌else◌}
use Rattle.std.specs.Ordering.{int_eq}
use Rattle.px_core.specs.declared.surface.Size.{Size}
use Rattle.px_core.specs.declared.rectangle.Rect.{Rect}
use Rattle.px_core.specs.Rectangle.{boxed, has_pixel, is_inside}
use Rattle.rop3_core.specs.Rop3.{is_pattern_needed, is_source_needed}
use Rattle.draw_ops.specs.declared.shape.Drawing.{Drawing}
use Rattle.draw_ops.specs.declared.shape.Shape.{Shape}
use Rattle.draw_ops.specs.declared.shape.Shape.TheVariants.{Fill, Dst, Pat, Copy, Blit, Blit3, Text, Line, Save, Restore, LoadImage, LoadBrush, LoadGlyph}
use Rattle.draw_ops.specs.Content.{ImageOf, GlyphOf}
use Rattle.draw_ops.specs.Slots.{SurfaceState, Loaded, Slots, lookup, glyph_slot}
use Rattle.draw_ops.specs.Drawing.{state_after_drawing}

-- the first refusal of a list of tests, in which None says that a test is passed
abbrev pub first_some : {A : Type 0} → List (Option A) → Option A
first_some [] = None
first_some (None ∷ os) = first_some os
first_some (Some x ∷ os) = Some x

-- a rule, broken where a test says so
abbrev pub broken_if : Bool → ℕ → Option ℕ
broken_if test rule = if test then Some rule else None

-- ---- the nine rules

abbrev pub is_side : ℕ → Bool
is_side n = nat_le 1 n && nat_le n 2048

abbrev pub is_corner : ℤ → Bool
is_corner z = int_le (negsuc 4095) z && int_le z (pos 4095)

-- rule 1 of a rectangle: its sides are 1 to 2,048, its corner is -4,096 to 4,095 both ways
abbrev pub rect_rule : Rect → Option ℕ
rect_rule r = broken_if (not ((is_side r.w && is_side r.h) && (is_corner r.x && is_corner r.y))) 1

-- rule 1 of the place of a text or a restore
abbrev pub place_rule : ℤ → ℤ → Option ℕ
place_rule x y = broken_if (not (is_corner x && is_corner y)) 1

-- rule 2: a clip has a pixel and lies inside the surface
abbrev pub clip_rule : Size → Option Rect → Option ℕ
clip_rule size None = None
clip_rule size (Some clip) = broken_if (not (has_pixel clip && is_inside size clip)) 2

-- rule 2 of a save, a restore or a load: it has no clip
abbrev pub no_clip_rule : Option Rect → Option ℕ
no_clip_rule None = None
no_clip_rule (Some clip) = Some 2

-- rule 3: the code needs no pattern that the shape hasn't, and no source
abbrev pub code_rule : Bool → Bool → ℕ → Option ℕ
code_rule has_pattern has_source code = broken_if ((is_pattern_needed code && not has_pattern) || (is_source_needed code && not has_source)) 3

-- rule 4: the whole source rectangle of a copy lies inside the surface
abbrev pub copied_rule : Size → Rect → ℤ → ℤ → Option ℕ
copied_rule size r sx sy = broken_if (not (is_inside size (boxed sx sy r.w r.h))) 4

-- rule 5: a number of a slot, a font or a glyph is at most its limit
abbrev pub limit_rule : ℕ → ℕ → Option ℕ
limit_rule most n = broken_if (nat_lt most n) 5

abbrev pub image_slot_rule : ℕ → Option ℕ
image_slot_rule slot = limit_rule 255 slot

abbrev pub brush_slot_rule : ℕ → Option ℕ
brush_slot_rule slot = limit_rule 63 slot

abbrev pub block_slot_rule : ℕ → Option ℕ
block_slot_rule slot = limit_rule 15 slot

abbrev pub font_rule : ℕ → Option ℕ
font_rule font = limit_rule 3 font

abbrev pub code_limit_rule : ℕ → Option ℕ
code_limit_rule code = limit_rule 255 code

-- rule 5 of the glyphs of a run
abbrev pub codes_rule : List (ℕ × ℕ) → Option ℕ
codes_rule [] = None
codes_rule (p ∷ ps) = first_some (code_limit_rule p.0 ∷ codes_rule ps ∷ [])

-- rule 6 of an image: its sides are 1 to 64, and it has a colour for each pixel
abbrev pub image_rule : ImageOf → Option ℕ
image_rule image = broken_if (not ((nat_le 1 image.w && nat_le image.w 64)
    && ((nat_le 1 image.h && nat_le image.h 64) && length image.pixels == image.w * image.h))) 6

abbrev pub is_offset : ℤ → Bool
is_offset z = int_le (negsuc 63) z && int_le z (pos 64)

-- rule 6 of a glyph: its sides are 1 to 32, its offset is -64 to 64 both ways, and it has the bytes of its rows
abbrev pub glyph_rule : GlyphOf → Option ℕ
glyph_rule glyph = broken_if (not ((nat_le 1 glyph.cx && nat_le glyph.cx 32) && ((nat_le 1 glyph.cy && nat_le glyph.cy 32)
    && ((is_offset glyph.x && is_offset glyph.y) && length glyph.bits == (glyph.cx + 7) / 8 * glyph.cy)))) 6

-- rule 7: a line is neither upright nor level, and its ends are -4,096 to 4,095 both ways
abbrev pub line_rule : ℤ → ℤ → ℤ → ℤ → Option ℕ
line_rule x0 y0 x1 y1 = broken_if ((int_eq x0 x1 || int_eq y0 y1) || not ((is_corner x0 && is_corner y0) && (is_corner x1 && is_corner y1))) 7

abbrev pub starts_at_0 : List (ℕ × ℕ) → Bool
starts_at_0 [] = false
starts_at_0 (p ∷ ps) = p.1 == 0

abbrev pub deltas_are_small : List (ℕ × ℕ) → Bool
deltas_are_small [] = true
deltas_are_small (p ∷ ps) = nat_le p.1 127 && deltas_are_small ps

-- rule 8: a run has 1 to 64 glyphs, its first delta is 0, and no delta is above 127
abbrev pub run_rule : List (ℕ × ℕ) → Option ℕ
run_rule run = broken_if (not (nat_le (length run) 64 && (starts_at_0 run && deltas_are_small run))) 8

-- rule 9: the rectangle of a save lies inside the surface
abbrev pub saved_rule : Size → Rect → Option ℕ
saved_rule size r = broken_if (not (is_inside size r)) 9

-- the rules of each shape, the least first
abbrev pub rules_of : Size → Option Rect → Shape → List (Option ℕ)
rules_of size clip (Fill r color) = rect_rule r ∷ clip_rule size clip ∷ []
rules_of size clip (Dst r code) = rect_rule r ∷ clip_rule size clip ∷ code_rule false false code ∷ []
rules_of size clip (Pat r code brush) = rect_rule r ∷ clip_rule size clip ∷ code_rule true false code ∷ brush_slot_rule brush ∷ []
rules_of size clip (Copy r code sx sy) = rect_rule r ∷ clip_rule size clip ∷ code_rule false true code ∷ copied_rule size r sx sy ∷ []
rules_of size clip (Blit r code image sx sy) = rect_rule r ∷ clip_rule size clip ∷ code_rule false true code ∷ image_slot_rule image ∷ []
rules_of size clip (Blit3 r code image sx sy brush) = rect_rule r ∷ clip_rule size clip ∷ code_rule true true code ∷ image_slot_rule image ∷ brush_slot_rule brush ∷ []
rules_of size clip (Text x y color font run) = place_rule x y ∷ clip_rule size clip ∷ font_rule font ∷ codes_rule run ∷ run_rule run ∷ []
rules_of size clip (Line x0 y0 x1 y1 color) = clip_rule size clip ∷ line_rule x0 y0 x1 y1 ∷ []
rules_of size clip (Save slot r) = rect_rule r ∷ no_clip_rule clip ∷ block_slot_rule slot ∷ saved_rule size r ∷ []
rules_of size clip (Restore slot x y) = place_rule x y ∷ no_clip_rule clip ∷ block_slot_rule slot ∷ []
rules_of size clip (LoadImage slot image) = no_clip_rule clip ∷ image_slot_rule slot ∷ image_rule image ∷ []
rules_of size clip (LoadBrush slot brush) = no_clip_rule clip ∷ brush_slot_rule slot ∷ []
rules_of size clip (LoadGlyph font code glyph) = no_clip_rule clip ∷ font_rule font ∷ code_limit_rule code ∷ glyph_rule glyph ∷ []

-- the least rule that a drawing breaks
abbrev pub broken_rule : Size → Drawing → Option ℕ
broken_rule size d = first_some (rules_of size d.clip d.shape)

-- ---- what slots must hold

-- why a drawing doesn't fit a state: it breaks a rule, a slot that it names to read is empty, or what a slot holds is too small for it
pub data Misfit : Type 0 where
  Rule : ℕ → Misfit
  Empty : ℕ → Misfit
  TooSmall : ℕ → Misfit

abbrev pub empty_if_none : {A : Type 0} → ℕ → Option A → Option Misfit
empty_if_none slot None = Some (Empty slot)
empty_if_none slot (Some x) = None

-- the first code of a run whose glyph is missing
abbrev pub empty_glyph : Slots (Loaded GlyphOf) → ℕ → List (ℕ × ℕ) → Option Misfit
empty_glyph glyphs font [] = None
empty_glyph glyphs font (p ∷ ps) = first_some (empty_if_none p.0 (lookup (glyph_slot font p.0) glyphs) ∷ empty_glyph glyphs font ps ∷ [])

abbrev pub too_small_if : Bool → ℕ → Option Misfit
too_small_if test slot = if test then Some (TooSmall slot) else None

-- the source rectangle of a blit lies inside its image
abbrev pub source_test : Option (Loaded ImageOf) → ℕ → Rect → ℤ → ℤ → Option Misfit
source_test None slot r sx sy = None
source_test (Some image) slot r sx sy = too_small_if (not (is_inside (record { w = image.content.w; h = image.content.h }) (boxed sx sy r.w r.h))) slot

-- a restored block lies inside the surface
abbrev pub block_test : Size → Option ImageOf → ℕ → ℤ → ℤ → Option Misfit
block_test size None slot x y = None
block_test size (Some block) slot x y = too_small_if (not (is_inside size (boxed x y block.w block.h))) slot

-- the tests of the slots that each shape names to read, also where its code doesn't need them: an image before a brush, then the sizes
abbrev pub slot_tests : Size → SurfaceState → Shape → List (Option Misfit)
slot_tests size st (Fill r color) = []
slot_tests size st (Dst r code) = []
slot_tests size st (Pat r code brush) = empty_if_none brush (lookup brush st.brushes) ∷ []
slot_tests size st (Copy r code sx sy) = []
slot_tests size st (Blit r code image sx sy) = empty_if_none image (lookup image st.images) ∷ source_test (lookup image st.images) image r sx sy ∷ []
slot_tests size st (Blit3 r code image sx sy brush) = empty_if_none image (lookup image st.images) ∷ empty_if_none brush (lookup brush st.brushes)
    ∷ source_test (lookup image st.images) image r sx sy ∷ []
slot_tests size st (Text x y color font run) = empty_glyph st.glyphs font run ∷ []
slot_tests size st (Line x0 y0 x1 y1 color) = []
slot_tests size st (Save slot r) = []
slot_tests size st (Restore slot x y) = empty_if_none slot (lookup slot st.blocks) ∷ block_test size (lookup slot st.blocks) slot x y ∷ []
slot_tests size st (LoadImage slot image) = []
slot_tests size st (LoadBrush slot brush) = []
slot_tests size st (LoadGlyph font code glyph) = []

-- the first of a shape's slot tests that isn't passed
abbrev pub slot_misfit : Size → SurfaceState → Shape → Option Misfit
slot_misfit size st shape = first_some (slot_tests size st shape)

-- why a drawing doesn't fit a state, the rules before the slots
abbrev pub first_misfit : Size → SurfaceState → Drawing → Option Misfit
first_misfit size st d = first_some (option_map Rule (broken_rule size d) ∷ slot_misfit size st d.shape ∷ [])

-- a drawing fits a state
abbrev pub FitsState : Size → SurfaceState → Drawing → Type 0
FitsState size st d = first_misfit size st d ≡ None

-- drawings of which each fits the state that those before it leave
abbrev pub AllFitState : Size → SurfaceState → List Drawing → Type 0
AllFitState size st [] = Unit {0}
AllFitState size st (d ∷ ds) = FitsState size st d × AllFitState size (state_after_drawing size st d) ds
