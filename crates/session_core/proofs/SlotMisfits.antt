-- What slots lack is never a rule that is broken.
use Rattle.std.proofs.Common.{◌≡◌, ℕ, ℤ, Bool, true, false, List, [], ◌∷◌, refl, ap, Option, Some, None}
use Rattle.px_core.specs.declared.surface.Size.{Size}
use Rattle.px_core.specs.declared.rectangle.Rect.{Rect}
use Rattle.draw_ops.specs.declared.shape.Shape.{Shape}
use Rattle.draw_ops.specs.declared.shape.Shape.TheVariants.{Fill, Dst, Pat, Copy, Blit, Blit3, Text, Line, Save, Restore, LoadImage, LoadBrush, LoadGlyph}
use Rattle.draw_ops.specs.Content.{ImageOf, GlyphOf}
use Rattle.draw_ops.specs.Slots.{SurfaceState, Loaded, Slots, lookup, glyph_slot}
use Rattle.draw_ops.specs.Fits.{Misfit, first_some, empty_if_none, empty_glyph, too_small_if, source_test, block_test, slot_misfit}
use Rattle.draw_ops.specs.Fits.Misfit.{Rule, Empty, TooSmall}

abbrev names_slot : Option Misfit → Bool
names_slot None = true
names_slot (Some (Rule n)) = false
names_slot (Some (Empty slot)) = true
names_slot (Some (TooSmall slot)) = true

first_names : (m : Option Misfit) (ms : List (Option Misfit)) → names_slot m ≡ true → names_slot (first_some ms) ≡ true → names_slot (first_some (m ∷ ms)) ≡ true
first_names None ms one more = more
first_names (Some m) ms one more = one

empty_names : {A : Type 0} (slot : ℕ) (x : Option A) → names_slot (empty_if_none slot x) ≡ true
empty_names slot None = refl
empty_names slot (Some x) = refl

small_names : (test : Bool) (slot : ℕ) → names_slot (too_small_if test slot) ≡ true
small_names true slot = refl
small_names false slot = refl

source_names : (image : Option (Loaded ImageOf)) (slot : ℕ) (r : Rect) (sx sy : ℤ) → names_slot (source_test image slot r sx sy) ≡ true
source_names None slot r sx sy = refl
source_names (Some image) slot r sx sy = small_names _ slot

block_names : (size : Size) (block : Option ImageOf) (slot : ℕ) (x y : ℤ) → names_slot (block_test size block slot x y) ≡ true
block_names size None slot x y = refl
block_names size (Some block) slot x y = small_names _ slot

glyph_names : (glyphs : Slots (Loaded GlyphOf)) (font : ℕ) (run : List (ℕ × ℕ)) → names_slot (empty_glyph glyphs font run) ≡ true
glyph_names glyphs font [] = refl
glyph_names glyphs font (p ∷ ps) =
    first_names (empty_if_none p.0 (lookup (glyph_slot font p.0) glyphs)) (empty_glyph glyphs font ps ∷ []) (empty_names p.0 (lookup (glyph_slot font p.0) glyphs))
    (first_names (empty_glyph glyphs font ps) [] (glyph_names glyphs font ps) refl)

misfit_names : (size : Size) (st : SurfaceState) (shape : Shape) → names_slot (slot_misfit size st shape) ≡ true
misfit_names size st (Fill r color) = refl
misfit_names size st (Dst r code) = refl
misfit_names size st (Pat r code brush) = first_names _ [] (empty_names brush (lookup brush st.brushes)) refl
misfit_names size st (Copy r code sx sy) = refl
misfit_names size st (Blit r code image sx sy) =
    first_names _ _ (empty_names image (lookup image st.images)) (first_names _ [] (source_names (lookup image st.images) image r sx sy) refl)
misfit_names size st (Blit3 r code image sx sy brush) =
    first_names _ _ (empty_names image (lookup image st.images))
    (first_names _ _ (empty_names brush (lookup brush st.brushes)) (first_names _ [] (source_names (lookup image st.images) image r sx sy) refl))
misfit_names size st (Text x y color font run) = first_names _ [] (glyph_names st.glyphs font run) refl
misfit_names size st (Line x0 y0 x1 y1 color) = refl
misfit_names size st (Save slot r) = refl
misfit_names size st (Restore slot x y) =
    first_names _ _ (empty_names slot (lookup slot st.blocks)) (first_names _ [] (block_names size (lookup slot st.blocks) slot x y) refl)
misfit_names size st (LoadImage slot image) = refl
misfit_names size st (LoadBrush slot brush) = refl
misfit_names size st (LoadGlyph font code glyph) = refl

-- so the answer that slots lack something names a slot
pub no_rule_of_slots : (size : Size) (st : SurfaceState) (shape : Shape) (n : ℕ) → Some (Rule n) ≡ slot_misfit size st shape → ⊥
no_rule_of_slots size st shape n is = absurd (cc (misfit_names size st shape, ap names_slot is))
