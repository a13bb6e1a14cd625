-- What holds of every surface still holds after a drawing.
use Rattle.std.proofs.Common.{◌≡◌, ℕ, zero, suc, ◌+◌, ◌*◌, ◌≤◌, List, [], ◌∷◌, length, replicate, Bool, true, false, refl, ap, ◌∙◌, subst, arith, inl, inr}
use Rattle.std.specs.Prelude.{◌⊎◌, ◌&&◌, nat_le, not, ℤ, Option, Some, None, IfSome, IsTrue}
use Rattle.std.proofs.lemmas.Int.{ints}
use Rattle.std.proofs.lemmas.List.{length-set, length-replicate}
use Rattle.std.proofs.lemmas.Bool.{and_parts}
use Rattle.std.proofs.lemmas.Bool.Decides.{nat_tests}
use Rattle.px_core.specs.declared.surface.Size.{Size}
use Rattle.px_core.specs.declared.rectangle.Rect.{Rect}
use Rattle.px_core.specs.Colors.{are_colors}
use Rattle.px_core.specs.Picture.{pixel_count}
use Rattle.px_core.specs.Rectangle.{boxed, is_inside, is_session_size, cut_out, in_clip, pixel_of}
use Rattle.px_core.specs.Picture.{rows_of}
use Rattle.px_core.proofs.Pictures.{length-listed}
use Rattle.draw_ops.specs.declared.shape.Drawing.{Drawing}
use Rattle.draw_ops.specs.declared.shape.Shape.{Shape}
use Rattle.draw_ops.specs.declared.shape.Shape.TheVariants.{Fill, Dst, Pat, Copy, Blit, Blit3, Text, Line, Save, Restore, LoadImage, LoadBrush, LoadGlyph}
use Rattle.draw_ops.specs.Content.{ImageOf, GlyphOf}
use Rattle.draw_ops.specs.Slots.{SurfaceState, Loaded, Slots, lookup, filled_slot, empty_slots, glyph_slot, opening_surface}
use Rattle.draw_ops.specs.Drawing.{content_of, loaded, block_of, slots_after, painting_of, state_after_drawing}
use Rattle.draw_ops.specs.Formulas.{Painting, picture_after}
use Rattle.draw_ops.specs.Fits.{first_some, rect_rule, clip_rule, no_clip_rule, code_rule, copied_rule, image_slot_rule, brush_slot_rule, run_rule, starts_at_0, deltas_are_small, rules_of, broken_rule, slot_misfit, slot_tests, source_test, block_test, too_small_if, image_rule, glyph_rule}
use Rattle.draw_ops.specs.Ranges.{HasColors}
use Rattle.draw_ops.proofs.Rows.{drawn_length}
use Rattle.draw_ops.proofs.KeptColors.{drawing_keeps, opening_has}
use Rattle.surface_parts.specs.Surfaces.{AllInSlots, IsSoundSurface}
use Rattle.surface_parts.specs.Held.{Held, held_in, state_of, IsDrawn, IsPaintable, IsSaveInside, IsSmallSave}
use Rattle.surface_parts.specs.Textures.{HasSource, IsRestorable}
use Rattle.surface_parts.proofs.Rules.{kept_if, passed, rect_keeps, place_keeps}

-- ---- slots

lookup-filled : {A : Type 0} (slots : Slots A) (slot k : ℕ) (x y : A) → lookup k (filled_slot slot x slots) ≡ Some y → (x ≡ y) ⊎ (lookup k slots ≡ Some y)
lookup-filled [] slot k x y h = inr h
lookup-filled (s ∷ ss) zero zero x y h = inl (cc)
lookup-filled (s ∷ ss) zero (suc k) x y h = inr h
lookup-filled (s ∷ ss) (suc n) zero x y h = inr h
lookup-filled (s ∷ ss) (suc n) (suc k) x y h = lookup-filled ss n k x y h

in_filled : {A : Type 0} (F : A → Type 0) (slots : Slots A) (slot : ℕ) (x : A) → AllInSlots F slots → F x → AllInSlots F (filled_slot slot x slots)
in_filled F slots slot x all here k y h = elim (lookup-filled slots slot k x y h) [ inl e ↦ subst F e here | inr e ↦ all k y e ]

in_empty : {A : Type 0} (F : A → Type 0) (n : ℕ) → AllInSlots F (empty_slots n)
in_empty F zero k x h = absurd (cc h)
in_empty F (suc n) zero x h = absurd (cc h)
in_empty F (suc n) (suc k) x h = in_empty F n k x h

-- ---- what the slots hold after a shape

lengths_after : (size : Size) (st : SurfaceState) (shape : Shape)
    → (length (slots_after size st shape).images ≡ length st.images) × (length (slots_after size st shape).brushes ≡ length st.brushes)
    × (length (slots_after size st shape).glyphs ≡ length st.glyphs) × (length (slots_after size st shape).blocks ≡ length st.blocks)
lengths_after size st (Fill r color) = (refl, refl, refl, refl)
lengths_after size st (Dst r code) = (refl, refl, refl, refl)
lengths_after size st (Pat r code brush) = (refl, refl, refl, refl)
lengths_after size st (Copy r code sx sy) = (refl, refl, refl, refl)
lengths_after size st (Blit r code image sx sy) = (refl, refl, refl, refl)
lengths_after size st (Blit3 r code image sx sy brush) = (refl, refl, refl, refl)
lengths_after size st (Text x y color font run) = (refl, refl, refl, refl)
lengths_after size st (Line x0 y0 x1 y1 color) = (refl, refl, refl, refl)
lengths_after size st (Save slot r) = (refl, refl, refl, length-set st.blocks slot (Some (block_of size st r)))
lengths_after size st (Restore slot x y) = (refl, refl, refl, refl)
lengths_after size st (LoadImage slot image) = (length-set st.images slot (Some (loaded st image)), refl, refl, refl)
lengths_after size st (LoadBrush slot brush) = (refl, length-set st.brushes slot (Some (loaded st brush)), refl, refl)
lengths_after size st (LoadGlyph font code glyph) = (refl, refl, length-set st.glyphs (glyph_slot font code) (Some (loaded st glyph)), refl)

pub record ContentIsSound (st : SurfaceState) : Type 0 where
  pub images : AllInSlots (λ image. image_rule image.content ≡ None) st.images
  pub glyphs : AllInSlots (λ glyph. glyph_rule glyph.content ≡ None) st.glyphs
  pub blocks : AllInSlots (λ block. length block.pixels ≡ block.w * block.h) st.blocks

content_after : (size : Size) (st : SurfaceState) (clip : Option Rect) (shape : Shape) → first_some (rules_of size clip shape) ≡ None → ContentIsSound st → ContentIsSound (slots_after size st shape)
content_after size st clip (Fill r color) h is = record { images = is.images; glyphs = is.glyphs; blocks = is.blocks }
content_after size st clip (Dst r code) h is = record { images = is.images; glyphs = is.glyphs; blocks = is.blocks }
content_after size st clip (Pat r code brush) h is = record { images = is.images; glyphs = is.glyphs; blocks = is.blocks }
content_after size st clip (Copy r code sx sy) h is = record { images = is.images; glyphs = is.glyphs; blocks = is.blocks }
content_after size st clip (Blit r code image sx sy) h is = record { images = is.images; glyphs = is.glyphs; blocks = is.blocks }
content_after size st clip (Blit3 r code image sx sy brush) h is = record { images = is.images; glyphs = is.glyphs; blocks = is.blocks }
content_after size st clip (Text x y color font run) h is = record { images = is.images; glyphs = is.glyphs; blocks = is.blocks }
content_after size st clip (Line x0 y0 x1 y1 color) h is = record { images = is.images; glyphs = is.glyphs; blocks = is.blocks }
content_after size st clip (Save slot r) h is = record {
  images = is.images;
  glyphs = is.glyphs;
  blocks = in_filled (λ block. length block.pixels ≡ block.w * block.h) st.blocks slot (block_of size st r) is.blocks (length-listed (r.w * r.h) 0 (pixel_of (rows_of size.w size.h st.picture) 0 r));
}
content_after size st clip (Restore slot x y) h is = record { images = is.images; glyphs = is.glyphs; blocks = is.blocks }
content_after size st clip (LoadImage slot image) h is = record {
  images = in_filled (λ i. image_rule i.content ≡ None) st.images slot (loaded st image) is.images (passed (rules_of size clip (LoadImage slot image)) h).1.1.0;
  glyphs = is.glyphs;
  blocks = is.blocks;
}
content_after size st clip (LoadBrush slot brush) h is = record { images = is.images; glyphs = is.glyphs; blocks = is.blocks }
content_after size st clip (LoadGlyph font code glyph) h is = record {
  images = is.images;
  glyphs = in_filled (λ g. glyph_rule g.content ≡ None) st.glyphs (glyph_slot font code) (loaded st glyph) is.glyphs (passed (rules_of size clip (LoadGlyph font code glyph)) h).1.1.1.0;
  blocks = is.blocks;
}

content_of_sound : (size : Size) (st : SurfaceState) → IsSoundSurface size st → ContentIsSound st
content_of_sound size st is = record { images = is.images; glyphs = is.glyphs; blocks = is.blocks }

pub glyphs_after : (size : Size) (st : SurfaceState) (d : Drawing) → broken_rule size d ≡ None → IsSoundSurface size st → AllInSlots (λ glyph. glyph_rule glyph.content ≡ None) (slots_after size st d.shape).glyphs
glyphs_after size st d h is = (content_after size st d.clip d.shape h (content_of_sound size st is)).glyphs

-- every surface after a drawing
pub sound_after : (size : Size) (st : SurfaceState) (d : Drawing) → broken_rule size d ≡ None → HasColors d → IsSoundSurface size st → IsSoundSurface size (state_after_drawing size st d)
sound_after size st d h colors is =
    let l = lengths_after size st d.shape in
    let k = content_after size st d.clip d.shape h (content_of_sound size st is) in
    record {
      session = is.session;
      picture = drawn_length size st d ∙ is.picture;
      image_slots = l.0 ∙ is.image_slots;
      brush_slots = l.1 ∙ is.brush_slots;
      glyph_slots = l.2 ∙ is.glyph_slots;
      block_slots = l.3 ∙ is.block_slots;
      colors = drawing_keeps size st d is.colors colors;
      images = k.images;
      glyphs = k.glyphs;
      blocks = k.blocks;
    }

pub opening_is_sound : (size : Size) → IsTrue (is_session_size size.w size.h) → IsSoundSurface size (opening_surface size)
opening_is_sound size session = record {
  session = session;
  picture = length-replicate (pixel_count size) 0;
  image_slots = length-replicate 256 (none_of (Loaded ImageOf));
  brush_slots = length-replicate 64 (none_of (Loaded (List ℕ)));
  glyph_slots = length-replicate 1024 (none_of (Loaded GlyphOf));
  block_slots = length-replicate 16 (none_of ImageOf);
  colors = opening_has size;
  images = in_empty (λ i. image_rule i.content ≡ None) 256;
  glyphs = in_empty (λ g. glyph_rule g.content ≡ None) 1024;
  blocks = in_empty (λ b. length b.pixels ≡ b.w * b.h) 16;
}
  where
    none_of : (A : Type 0) → Option A
    none_of A = None

-- ---- what a shape needs

source_ok : (o : Option (Loaded ImageOf)) (slot : ℕ) (r : Rect) (sx sy : ℤ) → ((l : Loaded ImageOf) → o ≡ Some l → image_rule l.content ≡ None) → source_test o slot r sx sy ≡ None
    → IfSome (content_of o) (HasSource r sx sy)
source_ok None slot r sx sy sound h = tt
source_ok (Some l) slot r sx sy sound h = record { rule = sound l refl; inside = small (is_inside (record { w = l.content.w; h = l.content.h }) (boxed sx sy r.w r.h)) slot h }
  where
    small : (t : Bool) (slot : ℕ) → too_small_if (not t) slot ≡ None → t ≡ true
    small true slot h = refl
    small false slot h = absurd (cc h)

block_ok : (size : Size) (o : Option ImageOf) (slot : ℕ) (x y : ℤ) → ((b : ImageOf) → o ≡ Some b → length b.pixels ≡ b.w * b.h) → block_test size o slot x y ≡ None → IfSome o (IsRestorable size x y)
block_ok size None slot x y sound h = tt
block_ok size (Some b) slot x y sound h = record { whole = sound b refl; inside = small (is_inside size (boxed x y b.w b.h)) slot h }
  where
    small : (t : Bool) (slot : ℕ) → too_small_if (not t) slot ≡ None → t ≡ true
    small true slot h = refl
    small false slot h = absurd (cc h)

drawn : (size : Size) (clip : Option Rect) (r : Rect) (rest : List (Option ℕ)) → first_some (rect_rule r ∷ clip_rule size clip ∷ rest) ≡ None → IsDrawn size clip r
drawn size clip r rest h = record { placed = (rect_keeps r (passed (rect_rule r ∷ clip_rule size clip ∷ rest) h).0).placed; clipped = (passed (rect_rule r ∷ clip_rule size clip ∷ rest) h).1.0 }

unclipped : (size : Size) (clip : Option Rect) → no_clip_rule clip ≡ None → clip_rule size clip ≡ None
unclipped size None h = refl
unclipped size (Some r) h = absurd (cc h)

paintable : (size : Size) (st : SurfaceState) (clip : Option Rect) (shape : Shape) → first_some (rules_of size clip shape) ≡ None → slot_misfit size st shape ≡ None → ContentIsSound st
    → IsPaintable size (held_in (slots_after size st shape)) clip shape
paintable size st clip (Fill r color) h m is = drawn size clip r [] h
paintable size st clip (Dst r code) h m is = drawn size clip r (code_rule false false code ∷ []) h
paintable size st clip (Pat r code brush) h m is = drawn size clip r (code_rule true false code ∷ brush_slot_rule brush ∷ []) h
paintable size st clip (Copy r code sx sy) h m is = (drawn size clip r (code_rule false true code ∷ copied_rule size r sx sy ∷ []) h, kept_if (is_inside size (boxed sx sy r.w r.h)) 4 (passed (rules_of size clip (Copy r code sx sy)) h).1.1.1.0)
paintable size st clip (Blit r code image sx sy) h m is = (
  drawn size clip r (code_rule false true code ∷ image_slot_rule image ∷ []) h,
  source_ok (lookup image st.images) image r sx sy (λ l e. is.images image l e) (passed (slot_tests size st (Blit r code image sx sy)) m).1.0,
)
paintable size st clip (Blit3 r code image sx sy brush) h m is = (
  drawn size clip r (code_rule true true code ∷ image_slot_rule image ∷ brush_slot_rule brush ∷ []) h,
  source_ok (lookup image st.images) image r sx sy (λ l e. is.images image l e) (passed (slot_tests size st (Blit3 r code image sx sy brush)) m).1.1.0,
)
paintable size st clip (Text x y color font run) h m is =
    let all = passed (rules_of size clip (Text x y color font run)) h in
    let p = place_keeps x y all.0 in
    (all.1.0, record { left = omega (arith, ints, p.0.low); right = p.0.high; above = omega (arith, ints, p.1.low); below = p.1.high }, short_run run all.1.1.1.1.0)
  where
    short_run : (run : List (ℕ × ℕ)) → run_rule run ≡ None → length run ≤ 64
    short_run run k = let e = (and_parts (nat_le (length run) 64) (starts_at_0 run && deltas_are_small run) (kept_if (nat_le (length run) 64 && (starts_at_0 run && deltas_are_small run)) 8 k)).0 in at_most (length run) e
      where
        at_most : (n : ℕ) → nat_le n 64 ≡ true → n ≤ 64
        at_most n e = grind (arith, nat_tests, e)
paintable size st clip (Line x0 y0 x1 y1 color) h m is = let all = passed (rules_of size clip (Line x0 y0 x1 y1 color)) h in (all.0, all.1.0)
paintable size st clip (Save slot r) h m is = tt
paintable size st clip (Restore slot x y) h m is = (
  unclipped size clip (passed (rules_of size clip (Restore slot x y)) h).1.0,
  block_ok size (lookup slot st.blocks) slot x y (λ b e. is.blocks slot b e) (passed (slot_tests size st (Restore slot x y)) m).1.0,
)
paintable size st clip (LoadImage slot image) h m is = tt
paintable size st clip (LoadBrush slot brush) h m is = tt
paintable size st clip (LoadGlyph font code glyph) h m is = tt

pub is_paintable : (size : Size) (st : SurfaceState) (d : Drawing) → broken_rule size d ≡ None → slot_misfit size st d.shape ≡ None → IsSoundSurface size st
    → IsPaintable size (held_in (slots_after size st d.shape)) d.clip d.shape
is_paintable size st d h m is = paintable size st d.clip d.shape h m (content_of_sound size st is)

-- what a shape paints doesn't change where its slots are filled first
same_painting : (size : Size) (st : SurfaceState) (shape : Shape) → painting_of size (state_of st.picture (held_in (slots_after size st shape)) st.count) shape ≡ painting_of size st shape
same_painting size st (Fill r color) = refl
same_painting size st (Dst r code) = refl
same_painting size st (Pat r code brush) = refl
same_painting size st (Copy r code sx sy) = refl
same_painting size st (Blit r code image sx sy) = refl
same_painting size st (Blit3 r code image sx sy brush) = refl
same_painting size st (Text x y color font run) = refl
same_painting size st (Line x0 y0 x1 y1 color) = refl
same_painting size st (Save slot r) = refl
same_painting size st (Restore slot x y) = refl
same_painting size st (LoadImage slot image) = refl
same_painting size st (LoadBrush slot brush) = refl
same_painting size st (LoadGlyph font code glyph) = refl

pub drawn_after : (size : Size) (st : SurfaceState) (d : Drawing) (pixels : List ℕ)
    → pixels ≡ picture_after size (in_clip d.clip) (painting_of size (state_of st.picture (held_in (slots_after size st d.shape)) st.count) d.shape) st.picture
    → state_of pixels (held_in (slots_after size st d.shape)) (st.count + 1) ≡ state_after_drawing size st d
drawn_after size st d pixels e = ap (λ (ps : List ℕ). state_of ps (held_in (slots_after size st d.shape)) (st.count + 1))
    (e ∙ ap (λ (p : Painting ℕ). picture_after size (in_clip d.clip) p st.picture) (same_painting size st d.shape))

-- a save's rectangle isn't larger than a session's picture, and lies inside it
small_save : (size : Size) (clip : Option Rect) (shape : Shape) → first_some (rules_of size clip shape) ≡ None → IsSmallSave shape
small_save size clip (Fill r color) h = tt
small_save size clip (Dst r code) h = tt
small_save size clip (Pat r code brush) h = tt
small_save size clip (Copy r code sx sy) h = tt
small_save size clip (Blit r code image sx sy) h = tt
small_save size clip (Blit3 r code image sx sy brush) h = tt
small_save size clip (Text x y color font run) h = tt
small_save size clip (Line x0 y0 x1 y1 color) h = tt
small_save size clip (Save slot r) h = let k = rect_keeps r (passed (rules_of size clip (Save slot r)) h).0 in (k.wide, k.high)
small_save size clip (Restore slot x y) h = tt
small_save size clip (LoadImage slot image) h = tt
small_save size clip (LoadBrush slot brush) h = tt
small_save size clip (LoadGlyph font code glyph) h = tt

pub is_small_save : (size : Size) (d : Drawing) → broken_rule size d ≡ None → IsSmallSave d.shape
is_small_save size d h = small_save size d.clip d.shape h

save_inside : (size : Size) (clip : Option Rect) (shape : Shape) → first_some (rules_of size clip shape) ≡ None → IsSaveInside size shape
save_inside size clip (Fill r color) h = tt
save_inside size clip (Dst r code) h = tt
save_inside size clip (Pat r code brush) h = tt
save_inside size clip (Copy r code sx sy) h = tt
save_inside size clip (Blit r code image sx sy) h = tt
save_inside size clip (Blit3 r code image sx sy brush) h = tt
save_inside size clip (Text x y color font run) h = tt
save_inside size clip (Line x0 y0 x1 y1 color) h = tt
save_inside size clip (Save slot r) h = kept_if (is_inside size r) 9 (passed (rules_of size clip (Save slot r)) h).1.1.1.0
save_inside size clip (Restore slot x y) h = tt
save_inside size clip (LoadImage slot image) h = tt
save_inside size clip (LoadBrush slot brush) h = tt
save_inside size clip (LoadGlyph font code glyph) h = tt

pub is_save_inside : (size : Size) (d : Drawing) → broken_rule size d ≡ None → IsSaveInside size d.shape
is_save_inside size d h = save_inside size d.clip d.shape h

pub opening_is : (size : Size) (ps : List ℕ) (held : Held) → ps ≡ replicate (pixel_count size) 0 → held.images ≡ empty_slots 256 → held.brushes ≡ empty_slots 64 → held.glyphs ≡ empty_slots 1024 → held.blocks ≡ empty_slots 16
    → state_of ps held 0 ≡ opening_surface size
opening_is size ps held e i b g k =
    ap (λ (qs : List ℕ). state_of qs held 0) e
    ∙ ap (λ (x : Slots (Loaded ImageOf)). state_of (replicate (pixel_count size) 0) (record held { images = x }) 0) i
    ∙ ap (λ (x : Slots (Loaded (List ℕ))). state_of (replicate (pixel_count size) 0) (record held { images = empty_slots 256; brushes = x }) 0) b
    ∙ ap (λ (x : Slots (Loaded GlyphOf)). state_of (replicate (pixel_count size) 0) (record held { images = empty_slots 256; brushes = empty_slots 64; glyphs = x }) 0) g
    ∙ ap (λ (x : Slots ImageOf). state_of (replicate (pixel_count size) 0) (record { images = empty_slots 256; brushes = empty_slots 64; glyphs = empty_slots 1024; blocks = x }) 0) k

-- what is cut out of a picture of colours has only colours, as a saved block has
pub cut_has_colors : (size : Size) (ps : List ℕ) (r : Rect) → are_colors ps ≡ true → are_colors (cut_out size ps 0 r) ≡ true
cut_has_colors size ps r h =
    let st : SurfaceState = record { picture = ps; images = []; brushes = []; glyphs = []; blocks = None ∷ []; count = 0 } in
    let d : Drawing = record { shape = Save 0 r; clip = None } in
    (and_parts (are_colors (cut_out size ps 0 r)) true (drawing_keeps size st d (record { picture = h; images = refl; brushes = refl; blocks = refl }) refl).blocks).0
