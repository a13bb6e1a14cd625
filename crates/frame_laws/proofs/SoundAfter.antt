-- A sound state stays sound after a drawing that suits it; so does each state along the drawings of a journal.
use Rattle.std.proofs.Common.{◌≡◌, ℕ, suc, ◌+◌, ◌*◌, List, [], ◌∷◌, ◌++◌, length, refl, ap, sym, ◌∙◌, arith, Some, append_assoc, length-append}
use Rattle.std.specs.Prelude.{Option, option_and_then, slice_get}
use Rattle.px_core.specs.declared.surface.Size.{Size}
use Rattle.px_core.specs.declared.rectangle.Rect.{Rect}
use Rattle.px_core.specs.Picture.{rows_of}
use Rattle.px_core.specs.Rectangle.{in_clip, pixel_of}
use Rattle.draw_ops.specs.declared.shape.Drawing.{Drawing}
use Rattle.draw_ops.specs.declared.shape.Shape.{Shape}
use Rattle.draw_ops.specs.declared.shape.Shape.TheVariants.{Fill, Dst, Pat, Copy, Blit, Blit3, Text, Line, Save, Restore, LoadImage, LoadBrush, LoadGlyph}
use Rattle.draw_ops.specs.Content.{ImageOf}
use Rattle.draw_ops.specs.Slots.{SurfaceState, Loaded, lookup, glyph_slot}
use Rattle.draw_ops.specs.Formulas.{painted_area}
use Rattle.draw_ops.specs.Drawing.{painting_of, slots_after, state_after_drawing, state_after_drawings, loaded, block_of}
use Rattle.draw_ops.specs.Fits.{rules_of}
use Rattle.draw_ops.proofs.Painted.{length-painted_from}
use Rattle.session_rules.specs.declared.entry.Entry.{Entry}
use Rattle.session_rules.specs.Board.{opening_board}
use Rattle.session_rules.proofs.OwnSteps.{AllNone}
use Rattle.frame_rules.specs.Describes.{drawings_from, shape_numbered, image_in, brush_in, glyph_in}
use Rattle.session_rules.proofs.Slots.{length-filled}
use Rattle.frame_laws.specs.SoundState.{IsLoadedImage, IsLoadedBrush, IsLoadedGlyph, IsSoundBlock, IsSound}
use Rattle.frame_laws.specs.Drawings.{HasValues, Suits, AllSuit, AllSound}
use Rattle.frame_laws.proofs.Colored.{colors_drawn, colors_cut, length-listed}
use Rattle.frame_laws.proofs.SoundSlots.{filled_holds}
use Rattle.frame_laws.proofs.Rules.{rules_kept, plain_rect, sound_image, sound_glyph}

-- ---- the slots after a drawing

-- the slots of a state: as many as there are, and whatever they hold is sound
record SlotsAre (size : Size) (j : List Entry) (st : SurfaceState) : Type 0 where
  image_count : length st.images ≡ 256
  brush_count : length st.brushes ≡ 64
  glyph_count : length st.glyphs ≡ 1024
  block_count : length st.blocks ≡ 16
  images : (slot : ℕ) (image : Loaded ImageOf) → lookup slot st.images ≡ Some image → IsLoadedImage size j image
  brushes : (slot : ℕ) (brush : Loaded (List ℕ)) → lookup slot st.brushes ≡ Some brush → IsLoadedBrush size j brush
  glyphs : (slot : ℕ) (glyph : Loaded _) → lookup slot st.glyphs ≡ Some glyph → IsLoadedGlyph size j glyph
  blocks : (slot : ℕ) (block : ImageOf) → lookup slot st.blocks ≡ Some block → IsSoundBlock block

module _ (size : Size) (j : List Entry) where
  slots_are : (st : SurfaceState) → IsSound size j st → SlotsAre size j st
  slots_are st h = record {
    image_count = h.sized.images;
    brush_count = h.sized.brushes;
    glyph_count = h.sized.glyphs;
    block_count = h.sized.blocks;
    images = h.images;
    brushes = h.brushes;
    glyphs = h.glyphs;
    blocks = h.blocks;
  }

  saved_block : (st : SurfaceState) (clip : Option Rect) (slot : ℕ) (r : Rect) → IsSound size j st → AllNone (rules_of size clip (Save slot r))
      → IsSoundBlock (block_of size st r)
  saved_block st clip slot r h rules =
      let p = plain_rect r rules.0 in
      record {
        some_columns = p.some_columns;
        few_columns = p.few_columns;
        some_rows = p.some_rows;
        few_rows = p.few_rows;
        whole = length-listed (r.w * r.h) 0 (pixel_of (rows_of size.w size.h st.picture) 0 r);
        colors = colors_cut size st.picture r h.colors;
      }

  slots_drawn : (st : SurfaceState) (clip : Option Rect) (s : Shape) → IsSound size j st → AllNone (rules_of size clip s) → HasValues s
      → shape_numbered size j (st.count + 1) ≡ Some s → SlotsAre size j (slots_after size st s)
  slots_drawn st clip (Fill r color) h rules v is = slots_are st h
  slots_drawn st clip (Dst r code) h rules v is = slots_are st h
  slots_drawn st clip (Pat r code brush) h rules v is = slots_are st h
  slots_drawn st clip (Copy r code sx sy) h rules v is = slots_are st h
  slots_drawn st clip (Blit r code image sx sy) h rules v is = slots_are st h
  slots_drawn st clip (Blit3 r code image sx sy brush) h rules v is = slots_are st h
  slots_drawn st clip (Text x y color font run) h rules v is = slots_are st h
  slots_drawn st clip (Line x0 y0 x1 y1 color) h rules v is = slots_are st h
  slots_drawn st clip (Restore slot x y) h rules v is = slots_are st h
  slots_drawn st clip (Save slot r) h rules v is = record {
    block_count = length-filled st.blocks slot (block_of size st r) ∙ h.sized.blocks;
    blocks = filled_holds IsSoundBlock st.blocks slot (block_of size st r) h.blocks (saved_block st clip slot r h rules);
    image_count = h.sized.images;
    brush_count = h.sized.brushes;
    glyph_count = h.sized.glyphs;
    images = h.images;
    brushes = h.brushes;
    glyphs = h.glyphs;
  }
  slots_drawn st clip (LoadImage slot image) h rules v is = record {
    image_count = length-filled st.images slot (loaded st image) ∙ h.sized.images;
    images = filled_holds (IsLoadedImage size j) st.images slot (loaded st image) h.images
        (record { sound = sound_image image rules.1.1.0 v; loaded = ap (option_and_then image_in) is });
    brush_count = h.sized.brushes;
    glyph_count = h.sized.glyphs;
    block_count = h.sized.blocks;
    brushes = h.brushes;
    glyphs = h.glyphs;
    blocks = h.blocks;
  }
  slots_drawn st clip (LoadBrush slot brush) h rules v is = record {
    brush_count = length-filled st.brushes slot (loaded st brush) ∙ h.sized.brushes;
    brushes = filled_holds (IsLoadedBrush size j) st.brushes slot (loaded st brush) h.brushes
        (record { whole = v.0; colors = v.1; loaded = ap (option_and_then brush_in) is });
    image_count = h.sized.images;
    glyph_count = h.sized.glyphs;
    block_count = h.sized.blocks;
    images = h.images;
    glyphs = h.glyphs;
    blocks = h.blocks;
  }
  slots_drawn st clip (LoadGlyph font code glyph) h rules v is = record {
    glyph_count = length-filled st.glyphs (glyph_slot font code) (loaded st glyph) ∙ h.sized.glyphs;
    glyphs = filled_holds (IsLoadedGlyph size j) st.glyphs (glyph_slot font code) (loaded st glyph) h.glyphs
        (record { sound = sound_glyph glyph rules.1.1.1.0; loaded = ap (option_and_then glyph_in) is });
    image_count = h.sized.images;
    brush_count = h.sized.brushes;
    block_count = h.sized.blocks;
    images = h.images;
    brushes = h.brushes;
    blocks = h.blocks;
  }

  -- the drawing of the next number, among those of the journal
  shape_at : (n : ℕ) (d : Drawing) → slice_get (drawings_from size opening_board j) n ≡ Some d → shape_numbered size j (n + 1) ≡ Some d.shape
  shape_at n d e = let next : n + 1 ≡ suc n = omega arith in ap (shape_numbered size j) next ∙ ap (option_and_then (λ (x : Drawing). Some x.shape)) e

  pub sound_after : (st : SurfaceState) (d : Drawing) → IsSound size j st → Suits size st d → slice_get (drawings_from size opening_board j) st.count ≡ Some d
      → IsSound size j (state_after_drawing size st d)
  sound_after st d h suits is =
      let p = painting_of size st d.shape in
      let k = slots_drawn st d.clip d.shape h (rules_kept size st d suits.fits) suits.values (shape_at st.count d is) in
      record {
        sized = record {
          pixels = length-painted_from size.w 0 (painted_area (in_clip d.clip) p) p.formula st.picture ∙ h.sized.pixels;
          images = k.image_count;
          brushes = k.brush_count;
          glyphs = k.glyph_count;
          blocks = k.block_count;
        };
        colors = colors_drawn size st d suits.values h.blocks h.colors;
        images = k.images;
        brushes = k.brushes;
        glyphs = k.glyphs;
        blocks = k.blocks;
      }

  -- ---- along drawings

  -- drawings that are those of the journal from the next number on
  pub record ComeNext (st : SurfaceState) (ds : List Drawing) : Type 0 where
    pub front : List Drawing
    pub more : List Drawing
    pub whole : drawings_from size opening_board j ≡ front ++ (ds ++ more)
    pub at : length front ≡ st.count

  get_middle : (xs : List Drawing) (y : Drawing) (ys : List Drawing) → slice_get (xs ++ y ∷ ys) (length xs) ≡ Some y
  get_middle [] y ys = refl
  get_middle (x ∷ xs) y ys = get_middle xs y ys

  next_is : (st : SurfaceState) (d : Drawing) (ds : List Drawing) (s : ComeNext st (d ∷ ds)) → slice_get (drawings_from size opening_board j) st.count ≡ Some d
  next_is st d ds s = ap (λ n. slice_get (drawings_from size opening_board j) n) (sym s.at)
      ∙ (ap (λ all. slice_get all (length s.front)) s.whole ∙ get_middle s.front d (ds ++ s.more))

  come_next_on : (st : SurfaceState) (d : Drawing) (ds : List Drawing) → ComeNext st (d ∷ ds) → ComeNext (state_after_drawing size st d) ds
  come_next_on st d ds s = record {
    front = s.front ++ d ∷ [];
    more = s.more;
    whole = s.whole ∙ sym (append_assoc s.front (d ∷ []) (ds ++ s.more));
    at = let n = s.at in omega (arith, n, length-append s.front (d ∷ []));
  }

  pub all_sound : (ds : List Drawing) (st : SurfaceState) → IsSound size j st → AllSuit size st ds → ComeNext st ds → AllSound size j st ds
  all_sound [] st h suit s = h
  all_sound (d ∷ ds) st h suit s = (
    h,
    suit.0,
    all_sound ds (state_after_drawing size st d) (sound_after st d h suit.0 (next_is st d ds s)) suit.1
        (come_next_on st d ds s),
  )

  pub last_sound : (ds : List Drawing) (st : SurfaceState) → AllSound size j st ds → IsSound size j (state_after_drawings size st ds)
  last_sound [] st h = h
  last_sound (d ∷ ds) st h = last_sound ds (state_after_drawing size st d) h.2
