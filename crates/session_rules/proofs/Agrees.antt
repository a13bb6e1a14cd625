-- The opening surface agrees with the opening board, and drawings that name none of the board's slots keep the agreement.
use Rattle.std.proofs.Common.{◌≡◌, ◌≢◌, ℕ, ◌+◌, ◌*◌, ◌≤◌, List, [], ◌∷◌, refl, sym, ◌∙◌, Some, None, length, arith, eq-eqb}
use Rattle.std.proofs.lemmas.List.{length-replicate}
use Rattle.std.specs.Prelude.{Option, Bool, true, false, ◌&&◌, ◌==◌, nat_lt, option_map}
use Rattle.std.proofs.lemmas.Bool.Decides.{nat_tests}
use Rattle.px_core.specs.declared.surface.Size.{Size}
use Rattle.px_core.specs.declared.rectangle.Rect.{Rect}
use Rattle.px_core.specs.Picture.{pixel_count}
use Rattle.px_core.specs.Rectangle.{is_session_size, in_clip}
use Rattle.draw_ops.specs.Formulas.{painted_area}
use Rattle.draw_ops.specs.declared.shape.Drawing.{Drawing}
use Rattle.draw_ops.specs.declared.shape.Shape.{Shape}
use Rattle.draw_ops.specs.declared.shape.Shape.TheVariants.{Fill, Dst, Pat, Copy, Blit, Blit3, Text, Line, Save, Restore, LoadImage, LoadBrush, LoadGlyph}
use Rattle.draw_ops.specs.Slots.{SurfaceState, lookup, glyph_slot, opening_surface}
use Rattle.draw_ops.specs.Drawing.{slots_after, state_after_drawing, loaded, block_of, painting_of}
use Rattle.draw_ops.specs.Fits.{FitsState, first_some, broken_if, broken_rule, slot_misfit, rules_of, Misfit}
use Rattle.draw_ops.specs.Fits.Misfit.{Rule}
use Rattle.draw_ops.proofs.Painted.{length-painted_from}
use Rattle.session_rules.specs.Board.{Board, Point, opening_board, board_image, board_brush, board_font, board_block}
use Rattle.session_rules.specs.Journal.{names_board_slot}
use Rattle.session_rules.specs.Agreement.{BoardAgrees, IsPopupKept, IsBrushKept, IsImageKept, AreGlyphsKept}
use Rattle.session_rules.proofs.OwnSteps.{first_some-each}
use Rattle.session_rules.proofs.Slots.{lookup-other, length-filled}

-- ---- the opening

session_sides : (w h : ℕ) → is_session_size w h ≡ true → (nat_lt 0 w && nat_lt 0 h) ≡ true
session_sides w h good = grind (arith, nat_tests)

pub BoardAgrees-opening : (size : Size) → is_session_size size.w size.h ≡ true → BoardAgrees size (opening_surface size) opening_board
BoardAgrees-opening size good = record {
  sized = record { pixels = length-replicate (pixel_count size) 0; images = refl; brushes = refl; glyphs = refl; blocks = refl };
  pen = tt;
  last = session_sides size.w size.h good;
  popup = tt;
  brush = tt;
  image = tt;
  glyphs = tt;
}

-- ---- drawings of others

-- the board's slots hold what they held, and no slot list changed its length
pub record Keeps (st after : SurfaceState) : Type 0 where
  pub block : lookup board_block after.blocks ≡ lookup board_block st.blocks
  pub brush : lookup board_brush after.brushes ≡ lookup board_brush st.brushes
  pub image : lookup board_image after.images ≡ lookup board_image st.images
  pub glyph : (code : ℕ) → lookup (glyph_slot board_font code) after.glyphs ≡ lookup (glyph_slot board_font code) st.glyphs
  pub images : length after.images ≡ length st.images
  pub brushes : length after.brushes ≡ length st.brushes
  pub glyphs : length after.glyphs ≡ length st.glyphs
  pub blocks : length after.blocks ≡ length st.blocks

pub same_slots : (st : SurfaceState) → Keeps st st
same_slots st = record { block = refl; brush = refl; image = refl; glyph = λ code. refl; images = refl; brushes = refl; glyphs = refl; blocks = refl }

differ : (m n : ℕ) → (m == n) ≡ false → n ≢ m
differ m n h e = absurd (cc (h, eq-eqb m n (sym e)))

not_above : (most n rule : ℕ) → broken_if (nat_lt most n) rule ≡ None → n ≤ most
not_above most n rule h = by (nat_lt most n) refl h
  where
    by : (t : Bool) → nat_lt most n ≡ t → broken_if t rule ≡ None → n ≤ most
    by true eq k = absurd (cc k)
    by false eq k = grind (arith, nat_tests, eq)

other_glyph : (font code other : ℕ) → font ≤ 3 → code ≤ 255 → (font == 3) ≡ false → 256 * 3 + other ≢ 256 * font + code
other_glyph font code other low small h e = differ font 3 h (omega (arith, low, small, e))

keeps_shape : (size : Size) (st : SurfaceState) (clip : Option Rect) (shape : Shape) → first_some (rules_of size clip shape) ≡ None → names_board_slot shape ≡ false → Keeps st (slots_after size st shape)
keeps_shape size st clip (Fill r color) fits h = same_slots st
keeps_shape size st clip (Dst r code) fits h = same_slots st
keeps_shape size st clip (Pat r code brush) fits h = same_slots st
keeps_shape size st clip (Copy r code sx sy) fits h = same_slots st
keeps_shape size st clip (Blit r code image sx sy) fits h = same_slots st
keeps_shape size st clip (Blit3 r code image sx sy brush) fits h = same_slots st
keeps_shape size st clip (Text x y color font run) fits h = same_slots st
keeps_shape size st clip (Line x0 y0 x1 y1 color) fits h = same_slots st
keeps_shape size st clip (Restore slot x y) fits h = same_slots st
keeps_shape size st clip (Save slot r) fits h =
    record { block = lookup-other st.blocks slot board_block (block_of size st r) (differ slot board_block h); brush = refl; image = refl; glyph = λ code. refl; images = refl; brushes = refl; glyphs = refl; blocks = length-filled st.blocks slot (block_of size st r) }
keeps_shape size st clip (LoadImage slot image) fits h =
    record { block = refl; brush = refl; image = lookup-other st.images slot board_image (loaded st image) (differ slot board_image h); glyph = λ code. refl; images = length-filled st.images slot (loaded st image); brushes = refl; glyphs = refl; blocks = refl }
keeps_shape size st clip (LoadBrush slot brush) fits h =
    record { block = refl; brush = lookup-other st.brushes slot board_brush (loaded st brush) (differ slot board_brush h); image = refl; glyph = λ code. refl; images = refl; brushes = length-filled st.brushes slot (loaded st brush); glyphs = refl; blocks = refl }
keeps_shape size st clip (LoadGlyph font code glyph) fits h =
    let k = first_some-each (rules_of size clip (LoadGlyph font code glyph)) fits in
    record { block = refl; brush = refl; image = refl; glyph = λ other. lookup-other st.glyphs (glyph_slot font code) (glyph_slot board_font other) (loaded st glyph) (other_glyph font code other (not_above 3 font 5 k.1.0) (not_above 255 code 5 k.1.1.0) h); images = refl; brushes = refl; glyphs = length-filled st.glyphs (glyph_slot font code) (loaded st glyph); blocks = refl }

-- the rules of a drawing that fits are kept
rules_kept : (o : Option ℕ) (m : Option Misfit) → first_some (option_map Rule o ∷ m ∷ []) ≡ None → o ≡ None
rules_kept None m h = refl
rules_kept (Some rule) m h = absurd (cc h)

-- what agrees with the board still does, where the board's slots are kept
pub popup_kept : (size : Size) (st after : SurfaceState) (o : Option Point) → lookup board_block after.blocks ≡ lookup board_block st.blocks → IsPopupKept size st o → IsPopupKept size after o
popup_kept size st after None eq h = tt
popup_kept size st after (Some at) eq h = (h.0, rw eq h.1)

pub brush_kept : (st after : SurfaceState) (t : Bool) → lookup board_brush after.brushes ≡ lookup board_brush st.brushes → IsBrushKept st t → IsBrushKept after t
brush_kept st after false eq h = tt
brush_kept st after true eq h = rw eq h

pub image_kept : (st after : SurfaceState) (t : Bool) → lookup board_image after.images ≡ lookup board_image st.images → IsImageKept st t → IsImageKept after t
image_kept st after false eq h = tt
image_kept st after true eq h = rw eq h

pub glyphs_kept : (st after : SurfaceState) (codes : List ℕ) → ((code : ℕ) → lookup (glyph_slot board_font code) after.glyphs ≡ lookup (glyph_slot board_font code) st.glyphs) → AreGlyphsKept st codes → AreGlyphsKept after codes
glyphs_kept st after [] eq h = tt
glyphs_kept st after (code ∷ codes) eq h = (rw (eq code) h.0, glyphs_kept st after codes eq h.1)

pub agrees_kept : (size : Size) (st after : SurfaceState) (b : Board) → Keeps st after → length after.picture ≡ length st.picture → BoardAgrees size st b → BoardAgrees size after b
agrees_kept size st after b k whole h = record {
  sized = record { pixels = whole ∙ h.sized.pixels; images = k.images ∙ h.sized.images; brushes = k.brushes ∙ h.sized.brushes; glyphs = k.glyphs ∙ h.sized.glyphs; blocks = k.blocks ∙ h.sized.blocks };
  pen = h.pen;
  last = h.last;
  popup = popup_kept size st after b.popup k.block h.popup;
  brush = brush_kept st after b.brush_loaded k.brush h.brush;
  image = image_kept st after b.image_loaded k.image h.image;
  glyphs = glyphs_kept st after b.glyphs_loaded k.glyph h.glyphs;
}

-- the picture and the count of drawings are no matter
pub keeps_drawn : (size : Size) (st : SurfaceState) (d : Drawing) → Keeps st (slots_after size st d.shape) → Keeps st (state_after_drawing size st d)
keeps_drawn size st d k = record { block = k.block; brush = k.brush; image = k.image; glyph = k.glyph; images = k.images; brushes = k.brushes; glyphs = k.glyphs; blocks = k.blocks }

pub BoardAgrees-drawn : (size : Size) (st : SurfaceState) (b : Board) (d : Drawing) → FitsState size st d → names_board_slot d.shape ≡ false → BoardAgrees size st b → BoardAgrees size (state_after_drawing size st d) b
BoardAgrees-drawn size st b d fits other h =
    let p = painting_of size st d.shape in
    agrees_kept size st (state_after_drawing size st d) b
    (keeps_drawn size st d (keeps_shape size st d.clip d.shape (rules_kept (broken_rule size d) (slot_misfit size st d.shape) fits) other))
    (length-painted_from size.w 0 (painted_area (in_clip d.clip) p) p.formula st.picture) h
