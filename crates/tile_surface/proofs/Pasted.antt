-- Textures that are pasted piece by piece.
use Rattle.std.proofs.Common.{◌≡◌, ℕ, ◌+◌, ◌*◌, ◌-◌, ◌<◌, ◌≤◌, List, Bool, true, false, get_or, refl, sym, ap, ◌∙◌, arith}
use Rattle.std.proofs.lemmas.Bool.Decides.{nat_tests}
use Rattle.std.specs.Prelude.{if◌then◌else◌}
use Rattle.px_core.specs.declared.surface.Size.{Size}
use Rattle.px_core.specs.Picture.{pixel_at}
use Rattle.px_core.proofs.Pictures.{item-get_or}
use Rattle.surface_parts.specs.declared.part.Part.{Part}
use Rattle.surface_parts.specs.declared.texture.Texture.{Texture}
use Rattle.surface_parts.specs.Parts.{in_part, part_at, IsRepainted, Pixels}
use Rattle.surface_parts.specs.Textures.{texture_color, CoversPart}
use Rattle.surface_parts.proofs.Repaint.{under_true}
use Rattle.tile_surface.specs.declared.walk.Piece.{Piece}
use Rattle.tile_surface.specs.Dyes.{IsPieceOf}
use Rattle.tile_surface.specs.Rows.{cut_color, sides_of}

-- the first rows of a texture, or of bits
pub rows_fit : (w a h : ℕ) → a ≤ h → w * a ≤ w * h
rows_fit w a h le = grind (arith, le)

-- a piece of a part, and the texture from there on
module _ (part : Part) (t : Texture) (piece : Piece) (is : IsPieceOf part piece) where
  pub covers_there : CoversPart part t → CoversPart piece.spot (record { pixels = t.pixels; w = t.w; x = t.x + (piece.x - part.x); y = t.y + (piece.y - part.y) })
  covers_there covers =
      let more : (t.y + (piece.y - part.y)) + piece.spot.h ≤ t.y + part.h = omega (arith, is.top, is.bottom) in
      let fit = rows_fit t.w ((t.y + (piece.y - part.y)) + piece.spot.h) (t.y + part.h) more in
      record {
        columns = omega (arith, covers.columns, is.left, is.right);
        rows = omega (arith, fit, covers.rows);
        narrow = covers.narrow;
        low = omega (arith, covers.low, more);
      }

  pub color_there : (u v : ℕ) → texture_color piece.spot (record { pixels = t.pixels; w = t.w; x = t.x + (piece.x - part.x); y = t.y + (piece.y - part.y) }) u v
      ≡ texture_color part t (piece.x + (u - piece.spot.x)) (piece.y + (v - piece.spot.y))
  color_there u v =
      let row : (t.y + (piece.y - part.y)) + (v - piece.spot.y) ≡ t.y + ((piece.y + (v - piece.spot.y)) - part.y) = omega (arith, is.top) in
      let column : (t.x + (piece.x - part.x)) + (u - piece.spot.x) ≡ t.x + ((piece.x + (u - piece.spot.x)) - part.x) = omega (arith, is.left) in
      ap (λ r. get_or t.pixels.now (t.w * r + ((t.x + (piece.x - part.x)) + (u - piece.spot.x))) 0) row
      ∙ ap (λ k. get_or t.pixels.now (t.w * (t.y + ((piece.y + (v - piece.spot.y)) - part.y)) + k) 0) column

-- the same area in colours that are alike there
pub painted_alike : (size : Size) (area : Pixels) (f g : ℕ → ℕ → ℕ) (old new : List ℕ) → IsRepainted size area f old new → ((x y : ℕ) → x < size.w → y < size.h → area x y ≡ true → f x y ≡ g x y) → IsRepainted size area g old new
painted_alike size area f g old new done same = record {
  sized = done.sized;
  pixel = λ x y left above. done.pixel x y left above ∙ chosen (area x y) (f x y) (g x y) (pixel_at size old 0 x y) (same x y left above);
}
  where
    chosen : (b : Bool) (k m o : ℕ) → (b ≡ true → k ≡ m) → (if b then k else o) ≡ (if b then m else o)
    chosen true k m o e = e refl
    chosen false k m o e = refl

-- the pixels of another part of the same sides, read row by row into a list
module _ (size : Size) (old read was : List ℕ) (part : Part) (tx ty : ℕ) (cut : IsRepainted (sides_of (part_at tx ty part.w part.h)) (in_part (part_at 0 0 part.w part.h)) (cut_color size old (part_at tx ty part.w part.h)) was read) where
  pub color_read : (x y : ℕ) → in_part part x y ≡ true → get_or read (part.w * (0 + (y - part.y)) + (0 + (x - part.x))) 0 ≡ pixel_at size old 0 (tx + (x - part.x)) (ty + (y - part.y))
  color_read x y h =
      let l : part.x ≤ x = grind (arith, nat_tests, h) in
      let r : x < part.x + part.w = grind (arith, nat_tests, h) in
      let a : part.y ≤ y = grind (arith, nat_tests, h) in
      let b : y < part.y + part.h = grind (arith, nat_tests, h) in
      let eu : 0 + (x - part.x) ≡ x - part.x = omega arith in
      let ev : 0 + (y - part.y) ≡ y - part.y = omega arith in
      let column : x - part.x < part.w = omega (arith, l, r) in
      let row : y - part.y < part.h = omega (arith, a, b) in
      ap (λ k. get_or read (part.w * k + (0 + (x - part.x))) 0) ev
      ∙ ap (λ k. get_or read (part.w * (y - part.y) + k) 0) eu
      ∙ sym (item-get_or read (part.w * (y - part.y) + (x - part.x)) 0)
      ∙ cut.pixel (x - part.x) (y - part.y) column row
      ∙ sym (under_true (in_part (part_at 0 0 part.w part.h) (x - part.x) (y - part.y)) _ _ (grind (arith, nat_tests, column, row)))
