-- When a surface agrees with a board, so that each drawing of the board's next reaction fits it.
use Rattle.std.specs.Prelude.{◌≡◌, ℕ, nat_lt, Bool, true, false, ◌&&◌, List, [], ◌∷◌, length, Option, Some, None, IsTrue, is_some}
use Rattle.px_core.specs.declared.surface.Size.{Size}
use Rattle.px_core.specs.Picture.{pixel_count}
use Rattle.px_core.specs.Rectangle.{is_inside}
use Rattle.draw_ops.specs.Content.{ImageOf}
use Rattle.draw_ops.specs.Slots.{SurfaceState, Loaded, lookup, glyph_slot}
use Rattle.session_rules.specs.Board.{Board, Point, popup_rect, board_image, board_brush, board_font, board_block}

abbrev pub is_on_surface : Size → Point → Bool
is_on_surface size p = nat_lt p.x size.w && nat_lt p.y size.h

-- a point that may be missing lies on the surface
abbrev pub IsPointOn : Size → Option Point → Type 0
IsPointOn size None = Unit {0}
IsPointOn size (Some p) = IsTrue (is_on_surface size p)

-- a slot holds pixels of these sides
abbrev pub HoldsSides : Option ImageOf → ℕ → ℕ → Type 0
HoldsSides None w h = ⊥
HoldsSides (Some image) w h = (image.w ≡ w) × (image.h ≡ h)

-- an open popup lies inside the surface, and slot 15 holds what it covers
abbrev pub IsPopupKept : Size → SurfaceState → Option Point → Type 0
IsPopupKept size st None = Unit {0}
IsPopupKept size st (Some at) = IsTrue (is_inside size (popup_rect at)) × HoldsSides (lookup board_block st.blocks) 64 16

-- image 255 is 16 by 16
abbrev pub HoldsLoadedSides : Option (Loaded ImageOf) → ℕ → ℕ → Type 0
HoldsLoadedSides None w h = ⊥
HoldsLoadedSides (Some image) w h = HoldsSides (Some image.content) w h

abbrev pub IsBrushKept : SurfaceState → Bool → Type 0
IsBrushKept st false = Unit {0}
IsBrushKept st true = IsTrue (is_some (lookup board_brush st.brushes))

abbrev pub IsImageKept : SurfaceState → Bool → Type 0
IsImageKept st false = Unit {0}
IsImageKept st true = HoldsLoadedSides (lookup board_image st.images) 16 16

abbrev pub AreGlyphsKept : SurfaceState → List ℕ → Type 0
AreGlyphsKept st [] = Unit {0}
AreGlyphsKept st (code ∷ codes) = IsTrue (is_some (lookup (glyph_slot board_font code) st.glyphs)) × AreGlyphsKept st codes

-- a surface of a size: it has the pixels of that size, and all its slots, which are lists
pub record IsSurfaceOf (size : Size) (st : SurfaceState) : Type 0 where
  pub pixels : length st.picture ≡ pixel_count size
  pub images : length st.images ≡ 256
  pub brushes : length st.brushes ≡ 64
  pub glyphs : length st.glyphs ≡ 1024
  pub blocks : length st.blocks ≡ 16

-- a surface agrees with a board: it has the size; the pen and the last point lie on it; an open popup is kept; and what the board counts as loaded is in its
-- slot
pub record BoardAgrees (size : Size) (st : SurfaceState) (b : Board) : Type 0 where
  pub sized : IsSurfaceOf size st
  pub pen : IsPointOn size b.pen
  pub last : IsPointOn size (Some b.last)
  pub popup : IsPopupKept size st b.popup
  pub brush : IsBrushKept st b.brush_loaded
  pub image : IsImageKept st b.image_loaded
  pub glyphs : AreGlyphsKept st b.glyphs_loaded
