-- The form of each shape's new pixels, and a state, a drawing and a picture as they are shown at a depth.
use Rattle.std.specs.Prelude.{ℕ, ℤ, pos, List, map, Option, Some, None, option_map}
use Rattle.px_core.specs.declared.surface.Size.{Size}
use Rattle.px_core.specs.Picture.{rows_of, painted}
use Rattle.px_core.specs.Rectangle.{boxed, in_clip}
use Rattle.rop3_core.specs.Palette.{session_colors}
use Rattle.draw_ops.specs.declared.shape.Drawing.{Drawing}
use Rattle.draw_ops.specs.declared.shape.Shape.{Shape}
use Rattle.draw_ops.specs.declared.shape.Shape.TheVariants.{Fill, Dst, Pat, Copy, Blit, Blit3, Text, Line, Save, Restore, LoadImage, LoadBrush, LoadGlyph}
use Rattle.draw_ops.specs.Content.{ImageOf}
use Rattle.draw_ops.specs.Slots.{SurfaceState, Loaded, lookup}
use Rattle.draw_ops.specs.Formulas.{absent, shifted, imaged, image_rows, painted_area}
use Rattle.draw_ops.specs.Drawing.{pattern_in, source_in, painting_of}
use Rattle.px_core.specs.declared.depth.Depth.{Depth}
use Rattle.px_core.specs.Depth.{shown, shown_colors}
use Rattle.draw_ops.specs.Depths.{shown_image, cut_colors_at}
use Rattle.draw_ops.specs.Forms.{Form, formula_of}
use Rattle.draw_ops.specs.Forms.Form.{Named, Copied, Mixed, Kept}

abbrev pub restored_form : Option ImageOf → ℤ → ℤ → Form ℕ
restored_form None x y = Kept
restored_form (Some block) x y = Copied (imaged session_colors (image_rows block) (boxed x y block.w block.h) (pos 0) (pos 0))

-- the form of a shape's new pixels: the same for each colour that the state has
abbrev pub form_of : Size → SurfaceState → Shape → Form ℕ
form_of size st (Fill r color) = Named color
form_of size st (Dst r code) = Mixed code (absent session_colors) (absent session_colors)
form_of size st (Pat r code brush) = Mixed code (pattern_in st brush) (absent session_colors)
form_of size st (Copy r code sx sy) = Mixed code (absent session_colors) (shifted (rows_of size.w size.h st.picture) 0 r sx sy)
form_of size st (Blit r code image sx sy) = Mixed code (absent session_colors) (source_in st image r sx sy)
form_of size st (Blit3 r code image sx sy brush) = Mixed code (pattern_in st brush) (source_in st image r sx sy)
form_of size st (Text x y color font run) = Named color
form_of size st (Line x0 y0 x1 y1 color) = Named color
form_of size st (Save slot r) = Kept
form_of size st (Restore slot x y) = restored_form (lookup slot st.blocks) x y
form_of size st (LoadImage slot image) = Kept
form_of size st (LoadBrush slot brush) = Kept
form_of size st (LoadGlyph font code glyph) = Kept

-- ---- as they are shown

abbrev pub shown_content : {A : Type 0} → (A → A) → Loaded A → Loaded A
shown_content f l = record { number = l.number; content = f l.content }

abbrev pub shown_state : Depth → SurfaceState → SurfaceState
shown_state d st = record {
  picture = shown_colors d st.picture;
  images = map (option_map (shown_content (shown_image d))) st.images;
  brushes = map (option_map (shown_content (shown_colors d))) st.brushes;
  glyphs = st.glyphs;
  blocks = map (option_map (shown_image d)) st.blocks;
  count = st.count;
}

abbrev pub shown_shape : Depth → Shape → Shape
shown_shape d (Fill r color) = Fill r (shown d color)
shown_shape d (Dst r code) = Dst r code
shown_shape d (Pat r code brush) = Pat r code brush
shown_shape d (Copy r code sx sy) = Copy r code sx sy
shown_shape d (Blit r code image sx sy) = Blit r code image sx sy
shown_shape d (Blit3 r code image sx sy brush) = Blit3 r code image sx sy brush
shown_shape d (Text x y color font run) = Text x y (shown d color) font run
shown_shape d (Line x0 y0 x1 y1 color) = Line x0 y0 x1 y1 (shown d color)
shown_shape d (Save slot r) = Save slot r
shown_shape d (Restore slot x y) = Restore slot x y
shown_shape d (LoadImage slot image) = LoadImage slot (shown_image d image)
shown_shape d (LoadBrush slot brush) = LoadBrush slot (shown_colors d brush)
shown_shape d (LoadGlyph font code glyph) = LoadGlyph font code glyph

abbrev pub shown_drawing : Depth → Drawing → Drawing
shown_drawing d dr = record { shape = shown_shape d dr.shape; clip = dr.clip }

-- the picture after a drawing over colours of this depth
abbrev pub drawn_picture_at : Depth → Size → SurfaceState → Drawing → List ℕ
drawn_picture_at d size st dr = painted size (painted_area (in_clip dr.clip) (painting_of size st dr.shape))
    (formula_of (cut_colors_at d) (form_of size st dr.shape)) st.picture
