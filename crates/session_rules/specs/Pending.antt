-- Pending drawings: those of the journal since the viewer's last take, each with what its slots held at its place.
use Rattle.std.specs.Prelude.{ℕ, List, [], ◌∷◌, ◌++◌, take, drop, Option, Some, None}
use Rattle.px_core.specs.declared.surface.Size.{Size}
use Rattle.px_core.specs.declared.rectangle.Rect.{Rect}
use Rattle.draw_ops.specs.declared.shape.Drawing.{Drawing}
use Rattle.draw_ops.specs.declared.shape.Shape.{Shape}
use Rattle.draw_ops.specs.declared.shape.Shape.TheVariants.{Fill, Dst, Pat, Copy, Blit, Blit3, Text, Line, Save, Restore, LoadImage, LoadBrush, LoadGlyph}
use Rattle.draw_ops.specs.Content.{ImageOf, GlyphOf}
use Rattle.draw_ops.specs.Slots.{SurfaceState, Loaded, Slots, lookup, glyph_slot}
use Rattle.draw_ops.specs.Drawing.{painting_of, state_after_drawing}
use Rattle.session_rules.specs.declared.entry.Entry.{Entry}
use Rattle.session_rules.specs.Journal.{State, drawings_of, state_after_entry, state_after}

-- a drawing, the rectangle that it touches, and the image, the brush and the glyphs of its slots
pub record Pending : Type 0 where
  pub drawing : Drawing
  pub rect : Rect
  pub image : Option (Loaded ImageOf)
  pub brush : Option (Loaded (List ℕ))
  pub glyphs : List (Loaded GlyphOf)

-- a save touches its rectangle though it changes no pixel, and a load touches nothing
abbrev pub touched_rect : Size → SurfaceState → Shape → Rect
touched_rect size st (Save slot r) = r
touched_rect size st (Fill r color) = (painting_of size st (Fill r color)).rect
touched_rect size st (Dst r code) = (painting_of size st (Dst r code)).rect
touched_rect size st (Pat r code brush) = (painting_of size st (Pat r code brush)).rect
touched_rect size st (Copy r code sx sy) = (painting_of size st (Copy r code sx sy)).rect
touched_rect size st (Blit r code image sx sy) = (painting_of size st (Blit r code image sx sy)).rect
touched_rect size st (Blit3 r code image sx sy brush) = (painting_of size st (Blit3 r code image sx sy brush)).rect
touched_rect size st (Text x y color font run) = (painting_of size st (Text x y color font run)).rect
touched_rect size st (Line x0 y0 x1 y1 color) = (painting_of size st (Line x0 y0 x1 y1 color)).rect
touched_rect size st (Restore slot x y) = (painting_of size st (Restore slot x y)).rect
touched_rect size st (LoadImage slot image) = (painting_of size st (LoadImage slot image)).rect
touched_rect size st (LoadBrush slot brush) = (painting_of size st (LoadBrush slot brush)).rect
touched_rect size st (LoadGlyph font code glyph) = (painting_of size st (LoadGlyph font code glyph)).rect

-- the image that a shape draws
abbrev pub image_of : SurfaceState → Shape → Option (Loaded ImageOf)
image_of st (Blit r code image sx sy) = lookup image st.images
image_of st (Blit3 r code image sx sy brush) = lookup image st.images
image_of st (Fill r color) = None
image_of st (Dst r code) = None
image_of st (Pat r code brush) = None
image_of st (Copy r code sx sy) = None
image_of st (Text x y color font run) = None
image_of st (Line x0 y0 x1 y1 color) = None
image_of st (Save slot r) = None
image_of st (Restore slot x y) = None
image_of st (LoadImage slot image) = None
image_of st (LoadBrush slot brush) = None
image_of st (LoadGlyph font code glyph) = None

-- the brush that a shape draws with
abbrev pub brush_of : SurfaceState → Shape → Option (Loaded (List ℕ))
brush_of st (Pat r code brush) = lookup brush st.brushes
brush_of st (Blit3 r code image sx sy brush) = lookup brush st.brushes
brush_of st (Fill r color) = None
brush_of st (Dst r code) = None
brush_of st (Copy r code sx sy) = None
brush_of st (Blit r code image sx sy) = None
brush_of st (Text x y color font run) = None
brush_of st (Line x0 y0 x1 y1 color) = None
brush_of st (Save slot r) = None
brush_of st (Restore slot x y) = None
brush_of st (LoadImage slot image) = None
brush_of st (LoadBrush slot brush) = None
brush_of st (LoadGlyph font code glyph) = None

abbrev pub onto_optional : {A : Type 0} → Option A → List A → List A
onto_optional None xs = xs
onto_optional (Some x) xs = x ∷ xs

-- the glyphs of a run, by their codes
abbrev pub run_glyphs : Slots (Loaded GlyphOf) → ℕ → List (ℕ × ℕ) → List (Loaded GlyphOf)
run_glyphs glyphs font [] = []
run_glyphs glyphs font (p ∷ ps) = onto_optional (lookup (glyph_slot font p.0) glyphs) (run_glyphs glyphs font ps)

-- the glyphs that a shape draws
abbrev pub glyphs_of : SurfaceState → Shape → List (Loaded GlyphOf)
glyphs_of st (Text x y color font run) = run_glyphs st.glyphs font run
glyphs_of st (Fill r color) = []
glyphs_of st (Dst r code) = []
glyphs_of st (Pat r code brush) = []
glyphs_of st (Copy r code sx sy) = []
glyphs_of st (Blit r code image sx sy) = []
glyphs_of st (Blit3 r code image sx sy brush) = []
glyphs_of st (Line x0 y0 x1 y1 color) = []
glyphs_of st (Save slot r) = []
glyphs_of st (Restore slot x y) = []
glyphs_of st (LoadImage slot image) = []
glyphs_of st (LoadBrush slot brush) = []
glyphs_of st (LoadGlyph font code glyph) = []

abbrev pub pending_of : Size → SurfaceState → Drawing → Pending
pending_of size st d = record {
  drawing = d;
  rect = touched_rect size st d.shape;
  image = image_of st d.shape;
  brush = brush_of st d.shape;
  glyphs = glyphs_of st d.shape;
}

-- drawings one after the other, from a state on
abbrev pub pending_drawings : Size → SurfaceState → List Drawing → List Pending
pending_drawings size st [] = []
pending_drawings size st (d ∷ ds) = pending_of size st d ∷ pending_drawings size (state_after_drawing size st d) ds

-- the drawings of entries one after the other, reactions and loads included
abbrev pub pending_from : Size → State → List Entry → List Pending
pending_from size st [] = []
pending_from size st (e ∷ es) = pending_drawings size st.surface (drawings_of size st.board e) ++ pending_from size (state_after_entry size st e) es

-- the drawings of a journal's entries from one number to another
abbrev pub pending_between : Size → List Entry → ℕ → ℕ → List Pending
pending_between size j before number = pending_from size (state_after size j before) (drop before (take number j))
