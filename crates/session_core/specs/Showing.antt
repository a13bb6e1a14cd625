-- What is kept of pending drawings beside the drawings themselves.
use Rattle.std.specs.Prelude.{ℕ, ◌+◌, min, ℤ, pos, ◌-ℤ◌, nat_abs, List, [], ◌∷◌, Option, Some, None}
use Rattle.std.specs.Arc.{arc_value}
use Rattle.std.specs.Box.{box_value}
use Rattle.std.specs.Int.{int_min}
use Rattle.px_core.specs.declared.rectangle.Rect.{Rect}
use Rattle.draw_ops.specs.declared.shape.Drawing.{Drawing}
use Rattle.draw_ops.specs.declared.shape.Shape.{Shape}
use Rattle.draw_ops.specs.declared.shape.Shape.TheVariants as shape
use Rattle.draw_ops.specs.Content.{ImageOf, GlyphOf}
use Rattle.draw_ops.specs.Slots.{Loaded}
use Rattle.session_rules.specs.Pending.{Pending}
use Rattle.board_app.specs.declared.before.BoardBefore.{BoardBefore}
use Rattle.session_core.specs.declared.shown.Shown.{Shown}
use Rattle.session_core.specs.declared.shown.Shown.TheVariants.{Named, Bare, Image, Brush, Both, Signs}
use Rattle.session_core.specs.declared.found.Found.{Found}
use Rattle.session_core.specs.declared.found.Found.TheVariants.{Single, Several}
use Rattle.session_core.specs.declared.row.ShownRow.{ShownRow}
use Rattle.session_core.specs.declared.row.ShownRow.TheVariants.{Kept, Alone}
use Rattle.session_core.specs.declared.shown.ShownList.{ShownList}
use Rattle.session_core.specs.declared.shown.ShownList.TheVariants.{Nothing, One, Plain, Reaction}

abbrev pub no_rect : Rect
no_rect = record { x = pos 0; y = pos 0; w = 0; h = 0 }

-- how long a stretch with both its ends is, as far as a number of 32 bits goes
abbrev pub side : ℤ → ℤ → ℕ
side a b = min (nat_abs (b -ℤ a)) 4294967294 + 1

-- the box of a line's ends
abbrev pub line_box : ℤ → ℤ → ℤ → ℤ → Rect
line_box x0 y0 x1 y1 = record { x = int_min x0 x1; y = int_min y0 y1; w = side x0 x1; h = side y0 y1 }

-- the rectangle that a shape names, a line by its ends
abbrev pub named_rect : Shape → Rect
named_rect (shape.Fill r color) = r
named_rect (shape.Dst r code) = r
named_rect (shape.Pat r code brush) = r
named_rect (shape.Copy r code sx sy) = r
named_rect (shape.Blit r code image sx sy) = r
named_rect (shape.Blit3 r code image sx sy brush) = r
named_rect (shape.Text x y color font run) = no_rect
named_rect (shape.Line x0 y0 x1 y1 color) = line_box x0 y0 x1 y1
named_rect (shape.Save slot r) = r
named_rect (shape.Restore slot x y) = no_rect
named_rect (shape.LoadImage slot image) = no_rect
named_rect (shape.LoadBrush slot brush) = no_rect
named_rect (shape.LoadGlyph font code glyph) = no_rect

-- the rectangle that a shape touches of which this is kept
abbrev pub rect_shown : Shape → Shown → Rect
rect_shown s Named = named_rect s
rect_shown s (Bare rect) = rect
rect_shown s (Image image) = named_rect s
rect_shown s (Brush brush) = named_rect s
rect_shown s (Both both) = named_rect s
rect_shown s (Signs signs) = (arc_value signs).rect

-- the image, the brush and the glyphs that its slots held
abbrev pub image_shown : Shown → Option (Loaded ImageOf)
image_shown Named = None
image_shown (Bare rect) = None
image_shown (Image image) = Some image
image_shown (Brush brush) = None
image_shown (Both both) = Some (arc_value both).image
image_shown (Signs signs) = None

abbrev pub brush_shown : Shown → Option (Loaded (List ℕ))
brush_shown Named = None
brush_shown (Bare rect) = None
brush_shown (Image image) = None
brush_shown (Brush brush) = Some brush
brush_shown (Both both) = Some (arc_value both).brush
brush_shown (Signs signs) = None

abbrev pub glyphs_shown : Shown → List (Loaded GlyphOf)
glyphs_shown Named = []
glyphs_shown (Bare rect) = []
glyphs_shown (Image image) = []
glyphs_shown (Brush brush) = []
glyphs_shown (Both both) = []
glyphs_shown (Signs signs) = (arc_value signs).glyphs.items

-- a drawing with what is kept of it
abbrev pub shown_with : Drawing → Shown → Pending
shown_with d s = record { drawing = d; rect = rect_shown d.shape s; image = image_shown s; brush = brush_shown s; glyphs = glyphs_shown s }

-- what of the board is kept of a reaction, and what each of its drawings shows
abbrev pub board_found : Found → BoardBefore
board_found (Single board shown) = board
board_found (Several board shown) = board

abbrev pub shown_found : Found → List Shown
shown_found (Single board shown) = shown ∷ []
shown_found (Several board shown) = shown.items

-- what each of an entry's drawings shows
abbrev pub shown_list : ShownList → List Shown
shown_list Nothing = []
shown_list (One shown) = shown ∷ []
shown_list (Plain board) = Named ∷ []
shown_list (Reaction found) = shown_found (box_value found)

-- what is kept of drawings, or known of one
abbrev pub row_of : ShownRow → List Shown
row_of (Kept shown) = shown.now
row_of (Alone shown) = shown ∷ []

-- drawings, each with what is kept of it
abbrev pub all_shown : List Drawing → List Shown → List Pending
all_shown [] shown = []
all_shown (d ∷ ds) [] = []
all_shown (d ∷ ds) (s ∷ ss) = shown_with d s ∷ all_shown ds ss
