-- What a drawing names, as it is read off its shape once.
use Rattle.std.specs.Prelude.{ℕ, ◌==◌, Bool, false, Option, Some, None}
use Rattle.draw_ops.specs.declared.shape.Shape.{Shape}
use Rattle.draw_ops.specs.declared.shape.Shape.TheVariants.{Fill, Dst, Pat, Copy, Blit, Blit3, Text, Line, Save, Restore, LoadImage, LoadBrush, LoadGlyph}
use Rattle.draw_ops.specs.Slots.{Slots, lookup}
use Rattle.session_rules.specs.Journal.{names_board_slot, shape_pixels}
use Rattle.session_core.specs.declared.about.About.{About}
use Rattle.session_core.specs.Showing.{named_rect}

-- the slots of the image that a shape draws, and of the brush that it draws with
abbrev pub image_slot : Shape → Option ℕ
image_slot (Fill r color) = None
image_slot (Dst r code) = None
image_slot (Pat r code brush) = None
image_slot (Copy r code sx sy) = None
image_slot (Blit r code image sx sy) = Some image
image_slot (Blit3 r code image sx sy brush) = Some image
image_slot (Text x y color font run) = None
image_slot (Line x0 y0 x1 y1 color) = None
image_slot (Save slot r) = None
image_slot (Restore slot x y) = None
image_slot (LoadImage slot image) = None
image_slot (LoadBrush slot brush) = None
image_slot (LoadGlyph font code glyph) = None

abbrev pub brush_slot : Shape → Option ℕ
brush_slot (Fill r color) = None
brush_slot (Dst r code) = None
brush_slot (Pat r code brush) = Some brush
brush_slot (Copy r code sx sy) = None
brush_slot (Blit r code image sx sy) = None
brush_slot (Blit3 r code image sx sy brush) = Some brush
brush_slot (Text x y color font run) = None
brush_slot (Line x0 y0 x1 y1 color) = None
brush_slot (Save slot r) = None
brush_slot (Restore slot x y) = None
brush_slot (LoadImage slot image) = None
brush_slot (LoadBrush slot brush) = None
brush_slot (LoadGlyph font code glyph) = None

-- what the slot holds that is named, if any is
abbrev pub held_in : {A : Type 0} → Option ℕ → Slots A → Option A
held_in None slots = None
held_in (Some slot) slots = lookup slot slots

-- the slot of saved blocks that a shape saves into
abbrev pub saved_slot : Shape → Option ℕ
saved_slot (Fill r color) = None
saved_slot (Dst r code) = None
saved_slot (Pat r code brush) = None
saved_slot (Copy r code sx sy) = None
saved_slot (Blit r code image sx sy) = None
saved_slot (Blit3 r code image sx sy brush) = None
saved_slot (Text x y color font run) = None
saved_slot (Line x0 y0 x1 y1 color) = None
saved_slot (Save slot r) = Some slot
saved_slot (Restore slot x y) = None
saved_slot (LoadImage slot image) = None
saved_slot (LoadBrush slot brush) = None
saved_slot (LoadGlyph font code glyph) = None

-- whether a slot is the one that is saved into
abbrev pub is_into : Option ℕ → ℕ → Bool
is_into None n = false
is_into (Some slot) n = slot == n

-- what a shape names
abbrev pub about_of : Shape → About
about_of s = record {
  rect = named_rect s;
  image = image_slot s;
  brush = brush_slot s;
  saves = saved_slot s;
  pixels = shape_pixels s;
  is_boards = names_board_slot s;
}
