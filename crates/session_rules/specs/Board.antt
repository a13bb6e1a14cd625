-- The board (profile): a small whiteboard that turns input events into drawings, by a table of which the first line that fits is done.
use Rattle.std.specs.Prelude.{ℕ, ◌+◌, ◌-◌, ◌*◌, ◌/◌, ◌%◌, ◌^◌, ◌==◌, nat_lt, nat_le, Bool, true, false, ◌&&◌, ◌||◌, pos, ◌-ℤ◌, min, max, List, []}
use Rattle.std.specs.Prelude.{◌∷◌, ◌++◌, Option, Some, None, option_map, option_to_list, if◌then◌else◌}
use Rattle.std.specs.Int.{bit_at}
use Rattle.px_core.specs.declared.surface.Size.{Size}
use Rattle.px_core.specs.declared.rectangle.Rect.{Rect}
use Rattle.px_core.specs.Picture.{item, listed}
use Rattle.px_core.specs.Rectangle.{boxed, in_rect, whole}
use Rattle.draw_ops.specs.declared.shape.Drawing.{Drawing}
use Rattle.draw_ops.specs.declared.shape.Shape.{Shape}
use Rattle.draw_ops.specs.declared.shape.Shape.TheVariants.{Fill, Dst, Pat, Copy, Blit, Text, Line, Save, Restore, LoadImage, LoadBrush, LoadGlyph}
use Rattle.input_pdu.specs.declared.event.Event.{Event}
use Rattle.input_pdu.specs.declared.event.Event.TheVariants.{Sync, Scan, Unicode, Mouse, MouseX}

-- ---- the board's state

pub record Point : Type 0 where
  pub x : ℕ
  pub y : ℕ

-- ink 0 to 3, the pen, the last point of the mouse, the popup's upper left pixel, the number of signs written, and what was loaded
pub record Board : Type 0 where
  pub ink : ℕ
  pub pen : Option Point
  pub last : Point
  pub popup : Option Point
  pub signs : ℕ
  pub brush_loaded : Bool
  pub image_loaded : Bool
  pub glyphs_loaded : List ℕ

abbrev pub opening_board : Board
opening_board = record { ink = 0; pen = None; last = record { x = 0; y = 0 }; popup = None; signs = 0; brush_loaded = false; image_loaded = false; glyphs_loaded = [] }

-- what the board makes of an event: its new state, and at most 8 drawings
pub record Reaction : Type 0 where
  pub board : Board
  pub drawings : List Drawing

abbrev pub idle : Board → Reaction
idle b = record { board = b; drawings = [] }

-- a line of the table that holds only where a test says so
abbrev pub only_if : {A : Type 0} → Bool → Option A → Option A
only_if test line = if test then line else None

-- the first line that fits; where none does, nothing is drawn
abbrev pub first_fitting : List (Option Reaction) → Board → Reaction
first_fitting [] b = idle b
first_fitting (None ∷ lines) b = first_fitting lines b
first_fitting (Some reaction ∷ lines) b = reaction

-- ---- what the board draws

abbrev pub unclipped : Shape → Drawing
unclipped shape = record { shape = shape; clip = None }

-- the slots that are the board's own
abbrev pub board_image : ℕ
board_image = 255

abbrev pub board_brush : ℕ
board_brush = 63

abbrev pub board_font : ℕ
board_font = 3

abbrev pub board_block : ℕ
board_block = 15

-- white, red, green, blue
abbrev pub ink_color : ℕ → ℕ
ink_color ink = item (0xFFFFFF ∷ 0xFF0000 ∷ 0x00FF00 ∷ 0x0000FF ∷ []) ink 0

-- brush 63: white where x + y is even, else black
abbrev pub checkered : List ℕ
checkered = listed 64 0 (λ i. if (i % 8 + i / 8) % 2 == 0 then 0xFFFFFF else 0)

-- image 255, 16 by 16: red 16x, green 16y, blue 255
abbrev pub shaded : List ℕ
shaded = listed 256 0 (λ i. 65536 * (16 * (i % 16)) + (256 * (16 * (i / 16)) + 255))

-- the sign of a code, 8 by 8: row k is the code, rotated left by k bits
abbrev pub sign_of : ℕ → List ℕ
sign_of code = listed 8 0 (λ k. (code * 2 ^ k) % 256 + (code * 2 ^ k) / 256)

-- a load, unless it was done before
abbrev pub load_unless : Bool → Shape → List Drawing
load_unless done shape = if done then [] else unclipped shape ∷ []

-- ---- the mouse: the bits of pointerFlags, [MS-RDPBCGR] 2.2.8.1.1.3.1.1.3

abbrev pub has_bit : ℕ → ℕ → Bool
has_bit flags k = bit_at flags k == 1

-- PTRFLAGS_DOWN 0x8000, PTRFLAGS_BUTTON1 0x1000, PTRFLAGS_BUTTON2 0x2000, PTRFLAGS_MOVE 0x0800
abbrev pub is_down : ℕ → Bool
is_down flags = has_bit flags 15

abbrev pub is_button_1 : ℕ → Bool
is_button_1 flags = has_bit flags 12

abbrev pub is_button_2 : ℕ → Bool
is_button_2 flags = has_bit flags 13

abbrev pub is_move : ℕ → Bool
is_move flags = has_bit flags 11

-- a point brought into the surface
abbrev pub point_on : Size → ℕ → ℕ → Point
point_on size x y = record { x = min x (size.w - 1); y = min y (size.h - 1) }

-- the popup's 64 by 16 pixels
abbrev pub popup_rect : Point → Rect
popup_rect at = boxed (pos at.x) (pos at.y) 64 16

-- the drawing that takes the popup off the picture
abbrev pub popup_removal : Point → Drawing
popup_removal at = unclipped (Restore board_block (pos at.x) (pos at.y))

-- the ink of a point in an open popup, sixteen columns to an ink
abbrev pub chosen_ink : Point → Point → ℕ → ℕ
chosen_ink at p ink = if in_rect (popup_rect at) (pos p.x) (pos p.y) then (p.x - at.x) / 16 else ink

-- the popup closes
abbrev pub closing : Board → Point → Point → Reaction
closing b p at = record { board = record b { popup = None; ink = chosen_ink at p b.ink }; drawings = popup_removal at ∷ [] }

-- a dot of 5 by 5, and the pen is set
abbrev pub dotting : Board → Point → Reaction
dotting b p = record { board = record b { pen = Some p }; drawings = unclipped (Fill (boxed (pos p.x -ℤ pos 2) (pos p.y -ℤ pos 2) 5 5) (ink_color b.ink)) ∷ [] }

-- the pen is lifted
abbrev pub lifting : Board → Reaction
lifting b = idle (record b { pen = None })

abbrev pub ink_field : Point → ℕ → Drawing
ink_field at ink = unclipped (Fill (boxed (pos (at.x + 16 * ink)) (pos at.y) 16 16) (ink_color ink))

-- the popup opens: what it covers is saved, and the four inks are shown
abbrev pub opening : Board → Point → Reaction
opening b at = record {
  board = record b { popup = Some at; pen = None };
  drawings = option_to_list (option_map popup_removal b.popup)
      ++ unclipped (Save board_block (popup_rect at)) ∷ ink_field at 0 ∷ ink_field at 1 ∷ ink_field at 2 ∷ ink_field at 3 ∷ [];
}

-- the popup's place for a point, so that it lies on the surface
abbrev pub popup_place : Size → Point → Point
popup_place size p = record { x = min p.x (size.w - 64); y = min p.y (size.h - 16) }

-- a stroke from one point to another: a slanted line, or a straight stretch with both ends; from a point to itself nothing
abbrev pub stroke : ℕ → Point → Point → List Drawing
stroke color a b = if a.x == b.x
    then (if a.y == b.y then [] else unclipped (Fill (boxed (pos a.x) (pos (min a.y b.y)) 1 (max a.y b.y - min a.y b.y + 1)) color) ∷ [])
    else (if a.y == b.y then unclipped (Fill (boxed (pos (min a.x b.x)) (pos a.y) (max a.x b.x - min a.x b.x + 1) 1) color) ∷ []
    else unclipped (Line (pos a.x) (pos a.y) (pos b.x) (pos b.y) color) ∷ [])

-- a stroke from the pen, which follows
abbrev pub stroking : Board → Point → Point → Reaction
stroking b p pen = record { board = record b { pen = Some p }; drawings = stroke (ink_color b.ink) pen p }

-- the table's lines for the mouse at a point on the surface
abbrev pub mouse_lines : Size → Board → ℕ → Point → List (Option Reaction)
mouse_lines size b flags p =
    only_if (is_down flags && is_button_1 flags) (option_map (closing b p) b.popup)
    ∷ only_if (is_down flags && is_button_1 flags) (Some (dotting b p))
    ∷ only_if (is_button_1 flags) (Some (lifting b))
    ∷ only_if ((is_down flags && is_button_2 flags) && (nat_le 64 size.w && nat_le 16 size.h)) (Some (opening b (popup_place size p)))
    ∷ only_if (is_move flags) (option_map (stroking b p) b.pen)
    ∷ []

-- the mouse: its point becomes the last point, also where nothing is drawn
abbrev pub mouse_reaction : Size → Board → ℕ → Point → Reaction
mouse_reaction size b flags p = let c = record b { last = p } in first_fitting (mouse_lines size c flags p) c

-- ---- keys

abbrev pub reaction_of : Board → List Drawing → Reaction
reaction_of b drawings = record { board = b; drawings = drawings }

-- F1: all is black
abbrev pub clearing : Size → Board → Reaction
clearing size b = reaction_of b (unclipped (Fill (whole size) 0) ∷ [])

-- F2: all is inverted
abbrev pub inverting : Size → Board → Reaction
inverting size b = reaction_of b (unclipped (Dst (whole size) 0x55) ∷ [])

-- F3: all goes up by 16 rows
abbrev pub scrolling : Size → Board → Reaction
scrolling size b = reaction_of b (unclipped (Copy (boxed (pos 0) (pos 0) size.w (size.h - 16)) 0xCC (pos 0) (pos 16))
    ∷ unclipped (Fill (boxed (pos 0) (pos (size.h - 16)) size.w 16) 0) ∷ [])

-- F4: all is inverted in a checkered pattern
abbrev pub patterning : Size → Board → Reaction
patterning size b = reaction_of (record b { brush_loaded = true })
    (load_unless b.brush_loaded (LoadBrush board_brush checkered) ++ unclipped (Pat (whole size) 0x5A board_brush) ∷ [])

-- F5: the shaded image is mixed in at the last point
abbrev pub stamping : Board → Reaction
stamping b = reaction_of (record b { image_loaded = true })
    (load_unless b.image_loaded (LoadImage board_image (record { w = 16; h = 16; pixels = shaded }))
    ++ unclipped (Blit (boxed (pos b.last.x) (pos b.last.y) 16 16) 0x66 board_image (pos 0) (pos 0)) ∷ [])

-- the table's lines for a key that is pressed
abbrev pub key_lines : Size → Board → ℕ → List (Option Reaction)
key_lines size b code =
    only_if (code == 0x3B) (Some (clearing size b))
    ∷ only_if (code == 0x3C) (Some (inverting size b))
    ∷ only_if ((code == 0x3D) && nat_lt 16 size.h) (Some (scrolling size b))
    ∷ only_if (code == 0x3E) (Some (patterning size b))
    ∷ only_if (code == 0x3F) (Some (stamping b))
    ∷ []

-- ---- signs

abbrev pub is_member : ℕ → List ℕ → Bool
is_member n [] = false
is_member n (m ∷ ms) = (n == m) || is_member n ms

abbrev pub with_member : ℕ → List ℕ → List ℕ
with_member n ms = if is_member n ms then ms else n ∷ ms

-- the place of the n-th sign: cells of 8 by 8, row by row, over and over
abbrev pub sign_place : Size → ℕ → Point
sign_place size n = record { x = 8 * (n % (size.w / 8)); y = 8 * (n / (size.w / 8) % (size.h / 8)) }

-- a sign at a place, in ink
abbrev pub sign_text : Board → ℕ → Point → Drawing
sign_text b code at = unclipped (Text (pos at.x) (pos at.y) (ink_color b.ink) board_font ((code, 0) ∷ []))

abbrev pub writing_sign : Size → Board → ℕ → Reaction
writing_sign size b code = reaction_of (record b { signs = b.signs + 1; glyphs_loaded = with_member code b.glyphs_loaded })
    (load_unless (is_member code b.glyphs_loaded) (LoadGlyph board_font code (record { x = pos 0; y = pos 0; cx = 8; cy = 8; bits = sign_of code }))
    ++ sign_text b code (sign_place size b.signs) ∷ [])

-- the table's line for a sign that is written
abbrev pub sign_lines : Size → Board → ℕ → List (Option Reaction)
sign_lines size b code = only_if ((nat_le 0x21 code && nat_le code 0x7E) && (nat_le 8 size.w && nat_le 8 size.h)) (Some (writing_sign size b code)) ∷ []

-- ---- the table

abbrev pub board_reaction : Size → Board → Event → Reaction
board_reaction size b Sync = idle b
board_reaction size b (Scan code true) = idle b
board_reaction size b (Scan code false) = first_fitting (key_lines size b code) b
board_reaction size b (Unicode code true) = idle b
board_reaction size b (Unicode code false) = first_fitting (sign_lines size b code) b
board_reaction size b (Mouse flags x y) = mouse_reaction size b flags (point_on size x y)
board_reaction size b MouseX = idle b
