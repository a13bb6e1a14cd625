-- Worked examples of what a reader of the board, of the journal and of the steps could take for something else.
use Rattle.std.proofs.Common.{◌≡◌, ℕ, List, [], ◌∷◌, ◌++◌, refl, Some, None, map, true, false, replicate}
use Rattle.std.specs.Prelude.{pos, negsuc, codes, Option}
use Rattle.px_core.specs.declared.surface.Size.{Size}
use Rattle.px_core.specs.Picture.{item, listed}
use Rattle.px_core.specs.Rectangle.{boxed, whole}
use Rattle.px_core.specs.Tiles.{tiles_in}
use Rattle.draw_ops.specs.declared.shape.Drawing.{Drawing}
use Rattle.draw_ops.specs.declared.shape.Shape.TheVariants.{Fill, Dst, Pat, Copy, Blit, Text, Line, Save, Restore, LoadImage, LoadBrush}
use Rattle.input_pdu.specs.declared.event.Event.{Event}
use Rattle.input_pdu.specs.declared.event.Event.TheVariants.{Scan, Unicode, Mouse}
use Rattle.session_rules.specs.declared.entry.Role.TheVariants.{Owner, Control, View}
use Rattle.session_rules.specs.declared.entry.Entry.{Entry}
use Rattle.session_rules.specs.declared.entry.Entry.TheVariants.{Join, Leave, Give, Input, Draw}
use Rattle.session_rules.specs.Board.{Board, Point, opening_board, board_reaction, unclipped, checkered, shaded, sign_place}
use Rattle.session_rules.specs.Journal.{Head, Reached, Viewer, Refusal, holder_at, next_holder, reached_at_first, refusal_of, reached_at}
use Rattle.session_rules.specs.Journal.Refusal.{NotHolder, RoomFull, JoinsSpent, JournalFull, BadDrawing, Unfit}
use Rattle.session_rules.specs.Steps.{Step, TakeOf, takes_of}
use Rattle.session_rules.specs.Steps.Step.{JoinStep, RefreshStep, SuppressStep, TakeStep}

abbrev size : Size
size = record { w = 64; h = 48 }

abbrev drawn_by : Board → Event → List Drawing
drawn_by b event = (board_reaction size b event).drawings

abbrev at : ℕ → ℕ → Point
at x y = record { x = x; y = y }

-- ---- keys

-- wrong: F1 clears to white
f1_clears_to_black : drawn_by opening_board (Scan 0x3B false) ≡ unclipped (Fill (boxed (pos 0) (pos 0) 64 48) 0) ∷ []
f1_clears_to_black = refl

-- wrong: F2 makes all white in place of inverting
f2_inverts : drawn_by opening_board (Scan 0x3C false) ≡ unclipped (Dst (boxed (pos 0) (pos 0) 64 48) 0x55) ∷ []
f2_inverts = refl

-- wrong: F3 fills the freed rows white
f3_goes_up_by_16_rows : drawn_by opening_board (Scan 0x3D false)
    ≡ unclipped (Copy (boxed (pos 0) (pos 0) 64 32) 0xCC (pos 0) (pos 16)) ∷ unclipped (Fill (boxed (pos 0) (pos 32) 64 16) 0) ∷ []
f3_goes_up_by_16_rows = refl

-- the brush is loaded the first time only
-- wrong: F4 by code A5
-- wrong: F4 loads its brush each time
f4_twice : drawn_by (board_reaction size opening_board (Scan 0x3E false)).board (Scan 0x3E false) ≡ unclipped (Pat (boxed (pos 0) (pos 0) 64 48) 0x5A 63) ∷ []
f4_twice = refl

abbrev two_rows : List ℕ
two_rows = 0xFFFFFF ∷ 0 ∷ 0xFFFFFF ∷ 0 ∷ 0xFFFFFF ∷ 0 ∷ 0xFFFFFF ∷ 0 ∷ 0 ∷ 0xFFFFFF ∷ 0 ∷ 0xFFFFFF ∷ 0 ∷ 0xFFFFFF ∷ 0 ∷ 0xFFFFFF ∷ []

-- wrong: the brush is white where x + y is odd
f4_loads_its_brush : drawn_by opening_board (Scan 0x3E false)
    ≡ unclipped (LoadBrush 63 (two_rows ++ two_rows ++ two_rows ++ two_rows)) ∷ unclipped (Pat (boxed (pos 0) (pos 0) 64 48) 0x5A 63) ∷ []
f4_loads_its_brush = refl

-- red grows to the right, green downwards
-- wrong: red and green of image 255 swapped
red_and_green_of_the_image : item shaded 3 0 ∷ item shaded 32 0 ∷ [] ≡ 0x3000FF ∷ 0x0020FF ∷ []
red_and_green_of_the_image = refl

-- at the mouse's last point, and loaded the first time only
-- wrong: F5 by code CC
f5_twice : drawn_by (board_reaction size (record opening_board { last = at 9 7 }) (Scan 0x3F false)).board (Scan 0x3F false)
    ≡ unclipped (Blit (boxed (pos 9) (pos 7) 16 16) 0x66 255 (pos 0) (pos 0)) ∷ []
f5_twice = refl

-- wrong: keys act at their release too
a_key_acts_when_it_is_pressed : drawn_by opening_board (Scan 0x3B true) ≡ []
a_key_acts_when_it_is_pressed = refl

-- ---- signs

-- wrong: a sign is written at its release too
a_sign_is_written_when_it_is_pressed : drawn_by opening_board (Unicode 0x41 true) ≡ []
a_sign_is_written_when_it_is_pressed = refl

-- wrong: code 7F is a sign
seven_f_is_no_sign : drawn_by opening_board (Unicode 0x7F false) ≡ []
seven_f_is_no_sign = refl

a_blank_is_no_sign : drawn_by opening_board (Unicode 0x20 false) ≡ []
a_blank_is_no_sign = refl

-- 8 cells a row, 6 rows; the last cell, and the first one again
-- wrong: signs go on below the last row
signs_go_round : sign_place size 8 ∷ sign_place size 47 ∷ sign_place size 48 ∷ [] ≡ at 0 8 ∷ at 56 40 ∷ at 0 0 ∷ []
signs_go_round = refl

-- ---- the mouse

-- wrong: a dot sets no pen
a_dot_sets_the_pen : (board_reaction size opening_board (Mouse 0x9000 5 4)).board ≡ record opening_board { pen = Some (at 5 4); last = at 5 4 }
a_dot_sets_the_pen = refl

abbrev with_pen : Board
with_pen = record opening_board { pen = Some (at 5 5) }

-- wrong: the pen stays where a stroke began
the_pen_follows_a_stroke : (board_reaction size with_pen (Mouse 0x0800 9 7)).board ≡ record opening_board { pen = Some (at 9 7); last = at 9 7 }
the_pen_follows_a_stroke = refl

-- wrong: a level stroke lacks its right end
a_level_stroke_has_both_ends : drawn_by with_pen (Mouse 0x0800 2 5) ≡ unclipped (Fill (boxed (pos 2) (pos 5) 4 1) 0xFFFFFF) ∷ []
a_level_stroke_has_both_ends = refl

-- flags A800: the line for the second button comes before that of a move; and the pen is lifted
-- wrong: a move comes before the second button
-- wrong: the popup leaves the pen down
the_popup_goes_before_a_stroke : (board_reaction size with_pen (Mouse 0xA800 0 0)).board ≡ record opening_board { popup = Some (at 0 0) }
the_popup_goes_before_a_stroke = refl

-- wrong: the popup stands 32 columns left of the point
the_popups_corner_is_the_point : (board_reaction (record { w = 200; h = 100 }) opening_board (Mouse 0xA000 100 50)).board
    ≡ record opening_board { popup = Some (at 100 50); last = at 100 50 }
the_popups_corner_is_the_point = refl

-- wrong: no popup on 16 rows
sixteen_rows_have_a_popup : (board_reaction (record { w = 64; h = 16 }) opening_board (Mouse 0xA000 9 7)).board ≡ record opening_board { popup = Some (at 0 0); last = at 9 7 }
sixteen_rows_have_a_popup = refl

-- the open popup is taken off before what the next one covers is saved
-- wrong: an open popup is not taken off before the next
a_popup_over_another : drawn_by (record opening_board { popup = Some (at 0 0) }) (Mouse 0xA000 9 40) ≡ unclipped (Restore 15 (pos 0) (pos 0))
    ∷ unclipped (Save 15 (boxed (pos 0) (pos 32) 64 16)) ∷ unclipped (Fill (boxed (pos 0) (pos 32) 16 16) 0xFFFFFF) ∷ unclipped
    (Fill (boxed (pos 16) (pos 32) 16 16) 0xFF0000) ∷ unclipped (Fill (boxed (pos 32) (pos 32) 16 16) 0x00FF00) ∷ unclipped
    (Fill (boxed (pos 48) (pos 32) 16 16) 0x0000FF) ∷ []
a_popup_over_another = refl

-- ---- control

abbrev three : Head
three = record { size = size; rows = record { name = codes "ann"; role = Owner } ∷ record { name = codes "bob"; role = View } ∷ record { name = codes "cy"; role = Control } ∷ [] }

abbrev joins : List Entry
joins = Join 1 Owner ∷ Join 2 View ∷ Join 3 Control ∷ []

-- the circle of those who may hold control goes on with the least, the owner
-- wrong: the circle goes on with the least Control
the_circle_goes_on_with_the_least : next_holder size (joins ++ Give 1 3 ∷ []) 4 ≡ 1
the_circle_goes_on_with_the_least = refl

-- the owner comes before viewer 4, who may hold control too and stands behind viewer 3 in the circle
-- wrong: the successor is the least Control before an owner
the_owner_follows_though_another_may_hold : holder_at size (joins ++ Join 4 Control ∷ Give 1 3 ∷ Leave 3 ∷ []) 6 ≡ 1
the_owner_follows_though_another_may_hold = refl

-- viewer 2 leaves, and viewer 3 goes on holding control
-- wrong: any leave calls the successor
another_ones_leave_changes_no_holder : holder_at size (joins ++ Give 1 3 ∷ Leave 2 ∷ []) 5 ≡ 3
another_ones_leave_changes_no_holder = refl

-- ---- limits, each with the last that is legal and the first that isn't

abbrev here : Reached
here = reached_at size joins 3

abbrev refused : Reached → Entry → Option Refusal
refused r e = refusal_of three r e

-- wrong: 65,534 joins
the_last_join : refused (record here { joins = 65534 }) (Join 65535 View) ≡ None
the_last_join = refl

one_join_more : refused (record here { joins = 65535 }) (Join 65536 View) ≡ Some JoinsSpent
one_join_more = refl

-- wrong: 1,048,575 entries
the_last_entry : refused (record here { limited = 1048575 }) (Input 1 (Mouse 0x9000 0 0)) ≡ None
the_last_entry = refl

one_entry_more : refused (record here { limited = 1048576 }) (Input 1 (Mouse 0x9000 0 0)) ≡ Some JournalFull
one_entry_more = refl

abbrev pixel : Entry
pixel = Draw 1 (unclipped (LoadImage 0 (record { w = 1; h = 1; pixels = 5 ∷ [] })))

-- wrong: 67,108,863 image pixels
the_last_image_pixel : refused (record here { image_pixels = 67108863 }) pixel ≡ None
the_last_image_pixel = refl

one_image_pixel_more : refused (record here { image_pixels = 67108864 }) pixel ≡ Some JournalFull
one_image_pixel_more = refl

-- wrong: a Give counts as no entry
a_give_counts_as_an_entry : (reached_at size (joins ++ Give 1 3 ∷ []) 4).limited ≡ 1
a_give_counts_as_an_entry = refl

-- ---- the order of refusals

abbrev viewers : List Viewer
viewers = listed 16 1 (λ v. record { number = v; role = View })

-- wrong: JoinsSpent before RoomFull
room_full_comes_before_joins_spent : refused (record here { viewers = viewers; joins = 65535 }) (Join 65536 View) ≡ Some RoomFull
room_full_comes_before_joins_spent = refl

abbrev empty : Drawing
empty = unclipped (Fill (boxed (pos 0) (pos 0) 0 5) 0)

-- wrong: BadDrawing before NotHolder
not_holder_comes_before_a_bad_drawing : refused here (Draw 2 empty) ≡ Some (NotHolder 1)
not_holder_comes_before_a_bad_drawing = refl

-- wrong: JournalFull before BadDrawing
a_bad_drawing_comes_before_a_full_journal : refused (record here { limited = 1048576 }) (Draw 1 empty) ≡ Some (BadDrawing 1)
a_bad_drawing_comes_before_a_full_journal = refl

-- the board's own slots come before what slots hold
-- wrong: a restore may name block 15
-- wrong: what slots hold comes before the board's own slots
the_boards_own_block : refused here (Draw 1 (unclipped (Restore 15 (pos 0) (pos 0)))) ≡ Some (BadDrawing 5)
the_boards_own_block = refl

-- wrong: a run may name font 3
the_boards_own_font : refused here (Draw 1 (unclipped (Text (pos 0) (pos 0) 0 3 ((65, 0) ∷ [])))) ≡ Some (BadDrawing 5)
the_boards_own_font = refl

-- ---- takes

abbrev wide : Head
wide = record { size = record { w = 128; h = 64 }; rows = record { name = codes "ann"; role = Owner } ∷ [] }

abbrev asked_of : List Step → List (List ℕ)
asked_of steps = map (λ take. tiles_in (record { w = 128; h = 64 }) take.asked) (takes_of wide (JoinStep (codes "ann") ∷ TakeStep 1 ∷ steps) 1)

-- wrong: the last refresh alone counts
two_refreshes_ask_for_both : asked_of (RefreshStep 1 (boxed (pos 5) (pos 5) 1 1) ∷ RefreshStep 1 (boxed (pos 70) (pos 5) 1 1) ∷ TakeStep 1 ∷ []) ≡ [] ∷ (0 ∷ 1 ∷ []) ∷ []
two_refreshes_ask_for_both = refl

-- wrong: a suppression forgets what was asked
what_was_asked_outlives_a_suppression : asked_of (RefreshStep 1 (boxed (pos 5) (pos 5) 1 1) ∷ SuppressStep 1 true ∷ TakeStep 1 ∷ SuppressStep 1 false ∷ TakeStep 1 ∷ [])
    ≡ [] ∷ (0 ∷ []) ∷ []
what_was_asked_outlives_a_suppression = refl
