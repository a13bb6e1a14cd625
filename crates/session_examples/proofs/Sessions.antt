-- Worked sessions: the journal, who holds control, what the board draws, and the numbers of frames.
use Rattle.std.proofs.Common.{◌≡◌, ℕ, List, [], ◌∷◌, ◌++◌, refl, Some, map}
use Rattle.std.specs.Prelude.{pos, negsuc, true, false, codes}
use Rattle.px_core.specs.declared.surface.Size.{Size}
use Rattle.px_core.specs.Rectangle.{boxed, whole}
use Rattle.px_core.specs.Tiles.{tiles_in}
use Rattle.draw_ops.specs.declared.shape.Drawing.{Drawing}
use Rattle.draw_ops.specs.declared.shape.Shape.TheVariants.{Fill, Line, Save, Restore, LoadImage, Text}
use Rattle.input_pdu.specs.declared.event.Event.{Event}
use Rattle.input_pdu.specs.declared.event.Event.TheVariants.{Scan, Unicode, Mouse}
use Rattle.session_rules.specs.declared.entry.Role.TheVariants.{Owner, Control, View}
use Rattle.session_rules.specs.declared.entry.Entry.{Entry}
use Rattle.session_rules.specs.declared.entry.Entry.TheVariants.{Join, Leave, Give, Input, Draw}
use Rattle.session_rules.specs.Board.{Board, Point, opening_board, board_reaction, sign_of, unclipped}
use Rattle.session_rules.specs.Journal.{Head, holder_at, are_legal_after, reached_at_first, refusal_of, reached_at}
use Rattle.session_rules.specs.Journal.Refusal.{NotHolder, BadDrawing, Unfit}
use Rattle.session_rules.specs.Steps.{Step, TakeOf, journal_of_steps, answers_of_steps, takes_of, frame_numbers}
use Rattle.session_rules.specs.Steps.Step.{JoinStep, InputStep, DrawStep, RefreshStep, SuppressStep, TakeStep}
use Rattle.session_rules.specs.Steps.Answer.{Joined, Accepted, Refused, Nothing, Frame}

abbrev size : Size
size = record { w = 64; h = 48 }

abbrev three : Head
three = record { size = size; rows = record { name = codes "ann"; role = Owner } ∷ record { name = codes "bob"; role = View } ∷ record { name = codes "cy"; role = Control } ∷ [] }

abbrev all_join : List Step
all_join = JoinStep (codes "ann") ∷ JoinStep (codes "bob") ∷ JoinStep (codes "cy") ∷ []

abbrev three_joins : List Entry
three_joins = Join 1 Owner ∷ Join 2 View ∷ Join 3 Control ∷ []

abbrev click : ℕ → ℕ → Event
click x y = Mouse 0x9000 x y

-- ---- control

-- the viewer of role View is passed over, and the owner who gave control away takes it back
-- wrong: control goes to a viewer of role View, or back to who had it before
control_goes_round_and_is_taken_back : journal_of_steps three (all_join ++ InputStep 1 (Scan 0x58 false) ∷ InputStep 1 (Scan 0x58 true) ∷ InputStep 1 (Scan 0x58 false) ∷ [])
    ≡ three_joins ++ Give 1 3 ∷ Give 1 1 ∷ []
control_goes_round_and_is_taken_back = refl

a_viewer_without_control_is_refused : answers_of_steps three (all_join ++ InputStep 2 (click 20 20) ∷ InputStep 3 (Scan 0x58 false) ∷ [])
    ≡ Joined 1 ∷ Joined 2 ∷ Joined 3 ∷ Refused (NotHolder 1) ∷ Refused (NotHolder 1) ∷ []
a_viewer_without_control_is_refused = refl

-- the holder leaves: control goes to the owner, though viewer 3 of role Control came to hold it last
a_departed_holder_is_followed_by_the_owner : holder_at size (three_joins ++ Give 1 3 ∷ Leave 3 ∷ []) 5 ≡ 1
a_departed_holder_is_followed_by_the_owner = refl

without_an_owner_control_goes_to_the_least_who_may : holder_at size (Join 1 Owner ∷ Join 2 View ∷ Join 3 Control ∷ Join 4 Control ∷ Leave 1 ∷ []) 5 ≡ 3
without_an_owner_control_goes_to_the_least_who_may = refl

a_session_of_viewers_has_no_holder : holder_at size (Join 1 View ∷ []) 1 ≡ 0
a_session_of_viewers_has_no_holder = refl

-- wrong: a departed holder still draws
a_departed_holder_draws_no_more : are_legal_after three (reached_at_first size) (three_joins ++ Leave 1 ∷ Input 1 (click 20 20) ∷ []) ≡ false
a_departed_holder_draws_no_more = refl

-- ---- what no call makes

a_colour_of_2_to_the_24_is_unfit : refusal_of three (reached_at size three_joins 3) (Draw 1 (unclipped (Fill (boxed (pos 0) (pos 0) 1 1) 16777216))) ≡ Some Unfit
a_colour_of_2_to_the_24_is_unfit = refl

a_join_of_another_number_is_unfit : refusal_of three (reached_at size three_joins 3) (Join 5 View) ≡ Some Unfit
a_join_of_another_number_is_unfit = refl

f12_is_no_input : refusal_of three (reached_at size three_joins 3) (Input 1 (Scan 0x58 false)) ≡ Some Unfit
f12_is_no_input = refl

-- the rules come before the board's own slots: a bad image in slot 255 is refused by rule 6, a good one by rule 5
-- wrong: the board's slots are tested first
a_bad_image_in_the_boards_slot : refusal_of three (reached_at size three_joins 3) (Draw 1 (unclipped (LoadImage 255 (record { w = 0; h = 0; pixels = [] })))) ≡ Some (BadDrawing 6)
a_bad_image_in_the_boards_slot = refl

a_good_image_in_the_boards_slot : refusal_of three (reached_at size three_joins 3) (Draw 1 (unclipped (LoadImage 255 (record { w = 1; h = 1; pixels = 5 ∷ [] })))) ≡ Some (BadDrawing 5)
a_good_image_in_the_boards_slot = refl

-- ---- the board

abbrev drawn_by : Board → Event → List Drawing
drawn_by b event = (board_reaction size b event).drawings

abbrev at : ℕ → ℕ → Point
at x y = record { x = x; y = y }

a_click_is_a_dot : drawn_by opening_board (click 0 0) ≡ unclipped (Fill (boxed (negsuc 1) (negsuc 1) 5 5) 0xFFFFFF) ∷ []
a_click_is_a_dot = refl

-- the mouse is brought into the surface
a_click_past_the_corner : drawn_by opening_board (click 500 500) ≡ unclipped (Fill (boxed (pos 61) (pos 45) 5 5) 0xFFFFFF) ∷ []
a_click_past_the_corner = refl

abbrev with_pen : Board
with_pen = record opening_board { pen = Some (at 5 5) }

a_slanted_stroke_is_a_line : drawn_by with_pen (Mouse 0x0800 9 7) ≡ unclipped (Line (pos 5) (pos 5) (pos 9) (pos 7) 0xFFFFFF) ∷ []
a_slanted_stroke_is_a_line = refl

an_upright_stroke_is_a_fill : drawn_by with_pen (Mouse 0x0800 5 2) ≡ unclipped (Fill (boxed (pos 5) (pos 2) 1 4) 0xFFFFFF) ∷ []
an_upright_stroke_is_a_fill = refl

a_move_to_the_pens_own_point_draws_nothing : drawn_by with_pen (Mouse 0x0800 5 5) ≡ []
a_move_to_the_pens_own_point_draws_nothing = refl

-- flags 1800: the line for 0x1000 comes first, and the pen is lifted
a_move_with_the_button_lifts_the_pen : board_reaction size with_pen (Mouse 0x1800 9 7) ≡ record { board = record opening_board { last = at 9 7 }; drawings = [] }
a_move_with_the_button_lifts_the_pen = refl

-- the last point follows the mouse also where nothing is drawn
a_move_without_a_pen_moves_the_last_point : board_reaction size opening_board (Mouse 0x0800 9 7) ≡ record { board = record opening_board { last = at 9 7 }; drawings = [] }
a_move_without_a_pen_moves_the_last_point = refl

abbrev with_popup : Board
with_popup = (board_reaction size opening_board (Mouse 0xA000 0 0)).board

the_popup_opens : drawn_by opening_board (Mouse 0xA000 9 40) ≡ unclipped (Save 15 (boxed (pos 0) (pos 32) 64 16))
    ∷ unclipped (Fill (boxed (pos 0) (pos 32) 16 16) 0xFFFFFF) ∷ unclipped (Fill (boxed (pos 16) (pos 32) 16 16) 0xFF0000)
    ∷ unclipped (Fill (boxed (pos 32) (pos 32) 16 16) 0x00FF00) ∷ unclipped (Fill (boxed (pos 48) (pos 32) 16 16) 0x0000FF) ∷ []
the_popup_opens = refl

-- a click in the third column takes ink 2, and the popup is gone
a_click_in_the_popup_takes_an_ink : board_reaction size with_popup (click 40 3)
    ≡ record { board = record opening_board { last = at 40 3; ink = 2 }; drawings = unclipped (Restore 15 (pos 0) (pos 0)) ∷ [] }
a_click_in_the_popup_takes_an_ink = refl

-- wrong: a click outside the popup also draws a dot
a_click_outside_the_popup_closes_it : board_reaction size with_popup (click 60 40)
    ≡ record { board = record opening_board { last = at 60 40 }; drawings = unclipped (Restore 15 (pos 0) (pos 0)) ∷ [] }
a_click_outside_the_popup_closes_it = refl

a_small_surface_has_no_popup : (board_reaction (record { w = 60; h = 48 }) with_pen (Mouse 0xA800 9 7)).drawings ≡ unclipped (Line (pos 5) (pos 5) (pos 9) (pos 7) 0xFFFFFF) ∷ []
a_small_surface_has_no_popup = refl

-- the sign of A, 0x41, rotated left by 0 to 7 bits; it is loaded the first time only
a_sign_is_loaded_once : drawn_by (board_reaction size opening_board (Unicode 0x41 false)).board (Unicode 0x41 false) ≡ unclipped (Text (pos 8) (pos 0) 0xFFFFFF 3 ((0x41, 0) ∷ [])) ∷ []
a_sign_is_loaded_once = refl

the_rows_of_a_sign : sign_of 0x41 ≡ 0x41 ∷ 0x82 ∷ 0x05 ∷ 0x0A ∷ 0x14 ∷ 0x28 ∷ 0x50 ∷ 0xA0 ∷ []
the_rows_of_a_sign = refl

-- ---- takes

abbrev fill : Step
fill = DrawStep 1 (unclipped (Fill (whole size) 255))

abbrev tiles_asked : TakeOf → List ℕ
tiles_asked take = tiles_in size take.asked

-- wrong: a suppressed viewer's take counts as taken
frames_have_the_numbers_of_the_journal : frame_numbers three (JoinStep (codes "ann") ∷ TakeStep 1 ∷ TakeStep 1 ∷ fill ∷ fill ∷ TakeStep 1 ∷ SuppressStep 1 true ∷ fill ∷ TakeStep 1 ∷ SuppressStep 1 false ∷ TakeStep 1 ∷ []) 1
    ≡ 1 ∷ 3 ∷ 4 ∷ []
frames_have_the_numbers_of_the_journal = refl

-- tiles that are asked for make a take without new entries, once
asked_tiles_go_once : map tiles_asked (takes_of three (JoinStep (codes "ann") ∷ TakeStep 1 ∷ RefreshStep 1 (boxed (pos 5) (pos 5) 1 1) ∷ TakeStep 1 ∷ TakeStep 1 ∷ []) 1) ≡ [] ∷ (0 ∷ []) ∷ []
asked_tiles_go_once = refl

-- a refresh outside the picture asks for nothing
a_refresh_outside_the_picture_asks_for_nothing : answers_of_steps three (JoinStep (codes "ann") ∷ TakeStep 1 ∷ RefreshStep 1 (boxed (pos 64) (pos 5) 9 9) ∷ TakeStep 1 ∷ [])
    ≡ Joined 1 ∷ Frame (record { before = 0; number = 1; asked = λ tile. false }) ∷ Accepted ∷ Nothing ∷ []
a_refresh_outside_the_picture_asks_for_nothing = refl
