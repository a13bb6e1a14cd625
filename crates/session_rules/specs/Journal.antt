-- The journal: the list of a session's entries. What stands after its first n entries, who holds control, and which journals are legal.
use Rattle.std.specs.Prelude.{◌≡◌, ◌≢◌, ℕ, ◌+◌, ◌==◌, nat_lt, nat_le, Bool, true, false, ◌&&◌, ◌||◌, not, List, [], ◌∷◌, ◌++◌, length, take, find}
use Rattle.std.specs.Prelude.{Option, Some, None, is_some, is_none, IsTrue, option_map, if◌then◌else◌}
use Rattle.px_core.specs.declared.surface.Size.{Size}
use Rattle.draw_ops.specs.declared.shape.Drawing.{Drawing}
use Rattle.draw_ops.specs.declared.shape.Shape.{Shape}
use Rattle.draw_ops.specs.declared.shape.Shape.TheVariants.{Fill, Dst, Pat, Copy, Blit, Blit3, Text, Line, Save, Restore, LoadImage, LoadBrush, LoadGlyph}
use Rattle.draw_ops.specs.Slots.{SurfaceState, opening_surface}
use Rattle.draw_ops.specs.Drawing.{state_after_drawings}
use Rattle.draw_ops.specs.Ranges.{is_u16, is_u32, is_drawing_in_range}
use Rattle.draw_ops.specs.Fits.{first_some, broken_rule, slot_misfit, Misfit}
use Rattle.draw_ops.specs.Fits.Misfit.{Rule, Empty, TooSmall}
use Rattle.input_pdu.specs.declared.event.Event.{Event}
use Rattle.input_pdu.specs.declared.event.Event.TheVariants.{Sync, Scan, Unicode, Mouse, MouseX}
use Rattle.session_rules.specs.declared.entry.Role.{Role}
use Rattle.session_rules.specs.declared.entry.Role.TheVariants.{Owner, Control, View}
use Rattle.session_rules.specs.declared.entry.Entry.{Entry}
use Rattle.session_rules.specs.declared.entry.Entry.TheVariants.{Join, Leave, Give, Input, Draw}
use Rattle.session_rules.specs.Board.{Board, opening_board, board_reaction, board_image, board_brush, board_font, board_block}

-- ---- the state after an entry

-- a session's state: its surface, and its board
pub record State : Type 0 where
  pub surface : SurfaceState
  pub board : Board

abbrev pub opening_state : Size → State
opening_state size = record { surface = opening_surface size; board = opening_board }

-- the drawings of an entry: a Draw draws, an Input draws what the board makes of it, the others draw nothing
abbrev pub drawings_of : Size → Board → Entry → List Drawing
drawings_of size b (Join v role) = []
drawings_of size b (Leave v) = []
drawings_of size b (Give by to) = []
drawings_of size b (Input by event) = (board_reaction size b event).drawings
drawings_of size b (Draw by d) = d ∷ []

abbrev pub board_after : Size → Board → Entry → Board
board_after size b (Join v role) = b
board_after size b (Leave v) = b
board_after size b (Give by to) = b
board_after size b (Input by event) = (board_reaction size b event).board
board_after size b (Draw by d) = b

abbrev pub state_after_entry : Size → State → Entry → State
state_after_entry size st e = record { surface = state_after_drawings size st.surface (drawings_of size st.board e); board = board_after size st.board e }

-- ---- viewers, and who holds control

-- a viewer that is present, with its role
pub record Viewer : Type 0 where
  pub number : ℕ
  pub role : Role

abbrev pub is_owner : Role → Bool
is_owner Owner = true
is_owner Control = false
is_owner View = false

abbrev pub is_control : Role → Bool
is_control Owner = false
is_control Control = true
is_control View = false

-- a role that may hold control
abbrev pub may_hold : Role → Bool
may_hold Owner = true
may_hold Control = true
may_hold View = false

-- the first number that there is, else 0
abbrev pub first_number : List (Option ℕ) → ℕ
first_number [] = 0
first_number (None ∷ os) = first_number os
first_number (Some v ∷ os) = v

-- the least viewer for whom a test holds. Viewers stand in the order of their joins, so by ascending number
abbrev pub least_viewer : (Viewer → Bool) → List Viewer → Option ℕ
least_viewer test viewers = option_map (λ x. x.number) (find test viewers)

-- who holds control after the holder left: the least present owner, else the least present viewer of role Control, else none, 0
abbrev pub successor : List Viewer → ℕ
successor viewers = first_number (least_viewer (λ x. is_owner x.role) viewers ∷ least_viewer (λ x. is_control x.role) viewers ∷ [])

-- the viewer after one in the circle of numbers: the least above it that may hold control, else the least that may
abbrev pub next_of : List Viewer → ℕ → ℕ
next_of viewers holder =
    first_number (least_viewer (λ x. may_hold x.role && nat_lt holder x.number) viewers ∷ least_viewer (λ x. may_hold x.role) viewers ∷ [])

abbrev pub without_viewer : ℕ → List Viewer → List Viewer
without_viewer v [] = []
without_viewer v (x ∷ xs) = if x.number == v then xs else x ∷ without_viewer v xs

abbrev pub viewers_after : List Viewer → Entry → List Viewer
viewers_after viewers (Join v role) = viewers ++ record { number = v; role = role } ∷ []
viewers_after viewers (Leave v) = without_viewer v viewers
viewers_after viewers (Give by to) = viewers
viewers_after viewers (Input by event) = viewers
viewers_after viewers (Draw by d) = viewers

-- who holds control after an entry, over the viewers before it
abbrev pub holder_after : List Viewer → ℕ → Entry → ℕ
holder_after viewers holder (Join v role) = if (holder == 0) && may_hold role then v else holder
holder_after viewers holder (Leave v) = if holder == v then successor (without_viewer v viewers) else holder
holder_after viewers holder (Give by to) = to
holder_after viewers holder (Input by event) = holder
holder_after viewers holder (Draw by d) = holder

-- ---- what is counted

abbrev pub join_count : Entry → ℕ
join_count (Join v role) = 1
join_count (Leave v) = 0
join_count (Give by to) = 0
join_count (Input by event) = 0
join_count (Draw by d) = 0

-- the entries whose number is limited: inputs, gives and draws
abbrev pub limited_count : Entry → ℕ
limited_count (Join v role) = 0
limited_count (Leave v) = 0
limited_count (Give by to) = 1
limited_count (Input by event) = 1
limited_count (Draw by d) = 1

-- the pixels of an image that a shape loads
abbrev pub shape_pixels : Shape → ℕ
shape_pixels (Fill r color) = 0
shape_pixels (Dst r code) = 0
shape_pixels (Pat r code brush) = 0
shape_pixels (Copy r code sx sy) = 0
shape_pixels (Blit r code image sx sy) = 0
shape_pixels (Blit3 r code image sx sy brush) = 0
shape_pixels (Text x y color font run) = 0
shape_pixels (Line x0 y0 x1 y1 color) = 0
shape_pixels (Save slot r) = 0
shape_pixels (Restore slot x y) = 0
shape_pixels (LoadImage slot image) = length image.pixels
shape_pixels (LoadBrush slot brush) = 0
shape_pixels (LoadGlyph font code glyph) = 0

abbrev pub image_pixel_count : Entry → ℕ
image_pixel_count (Join v role) = 0
image_pixel_count (Leave v) = 0
image_pixel_count (Give by to) = 0
image_pixel_count (Input by event) = 0
image_pixel_count (Draw by d) = shape_pixels d.shape

-- ---- a journal's first n entries

-- what stands after entries: the state, the viewers present, who holds control, the number of entries, of joins and of limited entries,
-- and the pixels of the images loaded by Draw entries
pub record Reached : Type 0 where
  pub state : State
  pub viewers : List Viewer
  pub holder : ℕ
  pub length : ℕ
  pub joins : ℕ
  pub limited : ℕ
  pub image_pixels : ℕ

abbrev pub reached_at_first : Size → Reached
reached_at_first size = record { state = opening_state size; viewers = []; holder = 0; length = 0; joins = 0; limited = 0; image_pixels = 0 }

abbrev pub reached_after_entry : Size → Reached → Entry → Reached
reached_after_entry size r e = record {
  state = state_after_entry size r.state e;
  viewers = viewers_after r.viewers e;
  holder = holder_after r.viewers r.holder e;
  length = r.length + 1;
  joins = r.joins + join_count e;
  limited = r.limited + limited_count e;
  image_pixels = r.image_pixels + image_pixel_count e;
}

abbrev pub reached_after : Size → Reached → List Entry → Reached
reached_after size r [] = r
reached_after size r (e ∷ es) = reached_after size (reached_after_entry size r e) es

abbrev pub reached_at : Size → List Entry → ℕ → Reached
reached_at size j n = reached_after size (reached_at_first size) (take n j)

-- the state after the first n entries
abbrev pub state_after : Size → List Entry → ℕ → State
state_after size j n = (reached_at size j n).state

-- the picture after the first n entries
abbrev pub picture_after_entries : Size → List Entry → ℕ → List ℕ
picture_after_entries size j n = (state_after size j n).surface.picture

-- the viewers whose Join is among the first n entries without a Leave, by ascending number
abbrev pub present_viewers : Size → List Entry → ℕ → List Viewer
present_viewers size j n = (reached_at size j n).viewers

-- who holds control after the first n entries, 0 for nobody
abbrev pub holder_at : Size → List Entry → ℕ → ℕ
holder_at size j n = (reached_at size j n).holder

-- the viewer to whom the holder would give control there
abbrev pub next_holder : Size → List Entry → ℕ → ℕ
next_holder size j n = next_of (present_viewers size j n) (holder_at size j n)

-- ---- legal journals

-- a row of the invitation list
pub record Row : Type 0 where
  pub name : List ℕ
  pub role : Role

-- a session's size and rows, which never change
pub record Head : Type 0 where
  pub size : Size
  pub rows : List Row

-- the limits of a session (profile)
abbrev pub most_viewers : ℕ
most_viewers = 16

abbrev pub most_joins : ℕ
most_joins = 65535

abbrev pub most_entries : ℕ
most_entries = 1048576

abbrev pub most_image_pixels : ℕ
most_image_pixels = 67108864

-- why an entry isn't legal, or a name isn't let in. Unfit is an entry that no call makes
pub data Refusal : Type 0 where
  NotInvited : Refusal
  RoomFull : Refusal
  JoinsSpent : Refusal
  NotHolder : ℕ → Refusal
  BadDrawing : ℕ → Refusal
  EmptySlot : ℕ → Refusal
  SlotSize : ℕ → Refusal
  JournalFull : Refusal
  Unfit : Refusal

abbrev pub unless : Bool → Refusal → Option Refusal
unless test r = if test then None else Some r

abbrev pub is_same_role : Role → Role → Bool
is_same_role Owner role = is_owner role
is_same_role Control role = is_control role
is_same_role View role = not (may_hold role)

-- whether some row has the role
abbrev pub has_role : Role → List Row → Bool
has_role role [] = false
has_role role (row ∷ rows) = is_same_role role row.role || has_role role rows

abbrev pub role_of : ℕ → List Viewer → Option Role
role_of v viewers = option_map (λ x. x.role) (find (λ x. x.number == v) viewers)

abbrev pub is_present : ℕ → List Viewer → Bool
is_present v viewers = is_some (role_of v viewers)

abbrev pub is_owner_here : Option Role → Bool
is_owner_here None = false
is_owner_here (Some role) = is_owner role

-- whether a viewer holds control
abbrev pub holds : Reached → ℕ → Bool
holds r v = (v == r.holder) && not (v == 0)

-- whether a viewer may give control to another: the holder to the next, a present owner who doesn't hold it to itself
abbrev pub may_give : Reached → ℕ → ℕ → Bool
may_give r by to = (holds r by && (to == next_of r.viewers by)) || ((is_owner_here (role_of by r.viewers) && not (holds r by)) && (to == by))

-- the scan code of F12, which never reaches the board
abbrev pub f12 : ℕ
f12 = 0x58

abbrev pub is_f12 : Event → Bool
is_f12 Sync = false
is_f12 (Scan code up) = code == f12
is_f12 (Unicode code up) = false
is_f12 (Mouse flags x y) = false
is_f12 MouseX = false

-- whether a shape names one of the board's own slots
abbrev pub names_board_slot : Shape → Bool
names_board_slot (Fill r color) = false
names_board_slot (Dst r code) = false
names_board_slot (Pat r code brush) = brush == board_brush
names_board_slot (Copy r code sx sy) = false
names_board_slot (Blit r code image sx sy) = image == board_image
names_board_slot (Blit3 r code image sx sy brush) = (image == board_image) || (brush == board_brush)
names_board_slot (Text x y color font run) = font == board_font
names_board_slot (Line x0 y0 x1 y1 color) = false
names_board_slot (Save slot r) = slot == board_block
names_board_slot (Restore slot x y) = slot == board_block
names_board_slot (LoadImage slot image) = slot == board_image
names_board_slot (LoadBrush slot brush) = slot == board_brush
names_board_slot (LoadGlyph font code glyph) = font == board_font

abbrev pub misfit_refusal : Misfit → Refusal
misfit_refusal (Rule rule) = BadDrawing rule
misfit_refusal (Empty slot) = EmptySlot slot
misfit_refusal (TooSmall slot) = SlotSize slot

-- the tests of a drawing on a state: its rules, then the board's own slots, then what the slots hold
abbrev pub drawing_tests : Size → SurfaceState → Drawing → List (Option Refusal)
drawing_tests size st d = option_map BadDrawing (broken_rule size d) ∷ unless (not (names_board_slot d.shape)) (BadDrawing 5)
    ∷ option_map misfit_refusal (slot_misfit size st d.shape) ∷ []

-- whether there is room for one more limited entry
abbrev pub room_test : Reached → Option Refusal
room_test r = unless (nat_lt r.limited most_entries) JournalFull

-- the tests of an entry on what stands before it, in the order of its refusals
abbrev pub entry_tests : Head → Reached → Entry → List (Option Refusal)
entry_tests head r (Join v role) = unless (has_role role head.rows && (v == r.joins + 1)) Unfit
    ∷ unless (nat_lt (length r.viewers) most_viewers) RoomFull ∷ unless (nat_lt r.joins most_joins) JoinsSpent ∷ []
entry_tests head r (Leave v) = unless (is_present v r.viewers) Unfit ∷ []
entry_tests head r (Give by to) = unless (may_give r by to) (NotHolder r.holder) ∷ room_test r ∷ []
entry_tests head r (Input by event) = unless (holds r by) (NotHolder r.holder) ∷ unless (not (is_f12 event)) Unfit ∷ room_test r ∷ []
entry_tests head r (Draw by d) = unless (holds r by) (NotHolder r.holder) ∷ first_some (drawing_tests head.size r.state.surface d) ∷ room_test r
    ∷ unless (nat_le (r.image_pixels + shape_pixels d.shape) most_image_pixels) JournalFull ∷ []

abbrev pub is_event_in_range : Event → Bool
is_event_in_range Sync = true
is_event_in_range (Scan code up) = is_u16 code
is_event_in_range (Unicode code up) = is_u16 code
is_event_in_range (Mouse flags x y) = is_u16 flags && (is_u16 x && is_u16 y)
is_event_in_range MouseX = true

-- each number of an entry is in its type's range, and each colour below 2^24: in the logic numbers have no bound
abbrev pub is_entry_in_range : Entry → Bool
is_entry_in_range (Join v role) = is_u32 v
is_entry_in_range (Leave v) = is_u32 v
is_entry_in_range (Give by to) = is_u32 by && is_u32 to
is_entry_in_range (Input by event) = is_u32 by && is_event_in_range event
is_entry_in_range (Draw by d) = is_u32 by && is_drawing_in_range d

-- the first refusal of an entry on what stands before it; None where it is legal there
abbrev pub refusal_of : Head → Reached → Entry → Option Refusal
refusal_of head r e = first_some (unless (is_entry_in_range e) Unfit ∷ entry_tests head r e)

-- whether each entry is legal after those before it
abbrev pub are_legal_after : Head → Reached → List Entry → Bool
are_legal_after head r [] = true
are_legal_after head r (e ∷ es) = is_none (refusal_of head r e) && are_legal_after head (reached_after_entry head.size r e) es

abbrev pub IsLegalJournal : Head → List Entry → Type 0
IsLegalJournal head j = IsTrue (are_legal_after head (reached_at_first head.size) j)

-- ---- who made each change

-- the viewer who makes a change by an entry: of an Input or a Draw
abbrev pub author_of : Entry → Option ℕ
author_of (Join v role) = None
author_of (Leave v) = None
author_of (Give by to) = None
author_of (Input by event) = Some by
author_of (Draw by d) = Some by

-- each change of a journal was made by who held control there, wherever the journal is cut before it
abbrev pub ChangesAreTheHolders : Size → List Entry → Type 0
ChangesAreTheHolders size j = (before after : List Entry) (e : Entry) (v : ℕ) → j ≡ before ++ e ∷ after → author_of e ≡ Some v
    → (holder_at size j (length before) ≡ v) × (v ≢ 0)
