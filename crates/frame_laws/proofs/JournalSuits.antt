-- Each drawing of a legal journal, reactions of the board included, suits the state that it finds.
use Rattle.std.proofs.Common.{◌≡◌, ℕ, ◌^◌, ◌<◌, List, [], ◌∷◌, ◌++◌, refl, arith, Some, None}
use Rattle.std.specs.Prelude.{Bool, true, false, ◌&&◌, not, ◌==◌, Option, is_none, IsTrue, length}
use Rattle.std.proofs.lemmas.Bool.{and_parts}
use Rattle.std.proofs.lemmas.Bool.Decides.{nat_tests}
use Rattle.px_core.specs.declared.surface.Size.{Size}
use Rattle.px_core.specs.Rectangle.{is_session_size}
use Rattle.draw_ops.specs.declared.shape.Drawing.{Drawing}
use Rattle.draw_ops.specs.declared.shape.Shape.{Shape}
use Rattle.draw_ops.specs.declared.shape.Shape.TheVariants.{Fill, Dst, Pat, Copy, Blit, Blit3, Text, Line, Save, Restore, LoadImage, LoadBrush, LoadGlyph}
use Rattle.px_core.specs.Colors.{is_color, are_colors}
use Rattle.draw_ops.specs.Ranges.{is_u8, is_u16, is_u32, is_rect_in_range, is_point_in_range, are_byte_pairs, is_brush_in_range, is_image_in_range, is_shape_in_range, is_clip_in_range, is_drawing_in_range}
use Rattle.draw_ops.specs.Slots.{SurfaceState, opening_surface}
use Rattle.draw_ops.specs.Drawing.{state_after_drawing, state_after_drawings}
use Rattle.draw_ops.specs.Fits.{AllFitState}
use Rattle.session_rules.specs.declared.entry.Entry.{Entry}
use Rattle.session_rules.specs.declared.entry.Entry.TheVariants.{Join, Leave, Give, Input, Draw}
use Rattle.session_rules.specs.Board.{opening_board, board_reaction}
use Rattle.session_rules.specs.Journal.{Head, Reached, Refusal, reached_at_first, reached_after_entry, refusal_of, drawing_tests, names_board_slot, are_legal_after, IsLegalJournal, drawings_of}
use Rattle.session_rules.specs.Journal.Refusal.{BadDrawing}
use Rattle.session_rules.specs.Agreement.{BoardAgrees}
use Rattle.session_rules.proofs.OwnSteps.{first_some-each, tests-legal, unless-none, is_entry_in_range-legal, FitsState-legal}
use Rattle.session_rules.proofs.Fitting.{Sides, sides_of}
use Rattle.session_rules.proofs.Agrees.{BoardAgrees-opening, BoardAgrees-drawn}
use Rattle.session_rules.proofs.BoardReactions.{board_reacts}
use Rattle.frame_rules.specs.Describes.{drawings_from}
use Rattle.frame_laws.specs.Drawings.{HasValues, AllSuit}
use Rattle.frame_laws.proofs.Colored.{colors_tested}
use Rattle.frame_laws.proofs.ReactionValues.{AllHaveValues, reaction_has_values}

-- ---- values of a drawing in range

color_below : (color : ℕ) → is_color color ≡ true → color < 2 ^ 24
color_below color h = grind (arith, nat_tests, h)

byte_below : (code : ℕ) → is_u8 code ≡ true → code < 256
byte_below code h = grind (arith, nat_tests, h)

count_is : (m n : ℕ) → (m == n) ≡ true → m ≡ n
count_is m n h = grind (arith, nat_tests, h)

values_in_range : (s : Shape) → is_shape_in_range s ≡ true → HasValues s
values_in_range (Fill r color) h = color_below color (and_parts (is_rect_in_range r) (is_color color) h).1
values_in_range (Dst r code) h = byte_below code (and_parts (is_rect_in_range r) (is_u8 code) h).1
values_in_range (Pat r code brush) h = byte_below code (and_parts (is_u8 code) (is_u8 brush) (and_parts (is_rect_in_range r) (is_u8 code && is_u8 brush) h).1).0
values_in_range (Copy r code sx sy) h = byte_below code
    (and_parts (is_u8 code) (is_point_in_range sx sy) (and_parts (is_rect_in_range r) (is_u8 code && is_point_in_range sx sy) h).1).0
values_in_range (Blit r code image sx sy) h =
    let rest = and_parts (is_rect_in_range r) ((is_u8 code && is_u8 image) && is_point_in_range sx sy) h in
    byte_below code (and_parts (is_u8 code) (is_u8 image) (and_parts (is_u8 code && is_u8 image) (is_point_in_range sx sy) rest.1).0).0
values_in_range (Blit3 r code image sx sy brush) h =
    let rest = and_parts (is_rect_in_range r) ((is_u8 code && is_u8 image) && (is_point_in_range sx sy && is_u8 brush)) h in
    byte_below code (and_parts (is_u8 code) (is_u8 image) (and_parts (is_u8 code && is_u8 image) (is_point_in_range sx sy && is_u8 brush) rest.1).0).0
values_in_range (Text x y color font run) h =
    let rest = and_parts (is_point_in_range x y) ((is_color color && is_u8 font) && are_byte_pairs run) h in
    color_below color (and_parts (is_color color) (is_u8 font) (and_parts (is_color color && is_u8 font) (are_byte_pairs run) rest.1).0).0
values_in_range (Line x0 y0 x1 y1 color) h = color_below color (and_parts (is_point_in_range x0 y0 && is_point_in_range x1 y1) (is_color color) h).1
values_in_range (Save slot r) h = tt
values_in_range (Restore slot x y) h = tt
values_in_range (LoadImage slot image) h = colors_tested image.pixels
    (and_parts (is_u16 image.w && is_u16 image.h) (are_colors image.pixels) (and_parts (is_u8 slot) (is_image_in_range image) h).1).1
values_in_range (LoadBrush slot brush) h =
    let parts = and_parts (length brush == 64) (are_colors brush) (and_parts (is_u8 slot) (is_brush_in_range brush) h).1 in
    (count_is (length brush) 64 parts.0, colors_tested brush parts.1)
values_in_range (LoadGlyph font code glyph) h = tt

-- ---- lists

all_suit : (size : Size) (ds : List Drawing) (st : SurfaceState) → AllFitState size st ds → AllHaveValues ds → AllSuit size st ds
all_suit size [] st h k = tt
all_suit size (d ∷ ds) st h k = (record { fits = h.0; values = k.0 }, all_suit size ds (state_after_drawing size st d) h.1 k.1)

pub suit_append : (size : Size) (xs ys : List Drawing) (st : SurfaceState) → AllSuit size st xs → AllSuit size (state_after_drawings size st xs) ys
    → AllSuit size st (xs ++ ys)
suit_append size [] ys st h k = k
suit_append size (x ∷ xs) ys st h k = (h.0, suit_append size xs ys (state_after_drawing size st x) h.1 k)

-- the second part of drawings that suit
pub suit_after : (size : Size) (xs ys : List Drawing) (st : SurfaceState) → AllSuit size st (xs ++ ys) → AllSuit size (state_after_drawings size st xs) ys
suit_after size [] ys st h = h
suit_after size (x ∷ xs) ys st h = suit_after size xs ys (state_after_drawing size st x) h.1

-- and the first one
pub suit_front : (size : Size) (xs ys : List Drawing) (st : SurfaceState) → AllSuit size st (xs ++ ys) → AllSuit size st xs
suit_front size [] ys st h = tt
suit_front size (x ∷ xs) ys st h = (h.0, suit_front size xs ys (state_after_drawing size st x) h.1)

-- ---- entries

not_own : (b : Bool) → not b ≡ true → b ≡ false
not_own true h = absurd (cc h)
not_own false h = refl

no_refusal : (o : Option Refusal) → is_none o ≡ true → o ≡ None
no_refusal None h = refl
no_refusal (Some r) h = absurd (cc h)

-- a legal drawing names no slot of the board
names_none : (head : Head) (r : Reached) (by : ℕ) (d : Drawing) → refusal_of head r (Draw by d) ≡ None → names_board_slot d.shape ≡ false
names_none head r by d h =
    let tests = first_some-each (drawing_tests head.size r.state.surface d) (tests-legal head r (Draw by d) h).1.0 in
    not_own (names_board_slot d.shape) (unless-none (not (names_board_slot d.shape)) (BadDrawing 5) tests.1.0)

-- what an entry draws suits, and the board agrees after it
record EntrySuits (head : Head) (r : Reached) (e : Entry) : Type 0 where
  suits : AllSuit head.size r.state.surface (drawings_of head.size r.state.board e)
  agrees : BoardAgrees head.size (reached_after_entry head.size r e).state.surface (reached_after_entry head.size r e).state.board

entry_suits : (head : Head) (r : Reached) (e : Entry) → Sides head.size.w head.size.h → refusal_of head r e ≡ None
    → BoardAgrees head.size r.state.surface r.state.board → EntrySuits head r e
entry_suits head r (Join v role) s h a = record { suits = tt; agrees = a }
entry_suits head r (Leave v) s h a = record { suits = tt; agrees = a }
entry_suits head r (Give by to) s h a = record { suits = tt; agrees = a }
entry_suits head r (Input by event) s h a =
    let k = board_reacts head.size r.state.surface r.state.board event s a in
    record {
      suits = all_suit head.size (board_reaction head.size r.state.board event).drawings r.state.surface k.0
          (reaction_has_values head.size r.state.board event);
      agrees = k.1;
    }
entry_suits head r (Draw by d) s h a =
    let fits = FitsState-legal head r by d h in
    let range = and_parts (is_u32 by) (is_drawing_in_range d) (is_entry_in_range-legal head r (Draw by d) h) in
    record {
      suits = (record { fits = fits; values = values_in_range d.shape (and_parts (is_shape_in_range d.shape) (is_clip_in_range d.clip) range.1).0 }, tt);
      agrees = BoardAgrees-drawn head.size r.state.surface r.state.board d fits (names_none head r by d h) a;
    }

entries_suit : (head : Head) (es : List Entry) (r : Reached) → Sides head.size.w head.size.h → IsTrue (are_legal_after head r es)
    → BoardAgrees head.size r.state.surface r.state.board
    → AllSuit head.size r.state.surface (drawings_from head.size r.state.board es)
entries_suit head [] r s h a = tt
entries_suit head (e ∷ es) r s h a =
    let parts = and_parts (is_none (refusal_of head r e)) (are_legal_after head (reached_after_entry head.size r e) es) h in
    let k = entry_suits head r e s (no_refusal (refusal_of head r e) parts.0) a in
    suit_append head.size (drawings_of head.size r.state.board e) _ r.state.surface k.suits
    (entries_suit head es (reached_after_entry head.size r e) s parts.1 k.agrees)

pub journal_suits : (head : Head) (j : List Entry) → is_session_size head.size.w head.size.h ≡ true → IsLegalJournal head j
    → AllSuit head.size (opening_surface head.size) (drawings_from head.size opening_board j)
journal_suits head j sized legal = entries_suit head j (reached_at_first head.size) (sides_of head.size.w head.size.h sized) legal
    (BoardAgrees-opening head.size sized)
