-- All that a legal journal reaches is sound.
use Rattle.std.proofs.Common.{◌≡◌, ℕ, zero, suc, ◌+◌, ◌*◌, ◌≤◌, ◌<◌, List, [], ◌∷◌, ◌++◌, length, refl, ap, sym, ◌∙◌, Some, None, arith, eq-eqb}
use Rattle.std.proofs.lemmas.Bool.Decides.{nat_tests}
use Rattle.std.specs.Prelude.{⊤, IsTrue, Bool, true, false, ◌&&◌, not, ◌==◌, nat_lt, nat_le, is_none, Option, if◌then◌else◌}
use Rattle.std.proofs.lemmas.Bool.{and_from, and_parts, eqb-true}
use Rattle.px_core.specs.declared.surface.Size.{Size}
use Rattle.px_core.specs.Rectangle.{is_session_size}
use Rattle.draw_ops.specs.declared.shape.Drawing.{Drawing}
use Rattle.draw_ops.specs.Slots.{SurfaceState, opening_surface}
use Rattle.draw_ops.specs.Drawing.{state_after_drawing, state_after_drawings}
use Rattle.input_pdu.specs.declared.event.Event.{Event}
use Rattle.session_rules.specs.declared.entry.Role.{Role}
use Rattle.session_rules.specs.declared.entry.Entry.{Entry}
use Rattle.session_rules.specs.declared.entry.Entry.TheVariants.{Join, Leave, Give, Input, Draw}
use Rattle.session_rules.specs.Board.{Board, board_reaction}
use Rattle.session_rules.specs.Journal.{Head, Reached, Viewer, Refusal, unless, refusal_of, entry_tests, room_test, most_entries, most_viewers, most_joins, most_image_pixels, shape_pixels, has_role, names_board_slot, reached_at_first, reached_after_entry, reached_after, are_legal_after, IsLegalJournal, without_viewer, drawing_tests}
use Rattle.session_rules.specs.Journal.Refusal.{Unfit, RoomFull, JoinsSpent, JournalFull, BadDrawing}
use Rattle.session_rules.specs.Agreement.{BoardAgrees}
use Rattle.session_rules.proofs.OwnSteps.{AllNone, first_some-each, unless-none, tests-legal, FitsState-legal, is_none-≡}
use Rattle.session_rules.proofs.Agrees.{BoardAgrees-opening, BoardAgrees-drawn}
use Rattle.session_rules.proofs.Fitting.{sides_of}
use Rattle.session_rules.proofs.BoardReactions.{board_reacts}
use Rattle.session_rules.proofs.Few.{few}
use Rattle.session_rules.specs.Reaching.{AreNumbered, IsSoundReached}
use Rattle.session_rules.proofs.Reactions.{reaction_signs}

-- ---- numbers of drawings and of viewers

pub count_drawings : (size : Size) (st : SurfaceState) (ds : List Drawing) → (state_after_drawings size st ds).count ≡ st.count + length ds
count_drawings size st [] = omega arith
count_drawings size st (d ∷ ds) = count_drawings size (state_after_drawing size st d) ds ∙ omega arith

pub numbered_push : (low high : ℕ) (xs : List Viewer) (role : Role) → AreNumbered low xs high → AreNumbered low (xs ++ record { number = high + 1; role = role } ∷ []) (high + 1)
numbered_push low high [] role h = (omega (arith, h), omega arith)
numbered_push low high (x ∷ xs) role h = (h.0, numbered_push x.number high xs role h.1)

numbered_lower : (low lower high : ℕ) (xs : List Viewer) → lower ≤ low → AreNumbered low xs high → AreNumbered lower xs high
numbered_lower low lower high [] l h = omega (arith, l, h)
numbered_lower low lower high (x ∷ xs) l h = (omega (arith, l, h.0), h.1)

numbered_without : (low high v : ℕ) (xs : List Viewer) → AreNumbered low xs high → AreNumbered low (without_viewer v xs) high
numbered_without low high v [] h = h
numbered_without low high v (x ∷ xs) h = by (x.number == v) (numbered_without x.number high v xs h.1)
  where
    by : (t : Bool) → AreNumbered x.number (without_viewer v xs) high → AreNumbered low (if t then xs else x ∷ without_viewer v xs) high
    by true k = numbered_lower x.number low high xs (omega (arith, h.0)) h.1
    by false k = (h.0, k)

-- no more joins
no_more : (xs : List Viewer) (n : ℕ) → AreNumbered 0 xs n → AreNumbered 0 xs (n + 0)
no_more xs n h = let same : n + 0 ≡ n = omega arith in rw same h

length_without : (v : ℕ) (xs : List Viewer) → length (without_viewer v xs) ≤ length xs
length_without v [] = omega arith
length_without v (x ∷ xs) = by (x.number == v) (length_without v xs)
  where
    by : (t : Bool) → length (without_viewer v xs) ≤ length xs → length (if t then xs else x ∷ without_viewer v xs) ≤ suc (length xs)
    by true k = omega arith
    by false k = omega (arith, k)

-- ---- the limits of a legal entry

room_left : (r : Reached) → room_test r ≡ None → r.limited < 1048576
room_left r h = let t = unless-none (nat_lt r.limited most_entries) JournalFull h in grind (arith, nat_tests, t)

names_none : (size : Size) (st : SurfaceState) (d : Drawing) → AllNone (drawing_tests size st d) → names_board_slot d.shape ≡ false
names_none size st d h = by (names_board_slot d.shape) (unless-none (not (names_board_slot d.shape)) (BadDrawing 5) h.1.0)
  where
    by : (t : Bool) → not t ≡ true → t ≡ false
    by true k = absurd (cc k)
    by false k = refl

-- a legal drawing names no slot of the board
pub names_none-legal : (head : Head) (r : Reached) (by : ℕ) (d : Drawing) → refusal_of head r (Draw by d) ≡ None → names_board_slot d.shape ≡ false
names_none-legal head r by d h = names_none head.size r.state.surface d (first_some-each (drawing_tests head.size r.state.surface d) (tests-legal head r (Draw by d) h).1.0)

-- ---- one entry

pub sound_after : (head : Head) (r : Reached) (e : Entry) → is_session_size head.size.w head.size.h ≡ true → IsSoundReached head.size r → refusal_of head r e ≡ None
    → IsSoundReached head.size (reached_after_entry head.size r e)
sound_after head r (Join v role) size h legal =
    let tests = tests-legal head r (Join v role) legal in
    let named = and_parts (has_role role head.rows) (v == r.joins + 1) (unless-none _ Unfit tests.0) in
    let is : v ≡ r.joins + 1 = eqb-true v (r.joins + 1) named.1 in
    let room : nat_lt (length r.viewers) most_viewers ≡ true = unless-none _ RoomFull tests.1.0 in
    let joins : nat_lt r.joins most_joins ≡ true = unless-none _ JoinsSpent tests.1.1.0 in
    rw is (record {
      agrees = h.agrees;
      numbered = numbered_push 0 r.joins r.viewers role h.numbered;
      few_viewers = grind (arith, nat_tests, room, length_push r.viewers (record { number = r.joins + 1; role = role }));
      few_joins = grind (arith, nat_tests, joins);
      few_entries = omega (arith, h.few_entries);
      few_pixels = omega (arith, h.few_pixels);
      few_signs = omega (arith, h.few_signs);
      few_drawings = omega (arith, h.few_drawings);
    })
  where
    length_push : (xs : List Viewer) (x : Viewer) → length (xs ++ x ∷ []) ≡ suc (length xs)
    length_push [] x = refl
    length_push (y ∷ ys) x = ap suc (length_push ys x)
sound_after head r (Leave v) size h legal = record {
  agrees = h.agrees;
  numbered = no_more (without_viewer v r.viewers) r.joins (numbered_without 0 r.joins v r.viewers h.numbered);
  few_viewers = omega (arith, h.few_viewers, length_without v r.viewers);
  few_joins = omega (arith, h.few_joins);
  few_entries = omega (arith, h.few_entries);
  few_pixels = omega (arith, h.few_pixels);
  few_signs = omega (arith, h.few_signs);
  few_drawings = omega (arith, h.few_drawings);
}
sound_after head r (Give by to) size h legal =
    let room = room_left r (tests-legal head r (Give by to) legal).1.0 in
    record {
      agrees = h.agrees;
      numbered = no_more r.viewers r.joins h.numbered;
      few_viewers = h.few_viewers;
      few_joins = omega (arith, h.few_joins);
      few_entries = omega (arith, room);
      few_pixels = omega (arith, h.few_pixels);
      few_signs = omega (arith, h.few_signs);
      few_drawings = omega (arith, h.few_drawings);
    }
sound_after head r (Input by e) size h legal =
    let room = room_left r (tests-legal head r (Input by e) legal).1.1.0 in
    let reacts = board_reacts head.size r.state.surface r.state.board e (sides_of head.size.w head.size.h size) h.agrees in
    record {
      agrees = reacts.1;
      numbered = no_more r.viewers r.joins h.numbered;
      few_viewers = h.few_viewers;
      few_joins = omega (arith, h.few_joins);
      few_entries = omega (arith, room);
      few_pixels = omega (arith, h.few_pixels);
      few_signs = omega (arith, h.few_signs, reaction_signs head.size r.state.board e);
      few_drawings = omega (arith, h.few_drawings, few head.size r.state.board e, count_drawings head.size r.state.surface (board_reaction head.size r.state.board e).drawings);
    }
sound_after head r (Draw by d) size h legal =
    let tests = tests-legal head r (Draw by d) legal in
    let room = room_left r tests.1.1.0 in
    let pixels : nat_le (r.image_pixels + shape_pixels d.shape) most_image_pixels ≡ true = unless-none _ JournalFull tests.1.1.1.0 in
    record {
      agrees = BoardAgrees-drawn head.size r.state.surface r.state.board d (FitsState-legal head r by d legal) (names_none-legal head r by d legal) h.agrees;
      numbered = no_more r.viewers r.joins h.numbered;
      few_viewers = h.few_viewers;
      few_joins = omega (arith, h.few_joins);
      few_entries = omega (arith, room);
      few_pixels = grind (arith, nat_tests, pixels);
      few_signs = omega (arith, h.few_signs);
      few_drawings = omega (arith, h.few_drawings);
    }

-- ---- whole journals

pub sound_at_first : (size : Size) → is_session_size size.w size.h ≡ true → IsSoundReached size (reached_at_first size)
sound_at_first size h = record {
  agrees = BoardAgrees-opening size h;
  numbered = omega arith;
  few_viewers = omega arith;
  few_joins = omega arith;
  few_entries = omega arith;
  few_pixels = omega arith;
  few_signs = omega arith;
  few_drawings = omega arith;
}

sound_from : (head : Head) (r : Reached) (es : List Entry) → is_session_size head.size.w head.size.h ≡ true → IsSoundReached head.size r → IsTrue (are_legal_after head r es)
    → IsSoundReached head.size (reached_after head.size r es)
sound_from head r [] size h legal = h
sound_from head r (e ∷ es) size h legal =
    let k = and_parts (is_none (refusal_of head r e)) (are_legal_after head (reached_after_entry head.size r e) es) legal in
    sound_from head (reached_after_entry head.size r e) es size (sound_after head r e size h (is_none-≡ (refusal_of head r e) k.0)) k.1

-- all that a legal journal reaches is sound
pub sound_reached : (head : Head) (j : List Entry) → is_session_size head.size.w head.size.h ≡ true → IsLegalJournal head j
    → IsSoundReached head.size (reached_after head.size (reached_at_first head.size) j)
sound_reached head j size legal = sound_from head (reached_at_first head.size) j size (sound_at_first head.size size) legal
