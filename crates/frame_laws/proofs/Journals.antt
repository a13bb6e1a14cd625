-- Each state of a legal journal is sound, and so is each that its drawings find on their way.
use Rattle.std.proofs.Common.{◌≡◌, ℕ, zero, suc, ◌+◌, ◌≤◌, List, [], ◌∷◌, ◌++◌, length, take, drop, refl, ap, sym, ◌∙◌, subst, arith, append_assoc}
use Rattle.std.specs.Prelude.{true}
use Rattle.px_core.specs.declared.surface.Size.{Size}
use Rattle.px_core.specs.Picture.{pixel_count}
use Rattle.px_core.specs.Rectangle.{is_session_size}
use Rattle.draw_ops.specs.declared.shape.Drawing.{Drawing}
use Rattle.draw_ops.specs.Slots.{SurfaceState, opening_surface}
use Rattle.draw_ops.specs.Drawing.{state_after_drawing, state_after_drawings}
use Rattle.session_rules.specs.declared.entry.Entry.{Entry}
use Rattle.session_rules.specs.Board.{opening_board}
use Rattle.session_rules.specs.Journal.{Head, State, opening_state, drawings_of, state_after_entry, state_after, reached_at_first, IsLegalJournal}
use Rattle.frame_rules.specs.Describes.{drawings_from}
use Rattle.session_rules.proofs.Agrees.{BoardAgrees-opening}
use Rattle.frame_laws.specs.SoundState.{IsSound}
use Rattle.frame_laws.specs.Drawings.{AllSuit, AllSound, drawings_between}
use Rattle.frame_laws.proofs.Colored.{colors_black}
use Rattle.frame_laws.proofs.SoundSlots.{none_held}
use Rattle.frame_laws.proofs.SoundAfter.{all_sound, last_sound}
use Rattle.frame_laws.proofs.JournalSuits.{suit_after, suit_front, journal_suits}
use Rattle.frame_laws.proofs.Entries.{state_from, surface_is, reached_is, cut_again}

drawings_from-append : (size : Size) (xs ys : List Entry) (st : State) → drawings_from size st.board (xs ++ ys) ≡ drawings_from size st.board xs
    ++ drawings_from size (state_from size st xs).board ys
drawings_from-append size [] ys st = refl
drawings_from-append size (x ∷ xs) ys st =
    ap (λ ds. drawings_of size st.board x ++ ds) (drawings_from-append size xs ys (state_after_entry size st x))
    ∙ sym (append_assoc (drawings_of size st.board x) _ _)

counted : (size : Size) (ds : List Drawing) (st : SurfaceState) → (state_after_drawings size st ds).count ≡ st.count + length ds
counted size [] st = omega arith
counted size (d ∷ ds) st = let more = counted size ds (state_after_drawing size st d) in omega (arith, more)

whole_again : {A : Type 0} (n : ℕ) (xs : List A) → xs ≡ take n xs ++ drop n xs
whole_again zero xs = refl
whole_again (suc n) [] = refl
whole_again (suc n) (x ∷ xs) = ap (λ ys. x ∷ ys) (whole_again n xs)

-- a state that drawings find, or that the last one leaves
pub first_sound : (size : Size) (j : List Entry) (ds : List Drawing) (st : SurfaceState) → AllSound size j st ds → IsSound size j st
first_sound size j [] st h = h
first_sound size j (d ∷ ds) st h = h.0

module _ (head : Head) (j : List Entry) (sized : is_session_size head.size.w head.size.h ≡ true) (legal : IsLegalJournal head j) where
  opening_sound : IsSound head.size j (opening_surface head.size)
  opening_sound = record {
    sized = (BoardAgrees-opening head.size sized).sized;
    colors = colors_black (pixel_count head.size);
    images = λ slot image e. none_held 256 slot image e;
    brushes = λ slot brush e. none_held 64 slot brush e;
    glyphs = λ slot glyph e. none_held 1024 slot glyph e;
    blocks = λ slot block e. none_held 16 slot block e;
  }

  -- each drawing between two numbers suits the sound state that it finds
  pub between_sound : (before number : ℕ) → before ≤ number → AllSound head.size j (state_after head.size j before).surface
      (drawings_between head.size j before number)
  between_sound before number up =
      let size = head.size in
      let o : State = opening_state size in
      let A = take before j in
      let B = drop before (take number j) in
      let C = drop number j in
      let sa : State = state_from size o A in
      let sb : State = state_from size sa B in
      let DA : List Drawing = drawings_from size opening_board A in
      let DB : List Drawing = drawings_from size sa.board B in
      let DC : List Drawing = drawings_from size sb.board C in
      let parts : j ≡ A ++ (B ++ C) = whole_again number j ∙ (ap (λ xs. xs ++ C) (cut_again before number j up) ∙ append_assoc A B C) in
      let whole : drawings_from size opening_board j ≡ DA ++ (DB ++ DC) =
      ap (drawings_from size opening_board) parts ∙ (drawings_from-append size A (B ++ C) o ∙ ap (λ ds. DA ++ ds) (drawings_from-append size B C sa)) in
      let suits : AllSuit size (opening_surface size) (DA ++ (DB ++ DC)) =
      subst (AllSuit size (opening_surface size)) whole (journal_suits head j sized legal) in
      let st : SurfaceState = state_after_drawings size (opening_surface size) DA in
      let first = all_sound size j DA (opening_surface size) opening_sound (suit_front size DA (DB ++ DC) (opening_surface size) suits)
      (record { front = []; more = DB ++ DC; whole = whole; at = refl }) in
      let sound : IsSound size j st = last_sound size j DA (opening_surface size) first in
      let number_is : length DA ≡ st.count = let n = counted size DA (opening_surface size) in omega (arith, n) in
      let over : AllSound size j st DB = all_sound size j DB st sound (suit_front size DB DC st (suit_after size DA (DB ++ DC) (opening_surface size) suits))
      (record { front = DA; more = DC; whole = whole; at = number_is }) in
      let same : sa ≡ state_after size j before = sym (reached_is size A (reached_at_first size)) in
      let surface : st ≡ sa.surface = sym (surface_is size A o) in
      let over_sa : AllSound size j sa.surface DB = subst (λ (s : SurfaceState). AllSound size j s DB) surface over in
      subst (λ (s : State). AllSound size j s.surface (drawings_from size s.board B)) same over_sa

  -- each state is sound
  pub state_sound : (n : ℕ) → IsSound head.size j (state_after head.size j n).surface
  state_sound n = first_sound head.size j (drawings_between head.size j n n) (state_after head.size j n).surface (between_sound n n (omega arith))
