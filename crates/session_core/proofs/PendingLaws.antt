-- The pending drawings of one entry, and of entries after entries.
use Rattle.std.proofs.Common.{◌≡◌, ℕ, zero, suc, ◌+◌, ◌≤◌, ◌<◌, List, [], ◌∷◌, ◌++◌, length, take, drop, refl, ap, sym, subst, ◌∙◌, Some, arith, append_assoc}
use Rattle.std.specs.Prelude.{IsTrue, ◌-◌, ◌^◌, slice_get}
use Rattle.px_core.specs.declared.surface.Size.{Size}
use Rattle.px_core.specs.Rectangle.{is_session_size}
use Rattle.draw_ops.specs.declared.shape.Drawing.{Drawing}
use Rattle.draw_ops.specs.Slots.{SurfaceState}
use Rattle.input_pdu.specs.declared.event.Event.{Event}
use Rattle.session_rules.specs.declared.entry.Entry.{Entry}
use Rattle.session_rules.specs.declared.entry.Entry.TheVariants.{Input}
use Rattle.session_rules.specs.Board.{Board}
use Rattle.session_rules.specs.Journal.{Head, State, drawings_of, state_after_entry, state_after, reached_at_first, IsLegalJournal}
use Rattle.session_rules.proofs.Journals.{IsLegalJournal-front}
use Rattle.session_rules.specs.Pending.{pending_drawings, pending_from, pending_between}
use Rattle.session_rules.proofs.Sound.{sound_reached}
use Rattle.session_core.specs.declared.shown.Shown.{Shown}
use Rattle.session_core.specs.declared.shown.ShownList.{ShownList}
use Rattle.session_core.specs.declared.shown.ShownList.TheVariants.{Nothing, One, Plain, Reaction}
use Rattle.session_core.specs.Showing.{all_shown}
use Rattle.session_core.specs.Keeping.{IsBoardKept}
use Rattle.session_core.specs.Putting.{drawings_made, IsBoardReady}
use Rattle.session_core.proofs.Counted.{length_pending}
use Rattle.session_core.proofs.Sessions.{states, states_reached}

append_nil : {A : Type 0} (xs : List A) → xs ++ [] ≡ xs
append_nil [] = refl
append_nil (x ∷ xs) = ap (λ ys. x ∷ ys) (append_nil xs)

one_entry : (j : List Entry) (k : ℕ) (e : Entry) → slice_get j k ≡ Some e → drop k (take (k + 1) j) ≡ e ∷ []
one_entry [] k e h = absurd (cc h)
one_entry (x ∷ xs) zero e h = let same : x ≡ e = cc h in ap (λ y. y ∷ []) same
one_entry (x ∷ xs) (suc k) e h = let one : suc k + 1 ≡ suc (k + 1) = omega arith in rw one (one_entry xs k e h)

-- the pending drawings of one entry
pub pending_here : (size : Size) (j : List Entry) (k : ℕ) (e : Entry) → slice_get j k ≡ Some e
    → pending_between size j k (k + 1) ≡ pending_drawings size (state_after size j k).surface (drawings_of size (state_after size j k).board e)
pending_here size j k e h = ap (pending_from size (state_after size j k)) (one_entry j k e h) ∙ append_nil _

-- ---- entries after entries

pending_append : (size : Size) (st : State) (xs ys : List Entry) → pending_from size st (xs ++ ys) ≡ pending_from size st xs ++ pending_from size (states size st xs) ys
pending_append size st [] ys = refl
pending_append size st (x ∷ xs) ys = ap (λ ps. pending_drawings size st.surface (drawings_of size st.board x) ++ ps) (pending_append size (state_after_entry size st x) xs ys)
    ∙ sym (append_assoc (pending_drawings size st.surface (drawings_of size st.board x)) _ _)

states_append : (size : Size) (st : State) (xs ys : List Entry) → states size st (xs ++ ys) ≡ states size (states size st xs) ys
states_append size st [] ys = refl
states_append size st (x ∷ xs) ys = states_append size (state_after_entry size st x) xs ys

cut_between : (a b c : ℕ) (j : List Entry) → a ≤ b → b ≤ c → drop a (take c j) ≡ drop a (take b j) ++ drop b (take c j)
cut_between zero zero c j h g = refl
cut_between zero (suc b) zero j h g = absurd (omega (arith, g))
cut_between zero (suc b) (suc c) [] h g = refl
cut_between zero (suc b) (suc c) (x ∷ xs) h g = ap (λ ys. x ∷ ys) (cut_between zero b c xs (omega arith) (omega (arith, g)))
cut_between (suc a) zero c j h g = absurd (omega (arith, h))
cut_between (suc a) (suc b) zero j h g = absurd (omega (arith, g))
cut_between (suc a) (suc b) (suc c) [] h g = refl
cut_between (suc a) (suc b) (suc c) (x ∷ xs) h g = cut_between a b c xs (omega (arith, h)) (omega (arith, g))

cut_at : (a b : ℕ) (j : List Entry) → a ≤ b → take b j ≡ take a j ++ drop a (take b j)
cut_at zero b j h = refl
cut_at (suc a) zero j h = absurd (omega (arith, h))
cut_at (suc a) (suc b) [] h = refl
cut_at (suc a) (suc b) (x ∷ xs) h = ap (λ ys. x ∷ ys) (cut_at a b xs (omega (arith, h)))

states_between : (size : Size) (j : List Entry) (a b : ℕ) → a ≤ b → state_after size j b ≡ states size (state_after size j a) (drop a (take b j))
states_between size j a b h =
    states_reached size (reached_at_first size) (take b j)
    ∙ ap (states size (reached_at_first size).state) (cut_at a b j h)
    ∙ states_append size (reached_at_first size).state (take a j) (drop a (take b j))
    ∙ ap (λ st. states size st (drop a (take b j))) (sym (states_reached size (reached_at_first size) (take a j)))

-- the pending drawings between two places are those up to a place between, and those from it on
pub pending_goes_on : (size : Size) (j : List Entry) (a b c : ℕ) → a ≤ b → b ≤ c → pending_between size j a c ≡ pending_between size j a b ++ pending_between size j b c
pending_goes_on size j a b c h g =
    ap (pending_from size (state_after size j a)) (cut_between a b c j h g)
    ∙ pending_append size (state_after size j a) (drop a (take b j)) (drop b (take c j))
    ∙ ap (λ st. pending_from size (state_after size j a) (drop a (take b j)) ++ pending_from size st (drop b (take c j))) (sym (states_between size j a b h))

-- ---- what is kept of an entry's drawings

length_shown : (ds : List Drawing) (ss : List Shown) → length (all_shown ds ss) ≤ length ss
length_shown [] ss = omega arith
length_shown (d ∷ ds) [] = omega arith
length_shown (d ∷ ds) (s ∷ ss) = omega (arith, length_shown ds ss)

-- enough is kept
pub enough : (size : Size) (st : SurfaceState) (ds : List Drawing) (ss : List Shown) → all_shown ds ss ≡ pending_drawings size st ds → length ds ≤ length ss
enough size st ds ss h = omega (arith, length_shown ds ss, ap length h, length_pending size st ds)

-- of what is kept with an input the same drawings are made again
pub made_again : (size : Size) (b : Board) (by : ℕ) (e : Event) (kept : ShownList) → IsBoardKept size b (Input by e) kept → drawings_made size kept e ≡ drawings_of size b (Input by e)
made_again size b by e Nothing h = sym h
made_again size b by e (One shown) h = absurd h
made_again size b by e (Plain board) h = h.drawings
made_again size b by e (Reaction found) h = h.drawings

whole : (k : ℕ) (j : List Entry) → j ≡ take k j ++ drop k j
whole zero j = refl
whole (suc k) [] = refl
whole (suc k) (x ∷ xs) = ap (λ ys. x ∷ ys) (whole k xs)

few_signs : (head : Head) (j : List Entry) (k : ℕ) → IsTrue (is_session_size head.size.w head.size.h) → IsLegalJournal head j → (state_after head.size j k).board.signs < 2 ^ 32 - 1
few_signs head j k size legal =
    let front : IsLegalJournal head (take k j) = IsLegalJournal-front head (take k j) (drop k j) (subst (IsLegalJournal head) (whole k j) legal) in
    let sound = sound_reached head (take k j) size front in
    omega (arith, sound.few_signs, sound.few_entries)

-- and it counts its signs in its numbers' range
pub is_ready : (head : Head) (j : List Entry) (k by : ℕ) (e : Event) (kept : ShownList) → IsTrue (is_session_size head.size.w head.size.h) → IsLegalJournal head j
    → IsBoardKept head.size (state_after head.size j k).board (Input by e) kept → IsBoardReady kept
is_ready head j k by e Nothing size legal h = tt
is_ready head j k by e (One shown) size legal h = tt
is_ready head j k by e (Plain board) size legal h = omega (arith, h.signs, few_signs head j k size legal)
is_ready head j k by e (Reaction found) size legal h = omega (arith, h.signs, few_signs head j k size legal)
