-- Entries in their places: what is kept of each, and how many drawings stand before it.
use Rattle.std.proofs.Common.{◌≡◌, ℕ, zero, suc, ◌+◌, ◌≤◌, ◌<◌, List, [], ◌∷◌, ◌++◌, length, take, refl, ap, sym, ◌∙◌, Some, None, arith, length-append}
use Rattle.std.specs.Prelude.{slice_get, slice_index_or}
use Rattle.px_core.specs.declared.surface.Size.{Size}
use Rattle.draw_ops.specs.declared.shape.Drawing.{Drawing}
use Rattle.draw_ops.specs.Slots.{SurfaceState}
use Rattle.draw_ops.specs.Drawing.{state_after_drawing, state_after_drawings}
use Rattle.session_rules.specs.declared.entry.Entry.{Entry}
use Rattle.session_rules.specs.Journal.{State, opening_state, drawings_of, state_after_entry, state_after}
use Rattle.session_rules.specs.Pending.{pending_drawings, pending_from, pending_between}
use Rattle.session_rules.proofs.Sound.{count_drawings}
use Rattle.session_core.specs.declared.kept.Kept.{Kept}
use Rattle.session_core.specs.Keeping.{journal_of, IsKept, AllKept}
use Rattle.session_core.proofs.Sessions.{states, states_reached}

pub length_pending : (size : Size) (st : SurfaceState) (ds : List Drawing) → length (pending_drawings size st ds) ≡ length ds
length_pending size st [] = refl
length_pending size st (d ∷ ds) = ap suc (length_pending size (state_after_drawing size st d) ds)

-- drawings are counted
count_from : (size : Size) (st : State) (es : List Entry) → st.surface.count + length (pending_from size st es) ≡ (states size st es).surface.count
count_from size st [] = omega arith
count_from size st (e ∷ es) =
    let ds = drawings_of size st.board e in
    let here : length (pending_drawings size st.surface ds) ≡ length ds = length_pending size st.surface ds in
    let after : (state_after_drawings size st.surface ds).count ≡ st.surface.count + length ds = count_drawings size st.surface ds in
    let rest = count_from size (state_after_entry size st e) es in
    let both : length (pending_drawings size st.surface ds ++ pending_from size (state_after_entry size st e) es)
    ≡ length (pending_drawings size st.surface ds) + length (pending_from size (state_after_entry size st e) es) = length-append _ _ in
    omega (arith, here, after, rest, both)

-- so many drawings stand before an entry
pub count_before : (size : Size) (j : List Entry) (k : ℕ) → length (pending_between size j 0 k) ≡ (state_after size j k).surface.count
count_before size j k = let all = count_from size (opening_state size) (take k j) in omega (arith, all) ∙ sym (ap (λ st. st.surface.count) (states_reached size _ (take k j)))

journal_front : (k : ℕ) (ks : List Kept) → journal_of (take k ks) ≡ take k (journal_of ks)
journal_front zero ks = refl
journal_front (suc k) [] = refl
journal_front (suc k) (x ∷ xs) = ap (λ es. x.entry ∷ es) (journal_front k xs)

kept_from : (size : Size) (st : State) (ks : List Kept) (k : ℕ) (x : Kept) → AllKept size st ks → slice_get ks k ≡ Some x → IsKept size (states size st (journal_of (take k ks))) x
kept_from size st [] k x h g = absurd (cc g)
kept_from size st (y ∷ ys) zero x h g = let same : y ≡ x = cc g in rw (← same) h.0
kept_from size st (y ∷ ys) (suc k) x h g = kept_from size (state_after_entry size st y.entry) ys k x h.1 g

-- what is kept of the entry behind so many
pub kept_at : (size : Size) (ks : List Kept) (k : ℕ) (x : Kept) → AllKept size (opening_state size) ks → slice_get ks k ≡ Some x → IsKept size (state_after size (journal_of ks) k) x
kept_at size ks k x h g = rw (states_reached size _ (take k (journal_of ks)), ← journal_front k ks) (kept_from size (opening_state size) ks k x h g)

pub entry_at : (ks : List Kept) (k : ℕ) (x : Kept) → slice_get ks k ≡ Some x → slice_get (journal_of ks) k ≡ Some x.entry
entry_at [] k x g = absurd (cc g)
entry_at (y ∷ ys) zero x g = let same : y ≡ x = cc g in ap (λ z. Some z.entry) same
entry_at (y ∷ ys) (suc k) x g = entry_at ys k x g

pub length_journal : (ks : List Kept) → length (journal_of ks) ≡ length ks
length_journal [] = refl
length_journal (k ∷ ks) = ap suc (length_journal ks)

-- past the last entry there is none
pub none_past : {A : Type 0} (xs : List A) (k : ℕ) → slice_get xs k ≡ None → length xs ≤ k
none_past [] k h = omega arith
none_past (x ∷ xs) zero h = absurd (cc h)
none_past (x ∷ xs) (suc k) h = omega (arith, none_past xs k h)

-- an element by its index
pub item_at : {A : Type 0} (xs : List A) (k : ℕ) (x : A) → k < length xs → x ≡ slice_index_or xs k x → slice_get xs k ≡ Some x
item_at [] k x l h = absurd (omega (arith, l))
item_at (y ∷ ys) zero x l h = ap Some (sym h)
item_at (y ∷ ys) (suc k) x l h = item_at ys k x (omega (arith, l)) h
