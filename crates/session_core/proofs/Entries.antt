-- The marks of a journal with one more entry.
use Rattle.std.proofs.Common.{◌≡◌, ℕ, zero, suc, ◌+◌, ◌≤◌, ◌≢◌, List, [], ◌∷◌, ◌++◌, length, take, drop, refl, ap, sym, ◌∙◌, arith, ⊎_elim, append_assoc}
use Rattle.std.specs.Prelude.{Bool, true, false, ◌||◌, nat_lt, if◌then◌else◌}
use Rattle.std.proofs.lemmas.List.{append-nil, take_all}
use Rattle.std.proofs.lemmas.Bool.{lt-ltb, le-ltb, ltb-false, cases_eq}
use Rattle.px_core.specs.declared.surface.Size.{Size}
use Rattle.px_core.specs.Rectangle.{clipped}
use Rattle.px_core.specs.Tiles.{tiles_of}
use Rattle.session_rules.specs.declared.entry.Entry.{Entry}
use Rattle.session_rules.specs.Journal.{State, Reached, drawings_of, state_after_entry, state_after, reached_at_first, reached_after, reached_after_entry}
use Rattle.session_rules.specs.Pending.{Pending, pending_drawings, pending_from, pending_between}
use Rattle.session_core.specs.Touching.{touched_by, saves_into, saved_by}
use Rattle.session_core.specs.Marking.{Marked, marks_in, noted, past, AreNoted, AreMarked}

-- ---- drawings after drawings

either_assoc : (a b c : Bool) → (a || (b || c)) ≡ ((a || b) || c)
either_assoc true b c = refl
either_assoc false b c = refl

pub touched_append : (size : Size) (ps qs : List Pending) (t : ℕ) → touched_by size (ps ++ qs) t ≡ (touched_by size ps t || touched_by size qs t)
touched_append size [] qs t = refl
touched_append size (p ∷ ps) qs t = ap (λ b. tiles_of size (clipped p.rect p.drawing.clip) t || b) (touched_append size ps qs t)
    ∙ either_assoc (tiles_of size (clipped p.rect p.drawing.clip) t) (touched_by size ps t) (touched_by size qs t)

pub saved_append : (ps qs : List Pending) (n : ℕ) → saved_by (ps ++ qs) n ≡ (saved_by ps n || saved_by qs n)
saved_append [] qs n = refl
saved_append (p ∷ ps) qs n = ap (λ b. saves_into p.drawing.shape n || b) (saved_append ps qs n) ∙ either_assoc (saves_into p.drawing.shape n) (saved_by ps n) (saved_by qs n)

-- ---- the pending drawings of a journal with one more entry

-- the state after entries
abbrev states : Size → State → List Entry → State
states size st [] = st
states size st (e ∷ es) = states size (state_after_entry size st e) es

states_reached : (size : Size) (r : Reached) (es : List Entry) → (reached_after size r es).state ≡ states size r.state es
states_reached size r [] = refl
states_reached size r (e ∷ es) = states_reached size (reached_after_entry size r e) es

states_append : (size : Size) (st : State) (xs ys : List Entry) → states size st (xs ++ ys) ≡ states size (states size st xs) ys
states_append size st [] ys = refl
states_append size st (x ∷ xs) ys = states_append size (state_after_entry size st x) xs ys

pending_last : (size : Size) (st : State) (xs : List Entry) (e : Entry)
    → pending_from size st (xs ++ e ∷ []) ≡ pending_from size st xs ++ pending_drawings size (states size st xs).surface (drawings_of size (states size st xs).board e)
pending_last size st [] e = append-nil _
pending_last size st (x ∷ xs) e = ap (λ ps. pending_drawings size st.surface (drawings_of size st.board x) ++ ps) (pending_last size (state_after_entry size st x) xs e)
    ∙ sym (append_assoc (pending_drawings size st.surface (drawings_of size st.board x)) _ _)

take_front : (k : ℕ) (j : List Entry) (e : Entry) → k ≤ length j → take k (j ++ e ∷ []) ≡ take k j
take_front zero j e h = refl
take_front (suc k) [] e h = absurd (omega (arith, h))
take_front (suc k) (x ∷ xs) e h = ap (λ ys. x ∷ ys) (take_front k xs e (omega (arith, h)))

drop_front : (k : ℕ) (j : List Entry) (e : Entry) → k ≤ length j → drop k (j ++ e ∷ []) ≡ drop k j ++ e ∷ []
drop_front zero j e h = refl
drop_front (suc k) [] e h = absurd (omega (arith, h))
drop_front (suc k) (x ∷ xs) e h = drop_front k xs e (omega (arith, h))

drop_all : (k : ℕ) (j : List Entry) → length j ≤ k → drop k j ≡ []
drop_all zero [] h = refl
drop_all zero (x ∷ xs) h = absurd (omega (arith, h))
drop_all (suc k) [] h = refl
drop_all (suc k) (x ∷ xs) h = drop_all k xs (omega (arith, h))

cut : (k : ℕ) (j : List Entry) → j ≡ take k j ++ drop k j
cut zero j = refl
cut (suc k) [] = refl
cut (suc k) (x ∷ xs) = ap (λ ys. x ∷ ys) (cut k xs)

pub length_push : (j : List Entry) (e : Entry) → length (j ++ e ∷ []) ≡ length j + 1
length_push [] e = refl
length_push (x ∷ xs) e = ap suc (length_push xs e) ∙ omega arith

-- what is pending behind a front of a journal, to its end
to_end : (size : Size) (j : List Entry) (before : ℕ) → pending_between size j before (length j) ≡ pending_from size (state_after size j before) (drop before j)
to_end size j before = ap (λ es. pending_from size (state_after size j before) (drop before es)) (take_all (length j) j (omega arith))

-- the drawings of an entry behind a journal
abbrev pub drawings_behind : Size → List Entry → Entry → List Pending
drawings_behind size j e =
    pending_drawings size (reached_after size (reached_at_first size) j).state.surface (drawings_of size (reached_after size (reached_at_first size) j).state.board e)

state_front : (size : Size) (j : List Entry) (e : Entry) (before : ℕ) → before ≤ length j → state_after size (j ++ e ∷ []) before ≡ state_after size j before
state_front size j e before h = ap (λ es. (reached_after size (reached_at_first size) es).state) (take_front before j e h)

state_on : (size : Size) (j : List Entry) (before : ℕ) → states size (state_after size j before) (drop before j) ≡ (reached_after size (reached_at_first size) j).state
state_on size j before =
    let first = (reached_at_first size).state in
    ap (λ st. states size st (drop before j)) (states_reached size (reached_at_first size) (take before j))
    ∙ (sym (states_append size first (take before j) (drop before j)) ∙ (ap (states size first) (sym (cut before j)) ∙ sym (states_reached size (reached_at_first size) j)))

pub pending_push : (size : Size) (j : List Entry) (e : Entry) (before : ℕ) → before ≤ length j
    → pending_between size (j ++ e ∷ []) before (length (j ++ e ∷ [])) ≡ pending_between size j before (length j) ++ drawings_behind size j e
pending_push size j e before h =
    let st = state_after size j before in
    to_end size (j ++ e ∷ []) before
    ∙ (ap (λ s. pending_from size s (drop before (j ++ e ∷ []))) (state_front size j e before h)
    ∙ (ap (pending_from size st) (drop_front before j e h)
    ∙ (pending_last size st (drop before j) e
    ∙ (ap (λ s. pending_from size st (drop before j) ++ pending_drawings size s.surface (drawings_of size s.board e)) (state_on size j before)
    ∙ ap (λ ps. ps ++ drawings_behind size j e) (sym (to_end size j before))))))

pub pending_end : (size : Size) (j : List Entry) (before : ℕ) → length j ≤ before → pending_between size j before (length j) ≡ []
pending_end size j before h = to_end size j before ∙ ap (pending_from size (state_after size j before)) (drop_all before j h)

-- ---- marks

at_most : (a b : ℕ) → false ≡ nat_lt a b → b ≤ a
at_most a b h = ltb-false a b (sym h)

-- one more entry marks what its drawings touch by its number
more_past : (before n old : ℕ) (was now : Bool) → before ≤ n → was ≡ nat_lt before old → (was || now) ≡ nat_lt before (if now then n + 1 else old)
more_past before n old true true h e = sym (lt-ltb before (n + 1) (omega (arith, h)))
more_past before n old false true h e = sym (lt-ltb before (n + 1) (omega (arith, h)))
more_past before n old true false h e = e
more_past before n old false false h e = e

-- and no mark is behind it
none_past : (n old : ℕ) (now : Bool) → old ≤ n → false ≡ nat_lt (n + 1) (if now then n + 1 else old)
none_past n old true h = sym (le-ltb (n + 1) (n + 1) (omega arith))
none_past n old false h = sym (le-ltb (n + 1) old (omega (arith, h)))

module _ (size : Size) (j : List Entry) (e : Entry) (old new : Marked) (h : AreMarked size j old) (more : AreNoted size (drawings_behind size j e) (length j + 1) old new) where
  old_tile : (t : ℕ) → marks_in old.tiles t ≤ length j
  old_tile t = at_most (length j) (marks_in old.tiles t)
      (sym (ap (λ ps. touched_by size ps t) (pending_end size j (length j) (omega arith))) ∙ h.tiles (length j) t (omega arith))

  old_slot : (t : ℕ) → marks_in old.slots t ≤ length j
  old_slot t = at_most (length j) (marks_in old.slots t)
      (sym (ap (λ ps. saved_by ps t) (pending_end size j (length j) (omega arith))) ∙ h.slots (length j) t (omega arith))

  new_tile : (t : ℕ) → marks_in new.tiles t ≡ noted (touched_by size (drawings_behind size j e)) (length j + 1) (marks_in old.tiles) t
  new_tile t = ap (λ f. f t) more.tiles

  new_slot : (t : ℕ) → marks_in new.slots t ≡ noted (saved_by (drawings_behind size j e)) (length j + 1) (marks_in old.slots) t
  new_slot t = ap (λ f. f t) more.slots

  -- a front that has all but the new entry, or less
  tile_here : (before t : ℕ) → before ≤ length j → touched_by size (pending_between size (j ++ e ∷ []) before (length (j ++ e ∷ []))) t ≡ past before new.tiles t
  tile_here before t low =
      ap (λ ps. touched_by size ps t) (pending_push size j e before low)
      ∙ (touched_append size (pending_between size j before (length j)) (drawings_behind size j e) t
      ∙ (more_past before (length j) (marks_in old.tiles t) (touched_by size (pending_between size j before (length j)) t) (touched_by size (drawings_behind size j e) t) low (h.tiles before t low)
      ∙ ap (nat_lt before) (sym (new_tile t))))

  slot_here : (before t : ℕ) → before ≤ length j → saved_by (pending_between size (j ++ e ∷ []) before (length (j ++ e ∷ []))) t ≡ past before new.slots t
  slot_here before t low =
      ap (λ ps. saved_by ps t) (pending_push size j e before low)
      ∙ (saved_append (pending_between size j before (length j)) (drawings_behind size j e) t
      ∙ (more_past before (length j) (marks_in old.slots t) (saved_by (pending_between size j before (length j)) t) (saved_by (drawings_behind size j e) t) low (h.slots before t low)
      ∙ ap (nat_lt before) (sym (new_slot t))))

  -- the whole journal
  tile_end : (before t : ℕ) → before ≡ length j + 1 → touched_by size (pending_between size (j ++ e ∷ []) before (length (j ++ e ∷ []))) t ≡ past before new.tiles t
  tile_end before t end =
      ap (λ ps. touched_by size ps t) (pending_end size (j ++ e ∷ []) before (omega (arith, end, length_push j e)))
      ∙ (none_past (length j) (marks_in old.tiles t) (touched_by size (drawings_behind size j e) t) (old_tile t)
      ∙ (ap (λ n. nat_lt n (noted (touched_by size (drawings_behind size j e)) (length j + 1) (marks_in old.tiles) t)) (sym end) ∙ ap (nat_lt before) (sym (new_tile t))))

  slot_end : (before t : ℕ) → before ≡ length j + 1 → saved_by (pending_between size (j ++ e ∷ []) before (length (j ++ e ∷ []))) t ≡ past before new.slots t
  slot_end before t end =
      ap (λ ps. saved_by ps t) (pending_end size (j ++ e ∷ []) before (omega (arith, end, length_push j e)))
      ∙ (none_past (length j) (marks_in old.slots t) (saved_by (drawings_behind size j e) t) (old_slot t)
      ∙ (ap (λ n. nat_lt n (noted (saved_by (drawings_behind size j e)) (length j + 1) (marks_in old.slots) t)) (sym end) ∙ ap (nat_lt before) (sym (new_slot t))))

  pub marked_push : AreMarked size (j ++ e ∷ []) new
  marked_push = record {
    tiles = λ before t most. ⊎_elim (λ (end : before ≡ length j + 1). tile_end before t end)
        (λ (n : before ≢ length j + 1). tile_here before t (omega (arith, n, most, length_push j e))) (cases_eq before (length j + 1));
    slots = λ before t most. ⊎_elim (λ (end : before ≡ length j + 1). slot_end before t end)
        (λ (n : before ≢ length j + 1). slot_here before t (omega (arith, n, most, length_push j e))) (cases_eq before (length j + 1));
  }

-- an entry without drawings changes no mark
pub none_noted : (size : Size) (number : ℕ) (m : Marked) → AreNoted size [] number m m
none_noted size number m = record { tiles = refl; slots = refl }
