-- The places of a viewer's entries.
use Rattle.std.proofs.Common.{◌≡◌, ℕ, suc, ◌<◌, ◌≤◌, List, [], ◌∷◌, ◌++◌, length, sym, refl, ap, ◌∙◌, subst, ⊎_elim, arith}
use Rattle.std.specs.Prelude.{Option, Some, None, Bool, true, false, All, Contains, slice_get, option_to_list, ⊤}
use Rattle.std.proofs.lemmas.List.Elements.{All-nil, All-cons, All-contains, Contains-append_cases}
use Rattle.px_core.specs.declared.surface.Size.{Size}
use Rattle.session_rules.specs.declared.entry.Role.{Role}
use Rattle.session_rules.specs.declared.entry.Entry.{Entry}
use Rattle.session_rules.specs.declared.entry.Entry.TheVariants.{Join, Leave, Give, Input, Draw}
use Rattle.session_rules.specs.Journal.{is_present, reached_at}
use Rattle.session_rules.specs.Entering.{IsOfEvent}
use Rattle.session_rules.proofs.Joins.{left_between}
use Rattle.grow_lock.specs.Journal.{StartsWith}
use Rattle.grow_lock.proofs.Lists.{length_starts}
use Rattle.serve_rules.specs.Events.{Ascend, AreOfEvents}
use Rattle.serve_rules.proofs.Lists.{got_more, got_end}
use Rattle.viewer_run.specs.Visiting.{leave_if, leave_place}
use Rattle.viewer_run.specs.Links.{HasLeftElsewhere, IsLeave}

-- ---- places that ascend

-- each is below the last
pub ascend_below : (low : ℕ) (ns : List ℕ) (high top : ℕ) → Ascend low ns high → high ≤ top → All (λ n. n < top) ns
ascend_below low [] high top h le = All-nil (λ m. m < top)
ascend_below low (n ∷ ns) high top h le = All-cons (λ m. m < top) n ns (omega (arith, ascend_up (suc n) ns high h.1, le)) (ascend_below (suc n) ns high top h.1 le)
  where
    ascend_up : (low : ℕ) (ns : List ℕ) (high : ℕ) → Ascend low ns high → low ≤ high
    ascend_up low [] high h = h
    ascend_up low (n ∷ ns) high h = omega (arith, h.0, ascend_up (suc n) ns high h.1)

ascend_lower : (low low' : ℕ) (ns : List ℕ) (high : ℕ) → low' ≤ low → Ascend low ns high → Ascend low' ns high
ascend_lower low low' [] high le h = omega (arith, le, h)
ascend_lower low low' (n ∷ ns) high le h = (omega (arith, le, h.0), h.1)

-- and others behind them
pub ascend_then : (low : ℕ) (ns : List ℕ) (mid mid' : ℕ) (ms : List ℕ) (high : ℕ) → Ascend low ns mid → mid ≤ mid' → Ascend mid' ms high → Ascend low (ns ++ ms) high
ascend_then low [] mid mid' ms high h le k = ascend_lower mid' low ms high (omega (arith, h, le)) k
ascend_then low (n ∷ ns) mid mid' ms high h le k = (h.0, ascend_then (suc n) ns mid mid' ms high h.1 le k)

-- ---- what stands in a journal

-- what stands at a place of a beginning stands there in the whole
pub got_on : (j base : List Entry) (n : ℕ) (e : Entry) → StartsWith j base → slice_get base n ≡ Some e → slice_get j n ≡ Some e
got_on j base n e s h = subst (λ (l : List Entry). slice_get l n ≡ Some e) (sym s.1) (got_more base s.0 n e h)

abbrev OnlyJoin : Option Entry → Type 0
OnlyJoin None = ⊥
OnlyJoin (Some (Join v role)) = ⊤
OnlyJoin (Some (Leave v)) = ⊥
OnlyJoin (Some (Give by to)) = ⊥
OnlyJoin (Some (Input by event)) = ⊥
OnlyJoin (Some (Draw by d)) = ⊥

-- a Join and a Leave stand at two places
apart_of_join : (j : List Entry) (a k v u : ℕ) (role : Role) → slice_get j a ≡ Some (Join v role) → slice_get j k ≡ Some (Leave u) → a ≡ k → ⊥
apart_of_join j a k v u role is_join is_leave same =
    subst OnlyJoin (sym is_join ∙ (ap (slice_get j) same ∙ is_leave)) tt

of_event_leave : (v u : ℕ) (e : Entry) → e ≡ Leave u → IsOfEvent v e → ⊥
of_event_leave v u e is of = subst (IsOfEvent v) is of

same_entry : (e f : Entry) → Some e ≡ Some f → e ≡ f
same_entry e f is = cc is

-- nor does an event's entry stand where a Leave does
apart_of_events : (v u : ℕ) (j : List Entry) (k : ℕ) (ns : List ℕ) → slice_get j k ≡ Some (Leave u) → AreOfEvents v j ns → All (λ n. n ≡ k → ⊥) ns
apart_of_events v u j k [] is_leave h = All-nil (λ m. m ≡ k → ⊥)
apart_of_events v u j k (n ∷ ns) is_leave h = All-cons (λ m. m ≡ k → ⊥) n ns
    (λ same. of_event_leave v u h.0.0 (same_entry h.0.0 (Leave u) (sym h.0.1 ∙ (ap (slice_get j) same ∙ is_leave))) h.0.2)
    (apart_of_events v u j k ns is_leave h.1)

-- a Leave stands at none of the places of a Join and of events
pub leave_is_apart : (v : ℕ) (j : List Entry) (a k : ℕ) (role : Role) (ns : List ℕ) → slice_get j a ≡ Some (Join v role) → slice_get j k ≡ Some (Leave v) → AreOfEvents v j ns
    → Contains (a ∷ ns) k → ⊥
leave_is_apart v j a k role ns is_join is_leave of at =
    All-contains (λ m. m ≡ k → ⊥) (a ∷ ns) k (All-cons (λ m. m ≡ k → ⊥) a ns (apart_of_join j a k v v role is_join is_leave) (apart_of_events v v j k ns is_leave of)) at refl

-- ---- the Leave

-- a viewer's Leave is appended where it is present; where it isn't it stands elsewhere already
pub leave_stands : (size : Size) (v : ℕ) (base j : List Entry) (a : ℕ) (role : Role) (ns : List ℕ) (here : Bool) (place : Option ℕ)
    → is_present v (reached_at size base (length base)).viewers ≡ here → j ≡ base ++ leave_if here v → place ≡ leave_place here base → a < length base
    → slice_get base a ≡ Some (Join v role) → AreOfEvents v j ns → IsLeave v j (a ∷ ns) (option_to_list place)
leave_stands size v base j a role ns true place is grows at below is_join of =
    subst (λ (o : Option ℕ). IsLeave v j (a ∷ ns) (option_to_list o)) (sym at)
    (subst (λ (l : List Entry). slice_get l (length base) ≡ Some (Leave v)) (sym grows) (got_end base (Leave v)))
leave_stands size v base j a role ns false place is grows at below is_join of =
    let gone = left_between size base v role a (length base) is_join below is in
    let is_leave : slice_get j gone.0 ≡ Some (Leave v) = got_on j base gone.0 (Leave v) ([], grows) gone.3 in
    subst (λ (o : Option ℕ). IsLeave v j (a ∷ ns) (option_to_list o)) (sym at)
    (gone.0, is_leave, leave_is_apart v j a gone.0 role ns (got_on j base a (Join v role) ([], grows) is_join) is_leave of)

-- its turn is behind those of the events
pub leave_behind : (base : List Entry) (here : Bool) (place : Option ℕ) (high : ℕ) → place ≡ leave_place here base → high ≤ length base → All (λ k. high ≤ k) (option_to_list place)
leave_behind base true place high at le =
    subst (λ (o : Option ℕ). All (λ k. high ≤ k) (option_to_list o)) (sym at) (All-cons (λ k. high ≤ k) (length base) [] le (All-nil (λ k. high ≤ k)))
leave_behind base false place high at le = subst (λ (o : Option ℕ). All (λ k. high ≤ k) (option_to_list o)) (sym at) (All-nil (λ k. high ≤ k))

-- its place is behind those of the events
pub leave_ascends : (v : ℕ) (base j : List Entry) (here : Bool) (place : Option ℕ) → j ≡ base ++ leave_if here v → place ≡ leave_place here base
    → Ascend (length base) (option_to_list place) (length j)
leave_ascends v base j true place grows at =
    subst (λ (o : Option ℕ). Ascend (length base) (option_to_list o) (length j)) (sym at)
    (let longer : length j ≡ length (base ++ Leave v ∷ []) = ap (λ (l : List Entry). length l) grows in (omega arith, omega (arith, longer, length_starts (base ++ Leave v ∷ []) base (Leave v ∷ [], refl), pushed base (Leave v))))
  where
    pushed : (xs : List Entry) (x : Entry) → length (xs ++ x ∷ []) ≡ suc (length xs)
    pushed [] x = refl
    pushed (y ∷ xs) x = ap suc (pushed xs x)
leave_ascends v base j false place grows at =
    subst (λ (o : Option ℕ). Ascend (length base) (option_to_list o) (length j)) (sym at) (length_starts j base ([], grows))

-- a viewer that isn't present where its connection ended has left before
pub left_before : (size : Size) (v : ℕ) (viewed base j : List Entry) (a : ℕ) (role : Role) (ns : List ℕ) (here : Bool) (place : Option ℕ)
    → is_present v (reached_at size viewed (length viewed)).viewers ≡ false → slice_get viewed a ≡ Some (Join v role) → a < length viewed → StartsWith base viewed
    → j ≡ base ++ leave_if here v → place ≡ leave_place here base → AreOfEvents v j ns → HasLeftElsewhere v j (a ∷ ns ++ option_to_list place)
left_before size v viewed base j a role ns here place gone is_join below on grows at of =
    let left = left_between size viewed v role a (length viewed) is_join below gone in
    let whole : StartsWith j viewed = (on.0 ++ leave_if here v, grows ∙ (ap (λ (l : List Entry). l ++ leave_if here v) on.1 ∙ assoc viewed on.0 (leave_if here v))) in
    let is_leave : slice_get j left.0 ≡ Some (Leave v) = got_on j viewed left.0 (Leave v) whole left.3 in (
      left.0,
      is_leave,
      λ in_all. ⊎_elim
          (λ front. leave_is_apart v j a left.0 role ns (got_on j viewed a (Join v role) whole is_join) is_leave of front)
          (λ back. All-contains (λ m. m ≡ left.0 → ⊥) (option_to_list place) left.0 (behind place here at) back refl)
          (Contains-append_cases (a ∷ ns) (option_to_list place) left.0 in_all),
    )
  where
    assoc : (xs ys zs : List Entry) → (xs ++ ys) ++ zs ≡ xs ++ (ys ++ zs)
    assoc [] ys zs = refl
    assoc (x ∷ xs) ys zs = ap (λ (l : List Entry). x ∷ l) (assoc xs ys zs)

    behind : (o : Option ℕ) (h : Bool) → o ≡ leave_place h base
        → All (λ m. m ≡ (left_between size viewed v role a (length viewed) is_join below gone).0 → ⊥) (option_to_list o)
    behind None h e = All-nil (λ m. m ≡ (left_between size viewed v role a (length viewed) is_join below gone).0 → ⊥)
    behind (Some n) true e =
        let left = left_between size viewed v role a (length viewed) is_join below gone in
        let at_end : n ≡ length base = cc e in
        All-cons (λ m. m ≡ (left_between size viewed v role a (length viewed) is_join below gone).0 → ⊥) n []
        (λ same. absurd (omega (arith, same, at_end, left.2, length_starts base viewed on)))
        (All-nil (λ m. m ≡ (left_between size viewed v role a (length viewed) is_join below gone).0 → ⊥))
    behind (Some n) false e = absurd (cc e)
