-- Who holds control is present.
use Rattle.std.proofs.Common.{◌≡◌, ℕ, Bool, true, false, List, [], ◌∷◌, ◌++◌, refl, ap, sym, subst, ◌∙◌, Some, None, inl, inr, eq-eqb}
use Rattle.std.specs.Prelude.{◌⊎◌, Option, option_map, cond, find, is_some, is_none, ◌==◌, nat_lt, ◌&&◌, ◌||◌, not, IsTrue, if◌then◌else◌}
use Rattle.std.proofs.lemmas.Bool.{and_parts, eqb-true}
use Rattle.session_rules.specs.declared.entry.Role.{Role}
use Rattle.session_rules.specs.declared.entry.Entry.{Entry}
use Rattle.session_rules.specs.declared.entry.Entry.TheVariants.{Join, Leave, Give, Input, Draw}
use Rattle.session_rules.specs.Journal.{Head, Reached, Viewer, refusal_of, holds, may_give, may_hold, next_of, is_owner, is_control, is_owner_here, is_present, role_of, least_viewer, first_number, successor, without_viewer, holder_after, viewers_after, reached_at_first, reached_after_entry, reached_after, are_legal_after, IsLegalJournal}
use Rattle.session_rules.specs.Journal.Refusal.{NotHolder}
use Rattle.session_rules.proofs.OwnSteps.{tests-legal, unless-none, is_none-≡}

-- the first of some viewers has the number, or another one is present
abbrev here : ℕ → Viewer → List Viewer → Bool
here v x xs = is_some (option_map (λ y. y.role) (cond (x.number == v) (Some x) (find (λ y. y.number == v) xs)))

here_first : (v : ℕ) (x : Viewer) (xs : List Viewer) → (x.number == v) ≡ true → is_present v (x ∷ xs) ≡ true
here_first v x xs e = ap (λ b. is_some (option_map (λ (y : Viewer). y.role) (cond b (Some x) (find (λ (y : Viewer). y.number == v) xs)))) e

here_later : (v : ℕ) (x : Viewer) (xs : List Viewer) → is_present v xs ≡ true → is_present v (x ∷ xs) ≡ true
here_later v x xs h = by (x.number == v)
  where
    by : (b : Bool) → is_some (option_map (λ (y : Viewer). y.role) (cond b (Some x) (find (λ (y : Viewer). y.number == v) xs))) ≡ true
    by true = refl
    by false = h

-- who is present is the first, or another one
split : (v : ℕ) (x : Viewer) (xs : List Viewer) → is_present v (x ∷ xs) ≡ true → ((x.number == v) ≡ true) ⊎ (is_present v xs ≡ true)
split v x xs h = by (x.number == v) refl h
  where
    by : (b : Bool) → (x.number == v) ≡ b → is_some (option_map (λ (y : Viewer). y.role) (cond b (Some x) (find (λ (y : Viewer). y.number == v) xs))) ≡ true → ((x.number == v) ≡ true) ⊎ (is_present v xs ≡ true)
    by true e k = inl e
    by false e k = inr k

present_more : (v : ℕ) (xs ys : List Viewer) → is_present v xs ≡ true → is_present v (xs ++ ys) ≡ true
present_more v [] ys h = absurd (cc h)
present_more v (x ∷ xs) ys h = elim (split v x xs h) [ inl e ↦ here_first v x (xs ++ ys) e | inr k ↦ here_later v x (xs ++ ys) (present_more v xs ys k) ]

present_last : (v : ℕ) (role : Role) (xs : List Viewer) → is_present v (xs ++ record { number = v; role = role } ∷ []) ≡ true
present_last v role [] = here_first v (record { number = v; role = role }) [] (eq-eqb v v refl)
present_last v role (x ∷ xs) = here_later v x (xs ++ record { number = v; role = role } ∷ []) (present_last v role xs)

-- who stays when another one leaves
present_without : (u v : ℕ) (xs : List Viewer) → (u == v) ≡ false → is_present u xs ≡ true → is_present u (without_viewer v xs) ≡ true
present_without u v [] other h = absurd (cc h)
present_without u v (x ∷ xs) other h = by (x.number == v) refl (present_without u v xs other)
  where
    same : (x.number == v) ≡ true → (x.number == u) ≡ true → (u == v) ≡ true
    same a b = eq-eqb u v (sym (eqb-true x.number u b) ∙ eqb-true x.number v a)

    by : (b : Bool) → (x.number == v) ≡ b → (is_present u xs ≡ true → is_present u (without_viewer v xs) ≡ true) → is_present u (if b then xs else x ∷ without_viewer v xs) ≡ true
    by true e others = elim (split u x xs h) [ inl k ↦ absurd (cc (same e k, other)) | inr k ↦ k ]
    by false e others = elim (split u x xs h) [ inl k ↦ here_first u x (without_viewer v xs) k | inr k ↦ here_later u x (without_viewer v xs) (others k) ]

-- a viewer that is found is present
least_present : (test : Viewer → Bool) (xs : List Viewer) (n : ℕ) → least_viewer test xs ≡ Some n → is_present n xs ≡ true
least_present test [] n h = absurd (cc h)
least_present test (x ∷ xs) n h = by (test x) (least_present test xs n) h
  where
    by : (b : Bool) → (least_viewer test xs ≡ Some n → is_present n xs ≡ true) → option_map (λ (y : Viewer). y.number) (cond b (Some x) (find test xs)) ≡ Some n → is_present n (x ∷ xs) ≡ true
    by true others k = let same : x.number ≡ n = cc k in here_first n x xs (eq-eqb x.number n same)
    by false others k = here_later n x xs (others k)

-- nobody, or somebody who is present
abbrev pub IsHere : ℕ → List Viewer → Type 0
IsHere v xs = ((v == 0) ≡ true) ⊎ (is_present v xs ≡ true)

first_here : (a b : Option ℕ) (xs : List Viewer) → ((n : ℕ) → a ≡ Some n → is_present n xs ≡ true) → ((n : ℕ) → b ≡ Some n → is_present n xs ≡ true) → IsHere (first_number (a ∷ b ∷ [])) xs
first_here (Some n) b xs h k = inr (h n refl)
first_here None (Some n) xs h k = inr (k n refl)
first_here None None xs h k = inl refl

successor_here : (xs : List Viewer) → IsHere (successor xs) xs
successor_here xs = first_here (least_viewer (λ x. is_owner x.role) xs) (least_viewer (λ x. is_control x.role) xs) xs (least_present (λ x. is_owner x.role) xs) (least_present (λ x. is_control x.role) xs)

next_here : (xs : List Viewer) (v : ℕ) → IsHere (next_of xs v) xs
next_here xs v =
    first_here (least_viewer (λ x. may_hold x.role && nat_lt v x.number) xs) (least_viewer (λ x. may_hold x.role) xs) xs
    (least_present (λ x. may_hold x.role && nat_lt v x.number) xs) (least_present (λ x. may_hold x.role) xs)

owner_present : (v : ℕ) (xs : List Viewer) → is_owner_here (role_of v xs) ≡ true → is_present v xs ≡ true
owner_present v xs h = by (role_of v xs) h
  where
    by : (o : Option Role) → is_owner_here o ≡ true → is_some o ≡ true
    by None k = absurd (cc k)
    by (Some role) k = refl

without_false : (b : Bool) → (b || false) ≡ true → b ≡ true
without_false true k = refl
without_false false k = absurd (cc k)

next_given : (r : Reached) (by to : ℕ) → ((to == next_of r.viewers by) || false) ≡ true → IsHere to r.viewers
next_given r by to k = subst (λ (v : ℕ). IsHere v r.viewers) (sym (eqb-true to (next_of r.viewers by) (without_false (to == next_of r.viewers by) k))) (next_here r.viewers by)

given_here : (r : Reached) (by to : ℕ) → may_give r by to ≡ true → IsHere to r.viewers
given_here r by to h = split_by (holds r by) (is_owner_here (role_of by r.viewers)) (owner_present by r.viewers) h
  where
    split_by : (t o : Bool) → (o ≡ true → is_present by r.viewers ≡ true) → ((t && (to == next_of r.viewers by)) || ((o && not t) && (to == by))) ≡ true → IsHere to r.viewers
    split_by true true owner k = next_given r by to k
    split_by true false owner k = next_given r by to k
    split_by false true owner k = inr (subst (λ (v : ℕ). is_present v r.viewers ≡ true) (sym (eqb-true to by k)) (owner refl))
    split_by false false owner k = absurd (cc k)

here_after : (head : Head) (r : Reached) (e : Entry) → refusal_of head r e ≡ None → IsHere r.holder r.viewers → IsHere (holder_after r.viewers r.holder e) (viewers_after r.viewers e)
here_after head r (Join v role) legal h = by ((r.holder == 0) && may_hold role)
  where
    by : (b : Bool) → IsHere (if b then v else r.holder) (r.viewers ++ record { number = v; role = role } ∷ [])
    by true = inr (present_last v role r.viewers)
    by false = elim h [ inl k ↦ inl k | inr k ↦ inr (present_more r.holder r.viewers (record { number = v; role = role } ∷ []) k) ]
here_after head r (Leave v) legal h = by (r.holder == v) refl
  where
    by : (b : Bool) → (r.holder == v) ≡ b → IsHere (if b then successor (without_viewer v r.viewers) else r.holder) (without_viewer v r.viewers)
    by true e = successor_here (without_viewer v r.viewers)
    by false e = elim h [ inl k ↦ inl k | inr k ↦ inr (present_without r.holder v r.viewers e k) ]
here_after head r (Give by to) legal h = given_here r by to (unless-none (may_give r by to) (NotHolder r.holder) (tests-legal head r (Give by to) legal).0)
here_after head r (Input by e) legal h = h
here_after head r (Draw by d) legal h = h

here_from : (head : Head) (r : Reached) (j : List Entry) → IsTrue (are_legal_after head r j) → IsHere r.holder r.viewers → IsHere (reached_after head.size r j).holder (reached_after head.size r j).viewers
here_from head r [] legal h = h
here_from head r (e ∷ es) legal h =
    let k = and_parts (is_none (refusal_of head r e)) (are_legal_after head (reached_after_entry head.size r e) es) legal in
    here_from head (reached_after_entry head.size r e) es k.1 (here_after head r e (is_none-≡ (refusal_of head r e) k.0) h)

-- after a legal journal who holds control is present
pub holder_here : (head : Head) (j : List Entry) → IsLegalJournal head j → IsHere (reached_after head.size (reached_at_first head.size) j).holder (reached_after head.size (reached_at_first head.size) j).viewers
holder_here head j legal = here_from head (reached_at_first head.size) j legal (inl refl)

-- so who isn't present doesn't hold it
pub absent_holds : (r : Reached) (v : ℕ) → IsHere r.holder r.viewers → is_present v r.viewers ≡ false → holds r v ≡ false
absent_holds r v h absent = by (v == r.holder) (v == 0) refl refl
  where
    by : (a z : Bool) → (v == r.holder) ≡ a → (v == 0) ≡ z → (a && not z) ≡ false
    by false z e f = refl
    by true true e f = refl
    by true false e f =
        let same = eqb-true v r.holder e in
        elim h [
          | inl k ↦ absurd (cc (ap (λ n. n == 0) same, f, k))
          | inr k ↦ absurd (cc (ap (λ n. is_present n r.viewers) same, absent, k))
        ]
