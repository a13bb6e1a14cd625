-- The pending drawings of entries, entry by entry, and what of a legal journal's the walk rests on.
use Rattle.std.proofs.Common.{◌≡◌, ℕ, zero, suc, ◌+◌, ◌≤◌, List, [], ◌∷◌, ◌++◌, length, take, drop, refl, ap, sym, ◌∙◌, append_assoc, append-nil, length-append, arith}
use Rattle.px_core.specs.declared.surface.Size.{Size}
use Rattle.session_rules.specs.declared.entry.Entry.{Entry}
use Rattle.session_rules.specs.Journal.{State, opening_state, state_after_entry, state_after, reached_at_first, drawings_of}
use Rattle.session_rules.specs.Pending.{Pending, pending_drawings, pending_from, pending_between}
use Rattle.frame_laws.proofs.Entries.{state_from, reached_is, state_from-append, cut_again}

pending_from-append : (size : Size) (xs ys : List Entry) (st : State) → pending_from size st (xs ++ ys) ≡ pending_from size st xs ++ pending_from size (state_from size st xs) ys
pending_from-append size [] ys st = refl
pending_from-append size (x ∷ xs) ys st =
    let ds = pending_drawings size st.surface (drawings_of size st.board x) in
    let after = state_after_entry size st x in
    ap (λ ps. ds ++ ps) (pending_from-append size xs ys after) ∙ sym (append_assoc ds (pending_from size after xs) (pending_from size (state_from size after xs) ys))

-- what stands between two numbers, in two parts
cut_between : {A : Type 0} (a b c : ℕ) (xs : List A) → a ≤ b → b ≤ c → drop a (take c xs) ≡ drop a (take b xs) ++ drop b (take c xs)
cut_between zero b c xs h k = cut_again b c xs k
cut_between (suc a) zero c xs h k = absurd (omega (arith, h))
cut_between (suc a) (suc b) zero xs h k = absurd (omega (arith, k))
cut_between (suc a) (suc b) (suc c) [] h k = refl
cut_between (suc a) (suc b) (suc c) (x ∷ xs) h k = cut_between a b c xs (omega (arith, h)) (omega (arith, k))

state_at : (size : Size) (j : List Entry) (n : ℕ) → state_after size j n ≡ state_from size (opening_state size) (take n j)
state_at size j n = reached_is size (take n j) (reached_at_first size)

state_later : (size : Size) (j : List Entry) (a b : ℕ) → a ≤ b → state_from size (state_after size j a) (drop a (take b j)) ≡ state_after size j b
state_later size j a b h =
    let first = opening_state size in
    ap (λ s. state_from size s (drop a (take b j))) (state_at size j a) ∙ sym (state_from-append size (take a j) (drop a (take b j)) first)
    ∙ ap (state_from size first) (sym (cut_again a b j h)) ∙ sym (state_at size j b)

pub pending_parts : (size : Size) (j : List Entry) (a b c : ℕ) → a ≤ b → b ≤ c
    → pending_between size j a c ≡ pending_between size j a b ++ pending_between size j b c
pending_parts size j a b c h k =
    ap (pending_from size (state_after size j a)) (cut_between a b c j h k)
    ∙ pending_from-append size (drop a (take b j)) (drop b (take c j)) (state_after size j a)
    ∙ ap (λ s. pending_between size j a b ++ pending_from size s (drop b (take c j))) (state_later size j a b h)

none_between : {A : Type 0} (n : ℕ) (xs : List A) → drop n (take n xs) ≡ []
none_between zero xs = refl
none_between (suc n) [] = refl
none_between (suc n) (x ∷ xs) = none_between n xs

pub pending_none : (size : Size) (j : List Entry) (n : ℕ) → pending_between size j n n ≡ []
pending_none size j n = ap (pending_from size (state_after size j n)) (none_between n j)

-- one entry more
pub pending_more : (size : Size) (j : List Entry) (a k : ℕ) (ps : List Pending) → a ≤ k → ps ≡ pending_between size j a k
    → ps ++ pending_between size j k (k + 1) ≡ pending_between size j a (k + 1)
pending_more size j a k ps h e = ap (λ qs. qs ++ pending_between size j k (k + 1)) e ∙ sym (pending_parts size j a k (k + 1) h (omega arith))

-- how many stand between two numbers
pub pending_count : (size : Size) (j : List Entry) (b c : ℕ) → b ≤ c
    → length (pending_between size j 0 c) ≡ length (pending_between size j 0 b) + length (pending_between size j b c)
pending_count size j b c k =
    ap length (pending_parts size j 0 b c (omega arith) k) ∙ length-append (pending_between size j 0 b) (pending_between size j b c)

no_length : (ps : List Pending) → length ps ≡ 0 → ps ≡ []
no_length [] h = refl
no_length (p ∷ ps) h = absurd (omega (arith, h))

-- nothing is drawn between two numbers before which as many drawings stand
pub quiet_between : (size : Size) (j : List Entry) (b c : ℕ) → b ≤ c → length (pending_between size j 0 c) ≡ length (pending_between size j 0 b) → pending_between size j b c ≡ []
quiet_between size j b c k h = let count = pending_count size j b c k in no_length (pending_between size j b c) (omega (arith, count, h))

-- one entry more, and entries behind it that drew nothing
pub pending_past : (size : Size) (j : List Entry) (a k next : ℕ) (ps : List Pending) → a ≤ k → k + 1 ≤ next → ps ≡ pending_between size j k (k + 1) → pending_between size j (k + 1) next ≡ []
    → pending_between size j a k ++ ps ≡ pending_between size j a next
pending_past size j a k next ps h g e quiet =
    ap (λ qs. pending_between size j a k ++ qs) e ∙ (sym (pending_parts size j a k (k + 1) h (omega arith))
    ∙ sym (pending_parts size j a (k + 1) next (omega (arith, h)) g ∙ (ap (λ qs. pending_between size j a (k + 1) ++ qs) quiet ∙ append-nil (pending_between size j a (k + 1)))))
