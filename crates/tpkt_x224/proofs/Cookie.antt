-- What is behind a cookie, and the negotiation request there.
use Rattle.std.proofs.Common.{◌≡◌, ℕ, ◌≤◌, Bool, true, false, cond, List, [], ◌∷◌, ◌++◌, length, drop, refl, ap, sym, ◌∙◌, arith, length-append, ◌⊎◌, inl, inr}
use Rattle.std.specs.Prelude.{◌==◌, ◌&&◌, slice_index}
use Rattle.std.proofs.lemmas.Bool.Decides.{nat_tests}
use Rattle.std.proofs.lemmas.List.{nil_from_length}
use Rattle.tpkt_x224.specs.Request.{after_line, after_cookie}
use Rattle.tpkt_x224.specs.Grammar.{HasLineEnd, IsCookie, HasNegotiationType, HasCookie, IsAllCookie, IsAfterCookie}

-- ---- the end of a line

-- a line's end at the head
abbrev ends_here : ℕ → List ℕ → Bool
ends_here b bs = (b == 13) && (slice_index bs 0 == 10)

record EndsHere (b : ℕ) (bs : List ℕ) : Type 0 where
  return : b ≡ 13
  feed : bs ≡ 10 ∷ drop 1 bs

both : (p q : Bool) → (p && q) ≡ true → (p ≡ true) × (q ≡ true)
both true true e = (refl, refl)
both true false e = absurd (let h : ⊥ = cc in h)
both false q e = absurd (let h : ⊥ = cc in h)

fed : (bs : List ℕ) → (slice_index bs 0 == 10) ≡ true → bs ≡ 10 ∷ drop 1 bs
fed [] e = absurd (let h : ⊥ = cc in h)
fed (b ∷ bs) e = let same : b ≡ 10 = grind (arith, nat_tests, e) in ap (λ x. x ∷ bs) same

ended_here : (b : ℕ) (bs : List ℕ) → ends_here b bs ≡ true → EndsHere b bs
ended_here b bs e =
    let t = both (b == 13) (slice_index bs 0 == 10) e in
    let first = t.0 in
    record { return = grind (arith, nat_tests, first); feed = fed bs t.1 }

here_again : (b : ℕ) (bs behind : List ℕ) → b ≡ 13 → bs ≡ 10 ∷ behind → ends_here b bs ≡ true
here_again b bs behind e f = rw (e, f) refl

-- a line's end at the head or behind it
end_in : (b : ℕ) (bs behind line : List ℕ) → b ∷ bs ≡ line ++ (13 ∷ 10 ∷ behind) → ((b ≡ 13) × (bs ≡ 10 ∷ behind)) ⊎ HasLineEnd bs behind
end_in b bs behind [] e = inl (cc, cc)
end_in b bs behind (l ∷ ls) e = inr (ls, cc)

end_of : (b : ℕ) (bs behind : List ℕ) → ends_here b bs ≡ false → HasLineEnd (b ∷ bs) behind → HasLineEnd bs behind
end_of b bs behind e h =
    elim (end_in b bs behind h.0 h.1) as (λ _. HasLineEnd bs behind) [
      | inl here ↦ absurd (let t : ends_here b bs ≡ true = here_again b bs behind here.0 here.1 in let h : ⊥ = cc in h)
      | inr later ↦ later
    ]

later_end : (b : ℕ) (bs behind : List ℕ) → HasLineEnd bs behind → HasLineEnd (b ∷ bs) behind
later_end b bs behind h = (b ∷ h.0, ap (λ xs. b ∷ xs) h.1)

no_end : (behind : List ℕ) → HasLineEnd [] behind → ⊥
no_end behind h = let e : 0 ≡ length (h.0 ++ (13 ∷ 10 ∷ behind)) = ap length h.1 in omega (arith, e, length-append h.0 (13 ∷ 10 ∷ behind))

-- ---- a cookie of one byte more

longer : (b : ℕ) (text : List ℕ) → ((behind : List ℕ) → b ≡ 13 → text ≡ 10 ∷ behind → behind ≡ []) → IsCookie text → IsCookie (b ∷ text)
longer b text alone is = record {
  ended = later_end b text [] is.ended;
  first = λ behind h. elim (end_in b text behind h.0 h.1) as (λ _. behind ≡ []) [
    | inl here ↦ alone behind here.0 here.1
    | inr later ↦ is.first behind later
  ];
}

shorter : (b : ℕ) (text : List ℕ) → ends_here b text ≡ false → IsCookie (b ∷ text) → IsCookie text
shorter b text e is = record {
  ended = end_of b text [] e is.ended;
  first = λ behind h. is.first behind (later_end b text behind h);
}

line_end : IsCookie (13 ∷ 10 ∷ [])
line_end = record {
  ended = ([], refl);
  first = λ behind h.
      let e : 2 ≡ length (h.0 ++ (13 ∷ 10 ∷ behind)) = ap length h.1 in
      nil_from_length behind (omega (arith, e, length-append h.0 (13 ∷ 10 ∷ behind)));
}

-- ---- what is behind the first line is behind a cookie, or there is no line

abbrev Behind : List ℕ → List ℕ → Type 0
Behind bs after = HasCookie bs after ⊎ IsAllCookie bs after

cookie_here : (b : ℕ) (bs : List ℕ) → EndsHere b bs → HasCookie (b ∷ bs) (drop 1 bs)
cookie_here b bs h = record {
  cookie = 13 ∷ 10 ∷ [];
  is = line_end;
  whole = ap (λ x. x ∷ bs) h.return ∙ ap (λ xs. 13 ∷ xs) h.feed;
}

-- a cookie can't begin so that a line would end one byte earlier
not_here : (b : ℕ) (bs cookie after behind : List ℕ) → ends_here b bs ≡ false → bs ≡ cookie ++ after → b ≡ 13 → cookie ≡ 10 ∷ behind → behind ≡ []
not_here b bs cookie after behind e w r f =
    let t : ends_here b bs ≡ true = here_again b bs (behind ++ after) r (w ∙ ap (λ xs. xs ++ after) f) in
    absurd (let h : ⊥ = cc in h)

cookie_later : (b : ℕ) (bs after : List ℕ) → ends_here b bs ≡ false → HasCookie bs after → HasCookie (b ∷ bs) after
cookie_later b bs after e h = record {
  cookie = b ∷ h.cookie;
  is = longer b h.cookie (λ behind r f. not_here b bs h.cookie after behind e h.whole r f) h.is;
  whole = ap (λ xs. b ∷ xs) h.whole;
}

all_later : (b : ℕ) (bs after : List ℕ) → ends_here b bs ≡ false → IsAllCookie bs after → IsAllCookie (b ∷ bs) after
all_later b bs after e h = record { endless = λ behind l. h.endless behind (end_of b bs behind e l); none = h.none }

behind_by : (t : Bool) (b : ℕ) (bs : List ℕ) → ends_here b bs ≡ t → Behind bs (after_line bs) → Behind (b ∷ bs) (cond t (drop 1 bs) (after_line bs))
behind_by true b bs e h = inl (cookie_here b bs (ended_here b bs e))
behind_by false b bs e (inl h) = inl (cookie_later b bs (after_line bs) e h)
behind_by false b bs e (inr h) = inr (all_later b bs (after_line bs) e h)

behind_line : (bs : List ℕ) → Behind bs (after_line bs)
behind_line [] = inr (record { endless = no_end; none = refl })
behind_line (b ∷ bs) = behind_by (ends_here b bs) b bs refl (behind_line bs)

-- ---- and nothing else is

no_cookie : (text : List ℕ) → length text ≤ 1 → IsCookie text → ⊥
no_cookie text h is =
    let e : length text ≡ length (is.ended.0 ++ (13 ∷ 10 ∷ [])) = ap length is.ended.1 in
    omega (arith, h, e, length-append is.ended.0 (13 ∷ 10 ∷ []))

-- a line that ends in a cookie's second byte ends the cookie
ended_cookie : (b : ℕ) (text after : List ℕ) → IsCookie (b ∷ text) → EndsHere b (text ++ after) → drop 1 (text ++ after) ≡ after
ended_cookie b [] after is h = absurd (no_cookie (b ∷ []) (omega arith) is)
ended_cookie b (c ∷ text) after is h =
    let f : c ∷ (text ++ after) ≡ 10 ∷ (text ++ after) = h.feed in
    let second : c ≡ 10 = cc in
    let here : HasLineEnd (b ∷ c ∷ text) text = ([], ap (λ x. x ∷ c ∷ text) h.return ∙ ap (λ x. 13 ∷ x ∷ text) second) in
    ap (λ xs. xs ++ after) (is.first text here)

-- what is behind a cookie doesn't tell whether a line ends at its first byte
same_end : (b : ℕ) (text after : List ℕ) → ends_here b (text ++ after) ≡ false → IsCookie (b ∷ text) → ends_here b text ≡ false
same_end b [] after e is = absurd (no_cookie (b ∷ []) (omega arith) is)
same_end b (c ∷ text) after e is = e

line_by : (t : Bool) (b : ℕ) (text after : List ℕ) → ends_here b (text ++ after) ≡ t → IsCookie (b ∷ text)
    → (IsCookie text → after_line (text ++ after) ≡ after)
    → cond t (drop 1 (text ++ after)) (after_line (text ++ after)) ≡ after
line_by true b text after e is on = ended_cookie b text after is (ended_here b (text ++ after) e)
line_by false b text after e is on = on (shorter b text (same_end b text after e is) is)

line_of_cookie : (cookie after : List ℕ) → IsCookie cookie → after_line (cookie ++ after) ≡ after
line_of_cookie [] after is = absurd (no_cookie [] (omega arith) is)
line_of_cookie (b ∷ text) after is = line_by (ends_here b (text ++ after)) b text after refl is (λ inner. line_of_cookie text after inner)

endless_by : (t : Bool) (b : ℕ) (bs : List ℕ) → ends_here b bs ≡ t → ((behind : List ℕ) → HasLineEnd (b ∷ bs) behind → ⊥)
    → (((behind : List ℕ) → HasLineEnd bs behind → ⊥) → after_line bs ≡ []) → cond t (drop 1 bs) (after_line bs) ≡ []
endless_by true b bs e endless on =
    let h = ended_here b bs e in
    absurd (endless (drop 1 bs) ([], ap (λ x. x ∷ bs) h.return ∙ ap (λ xs. 13 ∷ xs) h.feed))
endless_by false b bs e endless on = on (λ behind l. endless behind (later_end b bs behind l))

endless_line : (bs : List ℕ) → ((behind : List ℕ) → HasLineEnd bs behind → ⊥) → after_line bs ≡ []
endless_line [] endless = refl
endless_line (b ∷ bs) endless = endless_by (ends_here b bs) b bs refl endless (endless_line bs)

only_behind : (bs after : List ℕ) → Behind bs after → after_line bs ≡ after
only_behind bs after (inl h) = ap after_line h.whole ∙ line_of_cookie h.cookie after h.is
only_behind bs after (inr h) = endless_line bs h.endless ∙ sym h.none

-- ---- the type of a negotiation request first

typed : (bs : List ℕ) → (slice_index bs 0 == 1) ≡ true → HasNegotiationType bs
typed [] e = absurd (let h : ⊥ = cc in h)
typed (b ∷ bs) e = grind (arith, nat_tests, e)

typed_again : (bs : List ℕ) → HasNegotiationType bs → (slice_index bs 0 == 1) ≡ true
typed_again [] p = absurd p
typed_again (b ∷ bs) p = grind (arith, nat_tests, p)

untyped : (bs : List ℕ) → (slice_index bs 0 == 1) ≡ false → HasNegotiationType bs → ⊥
untyped bs e p = let t = typed_again bs p in let h : ⊥ = cc in h

untyped_again : (t : Bool) (bs : List ℕ) → (slice_index bs 0 == 1) ≡ t → (HasNegotiationType bs → ⊥) → t ≡ false
untyped_again true bs e p = absurd (p (typed bs e))
untyped_again false bs e p = refl

cookie_by : (t : Bool) (bs : List ℕ) → (slice_index bs 0 == 1) ≡ t → IsAfterCookie bs (cond t bs (after_line bs))
cookie_by true bs e = inl (typed bs e, refl)
cookie_by false bs e = inr (untyped bs e, behind_line bs)

pub cookie_is : (bs : List ℕ) → IsAfterCookie bs (after_cookie bs)
unfolding after_cookie
cookie_is bs = cookie_by (slice_index bs 0 == 1) bs refl

pub cookie_only : (bs after : List ℕ) → IsAfterCookie bs after → after_cookie bs ≡ after
unfolding after_cookie
cookie_only bs after (inl p) = ap (λ t. cond t bs (after_line bs)) (typed_again bs p.0) ∙ sym p.1
cookie_only bs after (inr p) = ap (λ t. cond t bs (after_line bs)) (untyped_again (slice_index bs 0 == 1) bs refl p.0) ∙ only_behind bs after p.1
