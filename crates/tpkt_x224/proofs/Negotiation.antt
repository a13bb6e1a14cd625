-- The negotiation request behind a cookie.
use Rattle.std.proofs.Common.{◌≡◌, ℕ, ◌+◌, ◌≤◌, Bool, true, false, cond, List, [], ◌∷◌, ◌++◌, length, take, drop, refl, ap, sym, ◌∙◌, arith, length-append}
use Rattle.std.specs.Prelude.{◌==◌, ◌&&◌, nat_le, slice_index, Option, Some, None}
use Rattle.std.proofs.lemmas.Bool.Decides.{nat_tests}
use Rattle.std.proofs.lemmas.List.{length-take-le, take-append-drop}
use Rattle.byteorder.specs.Endian.{little_number}
use Rattle.wire_num.proofs.Steps.{little_taken, little_front}
use Rattle.tpkt_x224.specs.Request.{asked_protocols}
use Rattle.tpkt_x224.specs.Grammar.{IsNegotiation, Asks}

-- eight bytes or more, of which the first is the type
abbrev begins : List ℕ → Bool
begins bs = nat_le 8 (length bs) && (slice_index bs 0 == 1)

both : (p q : Bool) → (p && q) ≡ true → (p ≡ true) × (q ≡ true)
both true true e = (refl, refl)
both true false e = absurd (let h : ⊥ = cc in h)
both false q e = absurd (let h : ⊥ = cc in h)

enough : (n : ℕ) → nat_le 8 n ≡ true → 8 ≤ n
enough n e = grind (arith, nat_tests, e)

begun : (bs : List ℕ) → 8 ≤ length bs → (slice_index bs 0 == 1) ≡ true → IsNegotiation bs (little_number 4 (drop 4 bs))
begun [] fits e = absurd (omega (arith, fits))
begun (b ∷ []) fits e = absurd (omega (arith, fits))
begun (b ∷ f ∷ []) fits e = absurd (omega (arith, fits))
begun (b ∷ f ∷ s ∷ []) fits e = absurd (omega (arith, fits))
begun (b ∷ f ∷ s ∷ t ∷ bs) fits e =
    let type : b ≡ 1 = grind (arith, nat_tests, e) in
    let four : 4 ≤ length bs = omega (arith, fits) in
    record {
      flags = f;
      size = s ∷ t ∷ [];
      protocols = take 4 bs;
      more = drop 4 bs;
      two = refl;
      four = length-take-le 4 bs four;
      whole = ap (λ x. x ∷ f ∷ s ∷ t ∷ bs) type ∙ ap (λ xs. 1 ∷ f ∷ s ∷ t ∷ xs) (sym (take-append-drop 4 bs));
      says = little_taken 4 bs four;
    }

started : (bs : List ℕ) (asked : ℕ) → IsNegotiation bs asked → begins bs ≡ true
started bs asked n =
    let size : length bs ≡ 2 + (length n.size + (length n.protocols + length n.more)) =
    omega (arith, ap length n.whole, length-append n.size (n.protocols ++ n.more), length-append n.protocols n.more) in
    let fits : 8 ≤ length bs = omega (arith, size, n.two, n.four) in
    let a : nat_le 8 (length bs) ≡ true = grind (arith, nat_tests, fits) in
    let b : (slice_index bs 0 == 1) ≡ true = ap (λ xs. slice_index xs 0 == 1) n.whole in
    rw (a, b) refl

after_four : (flags : ℕ) (size more : List ℕ) → length size ≡ 2 → drop 4 (1 ∷ flags ∷ (size ++ more)) ≡ more
after_four flags [] more e = absurd (omega (arith, e))
after_four flags (s ∷ []) more e = absurd (omega (arith, e))
after_four flags (s ∷ t ∷ []) more e = refl
after_four flags (s ∷ t ∷ u ∷ size) more e = absurd (omega (arith, e))

says_same : (bs : List ℕ) (asked : ℕ) → IsNegotiation bs asked → little_number 4 (drop 4 bs) ≡ asked
says_same bs asked n =
    ap (λ xs. little_number 4 (drop 4 xs)) n.whole
    ∙ ap (little_number 4) (after_four n.flags n.size (n.protocols ++ n.more) n.two)
    ∙ little_front 4 n.protocols n.more (omega (arith, n.four))
    ∙ sym n.says

asks_by : (t : Bool) (bs : List ℕ) → begins bs ≡ t → Asks bs (cond t (Some (little_number 4 (drop 4 bs))) None)
asks_by true bs e =
    let s = both (nat_le 8 (length bs)) (slice_index bs 0 == 1) e in
    begun bs (enough (length bs) s.0) s.1
asks_by false bs e = λ asked n. let t = started bs asked n in let h : ⊥ = cc in h

pub asks_is : (bs : List ℕ) → Asks bs (asked_protocols bs)
unfolding asked_protocols
asks_is bs = asks_by (begins bs) bs refl

some_asked : (bs : List ℕ) (asked : ℕ) → IsNegotiation bs asked → asked_protocols bs ≡ Some asked
unfolding asked_protocols
some_asked bs asked n =
    ap (λ t. cond t (Some (little_number 4 (drop 4 bs))) None) (started bs asked n) ∙ ap Some (says_same bs asked n)

none_by : (said : Option ℕ) (bs : List ℕ) → Asks bs said → Asks bs None → said ≡ None
none_by None bs a n = refl
none_by (Some asked) bs a n = absurd (n asked a)

pub asks_only : (bs : List ℕ) (asked : Option ℕ) → Asks bs asked → asked_protocols bs ≡ asked
asks_only bs (Some asked) a = some_asked bs asked a
asks_only bs None a = none_by (asked_protocols bs) bs (asks_is bs) a
