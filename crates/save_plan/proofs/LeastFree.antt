-- The computed position is the least free one, and there is none where no position is free.
use Rattle.std.proofs.Common.{◌≡◌, ℕ, zero, suc, ◌+◌, ◌<◌, ◌≤◌, min, max, nat_le, nat_lt, Bool, true, false, ◌&&◌, ◌||◌, [], ◌∷◌, length, get_or, Option, Some, None, ◌⊎◌, inl, inr, ⊎_elim, sym, refl, ap, ◌∙◌, subst, arith}
use Rattle.std.proofs.lemmas.Bool.{false≢true, cases_lt}
use Rattle.std.proofs.lemmas.Bool.Decides.{nat_tests, leb_tells}
use Rattle.save_plan.specs.declared.place.Place.{Place}
use Rattle.save_plan.specs.Blocks.{Held, all_positions, end_of, is_within, is_taken, IsFree, IsLeastFree, is_apart, has_room, lesser, lesser_if, least_end, least_free}

both_true : (a b : Bool) → a && b ≡ true → (a ≡ true) × (b ≡ true)
both_true true b h = (refl, h)
both_true false b h = cc

both_are : (a b : Bool) → a ≡ true → b ≡ true → a && b ≡ true
both_are a b h k = rw h k

le_true : (a b : ℕ) → a ≤ b → nat_le a b ≡ true
le_true a b h = grind (arith, nat_tests)

true_le : (a b : ℕ) → nat_le a b ≡ true → a ≤ b
true_le a b h = grind (arith, nat_tests)

not_le : (a b : ℕ) → b < a → nat_le a b ≡ false
not_le a b h = grind (arith, nat_tests)

lt_true : (a b : ℕ) → a < b → nat_lt a b ≡ true
lt_true a b h = grind (arith, nat_tests)

true_lt : (a b : ℕ) → nat_lt a b ≡ true → a < b
true_lt a b h = grind (arith, nat_tests)

max_le : (a b q : ℕ) → a ≤ q → b ≤ q → max a b ≤ q
max_le a b q h k = omega arith

le_max_left : (a b : ℕ) → a ≤ max a b
le_max_left a b = omega arith

le_max_right : (a b : ℕ) → b ≤ max a b
le_max_right a b = omega arith

lt_min : (q a b : ℕ) → q < a → q < b → q < min a b
lt_min q a b h k = omega arith

lt_both : (q a b : ℕ) → q < min a b → (q < a) × (q < b)
lt_both q a b h = (omega (arith, h), omega (arith, h))

-- ---- stretches of positions: of what two share each position lies in both, and else none does

false_unless : (b : Bool) → (b ≡ true → ⊥) → b ≡ false
false_unless true never = absurd (never refl)
false_unless false never = refl

outside : (from n q : ℕ) (place : Place) → is_apart from n place ≡ true → from ≤ q → q < from + n → is_within q place ≡ false
outside from n q place apart low high = false_unless (is_within q place) (λ within.
    let le = true_le (min (from + n) (end_of place)) (max from place.position) apart in
    let above = true_le place.position q (both_true (nat_le place.position q) (nat_lt q (end_of place)) within).0 in
    let below = true_lt q (end_of place) (both_true (nat_le place.position q) (nat_lt q (end_of place)) within).1 in
    let least = max_le from place.position q low above in
    let most = lt_min q (from + n) (end_of place) high below in
    absurd (omega (arith, le, least, most)))

inside : (from n : ℕ) (place : Place) → max from place.position < min (from + n) (end_of place)
    → (is_within (max from place.position) place ≡ true) × (from ≤ max from place.position) × (max from place.position < from + n)
inside from n place shared =
    let below = lt_both (max from place.position) (from + n) (end_of place) shared in (
      both_are (nat_le place.position (max from place.position)) (nat_lt (max from place.position) (end_of place))
          (le_true place.position (max from place.position) (le_max_right from place.position)) (lt_true (max from place.position) (end_of place) below.1),
      le_max_left from place.position,
      below.0,
    )

-- ---- the test of room

or_true : (a b : Bool) → b ≡ true → a || b ≡ true
or_true true b h = refl
or_true false b h = h

-- a block among those held takes the positions that are its own
pub taken_by : (q i : ℕ) (held : Held) (d : ℕ × Place) → i < length held → is_within q (get_or held i d).1 ≡ true → is_taken q held ≡ true
taken_by q i [] d short within = absurd (omega (arith, short))
taken_by q zero (c ∷ cs) d short within = rw within refl
taken_by q (suc i) (c ∷ cs) d short within = or_true (is_within q c.1) (is_taken q cs) (taken_by q i cs d (omega (arith, short)) within)

-- positions that are apart from each block are taken by none
pub none_in_the_way : (n from : ℕ) (held : Held) → ((k : ℕ) (d : ℕ × Place) → k < length held → is_apart from n (get_or held k d).1 ≡ true)
    → (q : ℕ) → from ≤ q → q < from + n → is_taken q held ≡ false
none_in_the_way n from [] apart q low high = refl
none_in_the_way n from (b ∷ bs) apart q low high = let here : 0 < length (b ∷ bs) = omega arith in
    rw (outside from n q b.1 (apart 0 b here) low high) (none_in_the_way n from bs (λ k d short. let later : suc k < length (b ∷ bs) = omega (arith, short) in apart (suc k) d later) q low high)

none_taken : (n from : ℕ) (held : Held) → has_room n held from ≡ true → (q : ℕ) → from ≤ q → q < from + n → is_taken q held ≡ false
none_taken n from [] room q low high = refl
none_taken n from (b ∷ bs) room q low high = let parts = both_true (is_apart from n b.1) (has_room n bs from) room in
    rw (outside from n q b.1 parts.0 low high) (none_taken n from bs parts.1 q low high)

within_all : (n from : ℕ) (held : Held) → has_room n held from ≡ true → from + n ≤ all_positions
within_all n from [] room = true_le (from + n) all_positions room
within_all n from (b ∷ bs) room = within_all n from bs (both_true (is_apart from n b.1) (has_room n bs from) room).1

-- where there is room the positions are free
pub room_is_free : (n from : ℕ) (held : Held) → has_room n held from ≡ true → IsFree n held from
room_is_free n from held room = record { there = within_all n from held room; free = none_taken n from held room }

-- two that aren't apart share a position
pub not_apart : (from n : ℕ) (place : Place) → is_apart from n place ≡ false → max from place.position < min (from + n) (end_of place)
not_apart from n place h = ⊎_elim
    (λ (t : (nat_le (min (from + n) (end_of place)) (max from place.position) ≡ true) × (min (from + n) (end_of place) ≤ max from place.position)). absurd (false≢true (sym h ∙ t.0)))
    (λ (t : (nat_le (min (from + n) (end_of place)) (max from place.position) ≡ false) × (max from place.position < min (from + n) (end_of place))). t.1)
    (leb_tells (min (from + n) (end_of place)) (max from place.position))

or_false : (a b : Bool) → a || b ≡ false → (a ≡ false) × (b ≡ false)
or_false true b h = cc
or_false false b h = (refl, h)

-- and free positions have room
pub free_has_room : (n from : ℕ) (held : Held) → IsFree n held from → has_room n held from ≡ true
free_has_room n from [] free = le_true (from + n) all_positions free.there
free_has_room n from (b ∷ bs) free = both_are (is_apart from n b.1) (has_room n bs from) (apart (is_apart from n b.1) refl)
    (free_has_room n from bs (record { there = free.there; free = λ q low high. (or_false (is_within q b.1) (is_taken q bs) (free.free q low high)).1 }))
  where
    apart : (a : Bool) → is_apart from n b.1 ≡ a → is_apart from n b.1 ≡ true
    apart true e = e
    apart false e = let both = inside from n b.1 (not_apart from n b.1 e) in
        absurd (false≢true (sym (or_false (is_within (max from b.1.position) b.1) (is_taken (max from b.1.position) bs) (free.free (max from b.1.position) both.1 both.2)).0 ∙ both.0))

-- ---- a block in the way

-- two that share a position aren't apart
pub in_the_way : (from n : ℕ) (place : Place) → max from place.position < min (from + n) (end_of place) → is_apart from n place ≡ false
in_the_way from n place shared = not_le (min (from + n) (end_of place)) (max from place.position) shared

-- from where a block is in the way, none is free before its end
pub blocked_until : (n from before i : ℕ) (held : Held) (d : ℕ × Place) → i < length held
    → max from (get_or held i d).1.position < min (from + n) (end_of (get_or held i d).1)
    → from ≤ before → before < end_of (get_or held i d).1 → IsFree n held before → ⊥
blocked_until n from before i held d short shared low high free =
    let place : Place = (get_or held i d).1 in
    let later : max before place.position < min (before + n) (end_of place) = omega (arith, shared, low, high) in
    let both = inside before n place later in
    false≢true (sym (free.free (max before place.position) both.1 both.2) ∙ taken_by (max before place.position) i held d short both.0)

-- ---- the least free position

-- an option is a position at most this one
abbrev AtMost : Option ℕ → ℕ → Type 0
AtMost least c = (m : ℕ) × (least ≡ Some m) × (m ≤ c)

lesser_new : (n : ℕ) (least : Option ℕ) → AtMost (lesser n least) n
lesser_new n None = (n, refl, omega arith)
lesser_new n (Some m) = (min n m, refl, omega arith)

lesser_old : (n c : ℕ) (least : Option ℕ) → AtMost least c → AtMost (lesser n least) c
lesser_old n c None a = let never : None ≡ Some a.0 = a.1 in cc
lesser_old n c (Some m) a = let is : Some m ≡ Some a.0 = a.1 in let e : m ≡ a.0 = cc in (min n m, refl, omega (arith, e, a.2))

lesser_if_old : (test : Bool) (n c : ℕ) (least : Option ℕ) → AtMost least c → AtMost (lesser_if test n least) c
lesser_if_old true n c least a = lesser_old n c least a
lesser_if_old false n c least a = a

-- the last block's end that isn't past a position, or 0
abbrev end_if : Bool → ℕ → ℕ → ℕ
end_if true end rest = max end rest
end_if false end rest = rest

abbrev last_end : ℕ → Held → ℕ
last_end p [] = 0
last_end p (b ∷ bs) = end_if (nat_le (end_of b.1) p) (end_of b.1) (last_end p bs)

last_end_before : (p : ℕ) (bs : Held) → last_end p bs ≤ p
last_end_before p [] = omega arith
last_end_before p (b ∷ bs) = by_test (last_end_before p bs) (nat_le (end_of b.1) p) refl
  where
    by_test : last_end p bs ≤ p → (test : Bool) → nat_le (end_of b.1) p ≡ test → end_if test (end_of b.1) (last_end p bs) ≤ p
    by_test rest true e = let le = true_le (end_of b.1) p e in omega (arith, rest, le)
    by_test rest false e = rest

-- the ends so far stay ends: what is free at a position is free at the last end before it
abbrev EndsBy : ℕ → ℕ → Held → Type 0
EndsBy p c [] = Unit {0}
EndsBy p c (b ∷ bs) = (end_of b.1 ≤ p → end_of b.1 ≤ c) × EndsBy p c bs

ends_by_more : (p c e : ℕ) (bs : Held) → c ≤ e → EndsBy p c bs → EndsBy p e bs
ends_by_more p c e [] le ends = tt
ends_by_more p c e (b ∷ bs) le ends = (λ h. let k = ends.0 h in omega (arith, k, le), ends_by_more p c e bs le ends.1)

ends_by_last : (p : ℕ) (bs : Held) → EndsBy p (last_end p bs) bs
ends_by_last p [] = tt
ends_by_last p (b ∷ bs) = by_test (ends_by_last p bs) (nat_le (end_of b.1) p) refl
  where
    by_test : EndsBy p (last_end p bs) bs → (test : Bool) → nat_le (end_of b.1) p ≡ test → EndsBy p (end_if test (end_of b.1) (last_end p bs)) (b ∷ bs)
    by_test rest true e = (λ h. omega arith, ends_by_more p (last_end p bs) (max (end_of b.1) (last_end p bs)) bs (omega arith) rest)
    by_test rest false e = (λ h. absurd (false≢true (sym e ∙ le_true (end_of b.1) p h)), rest)

apart_earlier : (p c n : ℕ) (place : Place) → c ≤ p → (end_of place ≤ p → end_of place ≤ c) → is_apart p n place ≡ true → is_apart c n place ≡ true
apart_earlier p c n place le ends apart = by_test (nat_le (end_of place) p) refl
  where
    is : min (p + n) (end_of place) ≤ max p place.position
    is = true_le (min (p + n) (end_of place)) (max p place.position) apart

    by_test : (test : Bool) → nat_le (end_of place) p ≡ test → is_apart c n place ≡ true
    by_test true e = let k = ends (true_le (end_of place) p e) in le_true (min (c + n) (end_of place)) (max c place.position) (omega (arith, k))
    by_test false e = let past = not_apart_end (end_of place) p e in le_true (min (c + n) (end_of place)) (max c place.position) (omega (arith, is, past, le))
      where
        not_apart_end : (a b : ℕ) → nat_le a b ≡ false → b < a
        not_apart_end a b h = grind (arith, nat_tests)

room_earlier : (p c n : ℕ) (bs : Held) → c ≤ p → EndsBy p c bs → has_room n bs p ≡ true → has_room n bs c ≡ true
room_earlier p c n [] le ends room = let r = true_le (p + n) all_positions room in le_true (c + n) all_positions (omega (arith, r, le))
room_earlier p c n (b ∷ bs) le ends room = let parts = both_true (is_apart p n b.1) (has_room n bs p) room in
    both_are (is_apart c n b.1) (has_room n bs c) (apart_earlier p c n b.1 le ends.0 parts.0) (room_earlier p c n bs le ends.1 parts.1)

-- the least of 0 and the ends that have room is at most the last end
at_most_last : (n p : ℕ) (held bs : Held) → has_room n held (last_end p bs) ≡ true → AtMost (lesser_if (has_room n held 0) 0 (least_end n held bs)) (last_end p bs)
at_most_last n p held [] room = rw room (lesser_new 0 None)
at_most_last n p held (b ∷ bs) room = by_test (at_most_last n p held bs) (nat_le (end_of b.1) p) refl
  where
    more : (c : ℕ) → AtMost (lesser_if (has_room n held 0) 0 (least_end n held bs)) c → AtMost (lesser_if (has_room n held 0) 0 (least_end n held (b ∷ bs))) c
    more c a = moved (has_room n held 0) (has_room n held (end_of b.1)) a
      where
        moved : (r s : Bool) → AtMost (lesser_if r 0 (least_end n held bs)) c → AtMost (lesser_if r 0 (lesser_if s (end_of b.1) (least_end n held bs))) c
        moved true s k = let new = lesser_new 0 (lesser_if s (end_of b.1) (least_end n held bs)) in (new.0, new.1, omega (arith, new.2))
        moved false s k = lesser_if_old s (end_of b.1) c (least_end n held bs) k

    at_end : has_room n held (end_of b.1) ≡ true → AtMost (lesser_if (has_room n held 0) 0 (least_end n held (b ∷ bs))) (end_of b.1)
    at_end e = lesser_if_old (has_room n held 0) 0 (end_of b.1) (least_end n held (b ∷ bs)) (rw e (lesser_new (end_of b.1) (least_end n held bs)))

    by_max : (has_room n held (last_end p bs) ≡ true → AtMost (lesser_if (has_room n held 0) 0 (least_end n held bs)) (last_end p bs)) → (m : ℕ) → ((m ≡ end_of b.1) ⊎ (m ≡ last_end p bs)) → has_room n held m ≡ true → AtMost (lesser_if (has_room n held 0) 0 (least_end n held (b ∷ bs))) m
    by_max rest m is e = ⊎_elim
        (λ (is_end : m ≡ end_of b.1). subst (λ z. AtMost (lesser_if (has_room n held 0) 0 (least_end n held (b ∷ bs))) z) (sym is_end) (at_end (ap (has_room n held) (sym is_end) ∙ e)))
        (λ (is_rest : m ≡ last_end p bs). subst (λ z. AtMost (lesser_if (has_room n held 0) 0 (least_end n held (b ∷ bs))) z) (sym is_rest)
        (more (last_end p bs) (rest (ap (has_room n held) (sym is_rest) ∙ e)))) is

    one_of : (a c : ℕ) → (max a c ≡ a) ⊎ (max a c ≡ c)
    one_of a c = ⊎_elim (λ (h : a < c). inr (omega arith)) (λ (h : c ≤ a). inl (omega arith)) (cases_lt a c)

    by_test : (has_room n held (last_end p bs) ≡ true → AtMost (lesser_if (has_room n held 0) 0 (least_end n held bs)) (last_end p bs))
        → (test : Bool) → nat_le (end_of b.1) p ≡ test → AtMost (lesser_if (has_room n held 0) 0 (least_end n held (b ∷ bs))) (last_end p (b ∷ bs))
    by_test rest true e = by_max rest (last_end p (b ∷ bs)) (let is : last_end p (b ∷ bs) ≡ max (end_of b.1) (last_end p bs) = rw e refl in
        ⊎_elim (λ (h : max (end_of b.1) (last_end p bs) ≡ end_of b.1). inl (is ∙ h)) (λ (h : max (end_of b.1) (last_end p bs) ≡ last_end p bs). inr (is ∙ h)) (one_of (end_of b.1) (last_end p bs))) room
    by_test rest false e = by_max rest (last_end p (b ∷ bs)) (inr (rw e refl)) room

at_most_free : (n p : ℕ) (held : Held) → IsFree n held p → AtMost (least_free n held) p
at_most_free n p held free =
    let room = room_earlier p (last_end p held) n held (last_end_before p held) (ends_by_last p held) (free_has_room n p held free) in
    let a = at_most_last n p held held room in
    (a.0, a.1, let before = last_end_before p held in omega (arith, a.2, before))

-- what was computed has room
abbrev HasRoom : ℕ → Held → Option ℕ → Type 0
HasRoom n held None = Unit {0}
HasRoom n held (Some m) = has_room n held m ≡ true

lesser_has_room : (n e : ℕ) (held : Held) (least : Option ℕ) → has_room n held e ≡ true → HasRoom n held least → HasRoom n held (lesser e least)
lesser_has_room n e held None room rest = room
lesser_has_room n e held (Some m) room rest = ⊎_elim
    (λ (h : e < m). let is : min e m ≡ e = omega (arith, h) in ap (has_room n held) is ∙ room)
    (λ (h : m ≤ e). let is : min e m ≡ m = omega (arith, h) in ap (has_room n held) is ∙ rest) (cases_lt e m)

lesser_if_has_room : (test : Bool) (n e : ℕ) (held : Held) (least : Option ℕ) → has_room n held e ≡ test → HasRoom n held least → HasRoom n held (lesser_if test e least)
lesser_if_has_room true n e held least room rest = lesser_has_room n e held least room rest
lesser_if_has_room false n e held least room rest = rest

least_end_has_room : (n : ℕ) (held bs : Held) → HasRoom n held (least_end n held bs)
least_end_has_room n held [] = tt
least_end_has_room n held (b ∷ bs) = lesser_if_has_room (has_room n held (end_of b.1)) n (end_of b.1) held (least_end n held bs) refl (least_end_has_room n held bs)

least_free_has_room : (n : ℕ) (held : Held) → HasRoom n held (least_free n held)
least_free_has_room n held = lesser_if_has_room (has_room n held 0) n 0 held (least_end n held held) refl (least_end_has_room n held held)

-- the position that is computed is the least free one
pub computed_is_least : (n p : ℕ) (held : Held) → least_free n held ≡ Some p → IsLeastFree n held p
computed_is_least n p held is = record {
  is_free = room_is_free n p held (subst (HasRoom n held) is (least_free_has_room n held));
  is_least = λ before less free. let a = at_most_free n before held free in let same : Some p ≡ Some a.0 = sym is ∙ a.1 in let e : p ≡ a.0 = cc in absurd (omega (arith, less, e, a.2));
}

-- and the least free one is computed
pub least_is_computed : (n p : ℕ) (held : Held) → IsLeastFree n held p → least_free n held ≡ Some p
least_is_computed n p held least =
    let a = at_most_free n p held least.is_free in
    let own = computed_is_least n a.0 held a.1 in
    a.1 ∙ ap Some (⊎_elim (λ (h : a.0 < p). absurd (least.is_least a.0 h own.is_free)) (λ (h : p ≤ a.0). let e : a.0 ≡ p = omega (arith, h, a.2) in e) (cases_lt a.0 p))

-- where none is computed none is free, and the other way round
pub none_is_free : (n p : ℕ) (held : Held) → least_free n held ≡ None → IsFree n held p → ⊥
none_is_free n p held none free = let a = at_most_free n p held free in let never : None ≡ Some a.0 = sym none ∙ a.1 in cc

pub none_is_computed : (n : ℕ) (held : Held) → ((p : ℕ) → IsFree n held p → ⊥) → least_free n held ≡ None
none_is_computed n held never = by_result (least_free n held) refl
  where
    by_result : (least : Option ℕ) → least_free n held ≡ least → least_free n held ≡ None
    by_result None e = e
    by_result (Some p) e = absurd (never p (computed_is_least n p held e).is_free)
