-- What the answers on the head of a stream say.
use Rattle.std.proofs.Common.{◌≡◌, ℕ, zero, suc, ◌+◌, ◌-◌, ◌*◌, ◌≤◌, ◌<◌, ◌↔◌, Bool, true, false, cond, List, [], ◌∷◌, ◌++◌, length, take, refl, ap, sym, ◌∙◌, arith, length-append}
use Rattle.std.specs.Prelude.{nat_lt, ◌==◌, replicate}
use Rattle.std.proofs.lemmas.Bool.Decides.{nat_tests}
use Rattle.std.proofs.lemmas.Bool.{eqb-true}
use Rattle.std.proofs.lemmas.List.{length-take-le, length-replicate}
use Rattle.tpkt_x224.specs.declared.tpkt.Packet.{Packet}
use Rattle.tpkt_x224.specs.declared.tpkt.Packet.TheVariants.{Whole, Part, NotTpkt, BadLength}
use Rattle.tpkt_x224.specs.Tpkt.{IsPacket, HasWrongVersion, HasBadLength, packet_of_length, after_version, packet_at}

-- a whole packet of n bytes stands at the head
abbrev pub BeginsWithPacket : List ℕ → ℕ → Type 0
BeginsWithPacket bytes n = (n ≤ length bytes) × IsPacket (take n bytes)

chosen : (a b : Bool) (n m : ℕ) → cond a BadLength (cond b Part (Whole n)) ≡ Whole m → (a ≡ false) × (b ≡ false) × (n ≡ m)
chosen true b n m e = absurd (let h : ⊥ = cc in h)
chosen false true n m e = absurd (let h : ⊥ = cc in h)
chosen false false n m e = (refl, refl, cc)

left_out : (a b : Bool) (n : ℕ) → cond a BadLength (cond b Part (Whole n)) ≡ Part → (a ≡ false) × (b ≡ true)
left_out true b n e = absurd (let h : ⊥ = cc in h)
left_out false true n e = (refl, refl)
left_out false false n e = absurd (let h : ⊥ = cc in h)

pub of_length_whole : (n k m : ℕ) → packet_of_length n k ≡ Whole m → (n ≡ m) × (7 ≤ n) × (n ≤ 4 + k)
of_length_whole n k m e =
    let c = chosen (nat_lt n 7) (nat_lt (4 + k) n) n m e in
    let low = c.0 in let high = c.1 in
    (c.2, grind (arith, nat_tests, low), grind (arith, nat_tests, high))

pub of_length_part : (n k : ℕ) → packet_of_length n k ≡ Part → (7 ≤ n) × (4 + k < n)
of_length_part n k e =
    let c = left_out (nat_lt n 7) (nat_lt (4 + k) n) n e in
    let low = c.0 in let high = c.1 in
    (grind (arith, nat_tests, low), grind (arith, nat_tests, high))

pub length_fits : (n k : ℕ) → 7 ≤ n → n ≤ 4 + k → packet_of_length n k ≡ Whole n
length_fits n k low high =
    let a : nat_lt n 7 ≡ false = grind (arith, nat_tests, low) in
    let b : nat_lt (4 + k) n ≡ false = grind (arith, nat_tests, high) in
    rw (a, b) refl

pub length_lacks : (n k : ℕ) → 7 ≤ n → 4 + k < n → packet_of_length n k ≡ Part
length_lacks n k low high =
    let a : nat_lt n 7 ≡ false = grind (arith, nat_tests, low) in
    let b : nat_lt (4 + k) n ≡ true = grind (arith, nat_tests, high) in
    rw (a, b) refl

-- a right version, and what is behind it
versioned : (b : Bool) (p q : Packet) → (q ≡ NotTpkt → ⊥) → cond b p NotTpkt ≡ q → (b ≡ true) × (p ≡ q)
versioned true p q other e = (refl, e)
versioned false p q other e = absurd (other (sym e))

not_whole : (n : ℕ) → Whole n ≡ NotTpkt → ⊥
not_whole n e = cc

not_part : Part ≡ NotTpkt → ⊥
not_part e = cc

pub right_version : (v : ℕ) (p q : Packet) → (q ≡ NotTpkt → ⊥) → cond (v == 3) p NotTpkt ≡ q → (v ≡ 3) × (p ≡ q)
right_version v p q other e = let s = versioned (v == 3) p q other e in (eqb-true v 3 s.0, s.1)

after_front : (bs ys : List ℕ) (n : ℕ) → after_version bs ≡ Whole n → after_version (bs ++ ys) ≡ Whole n
after_front [] ys n e = absurd (let h : ⊥ = cc in h)
after_front (r ∷ []) ys n e = absurd (let h : ⊥ = cc in h)
after_front (r ∷ h ∷ []) ys n e = absurd (let h : ⊥ = cc in h)
after_front (r ∷ h ∷ l ∷ carried) ys n e =
    let f = of_length_whole (256 * h + l) (length carried) n e in
    length_fits (256 * h + l) (length (carried ++ ys)) f.1 (omega (arith, f.2, length-append carried ys)) ∙ ap Whole f.0

-- a whole packet stays whole, whatever follows
pub whole_front : (xs ys : List ℕ) (n : ℕ) → packet_at xs ≡ Whole n → packet_at (xs ++ ys) ≡ Whole n
whole_front [] ys n e = absurd (let h : ⊥ = cc in h)
whole_front (v ∷ bs) ys n e =
    let s = right_version v (after_version bs) (Whole n) (not_whole n) e in
    rw s.0 (after_front bs ys n s.1)

after_bounds : (bs : List ℕ) (n : ℕ) → after_version bs ≡ Whole n → (7 ≤ n) × (n ≤ 1 + length bs)
after_bounds [] n e = absurd (let h : ⊥ = cc in h)
after_bounds (r ∷ []) n e = absurd (let h : ⊥ = cc in h)
after_bounds (r ∷ h ∷ []) n e = absurd (let h : ⊥ = cc in h)
after_bounds (r ∷ h ∷ l ∷ carried) n e =
    let f = of_length_whole (256 * h + l) (length carried) n e in
    (omega (arith, f.0, f.1), omega (arith, f.0, f.2))

pub whole_bounds : (xs : List ℕ) (n : ℕ) → packet_at xs ≡ Whole n → (7 ≤ n) × (n ≤ length xs)
whole_bounds [] n e = absurd (let h : ⊥ = cc in h)
whole_bounds (v ∷ bs) n e =
    let s = right_version v (after_version bs) (Whole n) (not_whole n) e in
    let f = after_bounds bs n s.1 in
    (f.0, omega (arith, f.1))

-- ---- whole packets

packet_size : (bytes : List ℕ) → IsPacket bytes → 7 ≤ length bytes
packet_size [] p = absurd p
packet_size (v ∷ []) p = absurd p
packet_size (v ∷ r ∷ []) p = absurd p
packet_size (v ∷ r ∷ h ∷ []) p = absurd p
packet_size (v ∷ r ∷ h ∷ l ∷ carried) p = omega (arith, p.2)

front_of : (v r h l : ℕ) (carried : List ℕ) (n : ℕ) → v ≡ 3 → 256 * h + l ≡ n → 7 ≤ n → n ≤ 4 + length carried → IsPacket (take n (v ∷ r ∷ h ∷ l ∷ carried))
front_of v r h l carried zero ev en low high = absurd (omega (arith, low))
front_of v r h l carried (suc zero) ev en low high = absurd (omega (arith, low))
front_of v r h l carried (suc (suc zero)) ev en low high = absurd (omega (arith, low))
front_of v r h l carried (suc (suc (suc zero))) ev en low high = absurd (omega (arith, low))
front_of v r h l carried (suc (suc (suc (suc m)))) ev en low high =
    let few : m ≤ length carried = omega (arith, high) in
    let size : length (take m carried) ≡ m = length-take-le m carried few in
    (ev, omega (arith, en, size), omega (arith, low, size))

after_begins : (v : ℕ) (bs : List ℕ) (n : ℕ) → v ≡ 3 → after_version bs ≡ Whole n → BeginsWithPacket (v ∷ bs) n
after_begins v [] n ev e = absurd (let h : ⊥ = cc in h)
after_begins v (r ∷ []) n ev e = absurd (let h : ⊥ = cc in h)
after_begins v (r ∷ h ∷ []) n ev e = absurd (let h : ⊥ = cc in h)
after_begins v (r ∷ h ∷ l ∷ carried) n ev e =
    let f = of_length_whole (256 * h + l) (length carried) n e in
    let low : 7 ≤ n = omega (arith, f.0, f.1) in
    let high : n ≤ 4 + length carried = omega (arith, f.0, f.2) in
    (omega (arith, high), front_of v r h l carried n ev f.0 low high)

whole_begins : (bytes : List ℕ) (n : ℕ) → packet_at bytes ≡ Whole n → BeginsWithPacket bytes n
whole_begins [] n e = absurd (let h : ⊥ = cc in h)
whole_begins (v ∷ bs) n e =
    let s = right_version v (after_version bs) (Whole n) (not_whole n) e in
    after_begins v bs n s.0 s.1

-- a packet has seven bytes, so fewer hold none
too_few : (bytes : List ℕ) (n : ℕ) → n ≤ length bytes → length bytes < 7 → IsPacket (take n bytes) → ⊥
too_few bytes n h few p =
    let size = packet_size (take n bytes) p in
    let same = length-take-le n bytes h in
    omega (arith, h, few, size, same)

begins_whole : (bytes : List ℕ) (n : ℕ) → n ≤ length bytes → IsPacket (take n bytes) → packet_at bytes ≡ Whole n
begins_whole [] n h p = absurd (too_few [] n h (omega arith) p)
begins_whole (v ∷ []) n h p = absurd (too_few (v ∷ []) n h (omega arith) p)
begins_whole (v ∷ r ∷ []) n h p = absurd (too_few (v ∷ r ∷ []) n h (omega arith) p)
begins_whole (v ∷ r ∷ g ∷ []) n h p = absurd (too_few (v ∷ r ∷ g ∷ []) n h (omega arith) p)
begins_whole (v ∷ r ∷ g ∷ l ∷ carried) zero h p = absurd p
begins_whole (v ∷ r ∷ g ∷ l ∷ carried) (suc zero) h p = absurd p
begins_whole (v ∷ r ∷ g ∷ l ∷ carried) (suc (suc zero)) h p = absurd p
begins_whole (v ∷ r ∷ g ∷ l ∷ carried) (suc (suc (suc zero))) h p = absurd p
begins_whole (v ∷ r ∷ g ∷ l ∷ carried) (suc (suc (suc (suc m)))) h p =
    let few : m ≤ length carried = omega (arith, h) in
    let size : length (take m carried) ≡ m = length-take-le m carried few in
    let ev : v ≡ 3 = p.0 in
    let n : 256 * g + l ≡ suc (suc (suc (suc m))) = omega (arith, p.1, size) in
    rw ev (length_fits (256 * g + l) (length carried) (omega (arith, p.1, p.2)) (omega (arith, n, few)) ∙ ap Whole n)

pub whole_head : (bytes : List ℕ) (n : ℕ) → (packet_at bytes ≡ Whole n) ↔ ((n ≤ length bytes) × IsPacket (take n bytes))
whole_head bytes n = (whole_begins bytes n, λ p. begins_whole bytes n p.0 p.1)

-- ---- parts

abbrev pub CanGrow : List ℕ → Type 0
CanGrow bytes = (more : List ℕ) × (0 < length more) × IsPacket (bytes ++ more)

after_grows : (v : ℕ) (bs : List ℕ) → v ≡ 3 → after_version bs ≡ Part → CanGrow (v ∷ bs)
after_grows v [] ev e = (0 ∷ 0 ∷ 7 ∷ 0 ∷ 0 ∷ 0 ∷ [], omega arith, (ev, refl, omega arith))
after_grows v (r ∷ []) ev e = (0 ∷ 7 ∷ 0 ∷ 0 ∷ 0 ∷ [], omega arith, (ev, refl, omega arith))
after_grows v (r ∷ h ∷ []) ev e =
    let zeros = replicate (256 * h + 3) 0 in
    let size : length zeros ≡ 256 * h + 3 = length-replicate (256 * h + 3) 0 in
    (7 ∷ zeros, omega arith, (ev, omega (arith, size), omega (arith, size)))
after_grows v (r ∷ h ∷ l ∷ carried) ev e =
    let f = of_length_part (256 * h + l) (length carried) e in
    let lacking = (256 * h + l) - (4 + length carried) in
    let zeros = replicate lacking 0 in
    let size : length zeros ≡ lacking = length-replicate lacking 0 in
    let both : length (carried ++ zeros) ≡ length carried + length zeros = length-append carried zeros in
    (zeros, omega (arith, size, f.1), (ev, omega (arith, size, both, f.1), omega (arith, size, both, f.0, f.1)))

part_grows : (bytes : List ℕ) → packet_at bytes ≡ Part → CanGrow bytes
part_grows [] e = (3 ∷ 0 ∷ 0 ∷ 7 ∷ 0 ∷ 0 ∷ 0 ∷ [], omega arith, (refl, refl, omega arith))
part_grows (v ∷ bs) e =
    let s = right_version v (after_version bs) Part not_part e in
    after_grows v bs s.0 s.1

version_is : (v : ℕ) (bs : List ℕ) → IsPacket (v ∷ bs) → v ≡ 3
version_is v [] p = absurd p
version_is v (r ∷ []) p = absurd p
version_is v (r ∷ h ∷ []) p = absurd p
version_is v (r ∷ h ∷ l ∷ carried) p = p.0

grows_part : (bytes more : List ℕ) → 0 < length more → IsPacket (bytes ++ more) → packet_at bytes ≡ Part
grows_part [] more some p = refl
grows_part (v ∷ []) more some p = let ev : v ≡ 3 = version_is v more p in rw ev refl
grows_part (v ∷ r ∷ []) more some p = let ev : v ≡ 3 = version_is v (r ∷ more) p in rw ev refl
grows_part (v ∷ r ∷ h ∷ []) more some p = let ev : v ≡ 3 = version_is v (r ∷ h ∷ more) p in rw ev refl
grows_part (v ∷ r ∷ h ∷ l ∷ carried) more some p =
    let ev : v ≡ 3 = p.0 in
    let both : length (carried ++ more) ≡ length carried + length more = length-append carried more in
    rw ev (length_lacks (256 * h + l) (length carried) (omega (arith, p.1, p.2)) (omega (arith, p.1, both, some)))

pub part_head : (bytes : List ℕ) → (packet_at bytes ≡ Part) ↔ CanGrow bytes
part_head bytes = (part_grows bytes, λ g. grows_part bytes g.0 g.1 g.2)

-- ---- faults

never_other : (a b : Bool) (n : ℕ) → cond a BadLength (cond b Part (Whole n)) ≡ NotTpkt → ⊥
never_other true b n e = cc
never_other false true n e = cc
never_other false false n e = cc

after_never : (bs : List ℕ) → after_version bs ≡ NotTpkt → ⊥
after_never [] e = cc
after_never (r ∷ []) e = cc
after_never (r ∷ h ∷ []) e = cc
after_never (r ∷ h ∷ l ∷ carried) e = never_other (nat_lt (256 * h + l) 7) (nat_lt (4 + length carried) (256 * h + l)) (256 * h + l) e

at_three : (v : ℕ) (bs : List ℕ) → v ≡ 3 → packet_at (v ∷ bs) ≡ after_version bs
at_three v bs ev = rw ev refl

is_wrong : (v : ℕ) (bs : List ℕ) → packet_at (v ∷ bs) ≡ NotTpkt → v ≡ 3 → ⊥
is_wrong v bs e ev = after_never bs (sym (at_three v bs ev) ∙ e)

wrong_version : (bytes : List ℕ) → packet_at bytes ≡ NotTpkt → HasWrongVersion bytes
wrong_version [] e = absurd (not_part e)
wrong_version (v ∷ bs) e = is_wrong v bs e

refused_version : (bytes : List ℕ) → HasWrongVersion bytes → packet_at bytes ≡ NotTpkt
refused_version [] p = absurd p
refused_version (v ∷ bs) p =
    let other : (v == 3) ≡ false = grind (arith, nat_tests, p) in
    rw other refl

pub version_head : (bytes : List ℕ) → (packet_at bytes ≡ NotTpkt) ↔ HasWrongVersion bytes
version_head bytes = (wrong_version bytes, refused_version bytes)

too_low : (a b : Bool) (n : ℕ) → cond a BadLength (cond b Part (Whole n)) ≡ BadLength → a ≡ true
too_low true b n e = refl
too_low false true n e = absurd (let h : ⊥ = cc in h)
too_low false false n e = absurd (let h : ⊥ = cc in h)

not_bad : BadLength ≡ NotTpkt → ⊥
not_bad e = cc

after_bad : (v : ℕ) (bs : List ℕ) → v ≡ 3 → after_version bs ≡ BadLength → HasBadLength (v ∷ bs)
after_bad v [] ev e = absurd (let h : ⊥ = cc in h)
after_bad v (r ∷ []) ev e = absurd (let h : ⊥ = cc in h)
after_bad v (r ∷ h ∷ []) ev e = absurd (let h : ⊥ = cc in h)
after_bad v (r ∷ h ∷ l ∷ carried) ev e =
    let low = too_low (nat_lt (256 * h + l) 7) (nat_lt (4 + length carried) (256 * h + l)) (256 * h + l) e in
    (ev, grind (arith, nat_tests, low))

bad_length : (bytes : List ℕ) → packet_at bytes ≡ BadLength → HasBadLength bytes
bad_length [] e = absurd (let h : ⊥ = cc in h)
bad_length (v ∷ bs) e =
    let s = right_version v (after_version bs) BadLength not_bad e in
    after_bad v bs s.0 s.1

refused_length : (bytes : List ℕ) → HasBadLength bytes → packet_at bytes ≡ BadLength
refused_length [] p = absurd p
refused_length (v ∷ []) p = absurd p
refused_length (v ∷ r ∷ []) p = absurd p
refused_length (v ∷ r ∷ h ∷ []) p = absurd p
refused_length (v ∷ r ∷ h ∷ l ∷ carried) p =
    let low = p.1 in
    let few : nat_lt (256 * h + l) 7 ≡ true = grind (arith, nat_tests, low) in
    at_three v (r ∷ h ∷ l ∷ carried) p.0 ∙ ap (λ b. cond b BadLength (cond (nat_lt (4 + length carried) (256 * h + l)) Part (Whole (256 * h + l)))) few

pub length_head : (bytes : List ℕ) → (packet_at bytes ≡ BadLength) ↔ HasBadLength bytes
length_head bytes = (bad_length bytes, refused_length bytes)
