-- What the answers on a head say, behind a fast-path packet's first byte.
use Rattle.std.proofs.Common.{◌≡◌, ℕ, zero, suc, ◌+◌, ◌-◌, ◌*◌, ◌%◌, ◌≤◌, ◌<◌, Bool, true, false, List, [], ◌∷◌, ◌++◌, length, take, inl, inr, refl, ap, sym, ◌∙◌, arith, length-append}
use Rattle.std.specs.Prelude.{nat_lt, ◌⊎◌, replicate}
use Rattle.std.proofs.lemmas.Bool.Decides.{nat_tests}
use Rattle.std.proofs.lemmas.List.{length-take-le, length-replicate}
use Rattle.tpkt_x224.specs.declared.tpkt.Packet.TheVariants.{Whole, Part, NotTpkt, BadLength}
use Rattle.fast_path.specs.Heads.{IsFastPacket, IsCountedLong, IsShort, IsShortLong, packet_of_size, after_long, after_action}
use Rattle.fast_path.proofs.Sizes.{size_whole, size_part, size_bad, size_never, is_whole, is_part, is_bad}

-- ---- a length of one byte, or of two

is_short : (l : ℕ) → nat_lt l 128 ≡ true → l < 128
is_short l e = grind (arith, nat_tests, e)

is_long : (l : ℕ) → nat_lt l 128 ≡ false → 128 ≤ l
is_long l e = grind (arith, nat_tests, e)

-- the answer is by the one
pub by_short : (l : ℕ) (bs : List ℕ) → l < 128 → after_action (l ∷ bs) ≡ packet_of_size 2 l (2 + length bs)
by_short l bs h = let e : nat_lt l 128 ≡ true = grind (arith, nat_tests, h) in rw e refl

-- or by the other
pub by_long : (l : ℕ) (bs : List ℕ) → 128 ≤ l → after_action (l ∷ bs) ≡ after_long l bs
by_long l bs h = let e : nat_lt l 128 ≡ false = grind (arith, nat_tests, h) in rw e refl

-- one of both holds
pub which : (l : ℕ) → (l < 128) ⊎ (128 ≤ l)
which l = by (nat_lt l 128) refl
  where
    by : (b : Bool) → nat_lt l 128 ≡ b → (l < 128) ⊎ (128 ≤ l)
    by true e = inl (is_short l e)
    by false e = inr (is_long l e)

-- ---- whole packets

-- so many bytes of these are a packet
abbrev pub Begins : ℕ → List ℕ → ℕ → Type 0
Begins v bs n = (2 ≤ n) × (n ≤ length (v ∷ bs)) × IsFastPacket (take n (v ∷ bs))

short_begins : (v l : ℕ) (bs : List ℕ) (n : ℕ) → v % 4 ≡ 0 → l < 128 → l ≡ n → 2 ≤ n → n ≤ 2 + length bs → IsFastPacket (take n (v ∷ l ∷ bs))
short_begins v l bs zero ev h e low high = absurd (omega (arith, low))
short_begins v l bs (suc zero) ev h e low high = absurd (omega (arith, low))
short_begins v l bs (suc (suc m)) ev h e low high =
    let size : length (take m bs) ≡ m = length-take-le m bs (omega (arith, high)) in
    (ev, inl (h, omega (arith, e, size)))

long_begins : (v l b : ℕ) (bs : List ℕ) (n : ℕ) → v % 4 ≡ 0 → 128 ≤ l → 256 * (l - 128) + b ≡ n → 3 ≤ n → n ≤ 3 + length bs → IsFastPacket (take n (v ∷ l ∷ b ∷ bs))
long_begins v l b bs zero ev h e low high = absurd (omega (arith, low))
long_begins v l b bs (suc zero) ev h e low high = absurd (omega (arith, low))
long_begins v l b bs (suc (suc zero)) ev h e low high = absurd (omega (arith, low))
long_begins v l b bs (suc (suc (suc m))) ev h e low high =
    let size : length (take m bs) ≡ m = length-take-le m bs (omega (arith, high)) in
    (ev, inr (h, omega (arith, e, size)))

after_long_begins : (v l : ℕ) (bs : List ℕ) (n : ℕ) → v % 4 ≡ 0 → 128 ≤ l → after_long l bs ≡ Whole n → Begins v (l ∷ bs) n
after_long_begins v l [] n ev h e = absurd (let no : ⊥ = cc in no)
after_long_begins v l (b ∷ bs) n ev h e =
    let f = size_whole 3 (256 * (l - 128) + b) (3 + length bs) n e in
    let low : 3 ≤ n = omega (arith, f.0, f.1) in
    let high : n ≤ 3 + length bs = omega (arith, f.0, f.2) in
    (omega (arith, low), omega (arith, high), long_begins v l b bs n ev h f.0 low high)

pub action_begins : (v : ℕ) (bs : List ℕ) (n : ℕ) → v % 4 ≡ 0 → after_action bs ≡ Whole n → Begins v bs n
action_begins v [] n ev e = absurd (let no : ⊥ = cc in no)
action_begins v (l ∷ bs) n ev e = elim (which l) [
  | inl h ↦
      let f = size_whole 2 l (2 + length bs) n (sym (by_short l bs h) ∙ e) in
      let low : 2 ≤ n = omega (arith, f.0, f.1) in
      let high : n ≤ 2 + length bs = omega (arith, f.0, f.2) in
      (low, omega (arith, high), short_begins v l bs n ev h f.0 low high)
  | inr h ↦ after_long_begins v l bs n ev h (sym (by_long l bs h) ∙ e)
]

long_again : (l : ℕ) (bs : List ℕ) (m : ℕ) → m ≤ length bs → IsCountedLong l (take m bs) → after_long l bs ≡ Whole (suc (suc m))
long_again l [] zero few p = absurd p
long_again l [] (suc m) few p = absurd p
long_again l (b ∷ bs) zero few p = absurd p
long_again l (b ∷ bs) (suc m) few p =
    let size : length (take m bs) ≡ m = length-take-le m bs (omega (arith, few)) in
    let n : 256 * (l - 128) + b ≡ suc (suc (suc m)) = omega (arith, p, size) in
    is_whole 3 (256 * (l - 128) + b) (3 + length bs) (omega (arith, n)) (omega (arith, n, few)) ∙ ap Whole n

pub action_again : (v : ℕ) (bs : List ℕ) (n : ℕ) → n ≤ length (v ∷ bs) → IsFastPacket (take n (v ∷ bs)) → after_action bs ≡ Whole n
action_again v bs zero few p = absurd p
action_again v [] (suc zero) few p = absurd p.1
action_again v (l ∷ bs) (suc zero) few p = absurd p.1
action_again v [] (suc (suc m)) few p = absurd (omega (arith, few))
action_again v (l ∷ bs) (suc (suc m)) few p =
    let there : m ≤ length bs = omega (arith, few) in
    let size : length (take m bs) ≡ m = length-take-le m bs there in
    elim (p.1) [
      | inl q ↦
          let n : l ≡ suc (suc m) = omega (arith, q.1, size) in
          by_short l bs q.0 ∙ is_whole 2 l (2 + length bs) (omega (arith, n)) (omega (arith, n, there)) ∙ ap Whole n
      | inr q ↦ by_long l bs q.0 ∙ long_again l bs m there q.1
    ]

-- ---- whole packets stay whole

long_front : (l : ℕ) (bs ys : List ℕ) (n : ℕ) → after_long l bs ≡ Whole n → after_long l (bs ++ ys) ≡ Whole n
long_front l [] ys n e = absurd (let no : ⊥ = cc in no)
long_front l (b ∷ bs) ys n e =
    let f = size_whole 3 (256 * (l - 128) + b) (3 + length bs) n e in
    is_whole 3 (256 * (l - 128) + b) (3 + length (bs ++ ys)) f.1 (omega (arith, f.2, length-append bs ys)) ∙ ap Whole f.0

pub action_front : (bs ys : List ℕ) (n : ℕ) → after_action bs ≡ Whole n → after_action (bs ++ ys) ≡ Whole n
action_front [] ys n e = absurd (let no : ⊥ = cc in no)
action_front (l ∷ bs) ys n e = elim (which l) [
  | inl h ↦
      let f = size_whole 2 l (2 + length bs) n (sym (by_short l bs h) ∙ e) in
      by_short l (bs ++ ys) h ∙ is_whole 2 l (2 + length (bs ++ ys)) f.1 (omega (arith, f.2, length-append bs ys)) ∙ ap Whole f.0
  | inr h ↦ by_long l (bs ++ ys) h ∙ long_front l bs ys n (sym (by_long l bs h) ∙ e)
]

-- ---- parts

-- more bytes complete a packet
abbrev pub Grows : List ℕ → Type 0
Grows bytes = (more : List ℕ) × (0 < length more) × IsFastPacket (bytes ++ more)

long_grows : (v l : ℕ) (bs : List ℕ) → v % 4 ≡ 0 → 128 ≤ l → after_long l bs ≡ Part → Grows (v ∷ l ∷ bs)
long_grows v l [] ev h e =
    let zeros = replicate (256 * (l - 128)) 0 in
    let size : length zeros ≡ 256 * (l - 128) = length-replicate (256 * (l - 128)) 0 in
    (3 ∷ zeros, omega arith, (ev, inr (h, omega (arith, size))))
long_grows v l (b ∷ bs) ev h e =
    let f = size_part 3 (256 * (l - 128) + b) (3 + length bs) e in
    let lacking = (256 * (l - 128) + b) - (3 + length bs) in
    let zeros = replicate lacking 0 in
    let size : length zeros ≡ lacking = length-replicate lacking 0 in
    let both : length (bs ++ zeros) ≡ length bs + length zeros = length-append bs zeros in
    (zeros, omega (arith, size, f.1), (ev, inr (h, omega (arith, size, both, f.1))))

pub action_grows : (v : ℕ) (bs : List ℕ) → v % 4 ≡ 0 → after_action bs ≡ Part → Grows (v ∷ bs)
action_grows v [] ev e = (2 ∷ [], omega arith, (ev, inl (omega arith, refl)))
action_grows v (l ∷ bs) ev e = elim (which l) [
  | inl h ↦
      let f = size_part 2 l (2 + length bs) (sym (by_short l bs h) ∙ e) in
      let lacking = l - (2 + length bs) in
      let zeros = replicate lacking 0 in
      let size : length zeros ≡ lacking = length-replicate lacking 0 in
      let both : length (bs ++ zeros) ≡ length bs + length zeros = length-append bs zeros in
      (zeros, omega (arith, size, f.1), (ev, inl (h, omega (arith, size, both, f.1))))
  | inr h ↦ long_grows v l bs ev h (sym (by_long l bs h) ∙ e)
]

long_part : (l : ℕ) (bs more : List ℕ) → 0 < length more → IsCountedLong l (bs ++ more) → after_long l bs ≡ Part
long_part l [] more some p = refl
long_part l (b ∷ bs) more some p =
    let both : length (bs ++ more) ≡ length bs + length more = length-append bs more in
    is_part 3 (256 * (l - 128) + b) (3 + length bs) (omega (arith, p)) (omega (arith, p, both, some))

pub action_part : (v : ℕ) (bs more : List ℕ) → 0 < length more → IsFastPacket (v ∷ (bs ++ more)) → after_action bs ≡ Part
action_part v [] more some p = refl
action_part v (l ∷ bs) more some p =
    let both : length (bs ++ more) ≡ length bs + length more = length-append bs more in
    elim (p.1) [
      | inl q ↦ by_short l bs q.0 ∙ is_part 2 l (2 + length bs) (omega (arith, q.1)) (omega (arith, q.1, both, some))
      | inr q ↦ by_long l bs q.0 ∙ long_part l bs more some q.1
    ]

-- ---- faults

long_never : (l : ℕ) (bs : List ℕ) → after_long l bs ≡ NotTpkt → ⊥
long_never l [] e = cc
long_never l (b ∷ bs) e = size_never 3 (256 * (l - 128) + b) (3 + length bs) e

pub action_never : (bs : List ℕ) → after_action bs ≡ NotTpkt → ⊥
action_never [] e = cc
action_never (l ∷ bs) e = elim (which l) [
  | inl h ↦ size_never 2 l (2 + length bs) (sym (by_short l bs h) ∙ e)
  | inr h ↦ long_never l bs (sym (by_long l bs h) ∙ e)
]

long_bad : (l : ℕ) (bs : List ℕ) → after_long l bs ≡ BadLength → IsShortLong l bs
long_bad l [] e = absurd (let no : ⊥ = cc in no)
long_bad l (b ∷ bs) e = size_bad 3 (256 * (l - 128) + b) (3 + length bs) e

pub action_bad : (bs : List ℕ) → after_action bs ≡ BadLength → IsShort bs
action_bad [] e = absurd (let no : ⊥ = cc in no)
action_bad (l ∷ bs) e = elim (which l) [
  | inl h ↦ inl (size_bad 2 l (2 + length bs) (sym (by_short l bs h) ∙ e))
  | inr h ↦ inr (h, long_bad l bs (sym (by_long l bs h) ∙ e))
]

bad_long : (l : ℕ) (bs : List ℕ) → IsShortLong l bs → after_long l bs ≡ BadLength
bad_long l [] p = absurd p
bad_long l (b ∷ bs) p = is_bad 3 (256 * (l - 128) + b) (3 + length bs) p

pub bad_action : (bs : List ℕ) → IsShort bs → after_action bs ≡ BadLength
bad_action [] p = absurd p
bad_action (l ∷ bs) p = elim p [
  | inl h ↦ by_short l bs (omega (arith, h)) ∙ is_bad 2 l (2 + length bs) h
  | inr q ↦ by_long l bs q.0 ∙ bad_long l bs q.1
]
