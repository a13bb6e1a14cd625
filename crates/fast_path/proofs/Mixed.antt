-- What stands at the head of a stream of both kinds of packets, and their streams.
use Rattle.std.proofs.Common.{◌≡◌, ℕ, zero, suc, ◌%◌, ◌≤◌, ◌<◌, ◌↔◌, Bool, true, false, List, [], ◌∷◌, ◌++◌, length, take, inl, inr, refl, sym, ◌∙◌, arith}
use Rattle.std.specs.Prelude.{◌==◌, ◌≢◌}
use Rattle.std.proofs.lemmas.Bool.Decides.{nat_tests}
use Rattle.tpkt_x224.specs.declared.tpkt.Packet.{Packet}
use Rattle.tpkt_x224.specs.declared.tpkt.Packet.TheVariants.{Whole, Part, NotTpkt, BadLength}
use Rattle.tpkt_x224.specs.Tpkt.{IsPacket, HasBadLength, packet_at}
use Rattle.tpkt_x224.specs.Pieces.{StartsWith, IsPartOf, IsHeadReader, packets_with}
use Rattle.tpkt_x224.proofs.Heads.{whole_head, part_head, version_head, length_head, whole_front}
use Rattle.tpkt_x224.proofs.AnyStream.{starts, none_left}
use Rattle.fast_path.specs.Heads.{IsStreamPacket, HasOtherAction, HasBadStreamLength, after_action, stream_packet_at}
use Rattle.fast_path.proofs.Heads.{action_begins, action_again, action_front, action_grows, action_part, action_never, action_bad, bad_action}

-- ---- by the first byte

pub data Kind (v : ℕ) : Type 0 where
  Tpkt : v ≡ 3 → Kind v
  Fast : v % 4 ≡ 0 → Kind v
  Other : v ≢ 3 → v % 4 ≢ 0 → Kind v

pub kind : (v : ℕ) → Kind v
kind v = by (v == 3) (v % 4 == 0) refl refl
  where
    by : (a b : Bool) → (v == 3) ≡ a → (v % 4 == 0) ≡ b → Kind v
    by true b e f = Tpkt (grind (arith, nat_tests, e))
    by false true e f = Fast (grind (arith, nat_tests, f))
    by false false e f = Other (grind (arith, nat_tests, e)) (grind (arith, nat_tests, f))

pub at_tpkt : (v : ℕ) (bs : List ℕ) → v ≡ 3 → stream_packet_at (v ∷ bs) ≡ packet_at (v ∷ bs)
at_tpkt v bs e = rw e refl

pub at_fast : (v : ℕ) (bs : List ℕ) → v % 4 ≡ 0 → stream_packet_at (v ∷ bs) ≡ after_action bs
at_fast v bs e =
    let a : (v == 3) ≡ false = grind (arith, nat_tests, e) in
    let b : (v % 4 == 0) ≡ true = grind (arith, nat_tests, e) in
    rw (a, b) refl

pub at_other : (v : ℕ) (bs : List ℕ) → v ≢ 3 → v % 4 ≢ 0 → stream_packet_at (v ∷ bs) ≡ NotTpkt
at_other v bs e f =
    let a : (v == 3) ≡ false = grind (arith, nat_tests, e) in
    let b : (v % 4 == 0) ≡ false = grind (arith, nat_tests, f) in
    rw (a, b) refl

-- a packet's first byte
first_tpkt : (v : ℕ) (bs : List ℕ) → IsPacket (v ∷ bs) → v ≡ 3
first_tpkt v [] p = absurd p
first_tpkt v (r ∷ []) p = absurd p
first_tpkt v (r ∷ h ∷ []) p = absurd p
first_tpkt v (r ∷ h ∷ l ∷ carried) p = p.0

-- ---- whole packets

whole_is : (bytes : List ℕ) (n : ℕ) → stream_packet_at bytes ≡ Whole n → (n ≤ length bytes) × IsStreamPacket (take n bytes)
whole_is [] n e = absurd (let no : ⊥ = cc in no)
whole_is (v ∷ bs) n e = elim (kind v) [
  | Tpkt t ↦ let w = (whole_head (v ∷ bs) n).0 (sym (at_tpkt v bs t) ∙ e) in (w.0, inl w.1)
  | Fast f ↦ let w = action_begins v bs n f (sym (at_fast v bs f) ∙ e) in (w.1, inr w.2)
  | Other t f ↦ absurd (let g = sym (at_other v bs t f) ∙ e in let no : ⊥ = cc in no)
]

whole_again : (bytes : List ℕ) (n : ℕ) → n ≤ length bytes → IsStreamPacket (take n bytes) → stream_packet_at bytes ≡ Whole n
whole_again bytes zero few (inl p) = absurd p
whole_again bytes zero few (inr p) = absurd p
whole_again [] (suc n) few p = absurd (omega (arith, few))
whole_again (v ∷ bs) (suc n) few (inl p) =
    at_tpkt v bs (first_tpkt v (take n bs) p) ∙ (whole_head (v ∷ bs) (suc n)).1 (few, p)
whole_again (v ∷ bs) (suc n) few (inr p) = at_fast v bs p.0 ∙ action_again v bs (suc n) few p

pub stream_whole : (bytes : List ℕ) (n : ℕ) → (stream_packet_at bytes ≡ Whole n) ↔ ((n ≤ length bytes) × IsStreamPacket (take n bytes))
stream_whole bytes n = (whole_is bytes n, λ p. whole_again bytes n p.0 p.1)

bounds : (bytes : List ℕ) (n : ℕ) → stream_packet_at bytes ≡ Whole n → (1 ≤ n) × (n ≤ length bytes)
bounds bytes zero e = absurd (let w = whole_is bytes zero e in elim (w.1) [ inl p ↦ p | inr p ↦ p ])
bounds bytes (suc n) e = (omega arith, (whole_is bytes (suc n) e).0)

front : (xs ys : List ℕ) (n : ℕ) → stream_packet_at xs ≡ Whole n → stream_packet_at (xs ++ ys) ≡ Whole n
front [] ys n e = absurd (let no : ⊥ = cc in no)
front (v ∷ bs) ys n e = elim (kind v) [
  | Tpkt t ↦ at_tpkt v (bs ++ ys) t ∙ whole_front (v ∷ bs) ys n (sym (at_tpkt v bs t) ∙ e)
  | Fast f ↦ at_fast v (bs ++ ys) f ∙ action_front bs ys n (sym (at_fast v bs f) ∙ e)
  | Other t f ↦ absurd (let g = sym (at_other v bs t f) ∙ e in let no : ⊥ = cc in no)
]

pub reads_streams : IsHeadReader stream_packet_at
reads_streams = record { nothing = refl; bounds = bounds; front = front }

-- ---- parts

part_is : (bytes : List ℕ) → stream_packet_at bytes ≡ Part → IsPartOf IsStreamPacket bytes
part_is [] e = (0 ∷ 2 ∷ [], omega arith, inr (refl, inl (omega arith, refl)))
part_is (v ∷ bs) e = elim (kind v) [
  | Tpkt t ↦ let g = (part_head (v ∷ bs)).0 (sym (at_tpkt v bs t) ∙ e) in (g.0, g.1, inl g.2)
  | Fast f ↦ let g = action_grows v bs f (sym (at_fast v bs f) ∙ e) in (g.0, g.1, inr g.2)
  | Other t f ↦ absurd (let g = sym (at_other v bs t f) ∙ e in let no : ⊥ = cc in no)
]

part_again : (bytes more : List ℕ) → 0 < length more → IsStreamPacket (bytes ++ more) → stream_packet_at bytes ≡ Part
part_again [] more some p = refl
part_again (v ∷ bs) more some (inl p) =
    at_tpkt v bs (first_tpkt v (bs ++ more) p) ∙ (part_head (v ∷ bs)).1 (more, some, p)
part_again (v ∷ bs) more some (inr p) = at_fast v bs p.0 ∙ action_part v bs more some p

pub stream_part : (bytes : List ℕ) → (stream_packet_at bytes ≡ Part) ↔ IsPartOf IsStreamPacket bytes
stream_part bytes = (part_is bytes, λ p. part_again bytes p.0 p.1 p.2)

-- ---- faults

other_is : (bytes : List ℕ) → stream_packet_at bytes ≡ NotTpkt → HasOtherAction bytes
other_is [] e = absurd (let no : ⊥ = cc in no)
other_is (v ∷ bs) e = elim (kind v) [
  | Tpkt t ↦ absurd ((version_head (v ∷ bs)).0 (sym (at_tpkt v bs t) ∙ e) t)
  | Fast f ↦ absurd (action_never bs (sym (at_fast v bs f) ∙ e))
  | Other t f ↦ (t, f)
]

other_again : (bytes : List ℕ) → HasOtherAction bytes → stream_packet_at bytes ≡ NotTpkt
other_again [] p = absurd p
other_again (v ∷ bs) p = at_other v bs p.0 p.1

pub stream_other : (bytes : List ℕ) → (stream_packet_at bytes ≡ NotTpkt) ↔ HasOtherAction bytes
stream_other bytes = (other_is bytes, other_again bytes)

bad_is : (bytes : List ℕ) → stream_packet_at bytes ≡ BadLength → HasBadStreamLength bytes
bad_is [] e = absurd (let no : ⊥ = cc in no)
bad_is (v ∷ bs) e = elim (kind v) [
  | Tpkt t ↦ inl ((length_head (v ∷ bs)).0 (sym (at_tpkt v bs t) ∙ e))
  | Fast f ↦ inr (f, action_bad bs (sym (at_fast v bs f) ∙ e))
  | Other t f ↦ absurd (let g = sym (at_other v bs t f) ∙ e in let no : ⊥ = cc in no)
]

first_bad : (v : ℕ) (bs : List ℕ) → HasBadLength (v ∷ bs) → v ≡ 3
first_bad v [] p = absurd p
first_bad v (r ∷ []) p = absurd p
first_bad v (r ∷ h ∷ []) p = absurd p
first_bad v (r ∷ h ∷ l ∷ carried) p = p.0

bad_again : (bytes : List ℕ) → HasBadStreamLength bytes → stream_packet_at bytes ≡ BadLength
bad_again [] (inl p) = absurd p
bad_again [] (inr p) = absurd p
bad_again (v ∷ bs) (inl p) = at_tpkt v bs (first_bad v bs p) ∙ (length_head (v ∷ bs)).1 p
bad_again (v ∷ bs) (inr p) = at_fast v bs p.0 ∙ bad_action bs p.1

pub stream_bad : (bytes : List ℕ) → (stream_packet_at bytes ≡ BadLength) ↔ HasBadStreamLength bytes
stream_bad bytes = (bad_is bytes, bad_again bytes)

-- ---- what is left

part_by : (p : Packet) (bytes : List ℕ) → stream_packet_at bytes ≡ p → (StartsWith IsStreamPacket bytes → ⊥) → (HasOtherAction bytes → ⊥) → (HasBadStreamLength bytes → ⊥)
    → IsPartOf IsStreamPacket bytes
part_by (Whole n) bytes e whole other bad = absurd (whole (starts stream_packet_at IsStreamPacket reads_streams stream_whole bytes n e))
part_by Part bytes e whole other bad = part_is bytes e
part_by NotTpkt bytes e whole other bad = absurd (other (other_is bytes e))
part_by BadLength bytes e whole other bad = absurd (bad (bad_is bytes e))

pub part_left : (bytes : List ℕ) → (HasOtherAction (packets_with stream_packet_at bytes).rest → ⊥) → (HasBadStreamLength (packets_with stream_packet_at bytes).rest → ⊥)
    → IsPartOf IsStreamPacket (packets_with stream_packet_at bytes).rest
part_left bytes other bad =
    let rest : List ℕ = (packets_with stream_packet_at bytes).rest in
    part_by (stream_packet_at rest) rest refl (none_left stream_packet_at IsStreamPacket reads_streams stream_whole bytes) other bad
