-- What stands at the head of a host's stream.
use Rattle.std.proofs.Common.{◌≡◌, ℕ, zero, suc, ◌%◌, ◌≤◌, ◌↔◌, Bool, true, false, List, [], ◌∷◌, ◌++◌, length, take, inl, inr, refl, sym, ◌∙◌, subst, arith}
use Rattle.std.specs.Prelude.{◌==◌, ◌≢◌, ◌&&◌}
use Rattle.std.proofs.lemmas.Bool.Decides.{nat_tests}
use Rattle.std.proofs.Math.Seq.{take-length}
use Rattle.tpkt_x224.specs.declared.tpkt.Packet.{Packet}
use Rattle.tpkt_x224.specs.declared.tpkt.Packet.TheVariants.{Whole, NotTpkt}
use Rattle.tpkt_x224.specs.Tpkt.{IsPacket, packet_at}
use Rattle.tpkt_x224.specs.Pieces.{StartsWith, IsHeadReader}
use Rattle.tpkt_x224.proofs.Heads.{whole_head, whole_front}
use Rattle.fast_path.specs.Heads.{after_action, is_fast}
use Rattle.fast_path.proofs.Heads.{action_begins, action_again, action_front}
use Rattle.viewer_rules.specs.HostStream.{host_packet_at, IsPlainFast, IsHostPacket}

-- ---- by the first byte

pub data Kind (fast : Bool) (v : ℕ) : Type 0 where
  Tpkt : v ≡ 3 → Kind fast v
  Fast : fast ≡ true → v ≡ 0 → Kind fast v
  Other : v ≢ 3 → (fast && (v == 0)) ≡ false → Kind fast v

pub kind : (fast : Bool) (v : ℕ) → Kind fast v
kind fast v = by fast (v == 3) (v == 0) refl refl
  where
    by : (f a b : Bool) → (v == 3) ≡ a → (v == 0) ≡ b → Kind f v
    by f true b e g = Tpkt (grind (arith, nat_tests, e))
    by true false true e g = Fast refl (grind (arith, nat_tests, g))
    by true false false e g = Other (grind (arith, nat_tests, e)) g
    by false false b e g = Other (grind (arith, nat_tests, e)) refl

-- a packet's first byte
first_tpkt : (v : ℕ) (bs : List ℕ) → IsPacket (v ∷ bs) → v ≡ 3
first_tpkt v [] p = absurd p
first_tpkt v (r ∷ []) p = absurd p
first_tpkt v (r ∷ h ∷ []) p = absurd p
first_tpkt v (r ∷ h ∷ l ∷ carried) p = p.0

action_zero : (v : ℕ) → v ≡ 0 → v % 4 ≡ 0
action_zero v e = omega (arith, e)

module _ (fast : Bool) where
  pub at_tpkt : (v : ℕ) (bs : List ℕ) → v ≡ 3 → host_packet_at fast (v ∷ bs) ≡ packet_at (v ∷ bs)
  at_tpkt v bs e = rw e refl

  pub at_fast : (v : ℕ) (bs : List ℕ) → fast ≡ true → v ≡ 0 → host_packet_at fast (v ∷ bs) ≡ after_action bs
  at_fast v bs f e = rw (f, e) refl

  pub at_other : (v : ℕ) (bs : List ℕ) → v ≢ 3 → (fast && (v == 0)) ≡ false → host_packet_at fast (v ∷ bs) ≡ NotTpkt
  at_other v bs e f =
      let a : (v == 3) ≡ false = grind (arith, nat_tests, e) in
      rw (a, f) refl

  -- ---- whole packets

  plain_is : (v : ℕ) (bs : List ℕ) (n : ℕ) → v ≡ 0 → after_action bs ≡ Whole n → (n ≤ length (v ∷ bs)) × IsPlainFast (take n (v ∷ bs))
  plain_is v bs zero e w = let b = action_begins v bs zero (action_zero v e) w in absurd (omega (arith, b.0))
  plain_is v bs (suc n) e w = let b = action_begins v bs (suc n) (action_zero v e) w in (b.1, (e, b.2.1))

  whole_is : (bytes : List ℕ) (n : ℕ) → host_packet_at fast bytes ≡ Whole n → (n ≤ length bytes) × IsHostPacket fast (take n bytes)
  whole_is [] n e = absurd (let no : ⊥ = cc in no)
  whole_is (v ∷ bs) n e = elim (kind fast v) [
    | Tpkt t ↦ let w = (whole_head (v ∷ bs) n).0 (sym (at_tpkt v bs t) ∙ e) in (w.0, inl w.1)
    | Fast f z ↦ let w = plain_is v bs n z (sym (at_fast v bs f z) ∙ e) in (w.0, inr (f, w.1))
    | Other t f ↦ absurd (let g = sym (at_other v bs t f) ∙ e in let no : ⊥ = cc in no)
  ]

  whole_again : (bytes : List ℕ) (n : ℕ) → n ≤ length bytes → IsHostPacket fast (take n bytes) → host_packet_at fast bytes ≡ Whole n
  whole_again bytes zero few (inl p) = absurd p
  whole_again bytes zero few (inr p) = absurd p.1
  whole_again [] (suc n) few p = absurd (omega (arith, few))
  whole_again (v ∷ bs) (suc n) few (inl p) =
      at_tpkt v bs (first_tpkt v (take n bs) p) ∙ (whole_head (v ∷ bs) (suc n)).1 (few, p)
  whole_again (v ∷ bs) (suc n) few (inr p) =
      at_fast v bs p.0 p.1.0 ∙ action_again v bs (suc n) few (action_zero v p.1.0, p.1.1)

  pub host_whole : (bytes : List ℕ) (n : ℕ) → (host_packet_at fast bytes ≡ Whole n) ↔ ((n ≤ length bytes) × IsHostPacket fast (take n bytes))
  host_whole bytes n = (whole_is bytes n, λ p. whole_again bytes n p.0 p.1)

  bounds : (bytes : List ℕ) (n : ℕ) → host_packet_at fast bytes ≡ Whole n → (1 ≤ n) × (n ≤ length bytes)
  bounds bytes zero e = absurd (let w = whole_is bytes zero e in elim (w.1) [ inl p ↦ p | inr p ↦ p.1 ])
  bounds bytes (suc n) e = (omega arith, (whole_is bytes (suc n) e).0)

  front : (xs ys : List ℕ) (n : ℕ) → host_packet_at fast xs ≡ Whole n → host_packet_at fast (xs ++ ys) ≡ Whole n
  front [] ys n e = absurd (let no : ⊥ = cc in no)
  front (v ∷ bs) ys n e = elim (kind fast v) [
    | Tpkt t ↦ at_tpkt v (bs ++ ys) t ∙ whole_front (v ∷ bs) ys n (sym (at_tpkt v bs t) ∙ e)
    | Fast f z ↦ at_fast v (bs ++ ys) f z ∙ action_front bs ys n (sym (at_fast v bs f z) ∙ e)
    | Other t f ↦ absurd (let g = sym (at_other v bs t f) ∙ e in let no : ⊥ = cc in no)
  ]

  pub reads_hosts : IsHeadReader (host_packet_at fast)
  reads_hosts = record { nothing = refl; bounds = bounds; front = front }

  -- a packet is whole by itself
  pub host_alone : (p : List ℕ) → IsHostPacket fast p → host_packet_at fast p ≡ Whole (length p)
  host_alone p is = (host_whole p (length p)).1 (omega arith, subst (IsHostPacket fast) (sym (take-length p)) is)

  pub no_packet : StartsWith (IsHostPacket fast) [] → ⊥
  no_packet s = nothing s.0 s.1 s.2 s.3
    where
      nothing : (packet more : List ℕ) → IsHostPacket fast packet → [] ≡ packet ++ more → ⊥
      nothing [] more (inl p) e = p
      nothing [] more (inr p) e = p.1
      nothing (b ∷ packet) more p e = let h : ⊥ = cc in h

-- ---- where the fast path isn't taken

-- what stands at a head but for another first byte is the same for every client
pub same_head : (fast : Bool) (bytes : List ℕ) (p : Packet) → host_packet_at false bytes ≡ p → (p ≡ NotTpkt → ⊥) → host_packet_at fast bytes ≡ p
same_head fast [] p e other = e
same_head fast (v ∷ bs) p e other = elim (kind false v) [
  | Tpkt t ↦ at_tpkt fast v bs t ∙ (sym (at_tpkt false v bs t) ∙ e)
  | Fast f z ↦ absurd (let no : ⊥ = cc in no)
  | Other t f ↦ absurd (other (sym e ∙ at_other false v bs t f))
]

-- a packet that every client takes isn't of the fast path
pub tpkt_slow : (p : List ℕ) → IsPacket p → is_fast p ≡ false
tpkt_slow [] is = absurd is
tpkt_slow (v ∷ bs) is = let three = first_tpkt v bs is in rw three refl
