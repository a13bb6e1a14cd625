-- What a packet's size says of its head.
use Rattle.std.proofs.Common.{◌≡◌, ℕ, ◌<◌, ◌≤◌, Bool, true, false, cond, refl, arith}
use Rattle.std.specs.Prelude.{nat_lt}
use Rattle.std.proofs.lemmas.Bool.Decides.{nat_tests}
use Rattle.tpkt_x224.specs.declared.tpkt.Packet.TheVariants.{Whole, Part, NotTpkt, BadLength}
use Rattle.fast_path.specs.Heads.{packet_of_size}

whole_by : (a b : Bool) (n m : ℕ) → cond a BadLength (cond b Part (Whole n)) ≡ Whole m → (a ≡ false) × (b ≡ false) × (n ≡ m)
whole_by true b n m e = absurd (let h : ⊥ = cc in h)
whole_by false true n m e = absurd (let h : ⊥ = cc in h)
whole_by false false n m e = (refl, refl, cc)

part_by : (a b : Bool) (n : ℕ) → cond a BadLength (cond b Part (Whole n)) ≡ Part → (a ≡ false) × (b ≡ true)
part_by true b n e = absurd (let h : ⊥ = cc in h)
part_by false true n e = (refl, refl)
part_by false false n e = absurd (let h : ⊥ = cc in h)

bad_by : (a b : Bool) (n : ℕ) → cond a BadLength (cond b Part (Whole n)) ≡ BadLength → a ≡ true
bad_by true b n e = refl
bad_by false true n e = absurd (let h : ⊥ = cc in h)
bad_by false false n e = absurd (let h : ⊥ = cc in h)

never_by : (a b : Bool) (n : ℕ) → cond a BadLength (cond b Part (Whole n)) ≡ NotTpkt → ⊥
never_by true b n e = cc
never_by false true n e = cc
never_by false false n e = cc

module _ (k n there : ℕ) where
  pub size_whole : (m : ℕ) → packet_of_size k n there ≡ Whole m → (n ≡ m) × (k ≤ n) × (n ≤ there)
  size_whole m e =
      let c = whole_by (nat_lt n k) (nat_lt there n) n m e in
      let low = c.0 in
      let high = c.1 in
      (c.2, grind (arith, nat_tests, low), grind (arith, nat_tests, high))

  pub size_part : packet_of_size k n there ≡ Part → (k ≤ n) × (there < n)
  size_part e =
      let c = part_by (nat_lt n k) (nat_lt there n) n e in
      let low = c.0 in
      let high = c.1 in
      (grind (arith, nat_tests, low), grind (arith, nat_tests, high))

  pub size_bad : packet_of_size k n there ≡ BadLength → n < k
  size_bad e =
      let low = bad_by (nat_lt n k) (nat_lt there n) n e in
      grind (arith, nat_tests, low)

  pub size_never : packet_of_size k n there ≡ NotTpkt → ⊥
  size_never e = never_by (nat_lt n k) (nat_lt there n) n e

  pub is_whole : k ≤ n → n ≤ there → packet_of_size k n there ≡ Whole n
  is_whole low high =
      let a : nat_lt n k ≡ false = grind (arith, nat_tests, low) in
      let b : nat_lt there n ≡ false = grind (arith, nat_tests, high) in
      rw (a, b) refl

  pub is_part : k ≤ n → there < n → packet_of_size k n there ≡ Part
  is_part low high =
      let a : nat_lt n k ≡ false = grind (arith, nat_tests, low) in
      let b : nat_lt there n ≡ true = grind (arith, nat_tests, high) in
      rw (a, b) refl

  pub is_bad : n < k → packet_of_size k n there ≡ BadLength
  is_bad low =
      let a : nat_lt n k ≡ true = grind (arith, nat_tests, low) in
      rw a refl
