-- What vectors of sixteen lanes hold at each lane, and what a row holds where one is stored.
use Rattle.std.proofs.Common.{◌≡◌, ℕ, ◌+◌, ◌-◌, ◌<◌, ◌≤◌, ⊎_elim, List, length, get_or, bit_and, bit_xor, sym, ap, subst, ◌∙◌, arith}
use Rattle.std.proofs.lemmas.Bool.{cases_lt}
use Rattle.std.specs.Simd.Lanes.{put_chunk, zip2}
use Rattle.std.proofs.lemmas.Simd.{length-zip2, get_or-zip2, length-put_chunk, get_or-put_chunk_below, get_or-put_chunk_at, get_or-put_chunk_above}
use Rattle.lane_rop.specs.Sums.{added}
use Rattle.lane_rop.specs.Lanes.{HasLanes}
use Rattle.lane_rop.specs.Rows.{AreMade}

zip2_lanes : (f : ℕ → ℕ → ℕ) (a b : List ℕ) → length a ≡ 16 → length b ≡ 16 → HasLanes (zip2 f a b) (λ k. f (get_or a k 0) (get_or b k 0))
zip2_lanes f a b p q = record {
  long = length-zip2 f a b (p ∙ sym q) ∙ p;
  each = λ k l. get_or-zip2 f a b k 0 0 0 (omega (arith, p, l)) (omega (arith, q, l));
}

-- to each lane another is added where bits are set
pub added_lanes_are : (x a b : List ℕ) → length x ≡ 16 → length a ≡ 16 → length b ≡ 16
    → HasLanes (zip2 bit_xor a (zip2 bit_and x b)) (λ k. added (get_or x k 0) (get_or a k 0) (get_or b k 0))
added_lanes_are x a b p q r =
    let inner = zip2_lanes bit_and x b p r in
    let outer = zip2_lanes bit_xor a (zip2 bit_and x b) q inner.long in
    record {
      long = outer.long;
      each = λ k l. outer.each k l ∙ ap (bit_xor (get_or a k 0)) (inner.each k l);
    }

-- places that are made by one rule are made by another that is alike
pub made_alike : (f g : ℕ → ℕ) (from end : ℕ) (old new : List ℕ) → ((k : ℕ) → f k ≡ g k) → AreMade f from end old new → AreMade g from end old new
made_alike f g from end old new alike done = record {
  sized = done.sized;
  made = λ k late below. done.made k late below ∙ alike k;
  before = done.before;
  behind = done.behind;
}

-- where a vector is stored, sixteen more places are made
pub stored_lanes : (f : ℕ → ℕ) (old d v : List ℕ) (i : ℕ) → i + 16 ≤ length d → AreMade f 0 i old d
    → HasLanes v (λ k. f (i + k)) → AreMade f 0 (i + 16) old (put_chunk i d v)
stored_lanes f old d v i room done lanes = record {
  sized = length-put_chunk i d v ∙ done.sized;
  made = λ k _ below. ⊎_elim
      (λ (early : k < i). get_or-put_chunk_below i d v k 0 early ∙ done.made k (omega arith) early)
      (λ (late : i ≤ k). fresh k late below)
      (cases_lt k i);
  before = λ k none. absurd (omega (arith, none));
  behind = λ k above. get_or-put_chunk_above i d v k 0 (omega (arith, above, lanes.long)) ∙ done.behind k (omega (arith, above));
}
  where
    fresh : (k : ℕ) → i ≤ k → k < i + 16 → get_or (put_chunk i d v) k 0 ≡ f k
    fresh k late below =
        let back : i + (k - i) ≡ k = omega (arith, late) in
        let at = get_or-put_chunk_at i d v (k - i) 0 (omega (arith, late, below, lanes.long)) (omega (arith, room, lanes.long)) in
        let is = lanes.each (k - i) (omega (arith, late, below)) in
        subst (λ m. get_or (put_chunk i d v) m 0 ≡ f m) back (at ∙ is)

-- where a vector is stored, sixteen more places are made, whatever was behind the places so far
pub more_lanes : (f : ℕ → ℕ) (d v : List ℕ) (i : ℕ) → i + 16 ≤ length d → ((k : ℕ) → k < i → get_or d k 0 ≡ f k) → HasLanes v (λ k. f (i + k))
    → (k : ℕ) → k < i + 16 → get_or (put_chunk i d v) k 0 ≡ f k
more_lanes f d v i room done lanes k below = ⊎_elim
    (λ (early : k < i). get_or-put_chunk_below i d v k 0 early ∙ done k early)
    (λ (late : i ≤ k).
    let back : i + (k - i) ≡ k = omega (arith, late) in
    let at = get_or-put_chunk_at i d v (k - i) 0 (omega (arith, late, below, lanes.long)) (omega (arith, room, lanes.long)) in
    let is = lanes.each (k - i) (omega (arith, late, below)) in
    subst (λ m. get_or (put_chunk i d v) m 0 ≡ f m) back (at ∙ is))
    (cases_lt k i)

-- the same of a shorter vector, of lanes that are stored twice: at the first place, and before the end
pub both_ends : (f : ℕ → ℕ) (d u v : List ℕ) (m i : ℕ) → length u ≡ m → length v ≡ m → i + m ≡ length d → i ≤ m → ((k : ℕ) → k < m → get_or u k 0 ≡ f k) → ((k : ℕ) → k < m → get_or v k 0 ≡ f (i + k))
    → (k : ℕ) → k < length d → get_or (put_chunk i (put_chunk 0 d u) v) k 0 ≡ f k
both_ends f d u v m i eu ev room half first last k below = ⊎_elim
    (λ (early : k < i). get_or-put_chunk_below i (put_chunk 0 d u) v k 0 early
    ∙ (let there : k ≡ 0 + k = omega arith in ap (λ j. get_or (put_chunk 0 d u) j 0) there) ∙ get_or-put_chunk_at 0 d u k 0 (omega (arith, early, half, eu)) (omega (arith, room, eu))
    ∙ first k (omega (arith, early, half)))
    (λ (late : i ≤ k).
    let back : i + (k - i) ≡ k = omega (arith, late) in
    let at = get_or-put_chunk_at i (put_chunk 0 d u) v (k - i) 0 (omega (arith, late, below, room, ev)) (omega (arith, room, ev, length-put_chunk 0 d u)) in
    let is = last (k - i) (omega (arith, late, below, room)) in
    subst (λ m. get_or (put_chunk i (put_chunk 0 d u) v) m 0 ≡ f m) back (at ∙ is))
    (cases_lt k i)
