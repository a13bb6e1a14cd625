-- Runs counted by lanes: what a mask says of its bits, and how a count goes on behind a stretch of it.
use Rattle.std.proofs.Common.{◌≡◌, ℕ, zero, suc, ◌+◌, ◌-◌, ◌%◌, ◌^◌, ◌<◌, ◌≤◌, ⊎_elim, List, [], ◌∷◌, Bool, true, false, cond, eqb, length, take, drop, get_or, map, replicate, refl, sym, ap, subst, ◌∙◌, arith, w32, w64}
use Rattle.std.specs.List.{common_prefix_len, prefix_len}
use Rattle.std.specs.Int.{trailing_ones, bit_at}
use Rattle.std.specs.Simd.Lanes.{chunk, mask_l, zip2, top}
use Rattle.std.proofs.lemmas.Bool.{cases_lt}
use Rattle.std.proofs.lemmas.Nat.Bits.{bit_at_above, bit_at-trailing_ones}
use Rattle.std.proofs.lemmas.List.{drop-drop, get_or-take, length-map}
use Rattle.std.proofs.lemmas.List.Sums.{common_prefix_len-le, prefix_len_is, prefix_len-le-length}
use Rattle.std.proofs.lemmas.Simd.{bit_mask_l, bitmask_splat, get_or-zip2, length-chunk, length-zip2, mask_l-lt, mask_l-mod, tops_compared}

bit_is_true : (b : Bool) → ◌≡◌ {A = ℕ} (cond b 1 0) 1 → b ≡ true
bit_is_true true h = refl
bit_is_true false h = absurd (omega (arith, h))

bit_is_false : (b : Bool) → ◌≡◌ {A = ℕ} (cond b 1 0) 0 → b ≡ false
bit_is_false true h = absurd (omega (arith, h))
bit_is_false false h = refl

-- how many bits of a mask are set from the lowest on is how many of its list are true from the front on
ones_are_run : (bits : List Bool) → length bits ≡ 16 → trailing_ones w64 (mask_l bits) ≡ prefix_len (λ b. b) bits
ones_are_run bits long = sym (prefix_len_is (λ b. b) bits count false short
    (λ k below. bit_is_true (get_or bits k false) (sym (bit_mask_l bits k) ∙ lowest.2 k below))
    (λ _. bit_is_false (get_or bits count false) (sym (bit_mask_l bits count) ∙ lowest.1)))
  where
    count : ℕ
    count = trailing_ones w64 (mask_l bits)

    small : mask_l bits < 2 ^ 16
    small = subst (λ n. mask_l bits < 2 ^ n) long (mask_l-lt bits)

    lowest : (count < 64) × (bit_at (mask_l bits) count ≡ 0) × ((i : ℕ) → i < count → bit_at (mask_l bits) i ≡ 1)
    lowest = bit_at-trailing_ones w64 (mask_l bits) (omega (arith, small))

    short : count ≤ length bits
    short = ⊎_elim
        (λ (over : length bits < count). let one = lowest.2 (length bits) over in let none = bit_at_above (mask_l bits) (length bits) (length bits) (mask_l-lt bits) (omega arith) in absurd (omega (arith, one, none)))
        (λ (fits : count ≤ length bits). fits)
        (cases_lt (length bits) count)

run_of_map : (p : ℕ → Bool) (xs : List ℕ) → prefix_len (λ b. b) (map p xs) ≡ prefix_len p xs
run_of_map p [] = refl
run_of_map p (x ∷ xs) = ap (λ n. cond (p x) (1 + n) 0) (run_of_map p xs)

run_of_pairs : (xs ys : List ℕ) → prefix_len (λ b. b) (zip2 eqb xs ys) ≡ common_prefix_len eqb xs ys
run_of_pairs [] ys = refl
run_of_pairs (x ∷ xs) [] = refl
run_of_pairs (x ∷ xs) (y ∷ ys) = ap (λ n. cond (eqb x y) (1 + n) 0) (run_of_pairs xs ys)

-- the bits of a comparison with one colour, and of one with other pixels
pub color_ones : (color : ℕ) (xs : List ℕ) → length xs ≡ 16
    → trailing_ones w64 (mask_l (map (top 31) (zip2 (λ a b. cond (eqb a b) (2 ^ 32 - 1) 0) xs (replicate 16 color))) % 2 ^ 64) ≡ prefix_len (λ x. eqb x color) xs
color_ones color xs long =
    ap (trailing_ones w64) (bitmask_splat w32 eqb xs 16 color long (omega arith))
    ∙ ones_are_run (map (λ x. eqb x color) xs) (length-map xs (λ x. eqb x color) ∙ long)
    ∙ run_of_map (λ x. eqb x color) xs

pub pair_ones : (xs ys : List ℕ) → length xs ≡ 16 → length ys ≡ 16
    → trailing_ones w64 (mask_l (map (top 31) (zip2 (λ a b. cond (eqb a b) (2 ^ 32 - 1) 0) xs ys)) % 2 ^ 64) ≡ common_prefix_len eqb xs ys
pair_ones xs ys long high =
    ap (λ bits. trailing_ones w64 (mask_l bits % 2 ^ 64)) (tops_compared w32 eqb xs ys)
    ∙ ap (trailing_ones w64) (mask_l-mod (zip2 eqb xs ys) 64 (omega (arith, pairs)))
    ∙ ones_are_run (zip2 eqb xs ys) pairs
    ∙ run_of_pairs xs ys
  where
    pairs : length (zip2 eqb xs ys) ≡ 16
    pairs = length-zip2 eqb xs ys (long ∙ sym high) ∙ long

-- each bit of a comparison of the first 64 pixels
pub pair_bits : (xs ys : List ℕ) → 64 ≤ length xs → 64 ≤ length ys → (k : ℕ) → k < 64
    → bit_at (mask_l (map (top 31) (zip2 (λ a b. cond (eqb a b) (2 ^ 32 - 1) 0) (take 64 xs) (take 64 ys))) % 2 ^ 64) k ≡ cond (eqb (get_or xs k 0) (get_or ys k 0)) 1 0
pair_bits xs ys long high k below =
    ap (λ bits. bit_at (mask_l bits % 2 ^ 64) k) (tops_compared w32 eqb (take 64 xs) (take 64 ys))
    ∙ ap (λ m. bit_at m k) (mask_l-mod (zip2 eqb (take 64 xs) (take 64 ys)) 64 (omega (arith, pairs)))
    ∙ bit_mask_l (zip2 eqb (take 64 xs) (take 64 ys)) k
    ∙ ap (λ b. cond b 1 0) (get_or-zip2 eqb (take 64 xs) (take 64 ys) k 0 0 false (omega (arith, first, below)) (omega (arith, second, below))
    ∙ (λ j. eqb (get_or-take 64 xs k 0 below j) (get_or-take 64 ys k 0 below j)))
  where
    first : length (take 64 xs) ≡ 64
    first = length-chunk 0 64 xs long

    second : length (take 64 ys) ≡ 64
    second = length-chunk 0 64 ys high

    pairs : length (zip2 eqb (take 64 xs) (take 64 ys)) ≡ 64
    pairs = length-zip2 eqb (take 64 xs) (take 64 ys) (first ∙ sym second) ∙ first

-- a count over the front of a list is at most that over the list, and goes on behind it
longer : (b : Bool) (m n : ℕ) → m ≤ n → cond b (1 + m) 0 ≤ cond b (1 + n) 0
longer true m n le = omega (arith, le)
longer false m n le = omega arith

one_more : (b : Bool) (n m r : ℕ) → (n ≤ m → m ≡ n + r) → suc n ≤ cond b (1 + m) 0 → cond b (1 + m) 0 ≡ suc n + r
one_more true n m r rest le = let is : m ≡ n + r = rest (omega (arith, le)) in omega (arith, is)
one_more false n m r rest le = absurd (omega (arith, le))

front_run : (p : ℕ → Bool) (n : ℕ) (xs : List ℕ) → prefix_len p (take n xs) ≤ prefix_len p xs
front_run p zero xs = omega arith
front_run p (suc n) [] = omega arith
front_run p (suc n) (x ∷ xs) = longer (p x) (prefix_len p (take n xs)) (prefix_len p xs) (front_run p n xs)

goes_on : (p : ℕ → Bool) (n : ℕ) (xs : List ℕ) → n ≤ prefix_len p xs → prefix_len p xs ≡ n + prefix_len p (drop n xs)
goes_on p zero xs le = omega arith
goes_on p (suc n) [] le = absurd (omega (arith, le))
goes_on p (suc n) (x ∷ xs) le = one_more (p x) n (prefix_len p xs) (prefix_len p (drop n xs)) (goes_on p n xs) le

common_front : (n : ℕ) (xs ys : List ℕ) → common_prefix_len eqb (take n xs) (take n ys) ≤ common_prefix_len eqb xs ys
common_front zero xs ys = omega arith
common_front (suc n) [] ys = omega arith
common_front (suc n) (x ∷ xs) [] = omega arith
common_front (suc n) (x ∷ xs) (y ∷ ys) = longer (eqb x y) (common_prefix_len eqb (take n xs) (take n ys)) (common_prefix_len eqb xs ys) (common_front n xs ys)

common_on : (n : ℕ) (xs ys : List ℕ) → n ≤ common_prefix_len eqb xs ys → common_prefix_len eqb xs ys ≡ n + common_prefix_len eqb (drop n xs) (drop n ys)
common_on zero xs ys le = omega arith
common_on (suc n) [] ys le = absurd (omega (arith, le))
common_on (suc n) (x ∷ xs) [] le = absurd (omega (arith, le))
common_on (suc n) (x ∷ xs) (y ∷ ys) le = one_more (eqb x y) n (common_prefix_len eqb xs ys) (common_prefix_len eqb (drop n xs) (drop n ys)) (common_on n xs ys) le

-- where so many of a vector's lanes are in a run, it reaches just as far
pub color_reaches : (p : ℕ → Bool) (xs : List ℕ) (at n : ℕ) → at + 16 ≤ length xs → n ≡ prefix_len p (chunk at 16 xs)
    → (at + n ≤ length xs) × (prefix_len p (drop at xs) ≡ n + prefix_len p (drop (at + n) xs))
color_reaches p xs at n room is =
    let front : n ≤ prefix_len p (drop at xs) = subst (λ m. m ≤ prefix_len p (drop at xs)) (sym is) (front_run p 16 (drop at xs)) in
    let few = prefix_len-le-length p (chunk at 16 xs) in (
      omega (arith, room, is, few, length-chunk at 16 xs room),
      goes_on p n (drop at xs) front ∙ ap (λ l. n + prefix_len p l) (drop-drop n at xs),
    )

pub back_reaches : (xs ys : List ℕ) (at n : ℕ) → at + 16 ≤ length xs → n ≡ common_prefix_len eqb (chunk at 16 xs) (chunk at 16 ys)
    → (at + n ≤ length xs) × (common_prefix_len eqb (drop at xs) (drop at ys) ≡ n + common_prefix_len eqb (drop (at + n) xs) (drop (at + n) ys))
back_reaches xs ys at n room is =
    let front : n ≤ common_prefix_len eqb (drop at xs) (drop at ys) = subst (λ m. m ≤ common_prefix_len eqb (drop at xs) (drop at ys)) (sym is) (common_front 16 (drop at xs) (drop at ys)) in
    let few = (common_prefix_len-le eqb (chunk at 16 xs) (chunk at 16 ys)).0 in (
      omega (arith, room, is, few, length-chunk at 16 xs room),
      common_on n (drop at xs) (drop at ys) front ∙ (λ j. n + common_prefix_len eqb (drop-drop n at xs j) (drop-drop n at ys j)),
    )
