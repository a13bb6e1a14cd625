-- What the bits of words tell.
use Rattle.std.proofs.Common.{◌≡◌, ℕ, zero, suc, ◌+◌, ◌-◌, ◌/◌, ◌%◌, ◌^◌, ◌<◌, ◌≤◌, ◌≢◌, ⊎_elim, max, Bool, true, false, cond, List, [], ◌∷◌, length, take, drop, get_or, refl, ap, sym, subst, ◌∙◌, arith, w64}
use Rattle.std.specs.Prelude.{◌==◌, zip, bit_or, Some}
use Rattle.std.specs.Int.{bit_at, bit_not, trailing_ones, trailing_zeros}
use Rattle.std.specs.Int.Count.{count_trailing_zeros, trailing_of_zero}
use Rattle.std.proofs.lemmas.Bool.{cases_lt}
use Rattle.std.proofs.lemmas.Bool.Decides.{nat_tests}
use Rattle.std.proofs.lemmas.List.{get_or-drop, length-drop, take_rest}
use Rattle.std.proofs.lemmas.Nat.{shr-shr, trailing_le}
use Rattle.std.proofs.lemmas.Nat.Bits.{bit_at_ones, bit_at_or, bit_at-trailing_ones, bit_at-trailing_zeros, bit_at-zero}
use Rattle.run_lengths.specs.Packer.{background_count}
use Rattle.rle_enc.specs.declared.words.Words.{Words}
use Rattle.rle_enc.specs.declared.words.Counts.{Counts}
use Rattle.rle_enc.specs.Stretch.{StandAlone, leading}
use Rattle.rle_enc.specs.Words.{AreCounts, AreWords}
use Rattle.rle_enc.proofs.Counting.{leading_until, other_test, same_stops, same_test}
use Rattle.rle_enc.proofs.Pending.{alone_more}

-- ---- counts of equal bits

is_most : (n : ℕ) → n < 2 ^ 64 → 2 ^ 64 ≤ n + 1 → n ≡ 2 ^ 64 - 1
is_most n below above = omega (arith, below, above)

pub few_ones : (n r : ℕ) → r ≡ trailing_ones w64 n → r ≤ 64
few_ones n r is = omega (arith, is, trailing_le 64 (bit_not w64 n))

pub ones_below : (n r : ℕ) → n < 2 ^ 64 → r ≡ trailing_ones w64 n → (k : ℕ) → k < r → bit_at n k ≡ 1
ones_below n r fits is k below = ⊎_elim
    (λ (less : n + 1 < 2 ^ 64). (bit_at-trailing_ones w64 n less).2 k (omega (arith, below, is)))
    (λ (all : 2 ^ 64 ≤ n + 1). ap (λ m. bit_at m k) (is_most n fits all) ∙ bit_at_ones 64 k (omega (arith, below, few_ones n r is)))
    (cases_lt (n + 1) (2 ^ 64))

pub ones_end : (n r : ℕ) → n < 2 ^ 64 → r ≡ trailing_ones w64 n → r < 64 → bit_at n r ≡ 0
ones_end n r fits is short = ⊎_elim
    (λ (less : n + 1 < 2 ^ 64). ap (bit_at n) is ∙ (bit_at-trailing_ones w64 n less).1)
    (λ (all : 2 ^ 64 ≤ n + 1).
    let none : bit_not w64 n ≡ 0 = omega (arith, is_most n fits all) in
    let long : trailing_ones w64 n ≡ 64 = ap (count_trailing_zeros 64) none ∙ trailing_of_zero 64 in
    absurd (omega (arith, is, long, short)))
    (cases_lt (n + 1) (2 ^ 64))

pub zeros_below : (n : ℕ) → n < 2 ^ 64 → (k : ℕ) → k < trailing_zeros w64 n → bit_at n k ≡ 0
zeros_below n fits k below = ⊎_elim
    (λ (some : 0 < n). (bit_at-trailing_zeros w64 n some fits).2 k below)
    (λ (none : n ≤ 0). let is : n ≡ 0 = omega (arith, none) in ap (λ m. bit_at m k) is ∙ bit_at-zero k)
    (cases_lt 0 n)

pub zeros_end : (n : ℕ) → n < 2 ^ 64 → trailing_zeros w64 n < 64 → bit_at n (trailing_zeros w64 n) ≡ 1
zeros_end n fits short = ⊎_elim
    (λ (some : 0 < n). (bit_at-trailing_zeros w64 n some fits).1)
    (λ (none : n ≤ 0).
    let is : n ≡ 0 = omega (arith, none) in
    let long : trailing_zeros w64 n ≡ 64 = ap (count_trailing_zeros 64) is ∙ trailing_of_zero 64 in
    absurd (omega (arith, long, short)))
    (cases_lt 0 n)

-- ---- bits of words that are shifted and joined

pub bit_past : (n j k : ℕ) → bit_at (n / 2 ^ j) k ≡ bit_at n (j + k)
bit_past n j k = ap (λ m. m % 2) (shr-shr n j k)

pub none_of_both : (a b k : ℕ) → bit_at (bit_or a b) k ≡ 0 → (bit_at a k ≡ 0) × (bit_at b k ≡ 0)
none_of_both a b k e =
    let most : max (bit_at a k) (bit_at b k) ≡ 0 = sym (bit_at_or a b k) ∙ e in
    (omega (arith, most), omega (arith, most))

-- where a bit of either word is 1, the ones of one of them go on behind it
pub some_of_both : (a b n x y : ℕ) → bit_at (bit_or a b) n ≡ 1 → bit_at a (n + x) ≡ 0 → bit_at b (n + y) ≡ 0 → 1 ≤ x + y
some_of_both a b n zero zero e f g =
    let one : max (bit_at a n) (bit_at b n) ≡ 1 = sym (bit_at_or a b n) ∙ e in
    let at : n ≡ n + 0 = omega arith in
    let here : bit_at a n ≡ 0 = ap (bit_at a) at ∙ f in
    let there : bit_at b n ≡ 0 = ap (bit_at b) at ∙ g in
    absurd (omega (arith, one, here, there))
some_of_both a b n zero (suc y) e f g = omega arith
some_of_both a b n (suc x) y e f g = omega arith

-- ---- pixels by their bits

bit_true : (t : Bool) → ◌≡◌ {A = ℕ} (cond t 1 0) 1 → t ≡ true
bit_true true h = refl
bit_true false h = absurd (omega (arith, h))

-- a bit of 1 tells that two pixels are the same, and one of 0 that they aren't
told_same : (x y b : ℕ) → b ≡ cond (x == y) 1 0 → b ≡ 1 → x ≡ y
told_same x y b is one = let e : (x == y) ≡ true = bit_true (x == y) (sym is ∙ one) in grind (arith, nat_tests, e)

told_other : (x y b : ℕ) → b ≡ cond (x == y) 1 0 → b ≡ 0 → x ≢ y
told_other x y b is none e = let one : ◌≡◌ {A = ℕ} (cond (x == y) 1 0) 1 = ap (λ t. cond t 1 0) (same_test x y e) in absurd (omega (arith, is, none, one))

-- the words of slices tell of the whole from there on
words_there : (ps row : List ℕ) (from : ℕ) (w : Words) → from < length ps → length ps ≤ length row → AreWords (drop from ps) (drop from row) 0 w → AreWords ps row from w
words_there ps row from w some high are = record {
  same = λ k below. are.same k below ∙ (λ i. cond (item ps k i == item row k i) 1 0);
  next = λ k below. are.next k below ∙ (λ i. cond (next ps k i == item ps k i) 1 0);
  few = are.few;
  within = omega (arith, are.within, length-drop from ps, some);
  above = omega (arith, are.above, length-drop from row, some, high);
}
  where
    item : (xs : List ℕ) (k : ℕ) → get_or (drop from xs) (0 + k) 0 ≡ get_or xs (from + k) 0
    item xs k = get_or-drop from xs (0 + k) 0 ∙ ap (λ n. get_or xs n 0) (omega arith)

    next : (xs : List ℕ) (k : ℕ) → get_or (drop from xs) (suc (0 + k)) 0 ≡ get_or xs (suc (from + k)) 0
    next xs k = get_or-drop from xs (suc (0 + k)) 0 ∙ ap (λ n. get_or xs n 0) (omega arith)

-- those behind so many
pub words_behind : (ps row : List ℕ) (at n : ℕ) (w v : Words) → n < w.left → v.left ≡ w.left - n → ((k : ℕ) → bit_at v.same k ≡ bit_at w.same (n + k)) → ((k : ℕ) → bit_at v.next k ≡ bit_at w.next (n + k)) → AreWords ps row at w → AreWords ps row (at + n) v
words_behind ps row at n w v some left same next are = record {
  same = λ k below. same k ∙ are.same (n + k) (omega (arith, below, left)) ∙ ap (λ i. cond (get_or ps i 0 == get_or row i 0) 1 0) (place k);
  next = λ k below. next k ∙ are.next (n + k) (omega (arith, below, left)) ∙ ap (λ i. cond (get_or ps (suc i) 0 == get_or ps i 0) 1 0) (place k);
  few = omega (arith, left, are.few);
  within = omega (arith, left, some, are.within);
  above = omega (arith, left, some, are.above);
}
  where
    place : (k : ℕ) → at + (n + k) ≡ at + n + k
    place k = omega arith

-- ---- what is packed first, by its bits

-- pixels that are neither those a row earlier nor of the next one's colour stand for themselves
alone_one : (ps row : List ℕ) (n : ℕ) → n + 1 < length ps → length ps ≤ length row → get_or ps n 0 ≢ get_or row n 0 → get_or ps (suc n) 0 ≢ get_or ps n 0 → StandAlone n ps (zip ps row) → StandAlone (n + 1) ps (zip ps row)
alone_one ps row n within high other own alone =
    let here : get_or (drop n ps) 0 0 ≡ get_or ps n 0 = get_or-drop n ps 0 0 ∙ ap (λ k. get_or ps k 0) (omega arith) in
    let there : get_or (drop n row) 0 0 ≡ get_or row n 0 = get_or-drop n row 0 0 ∙ ap (λ k. get_or row k 0) (omega arith) in
    let next : get_or (drop n ps) 1 0 ≡ get_or ps (suc n) 0 = get_or-drop n ps 1 0 ∙ ap (λ k. get_or ps k 0) (omega arith) in
    let none : background_count (zip (drop n ps) (drop n row)) ≡ 0 = same_stops 0 (drop n ps) (drop n row) (omega (arith, within, length-drop n ps)) (omega (arith, within, high, length-drop n row)) (λ e. other (sym here ∙ e ∙ there)) (omega arith) in
    let one : leading (get_or (drop n ps) 0 0) (drop n ps) ≤ 1 = leading_until (get_or (drop n ps) 0 0) 1 (drop n ps) (omega (arith, within, length-drop n ps)) (λ e. own (sym next ∙ e ∙ here)) in
    alone_more (Some row) (Some (drop n row)) ps (drop n ps) n (omega (arith, within)) high refl refl (omega (arith, none)) (omega (arith, one)) alone

pub alone_on : (ps row : List ℕ) (n m : ℕ) → n + m < length ps → length ps ≤ length row → ((k : ℕ) → k < m → get_or ps (n + k) 0 ≢ get_or row (n + k) 0) → ((k : ℕ) → k < m → get_or ps (suc (n + k)) 0 ≢ get_or ps (n + k) 0) → StandAlone n ps (zip ps row) → StandAlone (n + m) ps (zip ps row)
alone_on ps row n zero within high other own alone = subst (λ k. StandAlone k ps (zip ps row)) (let e : n ≡ n + 0 = omega arith in e) alone
alone_on ps row n (suc m) within high other own alone =
    let at : n + 0 ≡ n = omega arith in
    let here : get_or ps n 0 ≢ get_or row n 0 = subst (λ k. get_or ps k 0 ≢ get_or row k 0) at (other 0 (omega arith)) in
    let next : get_or ps (suc n) 0 ≢ get_or ps n 0 = subst (λ k. get_or ps (suc k) 0 ≢ get_or ps k 0) at (own 0 (omega arith)) in
    let place : (k : ℕ) → n + suc k ≡ n + 1 + k = λ k. omega arith in
    let end : n + 1 + m ≡ n + suc m = omega arith in
    subst (λ k. StandAlone k ps (zip ps row)) end (alone_on ps row (n + 1) m (omega (arith, within)) high
    (λ k below. subst (λ i. get_or ps i 0 ≢ get_or row i 0) (place k) (other (suc k) (omega (arith, below))))
    (λ k below. subst (λ i. get_or ps (suc i) 0 ≢ get_or ps i 0) (place k) (own (suc k) (omega (arith, below))))
    (alone_one ps row n (omega (arith, within)) high here next alone))

pub told_alone : (ps row : List ℕ) (at : ℕ) (w : Words) (n : Counts) → length ps ≤ length row → AreWords ps row at w → AreCounts w n → StandAlone n.alone (drop at ps) (zip (drop at ps) (drop at row))
told_alone ps row at w n high are counts =
    subst (λ l. StandAlone l (drop at ps) (zip (drop at ps) (drop at row))) (let e : 0 + n.alone ≡ n.alone = omega arith in e) (alone_on (drop at ps) (drop at row) 0 n.alone (omega (arith, length-drop at ps, are.within, counts.color_within)) (omega (arith, length-drop at ps, length-drop at row, high))
    (λ k below. let e = told_other (get_or ps (at + k) 0) (get_or row (at + k) 0) (bit_at w.same k) (are.same k (short k below)) (counts.alone k below).0 in λ f. e (sym (item ps k) ∙ f ∙ item row k))
    (λ k below. let e = told_other (get_or ps (suc (at + k)) 0) (get_or ps (at + k) 0) (bit_at w.next k) (are.next k (short k below)) (counts.alone k below).1 in λ f. e (sym (next ps k) ∙ f ∙ item ps k))
    refl)
  where
    short : (k : ℕ) → k < n.alone → k < w.left
    short k below = omega (arith, below, counts.color_within)

    item : (xs : List ℕ) (k : ℕ) → get_or (drop at xs) (0 + k) 0 ≡ get_or xs (at + k) 0
    item xs k = get_or-drop at xs (0 + k) 0 ∙ ap (λ i. get_or xs i 0) (omega arith)

    next : (xs : List ℕ) (k : ℕ) → get_or (drop at xs) (suc (0 + k)) 0 ≡ get_or xs (suc (at + k)) 0
    next xs k = get_or-drop at xs (suc (0 + k)) 0 ∙ ap (λ i. get_or xs i 0) (omega arith)

-- pixels more that stand for themselves, as far as the words tell
pub told_on : (ps row : List ℕ) (n m : ℕ) (w : Words) → length ps ≤ length row → AreWords ps row n w → m ≤ w.left → ((k : ℕ) → k < m → (bit_at w.same k ≡ 0) × (bit_at w.next k ≡ 0)) → StandAlone n ps (zip ps row) → StandAlone (n + m) ps (zip ps row)
told_on ps row n m w high are few none alone =
    alone_on ps row n m (omega (arith, few, are.within)) high
    (λ k below. told_other (get_or ps (n + k) 0) (get_or row (n + k) 0) (bit_at w.same k) (are.same k (omega (arith, below, few))) (none k below).0)
    (λ k below. told_other (get_or ps (suc (n + k)) 0) (get_or ps (n + k) 0) (bit_at w.next k) (are.next k (omega (arith, below, few))) (none k below).1)
    alone

-- the words of slices from a place on, which are taken to their end
pub words_of_slices : (ps row : List ℕ) (from : ℕ) (w : Words) → from < length ps → length ps ≤ length row → AreWords (take (length ps - from) (drop from ps)) (take (length row - from) (drop from row)) 0 w → AreWords ps row from w
words_of_slices ps row from w some high are =
    words_there ps row from w some high (subst (λ us. AreWords us (drop from row) 0 w) (take_rest ps from) (subst (λ vs. AreWords (take (length ps - from) (drop from ps)) vs 0 w) (take_rest row from) are))

-- a count by its items
same_count : (n : ℕ) (xs ys : List ℕ) → n < length xs → n < length ys → ((k : ℕ) → k < n → get_or xs k 0 ≡ get_or ys k 0) → get_or xs n 0 ≢ get_or ys n 0 → background_count (zip xs ys) ≡ n
same_count n [] ys l m same other = absurd (omega (arith, l))
same_count n (x ∷ xs) [] l m same other = absurd (omega (arith, m))
same_count zero (x ∷ xs) (y ∷ ys) l m same other = ap (λ t. cond t (suc (background_count (zip xs ys))) 0) (other_test x y other)
same_count (suc n) (x ∷ xs) (y ∷ ys) l m same other =
    ap (λ t. cond t (suc (background_count (zip xs ys))) 0) (same_test x y (same 0 (omega arith)))
    ∙ ap suc (same_count n xs ys (omega (arith, l)) (omega (arith, m)) (λ k below. same (suc k) (omega (arith, below))) other)

next_count : (c n : ℕ) (xs : List ℕ) → suc n < length xs → get_or xs 0 0 ≡ c → ((k : ℕ) → k < n → get_or xs (suc k) 0 ≡ get_or xs k 0) → get_or xs (suc n) 0 ≢ get_or xs n 0 → leading c xs ≡ suc n
next_count c n [] l first same other = absurd (omega (arith, l))
next_count c n (x ∷ []) l first same other = absurd (omega (arith, l))
next_count c zero (x ∷ y ∷ ys) l first same other =
    ap (λ t. cond t (suc (leading c (y ∷ ys))) 0) (same_test x c first)
    ∙ ap suc (ap (λ t. cond t (suc (leading c ys)) 0) (other_test y c (λ e. other (e ∙ sym first))))
next_count c (suc n) (x ∷ y ∷ ys) l first same other =
    ap (λ t. cond t (suc (leading c (y ∷ ys))) 0) (same_test x c first)
    ∙ ap suc (next_count c n (y ∷ ys) (omega (arith, l)) (same 0 (omega arith) ∙ first) (λ k below. same (suc k) (omega (arith, below))) other)

pub told_background : (ps row : List ℕ) (at : ℕ) (w : Words) (n : Counts) → AreWords ps row at w → AreCounts w n → n.background ≡ background_count (zip (drop (at + n.alone) ps) (drop (at + n.alone) row))
told_background ps row at w n are counts =
    sym (same_count n.background (drop (at + n.alone) ps) (drop (at + n.alone) row) (omega (arith, length-drop (at + n.alone) ps, are.within, counts.background_within)) (omega (arith, length-drop (at + n.alone) row, are.above, counts.background_within))
    (λ k below. item ps k ∙ told_same (get_or ps (at + (n.alone + k)) 0) (get_or row (at + (n.alone + k)) 0) (bit_at w.same (n.alone + k)) (are.same (n.alone + k) (omega (arith, below, counts.background_within))) (counts.background k below) ∙ sym (item row k))
    (λ e. told_other (get_or ps (at + (n.alone + n.background)) 0) (get_or row (at + (n.alone + n.background)) 0) (bit_at w.same (n.alone + n.background)) (are.same (n.alone + n.background) counts.background_within) counts.background_ends (sym (item ps n.background) ∙ e ∙ item row n.background)))
  where
    item : (xs : List ℕ) (k : ℕ) → get_or (drop (at + n.alone) xs) k 0 ≡ get_or xs (at + (n.alone + k)) 0
    item xs k = get_or-drop (at + n.alone) xs k 0 ∙ ap (λ i. get_or xs i 0) (omega arith)

pub told_color : (ps row : List ℕ) (at : ℕ) (w : Words) (n : Counts) → AreWords ps row at w → AreCounts w n → n.color + 1 ≡ leading (get_or ps (at + n.alone) 0) (drop (at + n.alone) ps)
told_color ps row at w n are counts =
    let is : leading (get_or ps (at + n.alone) 0) (drop (at + n.alone) ps) ≡ suc n.color = next_count (get_or ps (at + n.alone) 0) n.color (drop (at + n.alone) ps) (omega (arith, length-drop (at + n.alone) ps, are.within, counts.color_within))
    (get_or-drop (at + n.alone) ps 0 0 ∙ ap (λ i. get_or ps i 0) (omega arith))
    (λ k below. next k ∙ told_same (get_or ps (suc (at + (n.alone + k))) 0) (get_or ps (at + (n.alone + k)) 0) (bit_at w.next (n.alone + k)) (are.next (n.alone + k) (omega (arith, below, counts.color_within))) (counts.color k below) ∙ sym (item k))
    (λ e. told_other (get_or ps (suc (at + (n.alone + n.color))) 0) (get_or ps (at + (n.alone + n.color)) 0) (bit_at w.next (n.alone + n.color)) (are.next (n.alone + n.color) (omega (arith, counts.color_within))) counts.color_ends (sym (next n.color) ∙ e ∙ item n.color)) in
    omega (arith, is)
  where
    item : (k : ℕ) → get_or (drop (at + n.alone) ps) k 0 ≡ get_or ps (at + (n.alone + k)) 0
    item k = get_or-drop (at + n.alone) ps k 0 ∙ ap (λ i. get_or ps i 0) (omega arith)

    next : (k : ℕ) → get_or (drop (at + n.alone) ps) (suc k) 0 ≡ get_or ps (suc (at + (n.alone + k))) 0
    next k = get_or-drop (at + n.alone) ps (suc k) 0 ∙ ap (λ i. get_or ps i 0) (omega arith)
