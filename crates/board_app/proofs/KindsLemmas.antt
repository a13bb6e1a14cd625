-- A list of codes without repetition has room for one more that isn't in it.
use Rattle.std.proofs.Common.{◌≡◌, ℕ, zero, suc, ◌+◌, ◌-◌, ◌<◌, ◌≤◌, List, ◌∷◌, length, drop, set, refl, ap, sym, subst, ◌∙◌, arith, length-drop}
use Rattle.std.specs.Prelude.{Bool, true, false, ◌==◌, ◌||◌, if◌then◌else◌}
use Rattle.std.proofs.lemmas.List.{drop-set}
use Rattle.std.proofs.lemmas.Bool.Decides.{nat_tests}
use Rattle.session_rules.specs.Board.{is_member}
use Rattle.board_app.specs.Kinds.{kinds, OneOfEach}

kinds_above : (n m : ℕ) (ms : List ℕ) → n ≤ m → kinds n (m ∷ ms) ≡ kinds n ms
unfolding kinds
kinds_above zero m ms h = refl
kinds_above (suc n) m ms h =
    let differ : (n == m) ≡ false = grind (arith, nat_tests, h) in
    ap (λ t. (if t || is_member n ms then 1 else 0) + kinds n (m ∷ ms)) differ
    ∙ ap (λ k. (if is_member n ms then 1 else 0) + k) (kinds_above n m ms (omega (arith, h)))

kinds_here : (n m : ℕ) (ms : List ℕ) → (n == m) ≡ true → is_member m ms ≡ false → kinds (suc n) (m ∷ ms) ≡ suc (kinds (suc n) ms)
unfolding kinds
kinds_here n m ms same other =
    let equal : n ≡ m = grind (arith, nat_tests, same) in
    let none : is_member n ms ≡ false = ap (λ k. is_member k ms) equal ∙ other in
    let left : kinds (suc n) (m ∷ ms) ≡ 1 + kinds n ms =
    ap (λ t. (if t || is_member n ms then 1 else 0) + kinds n (m ∷ ms)) same ∙ ap (λ k. 1 + k) (kinds_above n m ms (omega (arith, equal))) in
    let right : kinds (suc n) ms ≡ 0 + kinds n ms = ap (λ t. (if t then 1 else 0) + kinds n ms) none in
    omega (arith, left, right)

kinds_by : (t : Bool) (n m : ℕ) (ms : List ℕ) → (n == m) ≡ t → m < suc n → is_member m ms ≡ false
    → (m < n → kinds n (m ∷ ms) ≡ suc (kinds n ms)) → kinds (suc n) (m ∷ ms) ≡ suc (kinds (suc n) ms)
unfolding kinds
kinds_by true n m ms e h other below = kinds_here n m ms e other
kinds_by false n m ms e h other below =
    let under : m < n = grind (arith, nat_tests, e, h) in
    let left : kinds (suc n) (m ∷ ms) ≡ (if is_member n ms then 1 else 0) + kinds n (m ∷ ms) =
    ap (λ t. (if t || is_member n ms then 1 else 0) + kinds n (m ∷ ms)) e in
    omega (arith, left, below under)

pub kinds_more : (n m : ℕ) (ms : List ℕ) → m < n → is_member m ms ≡ false → kinds n (m ∷ ms) ≡ suc (kinds n ms)
unfolding kinds
kinds_more zero m ms h other = absurd (omega (arith, h))
kinds_more (suc n) m ms h other = kinds_by (n == m) n m ms refl h other (λ under. kinds_more n m ms under other)

pub kinds_most : (n : ℕ) (ms : List ℕ) → kinds n ms ≤ n
unfolding kinds
kinds_most zero ms = omega arith
kinds_most (suc n) ms = by (is_member n ms) (kinds_most n ms)
  where
    by : (t : Bool) → kinds n ms ≤ n → (if t then 1 else 0) + kinds n ms ≤ suc n
    by true h = omega (arith, h)
    by false h = omega (arith, h)

-- a code that isn't in the list has room before it
pub room : (codes : List ℕ) (first code : ℕ) → length codes ≡ 127 → code ≤ 126 → OneOfEach codes first → is_member code (drop first codes) ≡ false → 0 < first
room codes first code size small kept other =
    let more = kinds_more 127 code (drop first codes) (omega (arith, small)) other in
    let most = kinds_most 127 (code ∷ drop first codes) in
    omega (arith, more, most, kept.each, kept.inside, size, length-drop first codes)

pub front : (codes : List ℕ) (first code : ℕ) → length codes ≡ 127 → 0 < first → first ≤ 127 → drop (first - 1) (set codes (first - 1) code) ≡ code ∷ drop first codes
front codes first code size some inside =
    let back : first - 1 + 1 ≡ first = omega (arith, some) in
    drop-set codes (first - 1) code (omega (arith, size, some, inside)) ∙ ap (λ k. code ∷ drop k codes) back

-- it stands before the others
pub one_more : (codes : List ℕ) (first code : ℕ) → length codes ≡ 127 → code ≤ 126 → 0 < first → OneOfEach codes first → is_member code (drop first codes) ≡ false
    → OneOfEach (set codes (first - 1) code) (first - 1)
one_more codes first code size small some kept other =
    let e = front codes first code size some kept.inside in
    let more = kinds_more 127 code (drop first codes) (omega (arith, small)) other in
    let each : length (code ∷ drop first codes) ≡ kinds 127 (code ∷ drop first codes) = omega (arith, more, kept.each) in
    record {
      inside = omega (arith, kept.inside);
      each = subst (λ xs. length xs ≡ kinds 127 xs) (sym e) each;
    }
