-- Names: which texts are one, and what code units of UTF-16 write.
use Rattle.std.proofs.Common.{◌≡◌, ℕ, zero, suc, ◌+◌, ◌-◌, ◌*◌, ◌<◌, ◌≤◌, Bool, true, false, cond, List, [], ◌∷◌, ◌++◌, length, take, drop, refl, ap, ◌∙◌, arith, append_assoc, append-nil, length-append}
use Rattle.std.specs.Prelude.{nat_le, nat_lt, ◌==◌, ◌&&◌, slice_index, Option, Some, None}
use Rattle.std.specs.Option.{option_map}
use Rattle.std.specs.Char.{is_ascii}
use Rattle.std.specs.Str.{IsAscii, IsNotAscii}
use Rattle.std.proofs.lemmas.Bool.{and_from}
use Rattle.std.proofs.lemmas.Bool.Decides.{nat_tests}
use Rattle.std.proofs.lemmas.Str.Ascii.{IsAscii-cons, IsAscii-nil}
use Rattle.std.proofs.lemmas.List.{take_all, length-drop}
use Rattle.info_lic.specs.Name.{IsName}
use Rattle.info_lic.specs.ClientInfo.{all_ascii, named, utf16_units, named_by}

-- ---- texts that are a name, or not

small : (c : ℕ) → c < 128 → nat_lt c 128 ≡ true
small c h = grind (arith, nat_tests, h)

large : (c : ℕ) → 128 ≤ c → nat_lt c 128 ≡ false
large c h = grind (arith, nat_tests, h)

pub all_small : (cs : List ℕ) → IsAscii cs → all_ascii cs ≡ true
all_small [] h = refl
all_small (c ∷ cs) h = and_from (nat_lt c 128) (all_ascii cs) (small c (h 0)) (all_small cs (λ i. h (suc i)))

and_false : (a b : Bool) → b ≡ false → (a && b) ≡ false
and_false true b e = e
and_false false b e = refl

some_large : (cs : List ℕ) (i : ℕ) → 128 ≤ slice_index cs i → all_ascii cs ≡ false
some_large [] i h = let none : ⊥ = omega (arith, h) in absurd none
some_large (c ∷ cs) zero h = ap (λ t. t && all_ascii cs) (large c h)
some_large (c ∷ cs) (suc i) h = and_false (nat_lt c 128) (all_ascii cs) (some_large cs i h)

large_within : (front : List ℕ) (c : ℕ) (cs : List ℕ) → 128 ≤ c → all_ascii (front ++ c ∷ cs) ≡ false
large_within [] c cs h = ap (λ t. t && all_ascii cs) (large c h)
large_within (f ∷ front) c cs h = and_false (nat_lt f 128) (all_ascii (front ++ c ∷ cs)) (large_within front c cs h)

pub named_name : (cs : List ℕ) → IsName cs → named cs ≡ cs
named_name cs h =
    let short = h.short in
    let fits : nat_le (length cs) 64 ≡ true = grind (arith, nat_tests, short) in
    ap (λ t. cond t cs []) (and_from (nat_le (length cs) 64) (all_ascii cs) fits (all_small cs h.ascii))

not_named : (cs : List ℕ) → all_ascii cs ≡ false → named cs ≡ []
not_named cs e = ap (λ t. cond t cs []) (and_false (nat_le (length cs) 64) (all_ascii cs) e)

pub named_other : (cs : List ℕ) → IsNotAscii cs → named cs ≡ []
named_other cs h = not_named cs (some_large cs h.0 h.1)

pub named_long : (cs : List ℕ) → 64 < length cs → named cs ≡ []
named_long cs h =
    let long : nat_le (length cs) 64 ≡ false = grind (arith, nat_tests, h) in
    ap (λ t. cond (t && all_ascii cs) cs []) long

-- ---- code units behind characters that were read

abbrev after_front : List ℕ → Option (List ℕ) → List ℕ
after_front front units = named_by (option_map (λ cs. front ++ cs) units)

-- the name that these characters and then these code units write
abbrev pub behind : List ℕ → List ℕ → List ℕ
behind front bs = after_front front (utf16_units bs)

none_by : (units : Option (List ℕ)) → after_front [] units ≡ named_by units
none_by None = refl
none_by (Some cs) = refl

pub none_before : (bs : List ℕ) → behind [] bs ≡ named_by (utf16_units bs)
none_before bs = none_by (utf16_units bs)

abbrev with_unit : ℕ → Option (List ℕ) → Option (List ℕ)
with_unit c units = option_map (λ cs. c ∷ cs) units

unit_by : (front : List ℕ) (c d : ℕ) (units : Option (List ℕ)) → c ≡ d → after_front (front ++ c ∷ []) units ≡ after_front front (with_unit d units)
unit_by front c d None e = refl
unit_by front c d (Some cs) e = ap named (append_assoc front (c ∷ []) cs ∙ ap (λ k. front ++ k ∷ cs) e)

-- one more character was read
one_more : (front bs : List ℕ) → 2 ≤ length bs → slice_index bs 1 ≡ 0 → behind (front ++ slice_index bs 0 ∷ []) (drop 2 bs) ≡ behind front bs
one_more front [] some e = absurd (omega (arith, some))
one_more front (b ∷ []) some e = absurd (omega (arith, some))
one_more front (low ∷ high ∷ bs) some e = unit_by front low (low + 256 * high) (utf16_units bs) (omega (arith, e))

rest_of : (n : ℕ) (bs : List ℕ) → take (length bs - n) (drop n bs) ≡ drop n bs
rest_of n bs = take_all (length bs - n) (drop n bs) (omega (arith, length-drop n bs))

pub unit_read : (front bs new whole : List ℕ) → 2 ≤ length bs → slice_index bs 1 ≡ 0 → behind front bs ≡ whole → new ≡ front ++ slice_index bs 0 ∷ []
    → behind new (take (length bs - 2) (drop 2 bs)) ≡ whole
unit_read front bs new whole some e h n = ap (behind new) (rest_of 2 bs) ∙ ap (λ f. behind f (drop 2 bs)) n ∙ one_more front bs some e ∙ h

other_by : (front : List ℕ) (c : ℕ) (units : Option (List ℕ)) → 128 ≤ c → after_front front (with_unit c units) ≡ []
other_by front c None h = refl
other_by front c (Some cs) h = not_named (front ++ c ∷ cs) (large_within front c cs h)

-- the next one isn't ASCII
pub other_next : (front bs : List ℕ) → 2 ≤ length bs → 128 ≤ slice_index bs 0 + 256 * slice_index bs 1 → behind front bs ≡ []
other_next front [] some h = absurd (omega (arith, some))
other_next front (b ∷ []) some h = absurd (omega (arith, some))
other_next front (low ∷ high ∷ bs) some h = other_by front (low + 256 * high) (utf16_units bs) h

long_by : (front : List ℕ) (c : ℕ) (units : Option (List ℕ)) → 64 ≤ length front → after_front front (with_unit c units) ≡ []
long_by front c None h = refl
long_by front c (Some cs) h = named_long (front ++ c ∷ cs) (omega (arith, h, length-append front (c ∷ cs)))

-- there were as many as a name has, and another one stands there
pub too_long : (front bs : List ℕ) → 2 ≤ length bs → 64 ≤ length front → behind front bs ≡ []
too_long front [] some h = absurd (omega (arith, some))
too_long front (b ∷ []) some h = absurd (omega (arith, some))
too_long front (low ∷ high ∷ bs) some h = long_by front (low + 256 * high) (utf16_units bs) h

-- at the end
pub all_read : (front bs : List ℕ) → length bs ≡ 0 → IsName front → behind front bs ≡ front
all_read front [] e h = ap named (append-nil front) ∙ named_name front h
all_read front (b ∷ bs) e h = absurd (omega (arith, e))

pub half_left : (front bs : List ℕ) → length bs ≡ 1 → behind front bs ≡ []
half_left front [] e = absurd (omega (arith, e))
half_left front (b ∷ []) e = refl
half_left front (b ∷ c ∷ bs) e = absurd (omega (arith, e))

-- a character more keeps a text ASCII
pub ascii_more : (front new : List ℕ) (c : ℕ) → new ≡ front ++ c ∷ [] → IsAscii front → c < 128 → IsAscii new
ascii_more front new c e h small = rw e (more front c h small) where
  more : (front : List ℕ) (c : ℕ) → IsAscii front → c < 128 → IsAscii (front ++ c ∷ [])
  more [] c h small = IsAscii-cons c [] small IsAscii-nil
  more (f ∷ front) c h small = IsAscii-cons f (front ++ c ∷ []) (h 0) (more front c (λ i. h (suc i)) small)

-- ---- tests

pub large_unit : (b : ℕ) → is_ascii b ≡ false → 128 ≤ b
large_unit b e = grind (arith, nat_tests, e)

pub small_unit : (b : ℕ) → is_ascii b ≡ true → b < 128
small_unit b e = grind (arith, nat_tests, e)

pub none_left : (n : ℕ) → (n == 0) ≡ true → n ≡ 0
none_left n e = grind (arith, nat_tests, e)

pub one_left : (n : ℕ) → (n == 0) ≡ false → n < 2 → n ≡ 1
one_left n e h = grind (arith, nat_tests, e, h)
