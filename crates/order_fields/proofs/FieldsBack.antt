-- The fields that are written are read back, over any kinds and any last values.
use Rattle.std.proofs.Common.{◌≡◌, ℕ, suc, ◌+◌, ◌*◌, ◌/◌, ◌%◌, ◌^◌, ◌<◌, ℤ, pos, negsuc, List, [], ◌∷◌, ◌++◌, length, refl, ap, sym, ◌∙◌, arith, Bool, true, false, append_assoc}
use Rattle.std.specs.Prelude.{Ok, ◌==◌, ◌&&◌, ◌-ℤ◌, not, ◌||◌}
use Rattle.std.specs.Ordering.{int_eq}
use Rattle.std.specs.Cmp.{signed_Decides}
use Rattle.std.proofs.lemmas.Bool.{false≢true}
use Rattle.std.proofs.lemmas.Bool.Decides.{nat_tests}
use Rattle.order_fields.specs.declared.kind.FieldKind.{FieldKind}
use Rattle.order_fields.specs.declared.kind.FieldKind.TheVariants.{Coordinate, Number, Signed, Color}
use Rattle.wire_num.specs.Field.{map_read, taken}
use Rattle.order_fields.specs.OrderTable.{values, FitsKind, FitKinds, BytesFit}
use Rattle.order_fields.specs.OrderStream.{value_at, field_at, counted_at, values_at}
use Rattle.order_fields.specs.OrderDelta.{Field, fields_of, is_unchanged, is_near, all_near, is_byte, is_coordinate, flag, flags_of, same_list, keeps_bytes, value_bytes, field_bytes, unless_same, counted_bytes, present_bytes}
use Rattle.order_fields.proofs.Numbers.{signed_back, moved_back}
use Rattle.wire_num.proofs.Bytes.{taken_back}
use Rattle.wire_num.proofs.Numbers.{little_at_back}

color_back : (m : ℕ) → m < 16777216 → 256 * (256 * (256 * 0 + (m / 65536) % 256) + (m / 256) % 256) + m % 256 ≡ m
color_back m h = omega arith

value_back : (k : FieldKind) (delta : Bool) (l z : ℤ) (rest : List ℕ) → FitsKind k z → (delta ≡ true → (not (is_coordinate k) || is_byte (z -ℤ l)) ≡ true) → value_at k delta l (value_bytes k delta l z ++ rest) ≡ Ok (z, rest)
value_back Coordinate true l z rest fits near = moved_back l z rest (near refl) fits
value_back Coordinate false l z rest fits near = signed_back z rest fits
value_back (Number n) delta l (pos m) rest fits near = ap (map_read pos) (little_at_back n m rest fits)
value_back (Number n) delta l (negsuc m) rest fits near = absurd fits
value_back Signed delta l z rest fits near = signed_back z rest fits
value_back Color delta l (pos m) rest fits near = ap (λ y. Ok (pos y, rest)) (color_back m fits)
value_back Color delta l (negsuc m) rest fits near = absurd fits

-- a field, present or not; its flag is the lowest bit
field_back : (k : FieldKind) (delta same : Bool) (l z : ℤ) (more : ℕ) (rest : List ℕ) → int_eq l z ≡ same → FitsKind k z → (delta ≡ true → (not (is_coordinate k) || is_byte (z -ℤ l)) ≡ true) →
    field_at ((flag same + 2 * more) % 2 == 1) k delta l (unless_same same (value_bytes k delta l z) ++ rest) ≡ Ok (z, rest)
field_back k delta true l z more rest eq fits near =
    let even : ((0 + 2 * more) % 2 == 1) ≡ false = grind (arith, nat_tests) in
    let is : l ≡ z = (signed_Decides l z).0 eq in
    rw even (ap (λ y. Ok (y, rest)) is)
field_back k delta false l z more rest eq fits near =
    let odd : ((1 + 2 * more) % 2 == 1) ≡ true = grind (arith, nat_tests) in
    rw odd (value_back k delta l z rest fits near)

half_of : (same : Bool) (more : ℕ) → (flag same + 2 * more) / 2 ≡ more
half_of true more = omega arith
half_of false more = omega arith

-- ---- the counted bytes

same_cons : (x y : ℕ) (xs ys : List ℕ) (b c : Bool) → (x == y) ≡ b → (b && c) ≡ true → (c ≡ true → xs ≡ ys) → (x ∷ xs) ≡ (y ∷ ys)
same_cons x y xs ys true c e h tail = let head : x ≡ y = grind (arith, nat_tests) in ap (λ a. a ∷ xs) head ∙ ap (λ zs. y ∷ zs) (tail h)
same_cons x y xs ys false c e h tail = absurd (false≢true h)

same_is : (xs ys : List ℕ) → same_list xs ys ≡ true → xs ≡ ys
same_is [] [] h = refl
same_is [] (y ∷ ys) h = absurd (false≢true h)
same_is (x ∷ xs) [] h = absurd (false≢true h)
same_is (x ∷ xs) (y ∷ ys) h = same_cons x y xs ys (x == y) (same_list xs ys) refl h (λ t. same_is xs ys t)

counted_back : (bytes rest : List ℕ) → counted_at true [] ((length bytes ∷ bytes) ++ rest) ≡ Ok (bytes, rest)
counted_back bytes rest =
    let n : length bytes + 256 * 0 ≡ length bytes = omega arith in
    ap (λ m. taken ((length bytes ∷ bytes) ++ rest) m (bytes ++ rest)) n ∙ taken_back ((length bytes ∷ bytes) ++ rest) bytes rest

bytes_back : (counted keeps : Bool) (old new rest : List ℕ) → keeps_bytes counted old new ≡ keeps → BytesFit counted old → BytesFit counted new →
    counted_at (counted && (flag keeps % 2 == 1)) old (counted_bytes keeps new ++ rest) ≡ Ok (new, rest)
bytes_back true true old new rest e before after = ap (λ t. Ok (t, rest)) (same_is old new e)
bytes_back true false old new rest e before after = counted_back new rest
bytes_back false true old new rest e before after = ap (λ t. Ok (t, rest)) (before ∙ sym after)
bytes_back false false old new rest e before after = absurd (false≢true (sym e))

-- ---- all the fields

and_parts : (a b : Bool) → (a && b) ≡ true → (a ≡ true) × (b ≡ true)
and_parts true b h = (refl, h)
and_parts false b h = absurd (false≢true h)

near_first : (delta : Bool) (f : Field) (fs : List Field) → (delta ≡ true → all_near (f ∷ fs) ≡ true) → (delta ≡ true → is_near f ≡ true)
near_first delta f fs h d = (and_parts (is_near f) (all_near fs) (h d)).0

near_others : (delta : Bool) (f : Field) (fs : List Field) → (delta ≡ true → all_near (f ∷ fs) ≡ true) → (delta ≡ true → all_near fs ≡ true)
near_others delta f fs h d = (and_parts (is_near f) (all_near fs) (h d)).1

pub values_back : (ks : List FieldKind) (counted delta : Bool) (ls zs : List ℤ) (old new rest : List ℕ) → FitKinds ks ls → FitKinds ks zs → BytesFit counted old → BytesFit counted new →
    (delta ≡ true → all_near (fields_of ks ls zs) ≡ true) →
    values_at ks counted (flags_of (fields_of ks ls zs) (keeps_bytes counted old new)) delta ls old (present_bytes (fields_of ks ls zs) delta (keeps_bytes counted old new) new ++ rest) ≡ Ok (values zs new, rest)
values_back [] counted delta [] [] old new rest last fits before after near = ap (map_read (values [])) (bytes_back counted (keeps_bytes counted old new) old new rest refl before after)
values_back [] counted delta [] (z ∷ zs) old new rest last fits before after near = absurd fits
values_back [] counted delta (l ∷ ls) zs old new rest last fits before after near = absurd last
values_back (k ∷ ks) counted delta [] zs old new rest last fits before after near = absurd last
values_back (k ∷ ks) counted delta (l ∷ ls) [] old new rest last fits before after near = absurd fits
values_back (k ∷ ks) counted delta (l ∷ ls) (z ∷ zs) old new rest last fits before after near =
    let f : Field = record { kind = k; last = l; value = z } in
    let fs = fields_of ks ls zs in
    let keeps = keeps_bytes counted old new in
    let more = flags_of fs keeps in
    let behind = present_bytes fs delta keeps new in
    rw (
      append_assoc (field_bytes delta f) behind rest,
      field_back k delta (int_eq l z) l z more (behind ++ rest) refl fits.0 (near_first delta f fs near),
      half_of (int_eq l z) more,
      values_back ks counted delta ls zs old new rest last.1 fits.1 before after (near_others delta f fs near),
    ) refl

-- ---- flags

flags_step : (same : Bool) (more n : ℕ) → more < 2 ^ suc n → flag same + 2 * more < 2 ^ suc (suc n)
flags_step true more n h = let power : 2 ^ suc (suc n) ≡ 2 * 2 ^ suc n = grind arith in omega (arith, h, power)
flags_step false more n h = let power : 2 ^ suc (suc n) ≡ 2 * 2 ^ suc n = grind arith in omega (arith, h, power)

pub fields_length : (ks : List FieldKind) (ls zs : List ℤ) → FitKinds ks ls → FitKinds ks zs → length (fields_of ks ls zs) ≡ length ks
fields_length [] ls zs last fits = refl
fields_length (k ∷ ks) [] zs last fits = absurd last
fields_length (k ∷ ks) (l ∷ ls) [] last fits = absurd fits
fields_length (k ∷ ks) (l ∷ ls) (z ∷ zs) last fits = ap suc (fields_length ks ls zs last.1 fits.1)

pub flags_below : (fs : List Field) (keeps : Bool) → flags_of fs keeps < 2 ^ suc (length fs)
flags_below [] true = omega arith
flags_below [] false = omega arith
flags_below (f ∷ fs) keeps = flags_step (is_unchanged f) (flags_of fs keeps) (length fs) (flags_below fs keeps)
