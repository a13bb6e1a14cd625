-- Each field that is written is read back, whatever follows it.
use Rattle.std.proofs.Common.{◌≡◌, ℕ, ◌+◌, ◌*◌, ◌<◌, Bool, true, List, [], ◌∷◌, ◌++◌, length, refl, ap, sym, ◌∙◌, arith, Ok, Err}
use Rattle.std.specs.Prelude.{ℤ, pos, negsuc, int_le, nat_lt, if◌then◌else◌}
use Rattle.std.proofs.lemmas.Bool.{and_parts}
use Rattle.std.proofs.lemmas.Bool.Decides.{nat_tests}
use Rattle.std.proofs.lemmas.Int.{ints}
use Rattle.wire_num.specs.Field.{Read, then_read, map_read, bytes_at, taken}
use Rattle.wire_num.specs.FieldValue.{passing_at}
use Rattle.wire_num.specs.Number.{IsSigned}
use Rattle.wire_num.proofs.Bytes.{taken_back}
use Rattle.wire_num.proofs.Numbers.{little_at_back, big_at_back, big_back, little_signed_at_back}
use Rattle.px_core.specs.declared.rectangle.Rect.{Rect}
use Rattle.px_core.specs.Rectangle.{boxed}
use Rattle.px_core.specs.Colors.{is_color, are_colors}
use Rattle.draw_ops.specs.Ranges.{is_u16, is_u32}
use Rattle.record_rules.specs.declared.field.Field.TheVariants.{Short, Long, SignedByte, SignedShort, Color}
use Rattle.record_rules.specs.Fields.{field_bytes, fields_bytes, colors_bytes, pairs_bytes, are_in_place, is_i8, is_i16}
use Rattle.record_rules.specs.Tables.{rect_fields}
use Rattle.record_rules.specs.Reading.{byte_at, short_at, long_at, signed_byte_at, signed_short_at, color_at, colors_in, colors_at, pairs_in, pairs_at, point_at, rect_at}

-- ---- reading on

pub then_back : {A B : Type 0} (r : Read A) (v : A) (rest : List ℕ) (f : A → List ℕ → Read B) → r ≡ Ok (v, rest) → then_read r f ≡ f v rest
then_back r v rest f e = ap (λ q. then_read q f) e

pub map_back : {A B : Type 0} (r : Read A) (v : A) (rest : List ℕ) (f : A → B) → r ≡ Ok (v, rest) → map_read f r ≡ Ok (f v, rest)
map_back r v rest f e = ap (map_read f) e

pub passing_back : {A : Type 0} (test : A → Bool) (read : List ℕ → Read A) (bs : List ℕ) (v : A) (rest : List ℕ) → read bs ≡ Ok (v, rest) → test v ≡ true → passing_at test read bs ≡ Ok (v, rest)
unfolding passing_at
passing_back test read bs v rest e t = ap (λ q. then_read q (λ u more. if test u then Ok (u, more) else Err bs)) e ∙ ap (λ b. if b then Ok (v, rest) else Err bs) t

-- ---- numbers

below : (n most : ℕ) → nat_lt n most ≡ true → n < most
below n most h = grind (arith, nat_tests, h)

pub byte_back : (n : ℕ) (rest : List ℕ) → byte_at (n ∷ rest) ≡ Ok (n, rest)
byte_back n rest = let same : 256 * 0 + n ≡ n = omega arith in ap (λ m. Ok (m, rest)) same

pub short_back : (n : ℕ) (rest : List ℕ) → is_u16 n ≡ true → short_at (field_bytes (Short n) ++ rest) ≡ Ok (n, rest)
short_back n rest h = little_at_back 2 n rest (below n 65536 h)

pub long_back : (n : ℕ) (rest : List ℕ) → is_u32 n ≡ true → long_at (field_bytes (Long n) ++ rest) ≡ Ok (n, rest)
long_back n rest h = little_at_back 4 n rest (below n 4294967296 h)

signed_byte_is : (z : ℤ) → is_i8 z ≡ true → IsSigned 1 z
signed_byte_is (pos x) h = let k = and_parts (int_le (negsuc 0x7F) (pos x)) (int_le (pos x) (pos 0x7F)) h in grind (arith, ints, nat_tests, k)
signed_byte_is (negsuc x) h = let k = and_parts (int_le (negsuc 0x7F) (negsuc x)) (int_le (negsuc x) (pos 0x7F)) h in grind (arith, ints, nat_tests, k)

signed_short_is : (z : ℤ) → is_i16 z ≡ true → IsSigned 2 z
signed_short_is (pos x) h = let k = and_parts (int_le (negsuc 0x7FFF) (pos x)) (int_le (pos x) (pos 0x7FFF)) h in grind (arith, ints, nat_tests, k)
signed_short_is (negsuc x) h = let k = and_parts (int_le (negsuc 0x7FFF) (negsuc x)) (int_le (negsuc x) (pos 0x7FFF)) h in grind (arith, ints, nat_tests, k)

pub signed_byte_back : (z : ℤ) (rest : List ℕ) → is_i8 z ≡ true → signed_byte_at (field_bytes (SignedByte z) ++ rest) ≡ Ok (z, rest)
signed_byte_back z rest h = little_signed_at_back 1 z rest (omega arith) (signed_byte_is z h)

pub signed_short_back : (z : ℤ) (rest : List ℕ) → is_i16 z ≡ true → signed_short_at (field_bytes (SignedShort z) ++ rest) ≡ Ok (z, rest)
signed_short_back z rest h = little_signed_at_back 2 z rest (omega arith) (signed_short_is z h)

pub color_back : (c : ℕ) (rest : List ℕ) → is_color c ≡ true → color_at (field_bytes (Color c) ++ rest) ≡ Ok (c, rest)
color_back c rest h = big_at_back 3 c rest (below c 16777216 h)

-- ---- fields of many bytes

pub bytes_back : (n : ℕ) (xs rest : List ℕ) → length xs ≡ n → bytes_at n (xs ++ rest) ≡ Ok (xs, rest)
bytes_back n xs rest e = ap (λ m. taken (xs ++ rest) m (xs ++ rest)) (sym e) ∙ taken_back (xs ++ rest) xs rest

pub length-colors : (cs : List ℕ) → length (colors_bytes cs) ≡ 3 * length cs
length-colors [] = refl
length-colors (c ∷ cs) = let more = length-colors cs in omega (arith, more)

colors_in-bytes : (cs : List ℕ) → are_colors cs ≡ true → colors_in (colors_bytes cs) ≡ cs
colors_in-bytes [] h = refl
colors_in-bytes (c ∷ cs) h =
    let k = and_parts (is_color c) (are_colors cs) h in
    ap (λ x. x ∷ colors_in (colors_bytes cs)) (big_back 3 c (below c 16777216 k.0)) ∙ ap (λ xs. c ∷ xs) (colors_in-bytes cs k.1)

pub colors_back : (n : ℕ) (cs rest : List ℕ) → length cs ≡ n → are_colors cs ≡ true → colors_at n (colors_bytes cs ++ rest) ≡ Ok (cs, rest)
colors_back n cs rest e h =
    map_back _ (colors_bytes cs) rest colors_in (bytes_back (3 * n) (colors_bytes cs) rest (length-colors cs ∙ ap (λ m. 3 * m) e)) ∙ ap (λ xs. Ok (xs, rest)) (colors_in-bytes cs h)

pub length-pairs : (ps : List (ℕ × ℕ)) → length (pairs_bytes ps) ≡ 2 * length ps
length-pairs [] = refl
length-pairs (p ∷ ps) = let more = length-pairs ps in omega (arith, more)

pairs_in-bytes : (ps : List (ℕ × ℕ)) → pairs_in (pairs_bytes ps) ≡ ps
pairs_in-bytes [] = refl
pairs_in-bytes (p ∷ ps) = ap (λ xs. p ∷ xs) (pairs_in-bytes ps)

pub pairs_back : (ps : List (ℕ × ℕ)) (rest : List ℕ) → pairs_at (length ps) (pairs_bytes ps ++ rest) ≡ Ok (ps, rest)
pairs_back ps rest =
    map_back _ (pairs_bytes ps) rest pairs_in (bytes_back (2 * length ps) (pairs_bytes ps) rest (length-pairs ps)) ∙ ap (λ xs. Ok (xs, rest)) (pairs_in-bytes ps)

-- ---- a point and a rectangle

pub point_back : (x y : ℤ) (rest : List ℕ) → is_i16 x ≡ true → is_i16 y ≡ true → point_at (field_bytes (SignedShort x) ++ (field_bytes (SignedShort y) ++ rest)) ≡ Ok ((x, y), rest)
unfolding point_at
point_back x y rest h k =
    then_back _ x (field_bytes (SignedShort y) ++ rest) (λ x more. map_read (λ y. (x, y)) (signed_short_at more)) (signed_short_back x (field_bytes (SignedShort y) ++ rest) h)
    ∙ map_back _ y rest (λ y. (x, y)) (signed_short_back y rest k)

pub rect_back : (r : Rect) (rest : List ℕ) → are_in_place (rect_fields r) ≡ true → rect_at (fields_bytes (rect_fields r) ++ rest) ≡ Ok (r, rest)
unfolding rect_at
rect_back r rest h =
    let a = and_parts (is_i16 r.x) (are_in_place (SignedShort r.y ∷ Short r.w ∷ Short r.h ∷ [])) h in
    let b = and_parts (is_i16 r.y) (are_in_place (Short r.w ∷ Short r.h ∷ [])) a.1 in
    let c = and_parts (is_u16 r.w) (are_in_place (Short r.h ∷ [])) b.1 in
    let d = and_parts (is_u16 r.h) true c.1 in
    then_back _ r.x (fields_bytes (SignedShort r.y ∷ Short r.w ∷ Short r.h ∷ []) ++ rest)
    (λ x more. then_read (signed_short_at more) (λ y more. then_read (short_at more) (λ w more. map_read (λ h. boxed x y w h) (short_at more))))
    (signed_short_back r.x _ a.0)
    ∙ then_back _ r.y (fields_bytes (Short r.w ∷ Short r.h ∷ []) ++ rest)
    (λ y more. then_read (short_at more) (λ w more. map_read (λ h. boxed r.x y w h) (short_at more)))
    (signed_short_back r.y _ b.0)
    ∙ then_back _ r.w (fields_bytes (Short r.h ∷ []) ++ rest) (λ w more. map_read (λ h. boxed r.x r.y w h) (short_at more)) (short_back r.w _ c.0)
    ∙ map_back _ r.h rest (λ h. boxed r.x r.y r.w h) (short_back r.h rest d.0)
