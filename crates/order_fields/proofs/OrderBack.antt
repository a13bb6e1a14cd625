-- A whole order that is written is read back: any order of the table, any registers, any bounds.
use Rattle.std.proofs.Common.{◌≡◌, ℕ, zero, suc, ◌+◌, ◌-◌, ◌*◌, ◌/◌, ◌%◌, ◌^◌, ◌<◌, ◌≤◌, List, ◌∷◌, ◌++◌, length, refl, ap, sym, ◌∙◌, arith, Some, None, Bool, true, false, append_assoc}
use Rattle.std.specs.Prelude.{Ok, Option, nat_lt, nat_le, ◌==◌, ◌&&◌, not, if◌then◌else◌}
use Rattle.std.proofs.lemmas.Bool.{false≢true}
use Rattle.std.proofs.lemmas.Bool.Decides.{nat_tests}
use Rattle.px_core.specs.declared.depth.Depth.{Depth}
use Rattle.wire_num.specs.Field.{then_read}
use Rattle.byteorder.specs.Endian.{little_bytes}
use Rattle.order_fields.specs.OrderTable.{Row, row_of, Values, FieldList, Edges, Registers, last_values, AreRegisters, FitRow, FitsRow, IsFieldList, FitBounds}
use Rattle.order_fields.specs.OrderStream.{has_bit, type_at, bounds_at, values_at, body_at, typed_at, primary_at, form_of, order_by, order_at, seen_primary}
use Rattle.order_fields.specs.OrderStream.Form.{PrimaryForm}
use Rattle.order_fields.specs.OrderDelta.{Field, takes_deltas, all_near, any_coordinate, flags_of, present_bytes, shown, keeps_bounds, bounds_bytes, has_bounds, bit, control_byte, type_bytes, tail_bytes, fields_in, keeps_bytes_in, is_typed, omitted_in, row_bytes, bytes_by_row, order_bytes}
use Rattle.order_fields.proofs.Rows.{sound_row, code_of_row, last_fits}
use Rattle.wire_num.proofs.Numbers.{little_at_back}
use Rattle.order_fields.proofs.FieldsBack.{values_back, flags_below, fields_length}
use Rattle.order_fields.proofs.BoundsBack.{bounds_back}

-- ---- the control byte

bit_most : (b : Bool) → bit b ≤ 1
bit_most true = omega arith
bit_most false = omega arith

bit_is : (b : Bool) → (bit b == 1) ≡ b
bit_is true = refl
bit_is false = refl

control_parts : (b t d k o : ℕ) → b ≤ 1 → t ≤ 1 → d ≤ 1 → k ≤ 1 → o ≤ 3 →
    (((1 + 4 * b + 8 * t + 16 * d + 32 * k + 64 * o) % 4 ≡ 1) × (((1 + 4 * b + 8 * t + 16 * d + 32 * k + 64 * o) / 4) % 2 ≡ b) × (((1 + 4 * b + 8 * t + 16 * d + 32 * k + 64 * o) / 8) % 2 ≡ t)
    × (((1 + 4 * b + 8 * t + 16 * d + 32 * k + 64 * o) / 16) % 2 ≡ d) × (((1 + 4 * b + 8 * t + 16 * d + 32 * k + 64 * o) / 32) % 2 ≡ k) × ((1 + 4 * b + 8 * t + 16 * d + 32 * k + 64 * o) / 64 ≡ o))
control_parts b t d k o hb ht hd hk ho = (omega arith, omega arith, omega arith, omega arith, omega arith, omega arith)

-- what a reader makes of the control byte
record Parts (control : ℕ) (bounded typed delta keeps : Bool) (omitted : ℕ) : Type 0 where
  form : control % 4 ≡ 1
  bounds : has_bit control 4 ≡ bounded
  kind : has_bit control 8 ≡ typed
  deltas : has_bit control 16 ≡ delta
  kept : has_bit control 32 ≡ keeps
  left : control / 64 ≡ omitted

parts_back : (bounded typed delta keeps : Bool) (omitted : ℕ) → omitted ≤ 3 → Parts (control_byte bounded typed delta keeps omitted) bounded typed delta keeps omitted
parts_back bounded typed delta keeps omitted few =
    let p = control_parts (bit bounded) (bit typed) (bit delta) (bit keeps) omitted (bit_most bounded) (bit_most typed) (bit_most delta) (bit_most keeps) few in
    record {
      form = p.0;
      bounds = ap (λ n. n == 1) p.1 ∙ bit_is bounded;
      kind = ap (λ n. n == 1) p.2 ∙ bit_is typed;
      deltas = ap (λ n. n == 1) p.3 ∙ bit_is delta;
      kept = ap (λ n. n == 1) p.4 ∙ bit_is keeps;
      left = p.5;
    }

form_back : (control : ℕ) → control % 4 ≡ 1 → form_of control ≡ PrimaryForm
form_back control h = let one : (control % 4 == 1) ≡ true = grind (arith, nat_tests, h) in rw one refl

type_back : (typed : Bool) (last code : ℕ) (rest : List ℕ) → (typed ≡ false → last ≡ code) → type_at typed last (type_bytes typed code ++ rest) ≡ Ok (code, rest)
type_back true last code rest h = let n : code + 256 * 0 ≡ code = omega arith in ap (λ m. Ok (m, rest)) n
type_back false last code rest h = ap (λ m. Ok (m, rest)) (h refl)

-- ---- the flag bytes

pub shown_most : (n m : ℕ) → n < 256 ^ m → m ≤ 3 → shown n ≤ m
shown_most n zero h k = grind (arith, nat_tests)
shown_most n (suc zero) h k = grind (arith, nat_tests)
shown_most n (suc (suc zero)) h k = grind (arith, nat_tests)
shown_most n (suc (suc (suc m))) h k = grind (arith, nat_tests)

shown_by : (n : ℕ) (a b c : Bool) → (n == 0) ≡ a → nat_lt n 256 ≡ b → nat_lt n 65536 ≡ c → n < 16777216 → n < 256 ^ (if a then 0 else (if b then 1 else (if c then 2 else 3)))
shown_by n true b c ea eb ec h = grind (arith, nat_tests)
shown_by n false true c ea eb ec h = grind (arith, nat_tests)
shown_by n false false true ea eb ec h = grind (arith, nat_tests)
shown_by n false false false ea eb ec h = h

shown_holds : (n : ℕ) → n < 16777216 → n < 256 ^ shown n
shown_holds n h = shown_by n (n == 0) (nat_lt n 256) (nat_lt n 65536) refl refl refl h

above_three : (m : ℕ) → suc (suc (suc (suc m))) ≤ 3 → ⊥
above_three m h = omega (arith, h)

below_three : (n m : ℕ) → n < 256 ^ m → m ≤ 3 → n < 16777216
below_three n zero h k = grind (arith, h)
below_three n (suc zero) h k = grind (arith, h)
below_three n (suc (suc zero)) h k = grind (arith, h)
below_three n (suc (suc (suc zero))) h k = h
below_three n (suc (suc (suc (suc m)))) h k = absurd (above_three m k)

-- ---- an order of a row

-- what stands behind the control byte, over what a reader makes of that byte
tail_back : (r : Row) (regs : Registers) (control : ℕ) (typed delta keeps_edges : Bool) (fs : List Field) (keeps : Bool) (vs : Values) (bounds : Option Edges) (rest : List ℕ) →
    row_of r.code ≡ Some r → Parts control (has_bounds bounds) typed delta keeps_edges (r.flags - shown (flags_of fs keeps)) → shown (flags_of fs keeps) ≤ r.flags → flags_of fs keeps < 16777216 →
    (typed ≡ false → regs.last ≡ r.code) →
    ((more : List ℕ) → bounds_at (has_bounds bounds) keeps_edges regs.bounds (bounds_bytes keeps_edges regs.bounds bounds ++ more) ≡ Ok (bounds, more)) →
    ((more : List ℕ) → values_at r.kinds r.counted (flags_of fs keeps) delta (last_values regs r.code).numbers (last_values regs r.code).bytes (present_bytes fs delta keeps vs.bytes ++ more) ≡ Ok (vs, more)) →
    primary_at regs control (tail_bytes r typed delta keeps_edges fs keeps regs.bounds bounds vs.bytes ++ rest) ≡ Ok (seen_primary regs (record { code = r.code; values = vs }) bounds, rest)
tail_back r regs control typed delta keeps_edges fs keeps vs bounds rest found parts most below same bounds_read values_read =
    let flags = flags_of fs keeps in
    let a = type_bytes typed r.code in
    let b = little_bytes (shown flags) flags in
    let c = bounds_bytes keeps_edges regs.bounds bounds in
    let d = present_bytes fs delta keeps vs.bytes in
    let allowed : nat_le (r.flags - shown flags) r.flags ≡ true = grind (arith, nat_tests) in
    let permitted : nat_le (control / 64) r.flags ≡ true = rw parts.left allowed in
    let left : r.flags - (r.flags - shown flags) ≡ shown flags = omega arith in
    let read_type : type_at (has_bit control 8) regs.last ((a ++ (b ++ (c ++ d))) ++ rest) ≡ Ok (r.code, (b ++ (c ++ d)) ++ rest) =
    rw (parts.kind, append_assoc a (b ++ (c ++ d)) rest) (type_back typed regs.last r.code ((b ++ (c ++ d)) ++ rest) same) in
    let read_body : body_at r regs control ((b ++ (c ++ d)) ++ rest) ≡ Ok (seen_primary regs (record { code = r.code; values = vs }) bounds, rest) =
    rw (
      parts.left,
      left,
      append_assoc b (c ++ d) rest,
      little_at_back (shown flags) flags ((c ++ d) ++ rest) (shown_holds flags below),
      parts.bounds,
      parts.kept,
      append_assoc c d rest,
      bounds_read (d ++ rest),
      parts.deltas,
      values_read rest,
    ) refl in
    let read_row : typed_at (Some r) regs control (control ∷ ((a ++ (b ++ (c ++ d))) ++ rest)) ((a ++ (b ++ (c ++ d))) ++ rest) ((b ++ (c ++ d)) ++ rest) ≡ Ok (seen_primary regs (record { code = r.code; values = vs }) bounds, rest) =
    rw permitted read_body in
    ap (λ x. then_read x (λ t more. typed_at (row_of t) regs control (control ∷ ((a ++ (b ++ (c ++ d))) ++ rest)) ((a ++ (b ++ (c ++ d))) ++ rest) more)) read_type
    ∙ ap (λ x. typed_at x regs control (control ∷ ((a ++ (b ++ (c ++ d))) ++ rest)) ((a ++ (b ++ (c ++ d))) ++ rest) ((b ++ (c ++ d)) ++ rest)) found ∙ read_row

and_second : (a b : Bool) → (a && b) ≡ true → b ≡ true
and_second true b h = h
and_second false b h = absurd (false≢true h)

untyped : (last code : ℕ) (b : Bool) → (last == code) ≡ b → not b ≡ false → last ≡ code
untyped last code true e h = grind (arith, nat_tests, e)
untyped last code false e h = absurd (false≢true (sym h))

row_back : (depth : Depth) (r : Row) (regs : Registers) (confirmed : Bool) (vs : Values) (bounds : Option Edges) (rest : List ℕ) → row_of r.code ≡ Some r → AreRegisters regs → FitRow r vs → FitBounds bounds →
    order_at depth regs (row_bytes r regs confirmed vs bounds ++ rest) ≡ Ok (seen_primary regs (record { code = r.code; values = vs }) bounds, rest)
row_back depth r regs confirmed vs bounds rest found are fits edges =
    let sound = sound_row r.code r found in
    let last = last_fits regs r.code r are found in
    let typed = is_typed r regs in
    let fs = fields_in r regs vs in
    let keeps = keeps_bytes_in r regs vs in
    let delta = takes_deltas fs in
    let keeps_edges = keeps_bounds confirmed regs.bounds bounds in
    let flags = flags_of fs keeps in
    let omitted = omitted_in r regs vs in
    let control = control_byte (has_bounds bounds) typed delta keeps_edges omitted in
    let count : length fs ≡ length r.kinds = fields_length r.kinds (last_values regs r.code).numbers vs.numbers last.numbers fits.numbers in
    let most : flags < 2 ^ suc (length fs) = flags_below fs keeps in
    let fewer : flags < 2 ^ suc (length r.kinds) = rw (← count) most in
    let below : flags < 256 ^ r.flags = omega (arith, fewer, sound.room) in
    let small : flags < 16777216 = below_three flags r.flags below sound.flags in
    let parts = parts_back (has_bounds bounds) typed delta keeps_edges omitted (omega (arith, sound.flags)) in
    ap (λ form. order_by depth form regs control (tail_bytes r typed delta keeps_edges fs keeps regs.bounds bounds vs.bytes ++ rest)) (form_back control parts.form)
    ∙ tail_back r regs control typed delta keeps_edges fs keeps vs bounds rest found parts (shown_most flags r.flags below sound.flags) small (untyped regs.last r.code (regs.last == r.code) refl)
    (λ more. bounds_back confirmed regs.bounds bounds more edges)
    (λ more. values_back r.kinds r.counted delta (last_values regs r.code).numbers vs.numbers (last_values regs r.code).bytes vs.bytes more last.numbers fits.numbers last.bytes fits.bytes
    (λ d. and_second (any_coordinate fs) (all_near fs) d))

back_by : (depth : Depth) (found : Option Row) (regs : Registers) (confirmed : Bool) (o : FieldList) (bounds : Option Edges) (rest : List ℕ) → row_of o.code ≡ found → AreRegisters regs → FitsRow found o.values → FitBounds bounds →
    order_at depth regs (bytes_by_row found regs confirmed o.values bounds ++ rest) ≡ Ok (seen_primary regs o bounds, rest)
back_by depth None regs confirmed o bounds rest is are fits edges = absurd fits
back_by depth (Some r) regs confirmed o bounds rest is are fits edges =
    let code : r.code ≡ o.code = code_of_row o.code r is in
    let here : row_of r.code ≡ Some r = ap row_of code ∙ is in
    row_back depth r regs confirmed o.values bounds rest here are fits edges ∙ ap (λ c. Ok (seen_primary regs (record { code = c; values = o.values }) bounds, rest)) code

-- what is written is read back to the same fields, bounds and registers
pub order_back : (depth : Depth) (regs : Registers) (confirmed : Bool) (o : FieldList) (bounds : Option Edges) (rest : List ℕ) → AreRegisters regs → IsFieldList o → FitBounds bounds →
    order_at depth regs (order_bytes regs confirmed o bounds ++ rest) ≡ Ok (seen_primary regs o bounds, rest)
order_back depth regs confirmed o bounds rest are fits edges = back_by depth (row_of o.code) regs confirmed o bounds rest refl are fits edges
