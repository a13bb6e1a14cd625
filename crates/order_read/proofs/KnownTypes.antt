-- What the code needs of an order type of the table, and of the last fields of that type.
use Rattle.std.proofs.Common.{◌≡◌, ◌≤◌, ◌<◌, ◌%◌, ℕ, ℤ, List, [], length, refl, ap, sym, subst, ◌∙◌, arith, Bool, true, false, Some, None}
use Rattle.std.specs.Prelude.{Option, is_some, ◌==◌, ◌&&◌, Ok, Err}
use Rattle.std.proofs.lemmas.Bool.Decides.{nat_tests}
use Rattle.wire_num.specs.Field.{map_read}
use Rattle.order_fields.specs.declared.kind.FieldKind.{FieldKind}
use Rattle.order_fields.specs.OrderTable.{Row, row_of, values, field_list, FitKinds, FitsRow, BytesFit, IsFieldList, Registers, AreRegisters, last_values}
use Rattle.order_fields.specs.OrderStream.{values_at, counted_at}
use Rattle.order_fields.specs.Kept.{row_kinds, row_flags, is_row_counted}
use Rattle.order_fields.proofs.Rows.{sound_row, code_of_row, last_fits, fit_length}
use Rattle.order_read.specs.Parts.{AreShort, fields_at, list_at}
use Rattle.order_read.proofs.ValuesRead.{short_row}

-- a type of the table, with its last values
pub record IsKnown (kind : ℕ) (regs : Registers) : Type 0 where
  pub count : length (last_values regs kind).numbers ≡ length (row_kinds (row_of kind))
  pub fits : FitKinds (row_kinds (row_of kind)) (last_values regs kind).numbers
  pub bytes : BytesFit (is_row_counted (row_of kind)) (last_values regs kind).bytes
  pub short : AreShort (row_kinds (row_of kind))
  pub flags : row_flags (row_of kind) ≤ 3

known_by : (kind : ℕ) (regs : Registers) (found : Option Row) → row_of kind ≡ found → is_some found ≡ true → AreRegisters regs → IsKnown kind regs
known_by kind regs None e some are = absurd (let no : ⊥ = cc in no)
known_by kind regs (Some r) e some are =
    let last = last_fits regs kind r are e in
    let sound = sound_row kind r e in
    let size : length (last_values regs kind).numbers ≡ length r.kinds = fit_length r.kinds (last_values regs kind).numbers last.numbers in
    let kinds : r.kinds ≡ row_kinds (row_of kind) = sym (ap row_kinds e) in
    let counted : r.counted ≡ is_row_counted (row_of kind) = sym (ap is_row_counted e) in
    let flags : r.flags ≡ row_flags (row_of kind) = sym (ap row_flags e) in
    record {
      count = size ∙ ap length kinds;
      fits = subst (λ ks. FitKinds ks (last_values regs kind).numbers) kinds last.numbers;
      bytes = subst (λ b. BytesFit b (last_values regs kind).bytes) counted last.bytes;
      short = subst (λ ks. AreShort ks) kinds (short_row kind r e);
      flags = subst (λ (n : ℕ). n ≤ 3) flags sound.flags;
    }

pub known : (kind : ℕ) (regs : Registers) → is_some (row_of kind) ≡ true → AreRegisters regs → IsKnown kind regs
known kind regs some are = known_by kind regs (row_of kind) refl some are

-- ---- the field list of a type

here_by : (kind : ℕ) (found : Option Row) (flags : ℕ) (delta : Bool) (regs : Registers) (bs : List ℕ) → row_of kind ≡ found → is_some found ≡ true →
    list_at found flags delta regs bs ≡ map_read (λ vs. record { code = kind; values = vs }) (values_at (row_kinds found) (is_row_counted found) flags delta (last_values regs kind).numbers (last_values regs kind).bytes bs)
here_by kind None flags delta regs bs e some = absurd (let no : ⊥ = cc in no)
here_by kind (Some r) flags delta regs bs e some =
    ap (λ (k : ℕ). map_read (λ vs. record { code = k; values = vs }) (values_at r.kinds r.counted flags delta (last_values regs k).numbers (last_values regs k).bytes bs)) (code_of_row kind r e)

fields_here : (kind flags : ℕ) (delta : Bool) (regs : Registers) (bs : List ℕ) → is_some (row_of kind) ≡ true →
    fields_at kind flags delta regs bs ≡ map_read (λ vs. record { code = kind; values = vs }) (values_at (row_kinds (row_of kind)) (is_row_counted (row_of kind)) flags delta (last_values regs kind).numbers (last_values regs kind).bytes bs)
fields_here kind flags delta regs bs some = here_by kind (row_of kind) flags delta regs bs refl some

-- the values and the counted bytes were read
pub fields_read : (kind flags left : ℕ) (delta : Bool) (regs : Registers) (kinds : List FieldKind) (lasts zs : List ℤ) (bytes a b more : List ℕ) → is_some (row_of kind) ≡ true → kinds ≡ row_kinds (row_of kind) → lasts ≡ (last_values regs kind).numbers →
    ((counted : Bool) (bytes : List ℕ) → values_at kinds counted flags delta lasts bytes a ≡ map_read (values zs) (counted_at (counted && (left % 2 == 1)) bytes b)) →
    counted_at (is_row_counted (row_of kind) && (left % 2 == 1)) (last_values regs kind).bytes b ≡ Ok (bytes, more) →
    fields_at kind flags delta regs a ≡ Ok (field_list kind zs bytes, more)
fields_read kind flags left delta regs kinds lasts zs bytes a b more some ks ls e f =
    fields_here kind flags delta regs a some
    ∙ ap (map_read (λ vs. record { code = kind; values = vs })) (rw (← ks, ← ls) (e (is_row_counted (row_of kind)) (last_values regs kind).bytes))
    ∙ ap (λ r. map_read (λ vs. record { code = kind; values = vs }) (map_read (values zs) r)) f

-- a field was refused
pub fields_refused : (kind flags : ℕ) (delta : Bool) (regs : Registers) (kinds : List FieldKind) (lasts : List ℤ) (a left : List ℕ) → is_some (row_of kind) ≡ true → kinds ≡ row_kinds (row_of kind) → lasts ≡ (last_values regs kind).numbers →
    ((counted : Bool) (bytes : List ℕ) → values_at kinds counted flags delta lasts bytes a ≡ Err left) → fields_at kind flags delta regs a ≡ Err left
fields_refused kind flags delta regs kinds lasts a left some ks ls e =
    let here : values_at (row_kinds (row_of kind)) (is_row_counted (row_of kind)) flags delta (last_values regs kind).numbers (last_values regs kind).bytes a ≡ Err left =
    rw (← ks, ← ls) (e (is_row_counted (row_of kind)) (last_values regs kind).bytes) in
    fields_here kind flags delta regs a some ∙ ap (map_read (λ vs. record { code = kind; values = vs })) here

-- the counted bytes were refused
pub bytes_refused : (kind flags left : ℕ) (delta : Bool) (regs : Registers) (kinds : List FieldKind) (lasts zs : List ℤ) (a b more : List ℕ) → is_some (row_of kind) ≡ true → kinds ≡ row_kinds (row_of kind) → lasts ≡ (last_values regs kind).numbers →
    ((counted : Bool) (bytes : List ℕ) → values_at kinds counted flags delta lasts bytes a ≡ map_read (values zs) (counted_at (counted && (left % 2 == 1)) bytes b)) →
    counted_at (is_row_counted (row_of kind) && (left % 2 == 1)) (last_values regs kind).bytes b ≡ Err more →
    fields_at kind flags delta regs a ≡ Err more
bytes_refused kind flags left delta regs kinds lasts zs a b more some ks ls e f =
    fields_here kind flags delta regs a some
    ∙ ap (map_read (λ vs. record { code = kind; values = vs })) (rw (← ks, ← ls) (e (is_row_counted (row_of kind)) (last_values regs kind).bytes))
    ∙ ap (λ r. map_read (λ vs. record { code = kind; values = vs }) (map_read (values zs) r)) f

-- ---- they fit

fit_by : (kind : ℕ) (found : Option Row) (zs : List ℤ) (bytes : List ℕ) → row_of kind ≡ found → is_some found ≡ true → FitKinds (row_kinds found) zs → BytesFit (is_row_counted found) bytes → FitsRow found (values zs bytes)
fit_by kind None zs bytes e some fits few = absurd (let no : ⊥ = cc in no)
fit_by kind (Some r) zs bytes e some fits few = record { numbers = fits; bytes = few }

pub is_list : (kind : ℕ) (zs : List ℤ) (bytes : List ℕ) → is_some (row_of kind) ≡ true → FitKinds (row_kinds (row_of kind)) zs → BytesFit (is_row_counted (row_of kind)) bytes → IsFieldList (field_list kind zs bytes)
is_list kind zs bytes some fits few = fit_by kind (row_of kind) zs bytes refl some fits few

pub few_bytes : (counted : Bool) (bytes : List ℕ) → counted ≡ true → length bytes < 256 → BytesFit counted bytes
few_bytes true bytes e h = h
few_bytes false bytes e h = absurd (let no : ⊥ = cc in no)

pub no_bytes : (counted : Bool) (bytes : List ℕ) → counted ≡ false → BytesFit counted bytes → bytes ≡ []
no_bytes true bytes e h = absurd (let no : ⊥ = cc in no)
no_bytes false bytes e h = h

pub none_fit : (counted : Bool) → counted ≡ false → BytesFit counted []
none_fit true e = absurd (let no : ⊥ = cc in no)
none_fit false e = refl

-- ---- whether counted bytes stand there

pub present : (counted : Bool) (left : ℕ) (last bs : List ℕ) → counted ≡ true → left % 2 ≡ 1 → counted_at (counted && (left % 2 == 1)) last bs ≡ counted_at true [] bs
present counted left last bs e odd = let one : (left % 2 == 1) ≡ true = grind (arith, nat_tests) in rw (e, one) refl

pub absent : (counted : Bool) (left : ℕ) (last bs : List ℕ) → (left % 2 ≡ 1 → ⊥) → counted_at (counted && (left % 2 == 1)) last bs ≡ Ok (last, bs)
absent true left last bs even = let none : (left % 2 == 1) ≡ false = grind (arith, nat_tests) in rw none refl
absent false left last bs even = refl

pub uncounted : (counted : Bool) (left : ℕ) (last bs : List ℕ) → counted ≡ false → counted_at (counted && (left % 2 == 1)) last bs ≡ Ok (last, bs)
uncounted true left last bs e = absurd (let no : ⊥ = cc in no)
uncounted false left last bs e = refl
