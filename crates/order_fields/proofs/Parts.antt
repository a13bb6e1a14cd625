-- The parts of a written order, by what its row says.
use Rattle.std.proofs.Common.{◌≡◌, ◌≤◌, ◌<◌, ◌-◌, ◌^◌, ◌/◌, ℕ, suc, ℤ, List, ◌∷◌, ◌++◌, length, refl, ap, sym, arith, Bool, true, false, Some, None}
use Rattle.std.specs.Prelude.{Option, ◌==◌, not}
use Rattle.order_fields.specs.declared.kind.FieldKind.{FieldKind}
use Rattle.byteorder.specs.Endian.{little_bytes}
use Rattle.order_fields.specs.OrderTable.{Row, row_of, Values, FieldList, Edges, Registers, last_values, AreRegisters, FitKinds, FitsRow, IsFieldList, BytesFit}
use Rattle.order_fields.specs.OrderDelta.{fields_of, flags_of, keeps_bytes, takes_deltas, present_bytes, shown, keeps_bounds, bounds_bytes, has_bounds, control_byte, type_bytes, bytes_by_row, order_bytes}
use Rattle.order_fields.specs.Kept.{row_kinds, row_flags, is_row_counted, AreSized}
use Rattle.order_fields.proofs.Rows.{sound_row, code_of_row, last_fits, fit_length}

-- an order's bytes by the fields, the flag bytes and the counted bytes of its type
abbrev pub parts : List FieldKind → ℕ → Bool → Registers → Bool → FieldList → Option Edges → List ℕ
parts kinds flag_bytes counted regs confirmed o bounds =
    let old = last_values regs o.code in
    let fs = fields_of kinds old.numbers o.values.numbers in
    let keeps = keeps_bytes counted old.bytes o.values.bytes in
    let typed = not (regs.last == o.code) in
    let keeps_edges = keeps_bounds confirmed regs.bounds bounds in
    (control_byte (has_bounds bounds) typed (takes_deltas fs) keeps_edges (flag_bytes - shown (flags_of fs keeps)) ∷ type_bytes typed o.code)
    ++ (little_bytes (shown (flags_of fs keeps)) (flags_of fs keeps) ++ (bounds_bytes keeps_edges regs.bounds bounds ++ present_bytes fs (takes_deltas fs) keeps o.values.bytes))

parts_by : (found : Option Row) (regs : Registers) (confirmed : Bool) (o : FieldList) (bounds : Option Edges) → row_of o.code ≡ found → FitsRow found o.values →
    bytes_by_row found regs confirmed o.values bounds ≡ parts (row_kinds found) (row_flags found) (is_row_counted found) regs confirmed o bounds
parts_by None regs confirmed o bounds e fits = absurd fits
parts_by (Some r) regs confirmed o bounds e fits = ap (λ (c : ℕ). parts r.kinds r.flags r.counted regs confirmed (record { code = c; values = o.values }) bounds) (code_of_row o.code r e)

pub order_parts : (regs : Registers) (confirmed : Bool) (o : FieldList) (bounds : Option Edges) → IsFieldList o →
    order_bytes regs confirmed o bounds ≡ parts (row_kinds (row_of o.code)) (row_flags (row_of o.code)) (is_row_counted (row_of o.code)) regs confirmed o bounds
order_parts regs confirmed o bounds fits = parts_by (row_of o.code) regs confirmed o bounds refl fits

-- the same of what the code has computed
pub order_from_parts : (regs : Registers) (confirmed : Bool) (o : FieldList) (bounds : Option Edges) → IsFieldList o →
    (control : ℕ) (typed delta keeps_edges keeps : Bool) (kind flags : ℕ) (kinds : List FieldKind) (last values : List ℤ) (bytes : List ℕ) →
    kind ≡ o.code → kinds ≡ row_kinds (row_of kind) → last ≡ (last_values regs kind).numbers → values ≡ o.values.numbers → bytes ≡ o.values.bytes →
    keeps ≡ keeps_bytes (is_row_counted (row_of kind)) (last_values regs kind).bytes bytes → flags ≡ flags_of (fields_of kinds last values) keeps → delta ≡ takes_deltas (fields_of kinds last values) →
    typed ≡ not (regs.last == kind) → keeps_edges ≡ keeps_bounds confirmed regs.bounds bounds →
    control ≡ control_byte (has_bounds bounds) typed delta keeps_edges (row_flags (row_of kind) - shown flags) →
    (control ∷ type_bytes typed kind) ++ (little_bytes (shown flags) flags ++ (bounds_bytes keeps_edges regs.bounds bounds ++ present_bytes (fields_of kinds last values) delta keeps bytes)) ≡ order_bytes regs confirmed o bounds
order_from_parts regs confirmed o bounds fits control typed delta keeps_edges keeps kind flags kinds last values bytes ek eks el ev eb ep ef ed et ee ec =
    rw (ec, et, ed, ee, ef, ep, el, eks, ev, eb, ek) (sym (order_parts regs confirmed o bounds fits))

-- ---- what the code needs of an order and registers

pub record IsReady (found : Option Row) (old new : Values) : Type 0 where
  pub lasts : length old.numbers ≡ length (row_kinds found)
  pub count : length new.numbers ≡ length (row_kinds found)
  pub last : FitKinds (row_kinds found) old.numbers
  pub values : FitKinds (row_kinds found) new.numbers
  pub sized : AreSized (row_kinds found)
  pub few : length (row_kinds found) ≤ 21
  pub bits : row_flags found ≡ suc (length (row_kinds found) / 8)
  pub room : 2 ^ suc (length (row_kinds found)) ≤ 256 ^ row_flags found
  pub flags : row_flags found ≤ 3
  pub bytes : length new.bytes < 256

few_bytes : (counted : Bool) (bytes : List ℕ) → BytesFit counted bytes → length bytes < 256
few_bytes true bytes h = h
few_bytes false bytes h = rw h (omega arith)

ready_by : (found : Option Row) (regs : Registers) (o : FieldList) → row_of o.code ≡ found → AreRegisters regs → FitsRow found o.values → IsReady found (last_values regs o.code) o.values
ready_by None regs o e are fits = absurd fits
ready_by (Some r) regs o e are fits =
    let sound = sound_row o.code r e in
    let last = last_fits regs o.code r are e in
    record {
      lasts = fit_length r.kinds (last_values regs o.code).numbers last.numbers;
      count = fit_length r.kinds o.values.numbers fits.numbers;
      last = last.numbers;
      values = fits.numbers;
      sized = sound.sized;
      few = sound.short;
      bits = sound.bits;
      room = sound.room;
      flags = sound.flags;
      bytes = few_bytes r.counted o.values.bytes fits.bytes;
    }

pub ready : (regs : Registers) (o : FieldList) → AreRegisters regs → IsFieldList o → IsReady (row_of o.code) (last_values regs o.code) o.values
ready regs o are fits = ready_by (row_of o.code) regs o refl are fits
