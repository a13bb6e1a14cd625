-- A primary order from its parts.
use Rattle.std.proofs.Common.{◌≡◌, ◌≤◌, ◌<◌, ◌/◌, ◌-◌, ◌^◌, ℕ, List, ◌∷◌, refl, ap, sym, ◌∙◌, arith, true, Some, None}
use Rattle.std.specs.Prelude.{Option, Result, is_some, nat_le, Ok, Err}
use Rattle.std.proofs.Math.Nat.{pow-le-pow_right}
use Rattle.std.proofs.lemmas.Bool.Decides.{nat_tests}
use Rattle.wire_num.specs.Cursor.{CursorOf, rest}
use Rattle.wire_num.specs.Field.{Read, map_read, then_read, kept}
use Rattle.wire_num.specs.Number.{little_at}
use Rattle.order_fields.specs.OrderTable.{Row, row_of, FieldList, Edges, Registers, last_values}
use Rattle.order_fields.specs.OrderStream.{Seen, seen_primary, values_at, bounds_at, has_bit, body_at, typed_at, primary_at, type_at}
use Rattle.order_fields.specs.Kept.{row_flags}
use Rattle.order_read.specs.declared.order_fault.OrderFault.{OrderFault}
use Rattle.order_read.specs.declared.order_fault.OrderFault.TheVariants.{BadOrder, OutOfMemory}
use Rattle.order_read.specs.declared.read.Read.{Read as Said}
use Rattle.order_read.specs.Primary.{DrawsPrimary, DrawsTyped, ReadsPrimary, ReadsTyped}
use Rattle.order_read.specs.Parts.{list_at, list_and_bounds_at}

pub flags_below : (n x : ℕ) → n ≤ 3 → x < 256 ^ n → x < 4294967296
flags_below n x few h = let most : 256 ^ n ≤ 256 ^ 3 = pow-le-pow_right (omega arith) few in omega arith

then_same : {A B : Type 0} (r : Read A) (f g : A → List ℕ → Read B) → ((v : A) (more : List ℕ) → f v more ≡ g v more) → then_read r f ≡ then_read r g
then_same (Ok v) f g e = e v.0 v.1
then_same (Err left) f g e = refl

map_then : {A B C : Type 0} (r : Read A) (f : A → List ℕ → Read B) (g : B → C) → then_read r (λ v more. map_read g (f v more)) ≡ map_read g (then_read r f)
map_then (Ok v) f g = refl
map_then (Err left) f g = refl

map_map : {A B C : Type 0} (r : Read A) (f : A → B) (g : B → C) → map_read (λ x. g (f x)) r ≡ map_read g (map_read f r)
map_map (Ok v) f g = refl
map_map (Err left) f g = refl

-- what is seen of a field list and its bounds
abbrev pub seen_pair : Registers → FieldList × Option Edges → Seen
seen_pair regs p = seen_primary regs p.0 p.1

-- behind the flag bytes
abbrev behind_flags : Option Row → ℕ → Registers → ℕ → List ℕ → Read (FieldList × Option Edges)
behind_flags found control regs flags a =
    then_read (bounds_at (has_bit control 4) (has_bit control 32) regs.bounds a) (λ bounds b. map_read (λ o. (o, bounds)) (list_at found flags (has_bit control 16) regs b))

body_from : (r : Row) (regs : Registers) (control : ℕ) (bs : List ℕ) →
    body_at r regs control bs ≡ map_read (seen_pair regs) (then_read (little_at (r.flags - control / 64) bs) (λ flags a. behind_flags (Some r) control regs flags a))
body_from r regs control bs =
    let last = last_values regs r.code in
    then_same (little_at (r.flags - control / 64) bs) _ (λ flags a. map_read (seen_pair regs) (behind_flags (Some r) control regs flags a)) (λ flags a.
    then_same (bounds_at (has_bit control 4) (has_bit control 32) regs.bounds a) _ (λ bounds b. map_read (seen_pair regs) (map_read (λ o. (o, bounds)) (list_at (Some r) flags (has_bit control 16) regs b))) (λ bounds b.
    map_map (values_at r.kinds r.counted flags (has_bit control 16) last.numbers last.bytes b) (λ vs. (record { code = r.code; values = vs }, bounds)) (seen_pair regs)
    ∙ ap (map_read (seen_pair regs)) (map_map (values_at r.kinds r.counted flags (has_bit control 16) last.numbers last.bytes b) (λ vs. record { code = r.code; values = vs }) (λ o. (o, bounds))))
    ∙ map_then (bounds_at (has_bit control 4) (has_bit control 32) regs.bounds a) (λ bounds b. map_read (λ o. (o, bounds)) (list_at (Some r) flags (has_bit control 16) regs b)) (seen_pair regs))
    ∙ map_then (little_at (r.flags - control / 64) bs) (λ flags a. behind_flags (Some r) control regs flags a) (seen_pair regs)

typed_by : (found : Option Row) (regs : Registers) (control : ℕ) (whole typed bs : List ℕ) → is_some found ≡ true → control / 64 ≤ row_flags found →
    typed_at found regs control whole typed bs ≡ map_read (seen_pair regs) (then_read (little_at (row_flags found - control / 64) bs) (λ flags a. behind_flags found control regs flags a))
typed_by None regs control whole typed bs some few = absurd (let no : ⊥ = cc in no)
typed_by (Some r) regs control whole typed bs some few =
    let test : nat_le (control / 64) r.flags ≡ true = grind (arith, nat_tests) in
    ap (λ b. kept b (body_at r regs control bs) whole) test ∙ body_from r regs control bs

pub primary_from : (kind : ℕ) (regs : Registers) (control : ℕ) (bs a : List ℕ) (read : Read (FieldList × Option Edges)) → type_at (has_bit control 8) regs.last bs ≡ Ok (kind, a) →
    is_some (row_of kind) ≡ true → control / 64 ≤ row_flags (row_of kind) → list_and_bounds_at kind (row_flags (row_of kind) - control / 64) control regs a ≡ read →
    primary_at regs control bs ≡ map_read (seen_pair regs) read
primary_from kind regs control bs a read t some few e =
    ap (λ r. then_read r (λ t a. typed_at (row_of t) regs control (control ∷ bs) bs a)) t
    ∙ typed_by (row_of kind) regs control (control ∷ bs) bs a some few
    ∙ ap (map_read (seen_pair regs)) e

-- an order by what stands behind its type
pub primary_read : (kind all control : ℕ) (result : Result Said OrderFault) (before after : Registers) (old mid new : CursorOf) →
    type_at (has_bit control 8) before.last (rest old) ≡ Ok (kind, rest mid) → mid.bytes ≡ old.bytes → is_some (row_of kind) ≡ true → all ≡ row_flags (row_of kind) → control / 64 ≤ all →
    ReadsTyped kind (all - control / 64) control before after result mid new → ReadsPrimary control before after result old new
primary_read kind all control (Ok said) before after old mid new t same some flags few read =
    let stands = sym (ap (λ (n : ℕ). list_and_bounds_at kind (n - control / 64) control before (rest mid)) flags) ∙ read.stands in
    record {
      fields = read.fields;
      bounds = read.bounds;
      stands = primary_from kind before control (rest old) (rest mid) _ t some (omega (arith, flags, few)) stands;
      bytes = read.bytes ∙ same;
      told = read.told;
      kept = read.kept;
    }
primary_read kind all control (Err (BadOrder at)) before after old mid new t same some flags few read =
    (primary_from kind before control (rest old) (rest mid) _ t some (omega (arith, flags, few)) (sym (ap (λ (n : ℕ). list_and_bounds_at kind (n - control / 64) control before (rest mid)) flags) ∙ read.0), read.1 ∙ same, read.2)
primary_read kind all control (Err OutOfMemory) before after old mid new t same some flags few read = tt

-- the same where it is appended
pub primary_drawn : {X : Type 0} (kind all control : ℕ) (result : Result X OrderFault) (before after : Registers) (old mid new : CursorOf) (reads kept : List Said) →
    type_at (has_bit control 8) before.last (rest old) ≡ Ok (kind, rest mid) → mid.bytes ≡ old.bytes → is_some (row_of kind) ≡ true → all ≡ row_flags (row_of kind) → control / 64 ≤ all →
    DrawsTyped kind (all - control / 64) control before after result mid new reads kept → DrawsPrimary control before after result old new reads kept
primary_drawn kind all control (Ok x) before after old mid new reads kept t same some flags few drawn =
    (drawn.0, primary_read kind all control (Ok drawn.0) before after old mid new t same some flags few drawn.1, drawn.2)
primary_drawn kind all control (Err (BadOrder at)) before after old mid new reads kept t same some flags few drawn =
    (primary_read kind all control (Err (BadOrder at)) before after old mid new t same some flags few drawn.0, drawn.1)
primary_drawn kind all control (Err OutOfMemory) before after old mid new reads kept t same some flags few drawn = drawn
