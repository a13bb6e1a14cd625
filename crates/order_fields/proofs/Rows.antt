-- What the rows of the order table have in common.
use Rattle.std.proofs.Common.{◌≡◌, ◌≤◌, ◌^◌, ◌/◌, ℕ, suc, ℤ, List, [], ◌∷◌, length, refl, ap, sym, subst, ◌∙◌, arith, Bool, true, false, Some, None}
use Rattle.std.specs.Prelude.{Option, is_some, unwrap_or, ◌==◌, ◌&&◌, nat_le, ⊤}
use Rattle.std.proofs.lemmas.Bool.{false≢true}
use Rattle.std.proofs.lemmas.Bool.Decides.{nat_tests}
use Rattle.order_fields.specs.declared.kind.FieldKind.{FieldKind}
use Rattle.order_fields.specs.declared.kind.FieldKind.TheVariants.{Coordinate, Number, Signed, Color}
use Rattle.order_fields.specs.Kept.{IsSized, AreSized}
use Rattle.order_fields.specs.OrderTable.{Row, table, row_in, row_of, chosen_row, FitKinds, FitRow, FitsRow, FieldList, IsFieldList, Values, AreLasts, values_in, chosen_values, lasts_after, chosen_fields, registers_after, bounds_after, Edges, FitEdges, FitBounds, AreRegisters, Registers, last_values}

abbrev is_sized : FieldKind → Bool
is_sized Coordinate = true
is_sized (Number n) = nat_le n 8
is_sized Signed = true
is_sized Color = true

abbrev are_sized : List FieldKind → Bool
are_sized [] = true
are_sized (k ∷ ks) = is_sized k && are_sized ks

and_both : (a b : Bool) → (a && b) ≡ true → (a ≡ true) × (b ≡ true)
and_both true b h = (refl, h)
and_both false b h = absurd (false≢true h)

sized_one : (k : FieldKind) → is_sized k ≡ true → IsSized k
sized_one Coordinate h = tt
sized_one (Number n) h = grind (arith, nat_tests, h)
sized_one Signed h = tt
sized_one Color h = tt

sized_all : (ks : List FieldKind) → are_sized ks ≡ true → AreSized ks
sized_all [] h = tt
sized_all (k ∷ ks) h = let p = and_both (is_sized k) (are_sized ks) h in (sized_one k p.0, sized_all ks p.1)

-- a type's flags have a bit for each field and one more, in as few bytes as these need, which are at most three
pub record IsSound (r : Row) : Type 0 where
  pub flags : r.flags ≤ 3
  pub room : 2 ^ suc (length r.kinds) ≤ 256 ^ r.flags
  pub short : length r.kinds ≤ 21
  pub bits : r.flags ≡ suc (length r.kinds / 8)
  pub sized : AreSized r.kinds

abbrev pub AreSound : List Row → Type 0
AreSound [] = ⊤
AreSound (r ∷ rs) = IsSound r × AreSound rs

none_some : {A : Type 0} (a : A) (o : Option A) → o ≡ None → o ≡ Some a → ⊥
none_some a o p q = false≢true (sym (ap is_some p) ∙ ap is_some q)

some_is : (x r : Row) → Some x ≡ Some r → x ≡ r
some_is x r e = ap (λ o. unwrap_or o x) e

chosen_sound : (b : Bool) (x : Row) (later : Option Row) (r : Row) → IsSound x → (later ≡ Some r → IsSound r) → chosen_row b x later ≡ Some r → IsSound r
chosen_sound true x later r h more e = subst IsSound (some_is x r e) h
chosen_sound false x later r h more e = more e

row_sound : (rows : List Row) (code : ℕ) (r : Row) → AreSound rows → row_in rows code ≡ Some r → IsSound r
row_sound [] code r h e = absurd (none_some r (row_in [] code) refl e)
row_sound (x ∷ rows) code r h e = chosen_sound (x.code == code) x (row_in rows code) r h.0 (λ f. row_sound rows code r h.1 f) e

table_sound : AreSound table
table_sound =
    let sound : (r : Row) → r.flags ≤ 3 → 2 ^ suc (length r.kinds) ≤ 256 ^ r.flags → length r.kinds ≤ 21 → r.flags ≡ suc (length r.kinds / 8) → are_sized r.kinds ≡ true → IsSound r =
    λ r a b c e d. record { flags = a; room = b; short = c; bits = e; sized = sized_all r.kinds d } in
    (sound _ (omega arith) (omega arith) (omega arith) refl refl, (sound _ (omega arith) (omega arith) (omega arith) refl refl, (sound _ (omega arith) (omega arith) (omega arith) refl refl, (sound _ (omega arith) (omega arith) (omega arith) refl refl, (sound _ (omega arith) (omega arith) (omega arith) refl refl, (sound _ (omega arith) (omega arith) (omega arith) refl refl, (sound _ (omega arith) (omega arith) (omega arith) refl refl, (sound _ (omega arith) (omega arith) (omega arith) refl refl, tt))))))))

pub sound_row : (code : ℕ) (r : Row) → row_of code ≡ Some r → IsSound r
sound_row code r e = row_sound table code r table_sound e

-- ---- a row's code is the one that it was looked up by

chosen_code : (b : Bool) (code : ℕ) (x : Row) (later : Option Row) (r : Row) → (x.code == code) ≡ b → (later ≡ Some r → r.code ≡ code) → chosen_row b x later ≡ Some r → r.code ≡ code
chosen_code true code x later r is more e = let here : x.code ≡ code = grind (arith, nat_tests, is) in ap (λ y. y.code) (sym (some_is x r e)) ∙ here
chosen_code false code x later r is more e = more e

code_in : (rows : List Row) (code : ℕ) (r : Row) → row_in rows code ≡ Some r → r.code ≡ code
code_in [] code r e = absurd (none_some r (row_in [] code) refl e)
code_in (x ∷ rows) code r e = chosen_code (x.code == code) code x (row_in rows code) r refl (λ f. code_in rows code r f) e

pub code_of_row : (code : ℕ) (r : Row) → row_of code ≡ Some r → r.code ≡ code
code_of_row code r e = code_in table code r e

-- ---- fields

pub fit_length : (ks : List FieldKind) (zs : List ℤ) → FitKinds ks zs → length zs ≡ length ks
fit_length [] [] h = refl
fit_length [] (z ∷ zs) h = absurd h
fit_length (k ∷ ks) [] h = absurd h
fit_length (k ∷ ks) (z ∷ zs) h = ap suc (fit_length ks zs h.1)

short_by : (o : Option Row) (vs : Values) → ((r : Row) → o ≡ Some r → length r.kinds ≤ 21) → FitsRow o vs → length vs.numbers ≤ 21
short_by None vs short fits = absurd fits
short_by (Some r) vs short fits = let same = fit_length r.kinds vs.numbers fits.numbers in let few = short r refl in omega (arith, same, few)

-- no order has more than 21 values
pub few_values : (o : FieldList) → IsFieldList o → length o.values.numbers ≤ 21
few_values o fits = short_by (row_of o.code) o.values (λ r e. (sound_row o.code r e).short) fits

-- ---- registers

chosen_last : (b : Bool) (x r : Row) (later : Option Row) (vs others : Values) → FitRow x vs → (later ≡ Some r → FitRow r others) → chosen_row b x later ≡ Some r → FitRow r (chosen_values b vs others)
chosen_last true x r later vs others here more e = subst (λ y. FitRow y vs) (some_is x r e) here
chosen_last false x r later vs others here more e = more e

last_in : (rows : List Row) (os : List FieldList) (code : ℕ) (r : Row) → AreLasts rows os → row_in rows code ≡ Some r → FitRow r (values_in os code)
last_in [] [] code r are e = absurd (none_some r (row_in [] code) refl e)
last_in [] (o ∷ os) code r are e = absurd are
last_in (x ∷ rows) [] code r are e = absurd are
last_in (x ∷ rows) (o ∷ os) code r are e =
    let same : (o.code == code) ≡ (x.code == code) = ap (λ c. c == code) are.0 in
    rw same (chosen_last (x.code == code) x r (row_in rows code) o.values (values_in os code) are.1 (λ f. last_in rows os code r are.2 f) e)

-- the last values of a type fit it
pub last_fits : (regs : Registers) (code : ℕ) (r : Row) → AreRegisters regs → row_of code ≡ Some r → FitRow r (last_values regs code)
last_fits regs code r are e = last_in table regs.lasts code r are.lasts e

-- ---- registers after an order

-- values that fit each row of its code
abbrev FitEach : List Row → FieldList → Type 0
FitEach [] o = ⊤
FitEach (r ∷ rs) o = (r.code ≡ o.code → FitRow r o.values) × FitEach rs o

fit_each : (o : FieldList) → IsFieldList o → FitEach table o
fit_each o fits =
    let at : (n : ℕ) → n ≡ o.code → FitsRow (row_of n) o.values = λ n e. subst (λ (k : ℕ). FitsRow (row_of k) o.values) (sym e) fits in
    (at 0, (at 1, (at 2, (at 10, (at 11, (at 13, (at 14, (at 27, tt))))))))

chosen_lasts : (b : Bool) (r : Row) (old new : FieldList) → (old.code == new.code) ≡ b → old.code ≡ r.code → FitRow r old.values → (r.code ≡ new.code → FitRow r new.values) →
    ((chosen_fields b new old).code ≡ r.code) × FitRow r (chosen_fields b new old).values
chosen_lasts true r old new e is fits each = let same : old.code ≡ new.code = grind (arith, nat_tests, e) in (sym same ∙ is, each (sym is ∙ same))
chosen_lasts false r old new e is fits each = (is, fits)

lasts_kept : (rows : List Row) (os : List FieldList) (new : FieldList) → AreLasts rows os → FitEach rows new → AreLasts rows (lasts_after new os)
lasts_kept [] [] new are each = are
lasts_kept [] (o ∷ os) new are each = absurd are
lasts_kept (r ∷ rs) [] new are each = absurd are
lasts_kept (r ∷ rs) (o ∷ os) new are each =
    let p = chosen_lasts (o.code == new.code) r o new refl are.0 are.1 each.0 in
    (p.0, p.1, lasts_kept rs os new are.2 each.1)

bounds_kept : (old : Edges) (bounds : Option Edges) → FitEdges old → FitBounds bounds → FitEdges (bounds_after bounds old)
bounds_kept old None fits new = fits
bounds_kept old (Some e) fits new = new

-- what orders leave are registers again
pub registers_kept : (regs : Registers) (o : FieldList) (bounds : Option Edges) → AreRegisters regs → IsFieldList o → FitBounds bounds → AreRegisters (registers_after regs o bounds)
registers_kept regs o bounds are fits edges = record { lasts = lasts_kept table regs.lasts o are.lasts (fit_each o fits); bounds = bounds_kept regs.bounds bounds are.bounds edges }
