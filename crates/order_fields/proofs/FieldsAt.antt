-- The fields of an order from a place on.
use Rattle.std.proofs.Common.{◌≡◌, ℕ, zero, suc, ◌<◌, ℤ, ◌-ℤ◌, List, [], ◌∷◌, length, get_or, drop, refl, sym, subst, ◌∙◌, arith}
use Rattle.std.specs.Prelude.{Bool, true, false, ◌&&◌, not}
use Rattle.std.proofs.lemmas.Bool.{false≢true, or_right}
use Rattle.order_fields.specs.declared.kind.FieldKind.{FieldKind}
use Rattle.order_fields.specs.OrderTable.{FitKinds, FitsKind}
use Rattle.order_fields.specs.OrderDelta.{fields_of, is_coordinate, is_byte, is_near, all_near}
use Rattle.order_fields.specs.Kept.{IsSized, AreSized}

-- the first of the fields from place i on, and the others
pub fields_drop : (i : ℕ) (ks : List FieldKind) (ls zs : List ℤ) (k : FieldKind) (d e : ℤ) → i < length ks → length ls ≡ length ks → length zs ≡ length ks →
    fields_of (drop i ks) (drop i ls) (drop i zs) ≡ (record { kind = get_or ks i k; last = get_or ls i d; value = get_or zs i e } ∷ fields_of (drop (suc i) ks) (drop (suc i) ls) (drop (suc i) zs))
fields_drop i [] ls zs k d e h p q = absurd (omega arith)
fields_drop i (x ∷ ks) [] zs k d e h p q = absurd (omega arith)
fields_drop i (x ∷ ks) (l ∷ ls) [] k d e h p q = absurd (omega arith)
fields_drop zero (x ∷ ks) (l ∷ ls) (z ∷ zs) k d e h p q = refl
fields_drop (suc i) (x ∷ ks) (l ∷ ls) (z ∷ zs) k d e h p q =
    let a : i < length ks = omega arith in
    let b : length ls ≡ length ks = omega arith in
    let c : length zs ≡ length ks = omega arith in
    fields_drop i ks ls zs k d e a b c

-- a value of the list fits its field
pub fit_at : (i : ℕ) (ks : List FieldKind) (zs : List ℤ) (k : FieldKind) (d : ℤ) → FitKinds ks zs → i < length ks → FitsKind (get_or ks i k) (get_or zs i d)
fit_at i [] zs k d fits h = absurd (omega arith)
fit_at i (x ∷ ks) [] k d fits h = absurd fits
fit_at zero (x ∷ ks) (z ∷ zs) k d fits h = fits.0
fit_at (suc i) (x ∷ ks) (z ∷ zs) k d fits h = let a : i < length ks = omega arith in fit_at i ks zs k d fits.1 a

-- a field of the list is sized
pub sized_at : (i : ℕ) (ks : List FieldKind) (k : FieldKind) → AreSized ks → i < length ks → IsSized (get_or ks i k)
sized_at i [] k sized h = absurd (omega arith)
sized_at zero (x ∷ ks) k sized h = sized.0
sized_at (suc i) (x ∷ ks) k sized h = let a : i < length ks = omega arith in sized_at i ks k sized.1 a

and_first : (a b : Bool) → (a && b) ≡ true → a ≡ true
and_first true b h = refl
and_first false b h = absurd (false≢true h)

and_second : (a b : Bool) → (a && b) ≡ true → b ≡ true
and_second true b h = h
and_second false b h = absurd (false≢true h)

-- where all fields are near, so is each of them
pub near_at : (i : ℕ) (ks : List FieldKind) (ls zs : List ℤ) (k : FieldKind) (d e : ℤ) → all_near (fields_of ks ls zs) ≡ true → i < length ks → length ls ≡ length ks → length zs ≡ length ks →
    is_near (record { kind = get_or ks i k; last = get_or ls i d; value = get_or zs i e }) ≡ true
near_at i [] ls zs k d e near h p q = absurd (omega arith)
near_at i (x ∷ ks) [] zs k d e near h p q = absurd (omega arith)
near_at i (x ∷ ks) (l ∷ ls) [] k d e near h p q = absurd (omega arith)
near_at zero (x ∷ ks) (l ∷ ls) (z ∷ zs) k d e near h p q = and_first (is_near (record { kind = x; last = l; value = z })) (all_near (fields_of ks ls zs)) near
near_at (suc i) (x ∷ ks) (l ∷ ls) (z ∷ zs) k d e near h p q =
    let a : i < length ks = omega arith in
    let b : length ls ≡ length ks = omega arith in
    let c : length zs ≡ length ks = omega arith in
    near_at i ks ls zs k d e (and_second (is_near (record { kind = x; last = l; value = z })) (all_near (fields_of ks ls zs)) near) a b c

far_by : (i : ℕ) (ks : List FieldKind) (ls zs : List ℤ) (k : FieldKind) (d e : ℤ) (near : Bool) → all_near (fields_of ks ls zs) ≡ near →
    is_near (record { kind = get_or ks i k; last = get_or ls i d; value = get_or zs i e }) ≡ false → i < length ks → length ls ≡ length ks → length zs ≡ length ks → near ≡ false
far_by i ks ls zs k d e true all far h p q = absurd (false≢true (sym far ∙ near_at i ks ls zs k d e all h p q))
far_by i ks ls zs k d e false all far h p q = refl

-- where one field is far, not all are near
pub far_at : (i : ℕ) (ks : List FieldKind) (ls zs : List ℤ) (k : FieldKind) (d e : ℤ) →
    is_near (record { kind = get_or ks i k; last = get_or ls i d; value = get_or zs i e }) ≡ false → i < length ks → length ls ≡ length ks → length zs ≡ length ks →
    all_near (fields_of ks ls zs) ≡ false
far_at i ks ls zs k d e far h p q = far_by i ks ls zs k d e (all_near (fields_of ks ls zs)) refl far h p q

-- an unchanged field is near
pub near_same : (k : FieldKind) (l z : ℤ) → l ≡ z → is_near (record { kind = k; last = l; value = z }) ≡ true
near_same k l z same = subst (λ (y : ℤ). is_near (record { kind = k; last = l; value = y }) ≡ true) same (or_right (not (is_coordinate k)) (is_byte (l -ℤ l)) (grind arith))
