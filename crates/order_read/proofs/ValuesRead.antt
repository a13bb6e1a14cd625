-- The fields of an order, one after the other.
use Rattle.std.proofs.Common.{◌≡◌, ◌≤◌, ◌<◌, ◌/◌, ◌%◌, ℕ, zero, suc, ℤ, pos, List, [], ◌∷◌, ◌++◌, length, take, drop, get_or, refl, ap, sym, subst, ◌∙◌, append_assoc, append-nil, arith, Bool, true, false, Some}
use Rattle.std.specs.Prelude.{Option, ◌==◌, nat_le, ◌&&◌, Ok, Err, ⊤}
use Rattle.std.proofs.Math.ListN.{set, drop_of_length-le}
use Rattle.std.proofs.Math.Seq.{drop-cons, take-suc-set}
use Rattle.std.proofs.lemmas.List.{drop-set-lt, take_all}
use Rattle.std.proofs.lemmas.Bool.Decides.{nat_tests}
use Rattle.wire_num.specs.Field.{Read, map_read, then_read, bytes_at, taken}
use Rattle.wire_num.specs.Number.{little_at}
use Rattle.wire_num.specs.FieldValue.{as_one_field}
use Rattle.order_fields.specs.declared.kind.FieldKind.{FieldKind}
use Rattle.order_fields.specs.declared.kind.FieldKind.TheVariants.{Coordinate, Number, Signed, Color}
use Rattle.order_fields.specs.OrderTable.{Row, table, row_of, row_in, chosen_row, Values, values, FitKinds, FitsKind}
use Rattle.order_fields.specs.OrderStream.{values_at, field_at, counted_at}
use Rattle.order_read.specs.Parts.{IsShort, AreShort}

-- ---- the fields of the table are short

abbrev is_short : FieldKind → Bool
is_short Coordinate = true
is_short (Number n) = nat_le n 7
is_short Signed = true
is_short Color = true

abbrev are_short : List FieldKind → Bool
are_short [] = true
are_short (k ∷ ks) = is_short k && are_short ks

and_both : (a b : Bool) → (a && b) ≡ true → (a ≡ true) × (b ≡ true)
and_both true b h = (refl, h)
and_both false b h = absurd (let no : ⊥ = cc in no)

short_one : (k : FieldKind) → is_short k ≡ true → IsShort k
short_one Coordinate h = tt
short_one (Number n) h = grind (arith, nat_tests, h)
short_one Signed h = tt
short_one Color h = tt

short_all : (ks : List FieldKind) → are_short ks ≡ true → AreShort ks
short_all [] h = tt
short_all (k ∷ ks) h = let p = and_both (is_short k) (are_short ks) h in (short_one k p.0, short_all ks p.1)

abbrev EachShort : List Row → Type 0
EachShort [] = ⊤
EachShort (r ∷ rs) = (are_short r.kinds ≡ true) × EachShort rs

chosen_short : (b : Bool) (x : Row) (later : Option Row) (r : Row) → are_short x.kinds ≡ true → (later ≡ Some r → are_short r.kinds ≡ true) → chosen_row b x later ≡ Some r → are_short r.kinds ≡ true
chosen_short true x later r h more e = let same : x ≡ r = cc in subst (λ (y : Row). are_short y.kinds ≡ true) same h
chosen_short false x later r h more e = more e

row_short : (rows : List Row) (code : ℕ) (r : Row) → EachShort rows → row_in rows code ≡ Some r → are_short r.kinds ≡ true
row_short [] code r h e = absurd (let no : ⊥ = cc in no)
row_short (x ∷ rows) code r h e = chosen_short (x.code == code) x (row_in rows code) r h.0 (λ f. row_short rows code r h.1 f) e

table_short : EachShort table
table_short = (refl, (refl, (refl, (refl, (refl, (refl, (refl, (refl, tt))))))))

pub short_row : (code : ℕ) (r : Row) → row_of code ≡ Some r → AreShort r.kinds
short_row code r e = short_all r.kinds (row_short table code r table_short e)

-- a field of the list is short
pub short_at : (i : ℕ) (ks : List FieldKind) (k : FieldKind) → AreShort ks → i < length ks → IsShort (get_or ks i k)
short_at i [] k short h = absurd (omega arith)
short_at zero (x ∷ ks) k short h = short.0
short_at (suc i) (x ∷ ks) k short h = let a : i < length ks = omega arith in short_at i ks k short.1 a

-- a list of values that fit, one of which is another one that fits
pub fit_set : (i : ℕ) (ks : List FieldKind) (zs : List ℤ) (k : FieldKind) (z : ℤ) → FitKinds ks zs → i < length ks → FitsKind (get_or ks i k) z → FitKinds ks (set zs i z)
fit_set i [] zs k z fits h f = absurd (omega arith)
fit_set i (x ∷ ks) [] k z fits h f = absurd fits
fit_set zero (x ∷ ks) (y ∷ zs) k z fits h f = (f, fits.1)
fit_set (suc i) (x ∷ ks) (y ∷ zs) k z fits h f = let a : i < length ks = omega arith in (fits.0, fit_set i ks zs k z fits.1 a f)

-- ---- what is read so far

-- the values at the front, before others
abbrev pub behind : List ℤ → Read Values → Read Values
behind zs r = map_read (λ vs. values (zs ++ vs.numbers) vs.bytes) r

-- the fields from place i on, behind the values before it
abbrev pub from_place : ℕ → List FieldKind → Bool → ℕ → Bool → List ℤ → List ℕ → List ℕ → Read Values
from_place i ks counted flags delta zs bytes bs = behind (take i zs) (values_at (drop i ks) counted flags delta (drop i zs) bytes bs)

same_values : (r : Read Values) → r ≡ behind [] r
same_values (Ok v) = refl
same_values (Err left) = refl

pub from_first : (ks : List FieldKind) (counted : Bool) (flags : ℕ) (delta : Bool) (zs : List ℤ) (bytes bs : List ℕ) →
    values_at ks counted flags delta zs bytes bs ≡ from_place 0 ks counted flags delta zs bytes bs
from_first ks counted flags delta zs bytes bs = same_values (values_at ks counted flags delta zs bytes bs)

regrouped : (a b : List ℤ) (z : ℤ) (r : Read Values) → b ≡ a ++ (z ∷ []) → behind a (map_read (λ vs. values (z ∷ vs.numbers) vs.bytes) r) ≡ behind b r
regrouped a b z (Ok v) e =
    let same : a ++ (z ∷ v.0.numbers) ≡ b ++ v.0.numbers = sym (append_assoc a (z ∷ []) v.0.numbers) ∙ ap (λ xs. xs ++ v.0.numbers) (sym e) in
    ap (λ ns. Ok (values ns v.0.bytes, v.1)) same
regrouped a b z (Err left) e = refl

here : (i : ℕ) (ks : List FieldKind) (counted : Bool) (flags : ℕ) (delta : Bool) (zs : List ℤ) (bytes bs : List ℕ) → i < length ks → i < length zs →
    values_at (drop i ks) counted flags delta (drop i zs) bytes bs ≡ values_at (get_or ks i Coordinate ∷ drop (suc i) ks) counted flags delta (get_or zs i (pos 0) ∷ drop (suc i) zs) bytes bs
here i ks counted flags delta zs bytes bs h g =
    ap (λ xs. values_at xs counted flags delta (drop i zs) bytes bs) (drop-cons ks i Coordinate h)
    ∙ ap (λ ys. values_at (get_or ks i Coordinate ∷ drop (suc i) ks) counted flags delta ys bytes bs) (drop-cons zs i (pos 0) g)

-- a field was read
pub one_read : (i : ℕ) (ks : List FieldKind) (counted : Bool) (flags : ℕ) (delta : Bool) (zs : List ℤ) (bytes bs more : List ℕ) (z : ℤ) → i < length ks → length zs ≡ length ks →
    field_at (flags % 2 == 1) (get_or ks i Coordinate) delta (get_or zs i (pos 0)) bs ≡ Ok (z, more) →
    from_place i ks counted flags delta zs bytes bs ≡ from_place (suc i) ks counted (flags / 2) delta (set zs i z) bytes more
one_read i ks counted flags delta zs bytes bs more z h same e =
    let g : i < length zs = omega arith in
    let rest : drop (suc i) (set zs i z) ≡ drop (suc i) zs = drop-set-lt (suc i) zs i z (omega arith) in
    ap (behind (take i zs)) (here i ks counted flags delta zs bytes bs h g)
    ∙ ap (λ r. behind (take i zs) (then_read r (λ v rest. map_read (λ vs. values (v ∷ vs.numbers) vs.bytes) (values_at (drop (suc i) ks) counted (flags / 2) delta (drop (suc i) zs) bytes rest)))) e
    ∙ regrouped (take i zs) (take (suc i) (set zs i z)) z (values_at (drop (suc i) ks) counted (flags / 2) delta (drop (suc i) zs) bytes more) (take-suc-set zs i z g)
    ∙ ap (λ ys. behind (take (suc i) (set zs i z)) (values_at (drop (suc i) ks) counted (flags / 2) delta ys bytes more)) (sym rest)

-- a field was refused
pub one_refused : (i : ℕ) (ks : List FieldKind) (counted : Bool) (flags : ℕ) (delta : Bool) (zs : List ℤ) (bytes bs left : List ℕ) → i < length ks → length zs ≡ length ks →
    field_at (flags % 2 == 1) (get_or ks i Coordinate) delta (get_or zs i (pos 0)) bs ≡ Err left → from_place i ks counted flags delta zs bytes bs ≡ Err left
one_refused i ks counted flags delta zs bytes bs left h same e =
    let g : i < length zs = omega arith in
    ap (behind (take i zs)) (here i ks counted flags delta zs bytes bs h g)
    ∙ ap (λ r. behind (take i zs) (then_read r (λ v rest. map_read (λ vs. values (v ∷ vs.numbers) vs.bytes) (values_at (drop (suc i) ks) counted (flags / 2) delta (drop (suc i) zs) bytes rest)))) e

with_front : (zs : List ℤ) (r : Read (List ℕ)) → behind zs (map_read (values []) r) ≡ map_read (values zs) r
with_front zs (Ok v) = ap (λ ns. Ok (values ns v.0, v.1)) (append-nil zs)
with_front zs (Err left) = refl

-- all fields were read
pub all_read : (i : ℕ) (ks : List FieldKind) (counted : Bool) (flags : ℕ) (delta : Bool) (zs : List ℤ) (bytes bs : List ℕ) → length ks ≤ i → length zs ≡ length ks →
    from_place i ks counted flags delta zs bytes bs ≡ map_read (values zs) (counted_at (counted && (flags % 2 == 1)) bytes bs)
all_read i ks counted flags delta zs bytes bs h same =
    let none : drop i ks ≡ [] = drop_of_length-le ks h in
    let all : take i zs ≡ zs = take_all i zs (omega arith) in
    ap (λ xs. behind (take i zs) (values_at xs counted flags delta (drop i zs) bytes bs)) none
    ∙ ap (λ ys. behind ys (map_read (values []) (counted_at (counted && (flags % 2 == 1)) bytes bs))) all
    ∙ with_front zs (counted_at (counted && (flags % 2 == 1)) bytes bs)

-- ---- counted bytes

one_map : (whole : List ℕ) (f : List ℕ → List ℕ) (r : Read (List ℕ)) → as_one_field whole (map_read f r) ≡ map_read f (as_one_field whole r)
one_map whole f (Ok v) = refl
one_map whole f (Err left) = refl

-- so many bytes of a field that began before them
pub taken_as : (u w : List ℕ) (n : ℕ) (bs : List ℕ) → as_one_field u (taken w n bs) ≡ taken u n bs
taken_as u w zero bs = refl
taken_as u w (suc n) [] = refl
taken_as u w (suc n) (b ∷ bs) = one_map u (λ xs. b ∷ xs) (taken w n bs) ∙ ap (map_read (λ xs. b ∷ xs)) (taken_as u w n bs)

pub counted_there : (n : ℕ) (a b more part : List ℕ) → little_at 1 a ≡ Ok (n, b) → bytes_at n b ≡ Ok (part, more) → counted_at true [] a ≡ Ok (part, more)
counted_there n a b more part e f = ap (λ r. then_read r (λ n rest. taken a n rest)) e ∙ sym (taken_as a b n b) ∙ ap (as_one_field a) f

pub counted_missing : (n : ℕ) (a b : List ℕ) → little_at 1 a ≡ Ok (n, b) → bytes_at n b ≡ Err b → counted_at true [] a ≡ Err a
counted_missing n a b e f = ap (λ r. then_read r (λ n rest. taken a n rest)) e ∙ sym (taken_as a b n b) ∙ ap (as_one_field a) f
