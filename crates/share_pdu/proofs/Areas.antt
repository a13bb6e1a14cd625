-- Areas one by one.
use Rattle.std.proofs.Common.{◌≡◌, ℕ, zero, suc, ◌+◌, ◌<◌, ◌≤◌, ◌-◌, ◌*◌, ◌/◌, List, [], ◌∷◌, ◌++◌, length, drop, refl, ap, ◌∙◌, sym, subst, arith}
use Rattle.std.specs.Prelude.{Option, Some, None, option_to_list, slice_get, slice_index, Ok, Err, IsOk}
use Rattle.wire_num.specs.Field.{Read, then_read, map_read}
use Rattle.wire_num.specs.FieldValue.{passing_at}
use Rattle.wire_num.specs.Number.{little_value}
use Rattle.wire_num.specs.Layout.{fields_at}
use Rattle.px_core.specs.declared.rectangle.Rect.{Rect}
use Rattle.share_pdu.specs.Bodies.{refresh_header, inclusive_area, rect_of, refresh_at, area_at, areas_at, areas_by, passed_areas_at}

abbrev with_area : Option Rect → Read (List Rect) → Read (List Rect)
with_area area r = map_read (λ areas. option_to_list area ++ areas) r

step : (n k : ℕ) (bs : List ℕ) → k < n → areas_at (n - k) bs ≡ then_read (area_at bs) (λ area more. with_area area (areas_at (n - (k + 1)) more))
step n k bs h =
    let e : n - k ≡ suc (n - (k + 1)) = omega (arith, h) in
    ap (λ m. areas_at m bs) e

-- an area is there
pub one_area : (n k : ℕ) (bs more : List ℕ) (area : Option Rect) → k < n → area_at bs ≡ Ok (area, more) → areas_at (n - k) bs ≡ with_area area (areas_at (n - (k + 1)) more)
one_area n k bs more area h e = step n k bs h ∙ ap (λ r. then_read r (λ area more. with_area area (areas_at (n - (k + 1)) more))) e

-- an area isn't there
pub no_area : (n k : ℕ) (bs left : List ℕ) → k < n → area_at bs ≡ Err left → areas_at (n - k) bs ≡ Err left
no_area n k bs left h e = step n k bs h ∙ ap (λ r. then_read r (λ area more. with_area area (areas_at (n - (k + 1)) more))) e

-- ---- without their values

dropped : (f : List Rect → List Rect) (r : Read (List Rect)) → map_read {B = List ℕ} (λ _. []) (map_read f r) ≡ map_read (λ _. []) r
dropped f (Ok v) = refl
dropped f (Err left) = refl

passed_area : (n : ℕ) (bs more : List ℕ) (area : Option Rect) → area_at bs ≡ Ok (area, more) → passed_areas_at (suc n) bs ≡ passed_areas_at n more
passed_area n bs more area e =
    ap (λ r. map_read {B = List ℕ} (λ _. []) (then_read r (λ area more. with_area area (areas_at n more)))) e
    ∙ dropped (λ areas. option_to_list area ++ areas) (areas_at n more)

abbrev got : List ℕ → Option Rect → Read (Option Rect)
got more area = Ok (area, more)

-- an area is eight bytes
area_there : (a b c d e f g h : ℕ) (more : List ℕ) → (area : Option Rect) × (area_at (a ∷ b ∷ c ∷ d ∷ e ∷ f ∷ g ∷ h ∷ more) ≡ got more area)
unfolding area_at inclusive_area passing_at
area_there a b c d e f g h more =
    (rect_of (little_value (a ∷ b ∷ []) ∷ little_value (c ∷ d ∷ []) ∷ little_value (e ∷ f ∷ []) ∷ little_value (g ∷ h ∷ []) ∷ []), refl)

abbrev pub passed_to : List ℕ → Read (List ℕ)
passed_to more = Ok ([], more)

abbrev pub passed_not : List ℕ → Read (List ℕ)
passed_not left = Err left

-- so many areas are there
pub areas_there : (n : ℕ) (bs : List ℕ) → n * 8 ≤ length bs → passed_areas_at n bs ≡ passed_to (drop (n * 8) bs)
areas_there zero bs many = refl
areas_there (suc n) [] many = absurd (omega (arith, many))
areas_there (suc n) (a ∷ []) many = absurd (omega (arith, many))
areas_there (suc n) (a ∷ b ∷ []) many = absurd (omega (arith, many))
areas_there (suc n) (a ∷ b ∷ c ∷ []) many = absurd (omega (arith, many))
areas_there (suc n) (a ∷ b ∷ c ∷ d ∷ []) many = absurd (omega (arith, many))
areas_there (suc n) (a ∷ b ∷ c ∷ d ∷ e ∷ []) many = absurd (omega (arith, many))
areas_there (suc n) (a ∷ b ∷ c ∷ d ∷ e ∷ f ∷ []) many = absurd (omega (arith, many))
areas_there (suc n) (a ∷ b ∷ c ∷ d ∷ e ∷ f ∷ g ∷ []) many = absurd (omega (arith, many))
areas_there (suc n) (a ∷ b ∷ c ∷ d ∷ e ∷ f ∷ g ∷ h ∷ more) many =
    let one = area_there a b c d e f g h more in
    let size : suc n * 8 ≡ suc (suc (suc (suc (suc (suc (suc (suc (n * 8)))))))) = omega arith in
    rw size (passed_area n (a ∷ b ∷ c ∷ d ∷ e ∷ f ∷ g ∷ h ∷ more) more one.0 one.1 ∙ areas_there n more (omega (arith, many)))

-- the bytes behind the last number of two bytes
abbrev behind_numbers : List ℕ → List ℕ
behind_numbers [] = []
behind_numbers (a ∷ []) = a ∷ []
behind_numbers (a ∷ b ∷ bs) = behind_numbers bs

behind_is : (bs : List ℕ) → behind_numbers bs ≡ drop (length bs / 2 * 2) bs
behind_is [] = refl
behind_is (a ∷ []) = refl
behind_is (a ∷ b ∷ bs) =
    let size : length (a ∷ b ∷ bs) / 2 * 2 ≡ suc (suc (length bs / 2 * 2)) = omega arith in
    rw size (behind_is bs)

cut : (n : ℕ) (bs : List ℕ) → length bs < n * 8 → passed_areas_at n bs ≡ passed_not (behind_numbers bs)
unfolding area_at inclusive_area passing_at
cut zero bs few = absurd (omega (arith, few))
cut (suc n) [] few = refl
cut (suc n) (a ∷ []) few = refl
cut (suc n) (a ∷ b ∷ []) few = refl
cut (suc n) (a ∷ b ∷ c ∷ []) few = refl
cut (suc n) (a ∷ b ∷ c ∷ d ∷ []) few = refl
cut (suc n) (a ∷ b ∷ c ∷ d ∷ e ∷ []) few = refl
cut (suc n) (a ∷ b ∷ c ∷ d ∷ e ∷ f ∷ []) few = refl
cut (suc n) (a ∷ b ∷ c ∷ d ∷ e ∷ f ∷ g ∷ []) few = refl
cut (suc n) (a ∷ b ∷ c ∷ d ∷ e ∷ f ∷ g ∷ h ∷ more) few =
    let one = area_there a b c d e f g h more in
    passed_area n (a ∷ b ∷ c ∷ d ∷ e ∷ f ∷ g ∷ h ∷ more) more one.0 one.1 ∙ cut n more (omega (arith, few))

-- fewer are there: the first number that isn't there is refused
pub areas_cut : (n : ℕ) (bs : List ℕ) → length bs < n * 8 → passed_areas_at n bs ≡ passed_not (drop (length bs / 2 * 2) bs)
areas_cut n bs few = cut n bs few ∙ ap passed_not (behind_is bs)

-- ---- a body

is_ok_of : (r : Read (List Rect)) (v : List ℕ × List ℕ) → map_read (λ _. []) r ≡ Ok v → IsOk r
is_ok_of (Ok w) v e = refl
is_ok_of (Err left) v e = absurd (let no : ⊥ = cc in no)

err_of : (r : Read (List Rect)) (left : List ℕ) → map_read {B = List ℕ} (λ _. []) r ≡ Err left → r ≡ Err left
err_of (Ok w) left e = absurd (let no : ⊥ = cc in no)
err_of (Err l) left e = let same : l ≡ left = cc e in ap Err same

abbrev on_count : Read (List ℕ) → Read (List Rect)
on_count r = then_read r (λ values more. areas_at (slice_index values 0) more)

by_count : (bs : List ℕ) (r : Read (List ℕ)) → fields_at refresh_header bs ≡ r → refresh_at bs ≡ on_count r
unfolding refresh_at
by_count bs r e = ap on_count e

-- the number isn't there, or an area isn't
pub no_number : (bs left : List ℕ) → fields_at refresh_header bs ≡ Err left → refresh_at bs ≡ Err left
no_number bs left e = by_count bs (Err left) e

pub areas_missing : (bs more left : List ℕ) (count : ℕ) → fields_at refresh_header bs ≡ Ok (count ∷ [], more) → passed_areas_at count more ≡ Err left → refresh_at bs ≡ Err left
areas_missing bs more left count e h = by_count bs (Ok (count ∷ [], more)) e ∙ err_of (areas_at count more) left h

-- all are there
pub areas_found : (bs more : List ℕ) (count : ℕ) (v : List ℕ × List ℕ) → fields_at refresh_header bs ≡ Ok (count ∷ [], more) → passed_areas_at count more ≡ Ok v
    → (refresh_at bs ≡ areas_at count more) × IsOk (areas_at count more)
areas_found bs more count v e h = (by_count bs (Ok (count ∷ [], more)) e, is_ok_of (areas_at count more) v h)

-- ---- looking for one

-- an area that is skipped, or isn't the one
ok_within : (area : Option Rect) (r : Read (List Rect)) → IsOk (with_area area r) → IsOk r
ok_within area (Ok v) e = refl
ok_within area (Err left) e = e

pub areas_left : (n k : ℕ) (bs more : List ℕ) (area : Option Rect) → k < n → area_at bs ≡ Ok (area, more) → IsOk (areas_at (n - k) bs) → IsOk (areas_at (n - (k + 1)) more)
areas_left n k bs more area h e ok = ok_within area (areas_at (n - (k + 1)) more) (subst IsOk (one_area n k bs more area h e) ok)

listed : (area : Option Rect) (r : Read (List Rect)) → IsOk r → areas_by (with_area area r) ≡ option_to_list area ++ areas_by r
listed area (Ok v) ok = refl
listed area (Err left) ok = absurd (let no : ⊥ = cc in no)

pub areas_listed : (n k : ℕ) (bs more : List ℕ) (area : Option Rect) → k < n → area_at bs ≡ Ok (area, more) → IsOk (areas_at (n - k) bs)
    → areas_by (areas_at (n - k) bs) ≡ option_to_list area ++ areas_by (areas_at (n - (k + 1)) more)
areas_listed n k bs more area h e ok =
    ap areas_by (one_area n k bs more area h e) ∙ listed area (areas_at (n - (k + 1)) more) (areas_left n k bs more area h e ok)

refused_ok : (left : List ℕ) (r : Read (List Rect)) → r ≡ Err left → IsOk r → ⊥
refused_ok left (Ok v) e ok = let no : ⊥ = cc in no
refused_ok left (Err l) e ok = let no : ⊥ = cc in no

pub none_refused : (n k : ℕ) (bs left : List ℕ) → k < n → area_at bs ≡ Err left → IsOk (areas_at (n - k) bs) → ⊥
none_refused n k bs left h e ok = refused_ok left (areas_at (n - k) bs) (no_area n k bs left h e) ok

get_behind : (a : Rect) (xs : List Rect) (k : ℕ) → 0 < k → slice_get (a ∷ xs) k ≡ slice_get xs (k - 1)
get_behind a xs zero h = absurd (omega (arith, h))
get_behind a xs (suc k) h = let e : suc k - 1 ≡ k = omega arith in rw e refl

-- what is looked for behind an area that isn't it, or behind one that is skipped
pub found_behind : (n k left : ℕ) (bs more : List ℕ) (area : Option Rect) (a : Rect) → k < n → area_at bs ≡ Ok (area, more) → area ≡ Some a → IsOk (areas_at (n - k) bs)
    → 0 < left → slice_get (areas_by (areas_at (n - (k + 1)) more)) (left - 1) ≡ slice_get (areas_by (areas_at (n - k) bs)) left
found_behind n k left bs more area a h e is ok some =
    sym (ap (λ xs. slice_get xs left) (areas_listed n k bs more (Some a) h (e ∙ ap (got more) is) ok) ∙ get_behind a (areas_by (areas_at (n - (k + 1)) more)) left some)

pub found_after_none : (n k left : ℕ) (bs more : List ℕ) (area : Option Rect) → k < n → area_at bs ≡ Ok (area, more) → area ≡ None → IsOk (areas_at (n - k) bs)
    → slice_get (areas_by (areas_at (n - (k + 1)) more)) left ≡ slice_get (areas_by (areas_at (n - k) bs)) left
found_after_none n k left bs more area h e is ok = sym (ap (λ xs. slice_get xs left) (areas_listed n k bs more None h (e ∙ ap (got more) is) ok))
