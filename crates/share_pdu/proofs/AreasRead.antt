-- Areas that were read stand there, and those that stand there are read; a Refresh Rect is refused just where it is bad.
use Rattle.std.proofs.Common.{◌≡◌, inl, inr, ℕ, zero, suc, ◌<◌, List, [], ◌∷◌, ◌++◌, length, refl, ap, sym, ◌∙◌, subst, arith}
use Rattle.std.specs.Prelude.{Option, option_to_list, Ok, Err}
use Rattle.byteorder.specs.Endian.{little_number}
use Rattle.wire_num.specs.Field.{Read, then_read, map_read}
use Rattle.wire_num.specs.Layout.{fields_at}
use Rattle.wire_num.specs.Grammar.{IsText}
use Rattle.wire_num.proofs.Steps.{then_ok, map_ok}
use Rattle.wire_num.proofs.ReadIsText.{read_is_text}
use Rattle.wire_num.proofs.TextIsRead.{then_again, text_is_read}
use Rattle.wire_num.proofs.Refused.{map_err}
use Rattle.px_core.specs.declared.rectangle.Rect.{Rect}
use Rattle.share_pdu.specs.Bodies.{inclusive_area, rect_of, area_at, areas_at}
use Rattle.share_pdu.specs.Areas.{Area, rect_of_area, rects_of, AreAreas}
use Rattle.share_pdu.proofs.Steps.{then_err}

-- ---- one area

abbrev corners : Area → List ℕ
corners area = area.left ∷ area.top ∷ area.right ∷ area.bottom ∷ []

four : (bs values more : List ℕ) → IsText inclusive_area bs values more → (area : Area) × (values ≡ corners area)
unfolding inclusive_area
four bs values more t =
    let left = little_number 2 t.0 in
    let top = little_number 2 t.7.0 in
    let right = little_number 2 t.7.7.0 in
    let bottom = little_number 2 t.7.7.7.0 in (
      record { left = left; top = top; right = right; bottom = bottom },
      t.6 ∙ ap (λ xs. left ∷ xs) (t.7.6 ∙ ap (λ xs. top ∷ xs) (t.7.7.6 ∙ ap (λ xs. right ∷ xs) (t.7.7.7.6 ∙ ap (λ xs. bottom ∷ xs) t.7.7.7.7.0))),
    )

area_ok : (bs : List ℕ) (y : Option Rect × List ℕ) → area_at bs ≡ Ok y → (area : Area) × IsText inclusive_area bs (corners area) y.1 × (y.0 ≡ rect_of_area area)
unfolding area_at
area_ok bs y e =
    let m = map_ok rect_of (fields_at inclusive_area bs) y e in
    let t = read_is_text inclusive_area bs m.0.0 m.0.1 m.1 in
    let f = four bs m.0.0 m.0.1 t in
    let text = subst (λ vs. IsText inclusive_area bs vs m.0.1) f.1 t in
    (f.0, subst (λ xs. IsText inclusive_area bs (corners f.0) xs) m.3 text, sym m.2 ∙ ap rect_of f.1)

area_again : (bs : List ℕ) (area : Area) (more : List ℕ) → IsText inclusive_area bs (corners area) more → area_at bs ≡ Ok (rect_of_area area, more)
unfolding area_at
area_again bs area more t = ap (map_read rect_of) (text_is_read inclusive_area bs (corners area) more t)

-- ---- so many

abbrev with_area : Option Rect → Read (List Rect) → Read (List Rect)
with_area area r = map_read (λ areas. option_to_list area ++ areas) r

pub record AreasRead (n : ℕ) (bs : List ℕ) (y : List Rect × List ℕ) : Type 0 where
  pub areas : List Area
  pub many : length areas ≡ n
  pub stand : AreAreas bs areas y.1
  pub says : y.0 ≡ rects_of areas

pub areas_ok : (n : ℕ) (bs : List ℕ) (y : List Rect × List ℕ) → areas_at n bs ≡ Ok y → AreasRead n bs y
areas_ok zero bs y e =
    let same : ([], bs) ≡ y = cc in
    record { areas = []; many = refl; stand = ap (λ p. p.1) same; says = sym (ap (λ p. p.0) same) }
areas_ok (suc n) bs y e =
    let a = then_ok (area_at bs) (λ area more. with_area area (areas_at n more)) y e in
    let m = map_ok (λ areas. option_to_list a.0.0 ++ areas) (areas_at n a.0.1) y a.2 in
    let one = area_ok bs a.0 a.1 in
    let others = areas_ok n a.0.1 m.0 m.1 in
    record {
      areas = one.0 ∷ others.areas;
      many = ap suc others.many;
      stand = (a.0.1, one.1, subst (λ xs. AreAreas a.0.1 others.areas xs) m.3 others.stand);
      says = sym m.2 ∙ ap (λ o. option_to_list o ++ m.0.0) one.2 ∙ ap (λ rs. option_to_list (rect_of_area one.0) ++ rs) others.says;
    }

pub areas_again : (areas : List Area) (bs after : List ℕ) → AreAreas bs areas after → areas_at (length areas) bs ≡ Ok (rects_of areas, after)
areas_again [] bs after stand = ap (λ xs. Ok ([], xs)) stand
areas_again (area ∷ areas) bs after stand =
    then_again (area_at bs) (rect_of_area area) stand.0 (λ one more. with_area one (areas_at (length areas) more)) (Ok (rects_of (area ∷ areas), after))
    (area_again bs area stand.0 stand.1)
    (ap (with_area (rect_of_area area)) (areas_again areas stand.0 after stand.2))

pub record AreasRefused (n : ℕ) (bs left : List ℕ) : Type 0 where
  pub areas : List Area
  pub rest : List ℕ
  pub stand : AreAreas bs areas rest
  pub fewer : length areas < n
  pub bad : fields_at inclusive_area rest ≡ Err left

area_err : (bs left : List ℕ) → area_at bs ≡ Err left → fields_at inclusive_area bs ≡ Err left
unfolding area_at
area_err bs left e = map_err rect_of (fields_at inclusive_area bs) left e

area_bad : (bs left : List ℕ) → fields_at inclusive_area bs ≡ Err left → area_at bs ≡ Err left
unfolding area_at
area_bad bs left e = ap (map_read rect_of) e

pub areas_err : (n : ℕ) (bs left : List ℕ) → areas_at n bs ≡ Err left → AreasRefused n bs left
areas_err zero bs left e = absurd (let h : ⊥ = cc in h)
areas_err (suc n) bs left e =
    elim (then_err (area_at bs) (λ area more. with_area area (areas_at n more)) left e) [
      | inl h ↦ record { areas = []; rest = bs; stand = refl; fewer = omega arith; bad = area_err bs left h }
      | inr p ↦
          let one = area_ok bs p.0 p.1 in
          let others = areas_err n p.0.1 left (map_err (λ areas. option_to_list p.0.0 ++ areas) (areas_at n p.0.1) left p.2) in
          record {
            areas = one.0 ∷ others.areas;
            rest = others.rest;
            stand = (p.0.1, one.1, others.stand);
            fewer = omega (arith, others.fewer);
            bad = others.bad;
          }
    ]

abbrev pub no_areas : List ℕ → Read (List Rect)
no_areas left = Err left

pub areas_bad : (n : ℕ) (areas : List Area) (bs rest left : List ℕ) → length areas < n → AreAreas bs areas rest → fields_at inclusive_area rest ≡ Err left
    → areas_at n bs ≡ no_areas left
areas_bad zero areas bs rest left few stand bad = absurd (omega (arith, few))
areas_bad (suc n) [] bs rest left few stand bad =
    ap (λ r. then_read r (λ area more. with_area area (areas_at n more))) (ap area_at stand ∙ area_bad rest left bad)
areas_bad (suc n) (area ∷ areas) bs rest left few stand bad =
    then_again (area_at bs) (rect_of_area area) stand.0 (λ one more. with_area one (areas_at n more)) (no_areas left)
    (area_again bs area stand.0 stand.1)
    (ap (with_area (rect_of_area area)) (areas_bad n areas stand.0 rest left (omega (arith, few)) stand.2 bad))
