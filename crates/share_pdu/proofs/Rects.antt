-- A Refresh Rect that was read stands there, and one that stands there is read; it is refused just where it is bad.
use Rattle.std.proofs.Common.{◌≡◌, inl, inr, ℕ, List, [], ◌∷◌, length, refl, ap, sym, ◌∙◌, subst}
use Rattle.std.specs.Prelude.{slice_index, Ok, Err}
use Rattle.byteorder.specs.Endian.{big_number}
use Rattle.wire_num.specs.Field.{Read, then_read, map_read}
use Rattle.wire_num.specs.Layout.{fields_at}
use Rattle.wire_num.specs.Grammar.{IsText}
use Rattle.wire_num.proofs.Steps.{then_ok, map_ok}
use Rattle.wire_num.proofs.ReadIsText.{read_is_text}
use Rattle.wire_num.proofs.TextIsRead.{then_again, text_is_read}
use Rattle.wire_num.proofs.Refused.{map_err, refused}
use Rattle.wire_num.proofs.RefusalIsRead.{refusal_is_read}
use Rattle.px_core.specs.declared.rectangle.Rect.{Rect}
use Rattle.share_pdu.specs.Bodies.{refresh_header, inclusive_area, areas_at, areas_by, areas_of, refresh_at, passed_areas_at, passed_refresh_at}
use Rattle.share_pdu.specs.Areas.{Area, rects_of, IsRefreshRect}
use Rattle.share_pdu.specs.Faults.{HasBadAreas}
use Rattle.share_pdu.proofs.Steps.{then_err}
use Rattle.share_pdu.proofs.AreasRead.{AreasRead, areas_ok, areas_again, areas_err, areas_bad}

one_number : (bs values more : List ℕ) → IsText refresh_header bs values more → (n : ℕ) × (values ≡ n ∷ [])
unfolding refresh_header
one_number bs values more t =
    let n = big_number 1 t.0 in
    (n, t.6 ∙ ap (λ xs. n ∷ xs) t.7.4.0)

abbrev areas_for : List ℕ → List ℕ → Read (List Rect)
areas_for values more = areas_at (slice_index values 0) more

abbrev passed_for : List ℕ → List ℕ → Read (List ℕ)
passed_for values more = passed_areas_at (slice_index values 0) more

-- ---- one that was read

to_rect : (bs values more : List ℕ) (n : ℕ) (y : List Rect × List ℕ) → IsText refresh_header bs values more → values ≡ n ∷ [] → (r : AreasRead n more y)
    → IsRefreshRect bs r.areas
to_rect bs values more n y t e r = record {
  counted = more;
  after = y.1;
  header = subst (λ vs. IsText refresh_header bs vs more) (e ∙ ap (λ k. k ∷ []) (sym r.many)) t;
  each = r.stand;
}

refresh_ok : (bs : List ℕ) (y : List Rect × List ℕ) → refresh_at bs ≡ Ok y → (areas : List Area) × IsRefreshRect bs areas
unfolding refresh_at
refresh_ok bs y e =
    let a = then_ok (fields_at refresh_header bs) areas_for y e in
    let t = read_is_text refresh_header bs a.0.0 a.0.1 a.1 in
    let n = one_number bs a.0.0 a.0.1 t in
    let r = areas_ok n.0 a.0.1 y (sym (ap (λ vs. areas_for vs a.0.1) n.1) ∙ a.2) in
    (r.areas, to_rect bs a.0.0 a.0.1 n.0 y t n.1 r)

pub passed_ok : (bs : List ℕ) (y : List ℕ × List ℕ) → passed_refresh_at bs ≡ Ok y → (areas : List Area) × IsRefreshRect bs areas
unfolding passed_refresh_at
passed_ok bs y e =
    let a = then_ok (fields_at refresh_header bs) passed_for y e in
    let t = read_is_text refresh_header bs a.0.0 a.0.1 a.1 in
    let n = one_number bs a.0.0 a.0.1 t in
    let m = map_ok (λ _. []) (areas_at n.0 a.0.1) y (sym (ap (λ vs. passed_for vs a.0.1) n.1) ∙ a.2) in
    let r = areas_ok n.0 a.0.1 m.0 m.1 in
    (r.areas, to_rect bs a.0.0 a.0.1 n.0 m.0 t n.1 r)

-- ---- one that stands there

refresh_again : (bs : List ℕ) (areas : List Area) (is : IsRefreshRect bs areas) → refresh_at bs ≡ Ok (rects_of areas, is.after)
unfolding refresh_at
refresh_again bs areas is =
    then_again (fields_at refresh_header bs) (length areas ∷ []) is.counted areas_for (Ok (rects_of areas, is.after))
    (text_is_read refresh_header bs (length areas ∷ []) is.counted is.header)
    (areas_again areas is.counted is.after is.each)

abbrev passed : List ℕ → Read (List ℕ)
passed left = Ok ([], left)

pub passed_again : (bs : List ℕ) (areas : List Area) (is : IsRefreshRect bs areas) → passed_refresh_at bs ≡ passed is.after
unfolding passed_refresh_at
passed_again bs areas is =
    then_again (fields_at refresh_header bs) (length areas ∷ []) is.counted passed_for (passed is.after)
    (text_is_read refresh_header bs (length areas ∷ []) is.counted is.header)
    (ap (map_read (λ _. [])) (areas_again areas is.counted is.after is.each))

-- ---- one that is refused

pub passed_err : (bs left : List ℕ) → passed_refresh_at bs ≡ Err left → HasBadAreas bs left
unfolding passed_refresh_at
passed_err bs left e =
    elim (then_err (fields_at refresh_header bs) passed_for left e) [
      | inl h ↦ inl (refused refresh_header bs left h)
      | inr p ↦
          let t = read_is_text refresh_header bs p.0.0 p.0.1 p.1 in
          let n = one_number bs p.0.0 p.0.1 t in
          let r = areas_err n.0 p.0.1 left (map_err (λ _. []) (areas_at n.0 p.0.1) left (sym (ap (λ vs. passed_for vs p.0.1) n.1) ∙ p.2)) in
          inr (n.0, p.0.1, r.areas, r.rest, subst (λ vs. IsText refresh_header bs vs p.0.1) n.1 t, r.stand, r.fewer, refused inclusive_area r.rest left r.bad)
    ]

abbrev not_passed : List ℕ → Read (List ℕ)
not_passed left = Err left

pub passed_bad : (bs left : List ℕ) → HasBadAreas bs left → passed_refresh_at bs ≡ not_passed left
unfolding passed_refresh_at
passed_bad bs left bad =
    elim bad [
      | inl h ↦ ap (λ r. then_read r passed_for) (refusal_is_read refresh_header bs left h)
      | inr p ↦
          then_again (fields_at refresh_header bs) (p.0 ∷ []) p.1 passed_for (not_passed left)
          (text_is_read refresh_header bs (p.0 ∷ []) p.1 p.4)
          (ap (map_read (λ _. [])) (areas_bad p.0 p.2 p.1 p.3 left p.6 p.5 (refusal_is_read inclusive_area p.3 left p.7)))
    ]

-- ---- the areas of a body

pub areas_there : (bs : List ℕ) (areas : List Area) → IsRefreshRect bs areas → areas_of bs ≡ rects_of areas
areas_there bs areas is = ap areas_by (refresh_again bs areas is)

by_read : (bs : List ℕ) (r : Read (List Rect)) → refresh_at bs ≡ r → ((areas : List Area) → IsRefreshRect bs areas → ⊥) → areas_by r ≡ []
by_read bs (Ok y) e none = let one = refresh_ok bs y e in absurd (none one.0 one.1)
by_read bs (Err left) e none = refl

pub no_areas_there : (bs : List ℕ) → ((areas : List Area) → IsRefreshRect bs areas → ⊥) → areas_of bs ≡ []
no_areas_there bs none = by_read bs (refresh_at bs) refl none
