-- A Confirm Active PDU is read just where one stands, and refused just at its first fault.
use Rattle.std.proofs.Common.{◌≡◌, inl, inr, ℕ, zero, suc, ◌+◌, ◌<◌, List, [], ◌∷◌, ◌++◌, length, refl, ap, sym, ◌∙◌, subst, arith, length-append}
use Rattle.std.specs.Prelude.{slice_index, Result, Ok, Err}
use Rattle.byteorder.specs.Endian.{little_number}
use Rattle.wire_num.specs.Field.{Read, then_read, map_read, place_in}
use Rattle.wire_num.specs.FieldValue.{placed}
use Rattle.wire_num.specs.Layout.{fields_at}
use Rattle.wire_num.specs.Grammar.{IsText}
use Rattle.wire_num.proofs.Steps.{then_ok, map_ok}
use Rattle.wire_num.proofs.ReadIsText.{read_is_text}
use Rattle.wire_num.proofs.TextIsRead.{then_again, text_is_read}
use Rattle.wire_num.proofs.Refused.{refused}
use Rattle.wire_num.proofs.RefusalIsRead.{refusal_is_read}
use Rattle.wire_num.proofs.Place.{Ends, at_once, moved, text_end}
use Rattle.wire_num.proofs.Place as places
use Rattle.px_core.specs.declared.depth.Depth.{Depth}
use Rattle.caps_sets.specs.declared.confirmed.Confirmed.{Confirmed}
use Rattle.caps_sets.specs.declared.sets_so_far.SetsSoFar.{SetsSoFar}
use Rattle.caps_sets.specs.declared.caps_fault.CapsFault.{CapsFault}
use Rattle.caps_sets.specs.declared.caps_fault.CapsFault.TheVariants.{BadCaps}
use Rattle.caps_sets.specs.CapabilitySets.{with_set, before_sets, confirmed_together}
use Rattle.caps_sets.specs.ConfirmActive.{confirm_lengths, confirm_counts, set_header, set_at, sets_at, confirm_at, confirmed_of}
use Rattle.caps_sets.specs.Grammar.{Set, kind_in, IsSet, AreSets, IsConfirmActive}
use Rattle.caps_sets.specs.Faults.{HasBadSet, HasFault, IsFirstFault}
use Rattle.caps_sets.proofs.SetText.{then_err, map_err, set_ok, set_again, set_err, set_bad}
use Rattle.caps_sets.proofs.LastSets.{with_sets, last_ones_count}

-- ---- sets in a row

pub record SetsRead (n : ℕ) (c : SetsSoFar) (bs : List ℕ) (y : SetsSoFar × List ℕ) : Type 0 where
  pub sets : List Set
  pub many : length sets ≡ n
  pub stand : AreSets bs sets y.1
  pub says : y.0 ≡ with_sets sets c

sets_ok : (n : ℕ) (c : SetsSoFar) (bs : List ℕ) (y : SetsSoFar × List ℕ) → sets_at n c bs ≡ Ok y → SetsRead n c bs y
sets_ok zero c bs y e =
    let same : (c, bs) ≡ y = cc in
    record { sets = []; many = refl; stand = ap (λ p. p.1) same; says = sym (ap (λ p. p.0) same) }
sets_ok (suc n) c bs y e =
    let a = then_ok (set_at c bs) (λ d rest. sets_at n d rest) y e in
    let one = set_ok c bs a.0 a.1 in
    let others = sets_ok n a.0.0 a.0.1 y a.2 in
    record {
      sets = one.set ∷ others.sets;
      many = ap suc others.many;
      stand = (a.0.1, one.is, others.stand);
      says = others.says ∙ ap (with_sets others.sets) one.says;
    }

sets_again : (sets : List Set) (c : SetsSoFar) (bs after : List ℕ) → AreSets bs sets after → sets_at (length sets) c bs ≡ Ok (with_sets sets c, after)
sets_again [] c bs after stand = ap (λ xs. Ok (c, xs)) stand
sets_again (set ∷ sets) c bs after stand =
    then_again (set_at c bs) (with_set (kind_in set) set.content c) stand.0 (λ d rest. sets_at (length sets) d rest) (Ok (with_sets (set ∷ sets) c, after))
    (set_again c bs set stand.0 stand.1)
    (sets_again sets (with_set (kind_in set) set.content c) stand.0 after stand.2)

record SetsRefused (n : ℕ) (bs left : List ℕ) : Type 0 where
  sets : List Set
  rest : List ℕ
  stand : AreSets bs sets rest
  fewer : length sets < n
  bad : HasBadSet rest left

sets_err : (n : ℕ) (c : SetsSoFar) (bs left : List ℕ) → sets_at n c bs ≡ Err left → SetsRefused n bs left
sets_err zero c bs left e = absurd (let h : ⊥ = cc in h)
sets_err (suc n) c bs left e =
    elim (then_err (set_at c bs) (λ d rest. sets_at n d rest) left e) [
      | inl h ↦ record { sets = []; rest = bs; stand = refl; fewer = omega arith; bad = set_err c bs left h }
      | inr p ↦
          let one = set_ok c bs p.0 p.1 in
          let others = sets_err n p.0.0 p.0.1 left p.2 in
          record {
            sets = one.set ∷ others.sets;
            rest = others.rest;
            stand = (p.0.1, one.is, others.stand);
            fewer = omega (arith, others.fewer);
            bad = others.bad;
          }
    ]

abbrev no_sets : {A : Type 0} → List ℕ → Read A
no_sets left = Err left

sets_bad : (n : ℕ) (sets : List Set) (c : SetsSoFar) (bs rest left : List ℕ) → length sets < n → AreSets bs sets rest → HasBadSet rest left → sets_at n c bs ≡ no_sets left
sets_bad zero sets c bs rest left few stand bad = absurd (omega (arith, few))
sets_bad (suc n) [] c bs rest left few stand bad =
    ap (λ r. then_read r (λ d more. sets_at n d more)) (set_bad c bs left (subst (λ xs. HasBadSet xs left) (sym stand) bad))
sets_bad (suc n) (set ∷ sets) c bs rest left few stand bad =
    then_again (set_at c bs) (with_set (kind_in set) set.content c) stand.0 (λ d more. sets_at n d more) (no_sets left)
    (set_again c bs set stand.0 stand.1)
    (sets_bad n sets (with_set (kind_in set) set.content c) stand.0 rest left (omega (arith, few)) stand.2 bad)

-- ---- the fields before them

one_length : (bs values more : List ℕ) → IsText confirm_lengths bs values more → (n : ℕ) × (values ≡ n ∷ [])
unfolding confirm_lengths
one_length bs values more t =
    let numbers = t.4.4 in
    let n = little_number 2 numbers.0 in
    (n, numbers.6 ∙ ap (λ xs. n ∷ xs) numbers.7.4.0)

one_count : (source : ℕ) (bs values more : List ℕ) → IsText (confirm_counts source) bs values more → (n : ℕ) × (values ≡ n ∷ [])
unfolding confirm_counts
one_count source bs values more t =
    let numbers = t.4 in
    let n = little_number 2 numbers.0 in
    (n, numbers.6 ∙ ap (λ xs. n ∷ xs) numbers.7.4.0)

abbrev sets_of : Depth → List ℕ → List ℕ → Read Confirmed
sets_of depth counts sets = map_read confirmed_together (sets_at (slice_index counts 0) (before_sets depth) sets)

abbrev counts_of : Depth → List ℕ → List ℕ → Read Confirmed
counts_of depth lengths more = then_read (fields_at (confirm_counts (slice_index lengths 0)) more) (sets_of depth)

-- the same of equal values
at_values : (f : List ℕ → Read Confirmed) (r : Read Confirmed) (xs ys : List ℕ) → xs ≡ ys → f xs ≡ r → f ys ≡ r
at_values f r xs ys e h = sym (ap f e) ∙ h

-- ---- a PDU that was read

to_confirm : (depth : Depth) (bs described counted lengths counts : List ℕ) (source n : ℕ) (y : SetsSoFar × List ℕ)
    → IsText confirm_lengths bs lengths described → lengths ≡ source ∷ [] → IsText (confirm_counts source) described counts counted → counts ≡ n ∷ []
    → SetsRead n (before_sets depth) counted y → IsConfirmActive depth bs (confirmed_together y.0)
to_confirm depth bs described counted lengths counts source n y l s k m r = record {
  source = source;
  described = described;
  sets = r.sets;
  counted = counted;
  after = y.1;
  lengths = subst (λ xs. IsText confirm_lengths bs xs described) s l;
  counts = subst (λ xs. IsText (confirm_counts source) described xs counted) (m ∙ ap (λ i. i ∷ []) (sym r.many)) k;
  each = r.stand;
  says = ap confirmed_together r.says ∙ last_ones_count depth r.sets;
}

confirm_ok : (depth : Depth) (bs : List ℕ) (y : Confirmed × List ℕ) → confirm_at depth bs ≡ Ok y → IsConfirmActive depth bs y.0
unfolding confirm_at
confirm_ok depth bs y e =
    let a = then_ok (fields_at confirm_lengths bs) (counts_of depth) y e in
    let lengths = read_is_text confirm_lengths bs a.0.0 a.0.1 a.1 in
    let s = one_length bs a.0.0 a.0.1 lengths in
    let b = then_ok (fields_at (confirm_counts s.0) a.0.1) (sets_of depth) y (at_values (λ xs. counts_of depth xs a.0.1) (Ok y) a.0.0 (s.0 ∷ []) s.1 a.2) in
    let counts = read_is_text (confirm_counts s.0) a.0.1 b.0.0 b.0.1 b.1 in
    let k = one_count s.0 a.0.1 b.0.0 b.0.1 counts in
    let m = map_ok confirmed_together (sets_at k.0 (before_sets depth) b.0.1) y (at_values (λ xs. sets_of depth xs b.0.1) (Ok y) b.0.0 (k.0 ∷ []) k.1 b.2) in
    let r = sets_ok k.0 (before_sets depth) b.0.1 m.0 m.1 in
    subst (IsConfirmActive depth bs) m.2 (to_confirm depth bs a.0.1 b.0.1 a.0.0 b.0.0 s.0 k.0 m.0 lengths s.1 counts k.1 r)

confirm_again : (depth : Depth) (bs : List ℕ) (c : Confirmed) (is : IsConfirmActive depth bs c) → confirm_at depth bs ≡ Ok (c, is.after)
unfolding confirm_at
confirm_again depth bs c is =
    then_again (fields_at confirm_lengths bs) (is.source ∷ []) is.described (counts_of depth) (Ok (c, is.after))
    (text_is_read confirm_lengths bs (is.source ∷ []) is.described is.lengths)
    (then_again (fields_at (confirm_counts is.source) is.described) (length is.sets ∷ []) is.counted (sets_of depth) (Ok (c, is.after))
    (text_is_read (confirm_counts is.source) is.described (length is.sets ∷ []) is.counted is.counts)
    (ap (map_read confirmed_together) (sets_again is.sets (before_sets depth) is.counted is.after is.each) ∙ ap (λ d. Ok (d, is.after)) (last_ones_count depth is.sets ∙ sym is.says)))

-- ---- a PDU that is refused

-- fields that stand there, with these values
abbrev Lengths : List ℕ → ℕ → List ℕ → Type 0
Lengths bs source described = IsText confirm_lengths bs (source ∷ []) described

abbrev Counts : ℕ → List ℕ → ℕ → List ℕ → Type 0
Counts source described n counted = IsText (confirm_counts source) described (n ∷ []) counted

lengths_are : (bs values described : List ℕ) (source : ℕ) → IsText confirm_lengths bs values described → values ≡ source ∷ [] → Lengths bs source described
lengths_are bs values described source t e = subst (λ xs. IsText confirm_lengths bs xs described) e t

counts_are : (source : ℕ) (described values counted : List ℕ) (n : ℕ) → IsText (confirm_counts source) described values counted → values ≡ n ∷ []
    → Counts source described n counted
counts_are source described values counted n t e = subst (λ xs. IsText (confirm_counts source) described xs counted) e t

to_fault : (bs described counted left : List ℕ) (source n : ℕ) → Lengths bs source described → Counts source described n counted → SetsRefused n counted left
    → HasFault bs left
to_fault bs described counted left source n l k r =
    inr (inr (source, described, n, counted, r.sets, r.rest, l, k, r.stand, r.fewer, r.bad))

confirm_err : (depth : Depth) (bs left : List ℕ) → confirm_at depth bs ≡ Err left → HasFault bs left
unfolding confirm_at
confirm_err depth bs left e =
    elim (then_err (fields_at confirm_lengths bs) (counts_of depth) left e) [
      | inl h ↦ inl (refused confirm_lengths bs left h)
      | inr a ↦
          let described = a.0.1 in
          let s = one_length bs a.0.0 described (read_is_text confirm_lengths bs a.0.0 described a.1) in
          let lengths = lengths_are bs a.0.0 described s.0 (read_is_text confirm_lengths bs a.0.0 described a.1) s.1 in
          elim (then_err (fields_at (confirm_counts s.0) described) (sets_of depth) left (at_values (λ xs. counts_of depth xs described) (no_sets left) a.0.0 (s.0 ∷ []) s.1 a.2)) [
            | inl h ↦ inr (inl (s.0, described, lengths, refused (confirm_counts s.0) described left h))
            | inr b ↦
                let text = read_is_text (confirm_counts s.0) described b.0.0 b.0.1 b.1 in
                let k = one_count s.0 described b.0.0 b.0.1 text in
                to_fault bs described b.0.1 left s.0 k.0 lengths (counts_are s.0 described b.0.0 b.0.1 k.0 text k.1)
                (sets_err k.0 (before_sets depth) b.0.1 left
                (map_err confirmed_together (sets_at k.0 (before_sets depth) b.0.1) left (at_values (λ xs. sets_of depth xs b.0.1) (no_sets left) b.0.0 (k.0 ∷ []) k.1 b.2)))
          ]
    ]

confirm_bad : (depth : Depth) (bs left : List ℕ) → HasFault bs left → confirm_at depth bs ≡ no_sets left
unfolding confirm_at
confirm_bad depth bs left fault =
    elim fault [
      | inl h ↦ ap (λ r. then_read r (counts_of depth)) (refusal_is_read confirm_lengths bs left h)
      | inr f ↦ elim f [
        | inl p ↦
            then_again (fields_at confirm_lengths bs) (p.0 ∷ []) p.1 (counts_of depth) (no_sets left)
            (text_is_read confirm_lengths bs (p.0 ∷ []) p.1 p.2)
            (ap (λ r. then_read r (sets_of depth)) (refusal_is_read (confirm_counts p.0) p.1 left p.3))
        | inr p ↦
            then_again (fields_at confirm_lengths bs) (p.0 ∷ []) p.1 (counts_of depth) (no_sets left)
            (text_is_read confirm_lengths bs (p.0 ∷ []) p.1 p.6)
            (then_again (fields_at (confirm_counts p.0) p.1) (p.2 ∷ []) p.3 (sets_of depth) (no_sets left)
            (text_is_read (confirm_counts p.0) p.1 (p.2 ∷ []) p.3 p.7)
            (ap (map_read confirmed_together) (sets_bad p.2 p.4 (before_sets depth) p.3 p.5 left p.9 p.8 p.10)))
      ]
    ]

-- ---- the place is in the bytes

set_end : (bs left : List ℕ) → HasBadSet bs left → Ends bs left
set_end bs left bad = elim bad [ inl h ↦ places.place set_header bs left h | inr p ↦ at_once bs left p.5 ]

header_end : (bs : List ℕ) (set : Set) (after : List ℕ) → IsSet bs set after → Ends bs after
header_end bs set after is =
    let t = text_end set_header bs (set.type ∷ (4 + length set.content) ∷ []) (set.content ++ after) is.header in
    moved bs t.0 (set.content ++ after) after t.1 (set.content, refl)

sets_end : (sets : List Set) (bs after left : List ℕ) → AreSets bs sets after → Ends after left → Ends bs left
sets_end [] bs after left stand h = subst (λ xs. Ends xs left) (sym stand) h
sets_end (set ∷ sets) bs after left stand h =
    let one = header_end bs set stand.0 stand.1 in
    moved bs one.0 stand.0 left one.1 (sets_end sets stand.0 after left stand.2 h)

fault_end : (bs left : List ℕ) → HasFault bs left → Ends bs left
fault_end bs left fault =
    elim fault [
      | inl h ↦ places.place confirm_lengths bs left h
      | inr f ↦ elim f [
        | inl p ↦
            let t = text_end confirm_lengths bs (p.0 ∷ []) p.1 p.2 in
            moved bs t.0 p.1 left t.1 (places.place (confirm_counts p.0) p.1 left p.3)
        | inr p ↦
            let t = text_end confirm_lengths bs (p.0 ∷ []) p.1 p.6 in
            let u = text_end (confirm_counts p.0) p.1 (p.2 ∷ []) p.3 p.7 in
            moved bs t.0 p.1 left t.1 (moved p.1 u.0 p.3 left u.1 (sets_end p.4 p.3 p.5 left p.8 (set_end p.5 left p.10)))
      ]
    ]

-- ---- as it is answered

abbrev answer : List ℕ → Read Confirmed → Result Confirmed CapsFault
answer bs r = placed BadCaps bs r

placed_ok : (bs : List ℕ) (r : Read Confirmed) (c : Confirmed) → answer bs r ≡ Ok c → (left : List ℕ) × (r ≡ Ok (c, left))
placed_ok bs (Ok v) c e = let same : v.0 ≡ c = cc in (v.1, ap (λ d. Ok (d, v.1)) same)
placed_ok bs (Err left) c e = absurd (let h : ⊥ = cc in h)

placed_err : (bs : List ℕ) (r : Read Confirmed) (at : ℕ) → answer bs r ≡ Err (BadCaps at) → (left : List ℕ) × (r ≡ Err left) × (place_in bs left ≡ at)
placed_err bs (Ok v) at e = absurd (let h : ⊥ = cc in h)
placed_err bs (Err left) at e = let same : place_in bs left ≡ at = cc in (left, refl, same)

pub confirm_is_text : (depth : Depth) (bs : List ℕ) (c : Confirmed) → confirmed_of depth bs ≡ Ok c → IsConfirmActive depth bs c
confirm_is_text depth bs c e = let p = placed_ok bs (confirm_at depth bs) c e in confirm_ok depth bs (c, p.0) p.1

pub text_is_confirm : (depth : Depth) (bs : List ℕ) (c : Confirmed) → IsConfirmActive depth bs c → confirmed_of depth bs ≡ Ok c
text_is_confirm depth bs c is = ap (answer bs) (confirm_again depth bs c is)

pub first_fault : (depth : Depth) (bs : List ℕ) (fault : CapsFault) → confirmed_of depth bs ≡ Err fault → IsFirstFault bs fault
first_fault depth bs (BadCaps at) e =
    let p = placed_err bs (confirm_at depth bs) at e in
    let fault = confirm_err depth bs p.0 p.1 in
    let h = fault_end bs p.0 fault in
    record {
      front = h.0;
      left = p.0;
      whole = h.1;
      place = omega (arith, ap length h.1, length-append h.0 p.0, p.2);
      fault = fault;
    }

pub fault_is_told : (depth : Depth) (bs : List ℕ) (fault : CapsFault) → IsFirstFault bs fault → confirmed_of depth bs ≡ Err fault
fault_is_told depth bs (BadCaps at) f =
    let place : place_in bs f.left ≡ at = omega (arith, ap length f.whole, length-append f.front f.left, f.place) in
    ap (answer bs) (confirm_bad depth bs f.left f.fault) ∙ ap (λ k. Err (BadCaps k)) place
