-- A Client Info PDU is read just where one stands, and refused just at its first fault.
use Rattle.std.proofs.Common.{◌≡◌, ◌⊎◌, inl, inr, ℕ, ◌+◌, ◌≤◌, List, [], ◌++◌, length, take, drop, refl, ap, sym, ◌∙◌, subst, arith, length-append}
use Rattle.std.specs.Prelude.{Result, Ok, Err}
use Rattle.std.proofs.lemmas.List.{take-append-drop, length-take-le, length-drop}
use Rattle.std.proofs.Math.Seq.{take-append_seam, drop-append_seam}
use Rattle.wire_num.specs.Field.{Read, then_read, map_read, place_in}
use Rattle.wire_num.specs.FieldValue.{placed}
use Rattle.wire_num.specs.Layout.{fields_at}
use Rattle.wire_num.specs.Grammar.{IsText}
use Rattle.wire_num.proofs.Steps.{then_ok, map_ok}
use Rattle.wire_num.proofs.ReadIsText.{read_is_text}
use Rattle.wire_num.proofs.TextIsRead.{then_again, text_is_read}
use Rattle.wire_num.proofs.Refused.{refused}
use Rattle.wire_num.proofs.RefusalIsRead.{refusal_is_read}
use Rattle.wire_num.proofs.Place.{Ends, moved, text_end}
use Rattle.wire_num.proofs.Place as places
use Rattle.info_lic.specs.declared.client_info.Counts.{Counts}
use Rattle.info_lic.specs.declared.info_fault.InfoFault.{InfoFault}
use Rattle.info_lic.specs.declared.info_fault.InfoFault.TheVariants.{BadInfo}
use Rattle.info_lic.specs.ClientInfo.{info_start, counts_of, terminator, other_texts, info_texts, user_in, name_in, info_at, name_of}
use Rattle.info_lic.specs.Grammar.{IsNameOf, IsClientInfo}
use Rattle.info_lic.specs.Faults.{HasFault, IsFirstFault}
use Rattle.info_lic.proofs.NameText.{name_stands, one_name}

-- ---- steps

then_err : {A B : Type 0} (r : Read A) (f : A → List ℕ → Read B) (left : List ℕ) → then_read r f ≡ Err left
    → (r ≡ Err left) ⊎ ((v : A × List ℕ) × (r ≡ Ok v) × (f v.0 v.1 ≡ Err left))
then_err (Ok v) f left e = inr (v, refl, e)
then_err (Err l) f left e = inl (let h : l ≡ left = cc in ap Err h)

map_err : {A B : Type 0} (f : A → B) (r : Read A) (left : List ℕ) → map_read f r ≡ Err left → r ≡ Err left
map_err f (Ok v) left e = absurd (let h : ⊥ = cc in h)
map_err f (Err l) left e = let h : l ≡ left = cc in ap Err h

-- ---- the place of the user name

-- the texts have no values, and the user name is among them
record UserStands (counts : Counts) (texts values : List ℕ) : Type 0 where
  none : values ≡ []
  room : counts.domain + length (terminator counts.unicode) + counts.user ≤ length texts

user_stands : (counts : Counts) (texts values after : List ℕ) → IsText (info_texts counts) texts values after → UserStands counts texts values
unfolding info_texts other_texts
user_stands counts texts values after t =
    let zeros = terminator counts.unicode in
    let domain = t.0 in
    let user_on = t.4.0 in
    let user = t.4.2.0 in
    let more = t.4.2.1 in
    record {
      none = t.4.2.4.2.4.2.4.2.4.2.0;
      room = omega (arith, t.2, ap length t.3, length-append domain t.1, ap length t.4.1, length-append zeros user_on, t.4.2.2, ap length t.4.2.3, length-append user more);
    }

-- the parts of texts before, in and behind the user name
record Parts (counts : Counts) (texts : List ℕ) : Type 0 where
  before : List ℕ
  behind : List ℕ
  whole : texts ≡ before ++ (user_in counts texts ++ behind)
  place : length before ≡ counts.domain + length (terminator counts.unicode)
  size : length (user_in counts texts) ≡ counts.user

parts : (counts : Counts) (texts : List ℕ) → counts.domain + length (terminator counts.unicode) + counts.user ≤ length texts → Parts counts texts
parts counts texts room =
    let n : ℕ = counts.domain + length (terminator counts.unicode) in
    let tail = length-drop n texts in
    record {
      before = take n texts;
      behind = drop counts.user (drop n texts);
      whole = sym (ap (λ xs. take n texts ++ xs) (take-append-drop counts.user (drop n texts)) ∙ take-append-drop n texts);
      place = length-take-le n texts (omega (arith, room));
      size = length-take-le counts.user (drop n texts) (omega (arith, room, tail));
    }

-- the user name is at its place
taken : (n : ℕ) (xs ys : List ℕ) → length xs ≡ n → take n (xs ++ ys) ≡ xs
taken n xs ys e = subst (λ k. take k (xs ++ ys) ≡ xs) e (take-append_seam xs ys)

dropped : (n : ℕ) (xs ys : List ℕ) → length xs ≡ n → drop n (xs ++ ys) ≡ ys
dropped n xs ys e = subst (λ k. drop k (xs ++ ys) ≡ ys) e (drop-append_seam xs ys)

user_found : (counts : Counts) (texts before user behind : List ℕ) → texts ≡ before ++ (user ++ behind)
    → length before ≡ counts.domain + length (terminator counts.unicode) → length user ≡ counts.user → user_in counts texts ≡ user
user_found counts texts before user behind whole place size =
    ap (user_in counts) whole
    ∙ ap (take counts.user) (dropped (counts.domain + length (terminator counts.unicode)) before (user ++ behind) place)
    ∙ taken counts.user user behind size

-- ---- a PDU that was read

abbrev texts_of : Counts → List ℕ → Read (List ℕ)
texts_of counts texts = map_read (λ _. name_in counts.unicode (user_in counts texts)) (fields_at (info_texts counts) texts)

info_ok : (bs : List ℕ) (y : List ℕ × List ℕ) → info_at bs ≡ Ok y → IsClientInfo bs y.0
unfolding info_at
info_ok bs y e =
    let a = then_ok (map_read counts_of (fields_at info_start bs)) texts_of y e in
    let m = map_ok counts_of (fields_at info_start bs) a.0 a.1 in
    let counts = a.0.0 in
    let texts = a.0.1 in
    let t = map_ok (λ _. name_in counts.unicode (user_in counts texts)) (fields_at (info_texts counts) texts) y a.2 in
    let all = read_is_text (info_texts counts) texts t.0.0 t.0.1 t.1 in
    let s = user_stands counts texts t.0.0 t.0.1 all in
    to_info bs counts texts m.0.0 m.0.1 t.0.0 t.0.1 y.0 (read_is_text info_start bs m.0.0 m.0.1 m.1) m.3 m.2 all s t.2 where
      to_info : (bs : List ℕ) (counts : Counts) (texts values rest none after name : List ℕ) → IsText info_start bs values rest → rest ≡ texts → counts_of values ≡ counts
          → IsText (info_texts counts) texts none after → UserStands counts texts none → name_in counts.unicode (user_in counts texts) ≡ name → IsClientInfo bs name
      to_info bs counts texts values rest none after name start same counted all s n =
          let p = parts counts texts s.room in
          record {
            values = values;
            counts = counts;
            texts = texts;
            before = p.before;
            user = user_in counts texts;
            behind = p.behind;
            after = after;
            start = subst (IsText info_start bs values) same start;
            counted = counted;
            all = subst (λ vs. IsText (info_texts counts) texts vs after) s.none all;
            whole = p.whole;
            place = p.place;
            size = p.size;
            is = subst (IsNameOf counts.unicode (user_in counts texts)) n (name_stands counts.unicode (user_in counts texts));
          }

info_again : (bs name : List ℕ) (is : IsClientInfo bs name) → info_at bs ≡ Ok (name, is.after)
unfolding info_at
info_again bs name is =
    let user = user_found is.counts is.texts is.before is.user is.behind is.whole is.place is.size in
    let named = one_name is.counts.unicode is.user (name_in is.counts.unicode is.user) name (name_stands is.counts.unicode is.user) is.is in
    then_again (map_read counts_of (fields_at info_start bs)) is.counts is.texts texts_of (Ok (name, is.after))
    (ap (map_read counts_of) (text_is_read info_start bs is.values is.texts is.start) ∙ ap (λ k. Ok (k, is.texts)) is.counted)
    (ap (map_read (λ _. name_in is.counts.unicode (user_in is.counts is.texts))) (text_is_read (info_texts is.counts) is.texts [] is.after is.all)
    ∙ ap (λ u. Ok (name_in is.counts.unicode u, is.after)) user ∙ ap (λ n. Ok (n, is.after)) named)

-- ---- a PDU that is refused

abbrev no_info : List ℕ → Read (List ℕ)
no_info left = Err left

info_err : (bs left : List ℕ) → info_at bs ≡ Err left → HasFault bs left
unfolding info_at
info_err bs left e =
    elim (then_err (map_read counts_of (fields_at info_start bs)) texts_of left e) [
      | inl h ↦ inl (refused info_start bs left (map_err counts_of (fields_at info_start bs) left h))
      | inr a ↦
          let m = map_ok counts_of (fields_at info_start bs) a.0 a.1 in
          let h = map_err (λ _. name_in a.0.0.unicode (user_in a.0.0 a.0.1)) (fields_at (info_texts a.0.0) a.0.1) left a.2 in
          inr (
            m.0.0,
            a.0.1,
            subst (IsText info_start bs m.0.0) m.3 (read_is_text info_start bs m.0.0 m.0.1 m.1),
            refused (info_texts (counts_of m.0.0)) a.0.1 left (ap (λ k. fields_at (info_texts k) a.0.1) m.2 ∙ h),
          )
    ]

info_bad : (bs left : List ℕ) → HasFault bs left → info_at bs ≡ no_info left
unfolding info_at
info_bad bs left fault =
    elim fault [
      | inl h ↦ ap (λ r. then_read (map_read counts_of r) texts_of) (refusal_is_read info_start bs left h)
      | inr p ↦
          then_again (map_read counts_of (fields_at info_start bs)) (counts_of p.0) p.1 texts_of (no_info left)
          (ap (map_read counts_of) (text_is_read info_start bs p.0 p.1 p.2))
          (ap (map_read (λ _. name_in (counts_of p.0).unicode (user_in (counts_of p.0) p.1))) (refusal_is_read (info_texts (counts_of p.0)) p.1 left p.3))
    ]

-- the place is in the bytes
fault_end : (bs left : List ℕ) → HasFault bs left → Ends bs left
fault_end bs left fault =
    elim fault [
      | inl h ↦ places.place info_start bs left h
      | inr p ↦
          let t = text_end info_start bs p.0 p.1 p.2 in
          moved bs t.0 p.1 left t.1 (places.place (info_texts (counts_of p.0)) p.1 left p.3)
    ]

-- ---- as it is answered

abbrev answer : List ℕ → Read (List ℕ) → Result (List ℕ) InfoFault
answer bs r = placed BadInfo bs r

placed_ok : (bs : List ℕ) (r : Read (List ℕ)) (name : List ℕ) → answer bs r ≡ Ok name → (left : List ℕ) × (r ≡ Ok (name, left))
placed_ok bs (Ok v) name e = let same : v.0 ≡ name = cc in (v.1, ap (λ n. Ok (n, v.1)) same)
placed_ok bs (Err left) name e = absurd (let h : ⊥ = cc in h)

placed_err : (bs : List ℕ) (r : Read (List ℕ)) (at : ℕ) → answer bs r ≡ Err (BadInfo at) → (left : List ℕ) × (r ≡ Err left) × (place_in bs left ≡ at)
placed_err bs (Ok v) at e = absurd (let h : ⊥ = cc in h)
placed_err bs (Err left) at e = let same : place_in bs left ≡ at = cc in (left, refl, same)

pub info_is_text : (bs name : List ℕ) → name_of bs ≡ Ok name → IsClientInfo bs name
info_is_text bs name e = let p = placed_ok bs (info_at bs) name e in info_ok bs (name, p.0) p.1

pub text_is_info : (bs name : List ℕ) → IsClientInfo bs name → name_of bs ≡ Ok name
text_is_info bs name is = ap (answer bs) (info_again bs name is)

pub first_fault : (bs : List ℕ) (fault : InfoFault) → name_of bs ≡ Err fault → IsFirstFault bs fault
first_fault bs (BadInfo at) e =
    let p = placed_err bs (info_at bs) at e in
    let fault = info_err bs p.0 p.1 in
    let h = fault_end bs p.0 fault in
    record {
      front = h.0;
      left = p.0;
      whole = h.1;
      place = omega (arith, ap length h.1, length-append h.0 p.0, p.2);
      fault = fault;
    }

pub fault_is_told : (bs : List ℕ) (fault : InfoFault) → IsFirstFault bs fault → name_of bs ≡ Err fault
fault_is_told bs (BadInfo at) f =
    let place : place_in bs f.left ≡ at = omega (arith, ap length f.whole, length-append f.front f.left, f.place) in
    ap (answer bs) (info_bad bs f.left f.fault) ∙ ap (λ k. Err (BadInfo k)) place
