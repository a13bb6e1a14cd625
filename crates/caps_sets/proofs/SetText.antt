-- A set that was read stands there, and one that stands there is read; a set is refused just where it is bad.
use Rattle.std.proofs.Common.{◌≡◌, ◌⊎◌, inl, inr, ℕ, ◌+◌, ◌-◌, ◌≤◌, ◌<◌, Bool, true, false, cond, List, [], ◌∷◌, ◌++◌, length, refl, ap, sym, ◌∙◌, subst, arith, length-append}
use Rattle.std.specs.Prelude.{nat_le, ◌&&◌, slice_index, Ok, Err}
use Rattle.std.proofs.lemmas.Bool.Decides.{nat_tests}
use Rattle.byteorder.specs.Endian.{little_number}
use Rattle.wire_num.specs.Field.{Read, then_read, map_read, bytes_at}
use Rattle.wire_num.specs.Layout.{fields_at}
use Rattle.wire_num.specs.Grammar.{IsText}
use Rattle.wire_num.proofs.Steps.{then_ok, map_ok}
use Rattle.wire_num.proofs.ReadIsText.{bytes_ok, regroup, read_is_text}
use Rattle.wire_num.proofs.TextIsRead.{then_again, bytes_there, text_is_read}
use Rattle.wire_num.proofs.Missing.{bytes_err}
use Rattle.wire_num.proofs.Refused.{refused}
use Rattle.wire_num.proofs.RefusalIsRead.{refusal_is_read}
use Rattle.caps_sets.specs.declared.sets_so_far.SetsSoFar.{SetsSoFar}
use Rattle.caps_sets.specs.declared.set_kind.SetKind.{SetKind}
use Rattle.caps_sets.specs.declared.set_kind.SetKind.TheVariants.{General, Bitmap, Order, BitmapCache, Pointer, Brush, GlyphCache, Other}
use Rattle.caps_sets.specs.CapabilitySets.{kind_of, least_length, with_set}
use Rattle.caps_sets.specs.ConfirmActive.{set_header, with_content_of, set_at}
use Rattle.caps_sets.specs.Grammar.{Set, kind_in, IsSet}
use Rattle.caps_sets.specs.Faults.{HasBadSet}
use Rattle.caps_sets.proofs.Sets.{content_size}

-- ---- steps

if_ok : {A : Type 0} (b : Bool) (r : Read A) (bs : List ℕ) (y : A × List ℕ) → cond b r (Err bs) ≡ Ok y → (b ≡ true) × (r ≡ Ok y)
if_ok true r bs y e = (refl, e)
if_ok false r bs y e = absurd (let h : ⊥ = cc in h)

if_err : {A : Type 0} (b : Bool) (r : Read A) (bs left : List ℕ) → cond b r (Err bs) ≡ Err left → (r ≡ Err left) ⊎ ((b ≡ false) × (left ≡ bs))
if_err true r bs left e = inl e
if_err false r bs left e = inr (refl, let h : bs ≡ left = cc in sym h)

pub then_err : {A B : Type 0} (r : Read A) (f : A → List ℕ → Read B) (left : List ℕ) → then_read r f ≡ Err left
    → (r ≡ Err left) ⊎ ((v : A × List ℕ) × (r ≡ Ok v) × (f v.0 v.1 ≡ Err left))
then_err (Ok v) f left e = inr (v, refl, e)
then_err (Err l) f left e = inl (let h : l ≡ left = cc in ap Err h)

pub map_err : {A B : Type 0} (f : A → B) (r : Read A) (left : List ℕ) → map_read f r ≡ Err left → r ≡ Err left
map_err f (Ok v) left e = absurd (let h : ⊥ = cc in h)
map_err f (Err l) left e = let h : l ≡ left = cc in ap Err h

header_fits : (kind : SetKind) → 4 ≤ least_length kind
header_fits General = omega arith
header_fits Bitmap = omega arith
header_fits Order = omega arith
header_fits BitmapCache = omega arith
header_fits Pointer = omega arith
header_fits Brush = omega arith
header_fits GlyphCache = omega arith
header_fits Other = omega arith

-- ---- a header has two numbers

two_numbers : (bs header more : List ℕ) → IsText set_header bs header more → (type : ℕ) × (size : ℕ) × (header ≡ type ∷ size ∷ [])
unfolding set_header
two_numbers bs header more t =
    let type = little_number 2 t.0 in
    let size = little_number 2 t.7.0 in
    (type, size, t.6 ∙ ap (λ xs. type ∷ xs) (t.7.6 ∙ ap (λ xs. size ∷ xs) t.7.7.0))

-- ---- the content that a length counts

record Content (n : ℕ) (kind : SetKind) (c : SetsSoFar) (more : List ℕ) (y : SetsSoFar × List ℕ) : Type 0 where
  content : List ℕ
  counts : n ≡ 4 + length content
  whole : more ≡ content ++ y.1
  least : least_length kind ≤ n
  says : y.0 ≡ with_set kind content c

content_ok : (n : ℕ) (kind : SetKind) (c : SetsSoFar) (bs more : List ℕ) (y : SetsSoFar × List ℕ) → with_content_of n kind c bs more ≡ Ok y → Content n kind c more y
unfolding with_content_of
content_ok n kind c bs more y e =
    let test : Bool = nat_le (least_length kind) n && nat_le n (4 + length more) in
    let i = if_ok test (map_read (λ content. with_set kind content c) (bytes_at (n - 4) more)) bs y e in
    let holds = i.0 in
    let m = map_ok (λ content. with_set kind content c) (bytes_at (n - 4) more) y i.1 in
    let there = bytes_ok (n - 4) more m.0 m.1 in
    let least : least_length kind ≤ n = grind (arith, nat_tests, holds) in
    let size = content_size (n - 4) more m.0.0 m.0.1 m.1 in
    record {
      content = m.0.0;
      counts = omega (arith, size, least, header_fits kind);
      whole = regroup (n - 4) more y.1 (there.2 ∙ m.3) ∙ ap (λ xs. xs ++ y.1) there.1;
      least = least;
      says = sym m.2;
    }

content_again : (kind : SetKind) (c : SetsSoFar) (bs content after : List ℕ) → least_length kind ≤ 4 + length content
    → with_content_of (4 + length content) kind c bs (content ++ after) ≡ Ok (with_set kind content c, after)
unfolding with_content_of
content_again kind c bs content after least =
    let n : ℕ = 4 + length content in
    let all = length-append content after in
    let fits : (nat_le (least_length kind) n && nat_le n (4 + length (content ++ after))) ≡ true = grind (arith, nat_tests, least, all) in
    ap (λ t. cond t (map_read (λ xs. with_set kind xs c) (bytes_at (n - 4) (content ++ after))) (Err bs)) fits
    ∙ ap (map_read (λ xs. with_set kind xs c)) (bytes_there (n - 4) content after (omega arith))

content_err : (n : ℕ) (kind : SetKind) (c : SetsSoFar) (bs more left : List ℕ) → with_content_of n kind c bs more ≡ Err left
    → ((n < least_length kind) ⊎ (4 + length more < n)) × (left ≡ bs)
unfolding with_content_of
content_err n kind c bs more left e = by (nat_le (least_length kind) n) (nat_le n (4 + length more)) refl refl e where
  tail : Read SetsSoFar
  tail = map_read (λ content. with_set kind content c) (bytes_at (n - 4) more)

  by : (low high : Bool) → nat_le (least_length kind) n ≡ low → nat_le n (4 + length more) ≡ high → cond (low && high) tail (Err bs) ≡ Err left
      → ((n < least_length kind) ⊎ (4 + length more < n)) × (left ≡ bs)
  by true true l h e =
      let short = bytes_err (n - 4) more left (map_err (λ content. with_set kind content c) (bytes_at (n - 4) more) left e) in
      let fits : n ≤ 4 + length more = grind (arith, nat_tests, h) in
      absurd (omega (arith, short.0, fits))
  by true false l h e = (inr (grind (arith, nat_tests, h)), let same : bs ≡ left = cc in sym same)
  by false high l h e = (inl (grind (arith, nat_tests, l)), let same : bs ≡ left = cc in sym same)

content_bad : (n : ℕ) (kind : SetKind) (c : SetsSoFar) (bs more : List ℕ) → (n < least_length kind) ⊎ (4 + length more < n) → with_content_of n kind c bs more ≡ Err bs
unfolding with_content_of
content_bad n kind c bs more bad =
    let fails : (nat_le (least_length kind) n && nat_le n (4 + length more)) ≡ false = elim bad [ inl low ↦ grind (arith, nat_tests, low) | inr high ↦ grind (arith, nat_tests, high) ] in
    ap (λ t. cond t (map_read (λ content. with_set kind content c) (bytes_at (n - 4) more)) (Err bs)) fails

-- ---- a set

abbrev set_tail : SetsSoFar → List ℕ → List ℕ → List ℕ → Read SetsSoFar
set_tail c bs header more = with_content_of (slice_index header 1) (kind_of (slice_index header 0)) c bs more

pub record SetRead (c : SetsSoFar) (bs : List ℕ) (y : SetsSoFar × List ℕ) : Type 0 where
  pub set : Set
  pub is : IsSet bs set y.1
  pub says : y.0 ≡ with_set (kind_in set) set.content c

-- a header with these two numbers, and the content that its length counts
read_by : (c : SetsSoFar) (bs header more : List ℕ) (y : SetsSoFar × List ℕ) (type size : ℕ) → IsText set_header bs header more → header ≡ type ∷ size ∷ []
    → Content size (kind_of type) c more y → SetRead c bs y
read_by c bs header more y type size t e p = record {
  set = record { type = type; content = p.content };
  is = record {
    header = subst (λ k. IsText set_header bs (type ∷ k ∷ []) (p.content ++ y.1)) p.counts
        (subst (λ xs. IsText set_header bs (type ∷ size ∷ []) xs) p.whole (subst (λ h. IsText set_header bs h more) e t));
    least = subst (λ k. least_length (kind_of type) ≤ k) p.counts p.least;
  };
  says = p.says;
}

pub set_ok : (c : SetsSoFar) (bs : List ℕ) (y : SetsSoFar × List ℕ) → set_at c bs ≡ Ok y → SetRead c bs y
unfolding set_at
set_ok c bs y e =
    let a = then_ok (fields_at set_header bs) (set_tail c bs) y e in
    let header = a.0.0 in
    let more = a.0.1 in
    let t = read_is_text set_header bs header more a.1 in
    let n = two_numbers bs header more t in
    read_by c bs header more y n.0 n.1 t n.2 (content_ok n.1 (kind_of n.0) c bs more y (sym (ap (λ h. set_tail c bs h more) n.2) ∙ a.2))

pub set_again : (c : SetsSoFar) (bs : List ℕ) (set : Set) (after : List ℕ) → IsSet bs set after → set_at c bs ≡ Ok (with_set (kind_in set) set.content c, after)
unfolding set_at
set_again c bs set after is =
    then_again (fields_at set_header bs) (set.type ∷ (4 + length set.content) ∷ []) (set.content ++ after) (set_tail c bs) (Ok (with_set (kind_in set) set.content c, after))
    (text_is_read set_header bs (set.type ∷ (4 + length set.content) ∷ []) (set.content ++ after) is.header)
    (content_again (kind_in set) c bs set.content after is.least)

pub set_err : (c : SetsSoFar) (bs left : List ℕ) → set_at c bs ≡ Err left → HasBadSet bs left
unfolding set_at
set_err c bs left e =
    elim (then_err (fields_at set_header bs) (set_tail c bs) left e) [
      | inl h ↦ inl (refused set_header bs left h)
      | inr p ↦
          let header = p.0.0 in
          let more = p.0.1 in
          let t = read_is_text set_header bs header more p.1 in
          let n = two_numbers bs header more t in
          let bad = content_err n.1 (kind_of n.0) c bs more left (sym (ap (λ h. set_tail c bs h more) n.2) ∙ p.2) in
          inr (n.0, n.1, more, subst (λ h. IsText set_header bs h more) n.2 t, bad.0, bad.1)
    ]

abbrev no_set_at : List ℕ → Read SetsSoFar
no_set_at left = Err left

pub set_bad : (c : SetsSoFar) (bs left : List ℕ) → HasBadSet bs left → set_at c bs ≡ Err left
unfolding set_at
set_bad c bs left bad =
    elim bad [
      | inl h ↦ ap (λ r. then_read r (set_tail c bs)) (refusal_is_read set_header bs left h)
      | inr p ↦
          then_again (fields_at set_header bs) (p.0 ∷ p.1 ∷ []) p.2 (set_tail c bs) (no_set_at left)
          (text_is_read set_header bs (p.0 ∷ p.1 ∷ []) p.2 p.3)
          (content_bad p.1 (kind_of p.0) c bs p.2 p.4 ∙ ap no_set_at (sym p.5))
    ]
