-- A text that is refused has its first field that isn't there at that place.
use Rattle.std.proofs.Common.{◌≡◌, ℕ, ◌<◌, ◌⊎◌, inl, inr, List, [], ◌∷◌, ◌++◌, length, refl, ap, sym, ◌∙◌, subst}
use Rattle.std.specs.Prelude.{Ok, Err}
use Rattle.std.proofs.lemmas.List.{length-take-le}
use Rattle.wire_num.specs.FieldValue.{passing_at, end_at, at_least, rest_count_at}
use Rattle.wire_num.specs.Field.{Read, then_read, map_read, bytes_at, wanted}
use Rattle.wire_num.specs.Number.{big_at, little_at}
use Rattle.wire_num.specs.Layout.{Count, count_at, Within, Counted, Length, AtLeast, CountsRest, Little, Big, Any, Bytes, Exactly, Content, Body, Rest, End, Open, Layout, exactly_at, before, fields_at}
use Rattle.wire_num.specs.Grammar.{IsCount, IsText}
use Rattle.wire_num.specs.Refusal.{IsSomeCount, IsPassingCount, TooFew, OtherCount, IsRefusedAt}
use Rattle.wire_num.proofs.Steps.{then_ok, map_ok}
use Rattle.wire_num.proofs.ReadIsText.{bytes_ok, passing_ok, wanted_ok, end_ok, exactly_ok, at_least_ok, rest_count_ok, count_ok, regroup, before_ok, read_is_text}
use Rattle.wire_num.proofs.TextIsRead.{exactly_again}
use Rattle.wire_num.proofs.Missing.{both, missing, bytes_err, end_err, at_least_err, exactly_err, IsWanted, IsSkipped, IsBig, IsLittle, CountsMore, IsTested}
use Rattle.wire_num.proofs.Missing.{wanted_exact, bytes_exact, big_exact, little_exact, rest_count_exact, count_exact, passing_count_exact}

-- ---- steps that refuse

pub step : {A : Type 0} (r : Read A) (f : A → List ℕ → Read (List ℕ)) (left : List ℕ) → then_read r f ≡ Err left
    → (r ≡ Err left) ⊎ ((v : A × List ℕ) × (r ≡ Ok v) × (f v.0 v.1 ≡ Err left))
step (Ok v) f left e = inr (v, refl, e)
step (Err l) f left e = let h : l ≡ left = cc in inl (ap Err h)

pub map_err : {A B : Type 0} (f : A → B) (r : Read A) (left : List ℕ) → map_read f r ≡ Err left → r ≡ Err left
map_err f (Ok v) left e = absurd (let h : ⊥ = cc in h)
map_err f (Err l) left e = let h : l ≡ left = cc in ap Err h

pub before_err : (after : List ℕ) (r : Read (List ℕ)) (left : List ℕ) → before after r ≡ Err left → (l : List ℕ) × (r ≡ Err l) × (l ++ after ≡ left)
before_err after (Ok v) left e = absurd (let h : ⊥ = cc in h)
before_err after (Err l) left e = (l, refl, (let h : l ++ after ≡ left = cc in h))

-- the fields inside of counted content, to its end; what is read behind them
abbrev pub inside : Layout → List ℕ → Read (List ℕ)
inside inner content = then_read (fields_at inner content) (λ vs rest. map_read (λ _. vs) (end_at rest))

abbrev pub behind_all : Layout → List ℕ → List ℕ → Read (List ℕ)
behind_all next vs after = map_read (λ more. vs ++ more) (fields_at next after)

abbrev pub content_then : Layout → Layout → List ℕ → List ℕ → Read (List ℕ)
content_then inner next content after = then_read (before after (inside inner content)) (λ vs rest. behind_all next vs rest)

abbrev pub counted_then : Layout → Layout → ℕ → List ℕ → Read (List ℕ)
counted_then inner next n rest = then_read (bytes_at n rest) (λ content after. content_then inner next content after)

-- ---- content

-- too few bytes stand behind a count
few : (IsCountOf : List ℕ → ℕ → Type 0) (bytes count rest left : List ℕ) (n : ℕ) → IsCountOf count n → bytes ≡ count ++ rest → bytes_at n rest ≡ Err left
    → TooFew IsCountOf bytes left
few IsCountOf bytes count rest left n is whole e =
    let s = bytes_err n rest left e in
    (count, n, is, whole ∙ ap (λ xs. count ++ xs) s.1, subst (λ xs. length xs < n) s.1 s.0)

-- another number of bytes stands behind a count
other : (form : Count) (bytes count rest left : List ℕ) (n : ℕ) → IsCount form count n → bytes ≡ count ++ rest → exactly_at n rest ≡ Err left → OtherCount form bytes left
other form bytes count rest left n is whole e =
    let l = exactly_err n rest left e in
    (count, n, is, whole ∙ ap (λ xs. count ++ xs) l, λ size. both (exactly_at n rest) (rest, []) left (ap (λ k. exactly_at k rest) (sym (ap length l ∙ size)) ∙ exactly_again rest) e)

-- counted bytes, and those behind them
record Parts (IsCountOf : List ℕ → ℕ → Type 0) (bytes count content after : List ℕ) : Type 0 where
  is : IsCountOf count (length content)
  whole : bytes ≡ count ++ (content ++ after)

parts : (IsCountOf : List ℕ → ℕ → Type 0) (bytes count rest content after : List ℕ) (n : ℕ) → IsCountOf count n → bytes ≡ count ++ rest
    → bytes_at n rest ≡ Ok (content, after)
    → Parts IsCountOf bytes count content after
parts IsCountOf bytes count rest content after n is whole e =
    let o = bytes_ok n rest (content, after) e in
    let size : length content ≡ n = ap length (sym o.1) ∙ length-take-le n rest o.0 in
    record {
      is = subst (IsCountOf count) (sym size) is;
      whole = whole ∙ ap (λ xs. count ++ xs) (regroup n rest after o.2 ∙ ap (λ xs. xs ++ after) o.1);
    }

-- fields that take all of their content
all_inside : (inner : Layout) (content : List ℕ) (y : List ℕ × List ℕ) → inside inner content ≡ Ok y → (own : List ℕ) × IsText inner content own []
all_inside inner content y e =
    let f = then_ok (fields_at inner content) (λ vs rest. map_read (λ _. vs) (end_at rest)) y e in
    let x = f.0 in
    let g = map_ok (λ _. x.0) (end_at x.1) y f.2 in
    let h = end_ok x.1 g.0 g.1 in
    (x.0, read_is_text inner content x.0 [] (f.1 ∙ ap (λ l. Ok (x.0, l)) h.0))

-- every refusal is at the first field that isn't there
pub refused : (layout : Layout) (bytes left : List ℕ) → fields_at layout bytes ≡ Err left → IsRefusedAt layout bytes left
refused Open bytes left e = absurd (let h : ⊥ = cc in h)
refused End bytes left e = let s = end_err bytes left e in (s.0, sym s.1)
refused Rest bytes left e = absurd (let h : ⊥ = cc in h)
refused (Body form) bytes left e =
    elim (step (count_at form bytes) (λ n rest. map_read (λ _. n ∷ []) (exactly_at n rest)) left e) [
      | inl h ↦ inl (missing (IsSomeCount form) (count_at form) (count_exact form) bytes left h)
      | inr p ↦
          let v = p.0 in
          let c = count_ok form bytes v p.1 in
          inr (other form bytes c.0 v.1 left v.0 c.1 c.2 (map_err (λ _. v.0 ∷ []) (exactly_at v.0 v.1) left p.2))
    ]
refused (Content form) bytes left e =
    elim (step (count_at form bytes) (λ n rest. then_read (bytes_at n rest) (λ _ after. map_read (λ _. n ∷ []) (end_at after))) left e) [
      | inl h ↦ inl (missing (IsSomeCount form) (count_at form) (count_exact form) bytes left h)
      | inr p ↦
          let v = p.0 in
          let c = count_ok form bytes v p.1 in
          elim (step (bytes_at v.0 v.1) (λ _ after. map_read (λ _. v.0 ∷ []) (end_at after)) left p.2) [
            | inl h ↦ inr (inl (few (IsCount form) bytes c.0 v.1 left v.0 c.1 c.2 h))
            | inr q ↦
                let w = q.0 in
                let t = parts (IsCount form) bytes c.0 v.1 w.0 w.1 v.0 c.1 c.2 q.1 in
                let s = end_err w.1 left (map_err (λ _. v.0 ∷ []) (end_at w.1) left q.2) in
                inr (inr (c.0, w.0, t.is, t.whole ∙ ap (λ xs. c.0 ++ (w.0 ++ xs)) s.1, subst (λ xs. 0 < length xs) s.1 s.0))
          ]
    ]
refused (Exactly form next) bytes left e =
    elim (step (count_at form bytes) (λ n rest. then_read (exactly_at n rest) (λ content _. fields_at next content)) left e) [
      | inl h ↦ inl (missing (IsSomeCount form) (count_at form) (count_exact form) bytes left h)
      | inr p ↦
          let v = p.0 in
          let c = count_ok form bytes v p.1 in
          elim (step (exactly_at v.0 v.1) (λ content _. fields_at next content) left p.2) [
            | inl h ↦ inr (inl (other form bytes c.0 v.1 left v.0 c.1 c.2 h))
            | inr q ↦
                let x = exactly_ok v.0 v.1 q.0 q.1 in
                inr (inr (c.0, v.1, subst (IsCount form c.0) (sym x.0) c.1, c.2, refused next v.1 left (ap (fields_at next) x.2 ∙ q.2)))
          ]
    ]
refused (Bytes ws next) bytes left e =
    elim (step (wanted ws bytes) (λ _ rest. fields_at next rest) left e) [
      | inl h ↦ inl (missing (IsWanted ws) (wanted ws) (wanted_exact ws) bytes left h)
      | inr p ↦ inr (p.0.1, wanted_ok ws bytes p.0 p.1, refused next p.0.1 left p.2)
    ]
refused (Any n next) bytes left e =
    elim (step (bytes_at n bytes) (λ _ rest. fields_at next rest) left e) [
      | inl h ↦ inl (missing (IsSkipped n) (bytes_at n) (bytes_exact n) bytes left h)
      | inr p ↦ let f = (bytes_exact n).found bytes p.0 p.1 in inr (f.0, p.0.1, f.2, f.1, refused next p.0.1 left p.2)
    ]
refused (Big n test next) bytes left e =
    elim (step (passing_at test (big_at n) bytes) (λ v rest. map_read (λ vs. v ∷ vs) (fields_at next rest)) left e) [
      | inl h ↦ inl (missing (IsBig n test) (passing_at test (big_at n)) (big_exact n test) bytes left h)
      | inr p ↦
          let v = p.0 in
          let f = (big_exact n test).found bytes v p.1 in
          inr (f.0, v.1, f.2.0, f.2.1, f.1, refused next v.1 left (map_err (λ vs. v.0 ∷ vs) (fields_at next v.1) left p.2))
    ]
refused (Little n test next) bytes left e =
    elim (step (passing_at test (little_at n) bytes) (λ v rest. map_read (λ vs. v ∷ vs) (fields_at next rest)) left e) [
      | inl h ↦ inl (missing (IsLittle n test) (passing_at test (little_at n)) (little_exact n test) bytes left h)
      | inr p ↦
          let v = p.0 in
          let f = (little_exact n test).found bytes v p.1 in
          inr (f.0, v.1, f.2.0, f.2.1, f.1, refused next v.1 left (map_err (λ vs. v.0 ∷ vs) (fields_at next v.1) left p.2))
    ]
refused (CountsRest next) bytes left e =
    elim (step (rest_count_at bytes) (λ _ rest. fields_at next rest) left e) [
      | inl h ↦ inl (missing CountsMore rest_count_at rest_count_exact bytes left h)
      | inr p ↦ inr (p.0.1, rest_count_ok bytes p.0 p.1, refused next p.0.1 left p.2)
    ]
refused (AtLeast n next) bytes left e =
    elim (step (at_least n bytes) (λ _ rest. fields_at next rest) left e) [
      | inl h ↦ let s = at_least_err n bytes left h in inl (s.0, sym s.1)
      | inr p ↦
          let o = at_least_ok n bytes p.0 p.1 in
          inr (o.0, refused next bytes left (ap (fields_at next) o.1 ∙ p.2))
    ]
refused (Length form next) bytes left e =
    elim (step (count_at form bytes) (λ _ rest. fields_at next rest) left e) [
      | inl h ↦ inl (missing (IsSomeCount form) (count_at form) (count_exact form) bytes left h)
      | inr p ↦
          let c = count_ok form bytes p.0 p.1 in
          inr (c.0, p.0.0, p.0.1, c.1, c.2, refused next p.0.1 left p.2)
    ]
refused (Counted form test next) bytes left e =
    elim (step (passing_at test (count_at form) bytes) (λ n rest. then_read (bytes_at n rest) (λ _ after. fields_at next after)) left e) [
      | inl h ↦ inl (missing (IsTested form test) (passing_at test (count_at form)) (passing_count_exact form test) bytes left h)
      | inr p ↦
          let v = p.0 in
          let u = passing_ok test (count_at form) bytes v p.1 in
          let c = count_ok form bytes v u.0 in
          elim (step (bytes_at v.0 v.1) (λ _ after. fields_at next after) left p.2) [
            | inl h ↦ inr (inl (few (IsPassingCount form test) bytes c.0 v.1 left v.0 (c.1, u.1) c.2 h))
            | inr q ↦
                let w = q.0 in
                let t = parts (IsPassingCount form test) bytes c.0 v.1 w.0 w.1 v.0 (c.1, u.1) c.2 q.1 in
                inr (inr (c.0, w.0, w.1, t.is, t.whole, refused next w.1 left q.2))
          ]
    ]
refused (Within form inner next) bytes left e =
    elim (step (count_at form bytes) (λ n rest. counted_then inner next n rest) left e) [
      | inl h ↦ inl (missing (IsSomeCount form) (count_at form) (count_exact form) bytes left h)
      | inr p ↦
          let v = p.0 in
          let c = count_ok form bytes v p.1 in
          elim (step (bytes_at v.0 v.1) (λ content after. content_then inner next content after) left p.2) [
            | inl h ↦ inr (inl (few (IsCount form) bytes c.0 v.1 left v.0 c.1 c.2 h))
            | inr q ↦
                let w = q.0 in
                let t = parts (IsCount form) bytes c.0 v.1 w.0 w.1 v.0 c.1 c.2 q.1 in
                elim (step (before w.1 (inside inner w.0)) (λ vs rest. behind_all next vs rest) left q.2) [
                  | inl h ↦
                      let b = before_err w.1 (inside inner w.0) left h in
                      elim (step (fields_at inner w.0) (λ vs rest. map_read (λ _. vs) (end_at rest)) b.0 b.1) [
                        | inl i ↦ inr (inr (c.0, w.0, w.1, t.is, t.whole, inl (b.0, refused inner w.0 b.0 i, sym b.2)))
                        | inr j ↦
                            let x = j.0 in
                            let s = end_err x.1 b.0 (map_err (λ _. x.0) (end_at x.1) b.0 j.2) in
                            inr (inr (
                              c.0,
                              w.0,
                              w.1,
                              t.is,
                              t.whole,
                              inr (inl (x.0, x.1, read_is_text inner w.0 x.0 x.1 j.1, s.0, sym b.2 ∙ ap (λ xs. xs ++ w.1) (sym s.1))),
                            ))
                      ]
                  | inr u ↦
                      let a = u.0 in
                      let b = before_ok w.1 (inside inner w.0) a u.1 in
                      let own = all_inside inner w.0 b.0 b.1 in
                      let next_err : fields_at next w.1 ≡ Err left = ap (fields_at next) b.3 ∙ map_err (λ more. a.0 ++ more) (fields_at next a.1) left u.2 in
                      inr (inr (c.0, w.0, w.1, t.is, t.whole, inr (inr (own.0, own.1, refused next w.1 left next_err))))
                ]
          ]
    ]
