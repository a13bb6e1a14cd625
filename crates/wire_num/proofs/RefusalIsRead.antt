-- A text whose first field that isn't there is at a place is refused at that place, which is in it.
use Rattle.std.proofs.Common.{◌≡◌, ℕ, inl, inr, List, [], ◌∷◌, ◌++◌, length, ap, sym, ◌∙◌}
use Rattle.std.specs.Prelude.{Ok, Err}
use Rattle.byteorder.specs.Endian.{big_number, little_number}
use Rattle.wire_num.specs.FieldValue.{passing_at, end_at, at_least, rest_count_at}
use Rattle.wire_num.specs.Field.{Read, then_read, map_read, bytes_at, wanted}
use Rattle.wire_num.specs.Number.{big_at, little_at}
use Rattle.wire_num.specs.Layout.{count_at, Within, Counted, Length, AtLeast, CountsRest, Little, Big, Any, Bytes, Exactly, Content, Body, Rest, End, Open, Layout, exactly_at, before, fields_at}
use Rattle.wire_num.specs.Grammar.{IsText}
use Rattle.wire_num.specs.Refusal.{IsSomeCount, IsRefusedAt}
use Rattle.wire_num.proofs.TextIsRead.{then_again, bytes_again, bytes_there, big_there, little_there, passing_again, wanted_again, end_again, at_least_again}
use Rattle.wire_num.proofs.TextIsRead.{exactly_again, rest_count_again, count_again, text_is_read}
use Rattle.wire_num.proofs.Missing.{both, refuses, bytes_short, at_least_short, end_over, exactly_other, IsWanted, IsSkipped, IsBig, IsLittle, CountsMore}
use Rattle.wire_num.proofs.Missing.{IsTested, wanted_exact, bytes_exact, big_exact, little_exact, rest_count_exact, count_exact, passing_count_exact}
use Rattle.wire_num.proofs.Refused.{inside, behind_all, content_then, counted_then}

abbrev no_text : List ℕ → Read (List ℕ)
no_text left = Err left

stop : {A : Type 0} (r : Read A) (f : A → List ℕ → Read (List ℕ)) (left : List ℕ) → r ≡ Err left → then_read r f ≡ no_text left
stop r f left e = ap (λ x. then_read x f) e

-- the first field that isn't there is where reading refuses
pub refusal_is_read : (layout : Layout) (bytes left : List ℕ) → IsRefusedAt layout bytes left → fields_at layout bytes ≡ no_text left
refusal_is_read Open bytes left p = absurd p
refusal_is_read End bytes left p = end_over bytes p.0 ∙ ap no_text (sym p.1)
refusal_is_read Rest bytes left p = absurd p
refusal_is_read (Body form) bytes left p =
    let tail : ℕ → List ℕ → Read (List ℕ) = λ n rest. map_read (λ _. n ∷ []) (exactly_at n rest) in
    elim p [
      | inl m ↦ stop (count_at form bytes) tail left (refuses (IsSomeCount form) (count_at form) (count_exact form) bytes left m)
      | inr q ↦
          ap (fields_at (Body form)) q.3
          ∙ then_again (count_at form (q.0 ++ left)) q.1 left tail (no_text left) (count_again form q.0 q.1 left q.2)
          (ap (map_read (λ _. q.1 ∷ [])) (exactly_other q.1 left q.4))
    ]
refusal_is_read (Content form) bytes left p =
    let after_all : ℕ → List ℕ → List ℕ → Read (List ℕ) = λ n _ after. map_read (λ _. n ∷ []) (end_at after) in
    let tail : ℕ → List ℕ → Read (List ℕ) = λ n rest. then_read (bytes_at n rest) (after_all n) in
    elim p [
      | inl m ↦ stop (count_at form bytes) tail left (refuses (IsSomeCount form) (count_at form) (count_exact form) bytes left m)
      | inr q ↦ elim q [
        | inl t ↦
            ap (fields_at (Content form)) t.3
            ∙ then_again (count_at form (t.0 ++ left)) t.1 left tail (no_text left) (count_again form t.0 t.1 left t.2)
            (stop (bytes_at t.1 left) (after_all t.1) left (bytes_short t.1 left t.4))
        | inr t ↦
            let count = t.0 in let content = t.1 in
            let size = length content in
            ap (fields_at (Content form)) t.3
            ∙ then_again (count_at form (count ++ (content ++ left))) size (content ++ left) tail (no_text left)
            (count_again form count size (content ++ left) t.2)
            (then_again (bytes_at size (content ++ left)) content left (after_all size) (no_text left) (bytes_again content left)
            (ap (map_read (λ _. size ∷ [])) (end_over left t.4)))
      ]
    ]
refusal_is_read (Exactly form next) bytes left p =
    let after_all : List ℕ → List ℕ → Read (List ℕ) = λ content _. fields_at next content in
    let tail : ℕ → List ℕ → Read (List ℕ) = λ n rest. then_read (exactly_at n rest) after_all in
    elim p [
      | inl m ↦ stop (count_at form bytes) tail left (refuses (IsSomeCount form) (count_at form) (count_exact form) bytes left m)
      | inr q ↦ elim q [
        | inl t ↦
            ap (fields_at (Exactly form next)) t.3
            ∙ then_again (count_at form (t.0 ++ left)) t.1 left tail (no_text left) (count_again form t.0 t.1 left t.2)
            (stop (exactly_at t.1 left) after_all left (exactly_other t.1 left t.4))
        | inr t ↦
            let count = t.0 in let content = t.1 in
            let size = length content in
            ap (fields_at (Exactly form next)) t.3
            ∙ then_again (count_at form (count ++ content)) size content tail (no_text left) (count_again form count size content t.2)
            (then_again (exactly_at size content) content [] after_all (no_text left) (exactly_again content) (refusal_is_read next content left t.4))
      ]
    ]
refusal_is_read (Bytes ws next) bytes left p =
    let tail : List ℕ → List ℕ → Read (List ℕ) = λ _ rest. fields_at next rest in
    elim p [
      | inl m ↦ stop (wanted ws bytes) tail left (refuses (IsWanted ws) (wanted ws) (wanted_exact ws) bytes left m)
      | inr q ↦
          ap (fields_at (Bytes ws next)) q.1
          ∙ then_again (wanted ws (ws ++ q.0)) [] q.0 tail (no_text left) (wanted_again ws q.0) (refusal_is_read next q.0 left q.2)
    ]
refusal_is_read (Any n next) bytes left p =
    let tail : List ℕ → List ℕ → Read (List ℕ) = λ _ rest. fields_at next rest in
    elim p [
      | inl m ↦ stop (bytes_at n bytes) tail left (refuses (IsSkipped n) (bytes_at n) (bytes_exact n) bytes left m)
      | inr q ↦
          ap (fields_at (Any n next)) q.3
          ∙ then_again (bytes_at n (q.0 ++ q.1)) q.0 q.1 tail (no_text left) (bytes_there n q.0 q.1 q.2) (refusal_is_read next q.1 left q.4)
    ]
refusal_is_read (Big n test next) bytes left p =
    let tail : ℕ → List ℕ → Read (List ℕ) = λ v rest. map_read (λ vs. v ∷ vs) (fields_at next rest) in
    elim p [
      | inl m ↦ stop (passing_at test (big_at n) bytes) tail left (refuses (IsBig n test) (passing_at test (big_at n)) (big_exact n test) bytes left m)
      | inr q ↦
          let v = big_number n q.0 in
          ap (fields_at (Big n test next)) q.4
          ∙ then_again (passing_at test (big_at n) (q.0 ++ q.1)) v q.1 tail (no_text left)
          (passing_again test (big_at n) (q.0 ++ q.1) v q.1 (big_there n q.0 q.1 q.2) q.3)
          (ap (map_read (λ vs. v ∷ vs)) (refusal_is_read next q.1 left q.5))
    ]
refusal_is_read (Little n test next) bytes left p =
    let tail : ℕ → List ℕ → Read (List ℕ) = λ v rest. map_read (λ vs. v ∷ vs) (fields_at next rest) in
    elim p [
      | inl m ↦
          stop (passing_at test (little_at n) bytes) tail left (refuses (IsLittle n test) (passing_at test (little_at n)) (little_exact n test) bytes left m)
      | inr q ↦
          let v = little_number n q.0 in
          ap (fields_at (Little n test next)) q.4
          ∙ then_again (passing_at test (little_at n) (q.0 ++ q.1)) v q.1 tail (no_text left)
          (passing_again test (little_at n) (q.0 ++ q.1) v q.1 (little_there n q.0 q.1 q.2) q.3)
          (ap (map_read (λ vs. v ∷ vs)) (refusal_is_read next q.1 left q.5))
    ]
refusal_is_read (CountsRest next) bytes left p =
    let tail : ℕ → List ℕ → Read (List ℕ) = λ _ rest. fields_at next rest in
    elim p [
      | inl m ↦ stop (rest_count_at bytes) tail left (refuses CountsMore rest_count_at rest_count_exact bytes left m)
      | inr q ↦
          ap (fields_at (CountsRest next)) q.1
          ∙ then_again (rest_count_at (length q.0 ∷ q.0)) (length q.0) q.0 tail (no_text left) (rest_count_again q.0) (refusal_is_read next q.0 left q.2)
    ]
refusal_is_read (AtLeast n next) bytes left p =
    let tail : List ℕ → List ℕ → Read (List ℕ) = λ _ rest. fields_at next rest in
    elim p [
      | inl m ↦ stop (at_least n bytes) tail left (at_least_short n bytes m.0 ∙ ap no_text (sym m.1))
      | inr q ↦ then_again (at_least n bytes) [] bytes tail (no_text left) (at_least_again n bytes q.0) (refusal_is_read next bytes left q.1)
    ]
refusal_is_read (Length form next) bytes left p =
    let tail : ℕ → List ℕ → Read (List ℕ) = λ _ rest. fields_at next rest in
    elim p [
      | inl m ↦ stop (count_at form bytes) tail left (refuses (IsSomeCount form) (count_at form) (count_exact form) bytes left m)
      | inr q ↦
          ap (fields_at (Length form next)) q.4
          ∙ then_again (count_at form (q.0 ++ q.2)) q.1 q.2 tail (no_text left) (count_again form q.0 q.1 q.2 q.3) (refusal_is_read next q.2 left q.5)
    ]
refusal_is_read (Counted form test next) bytes left p =
    let after_all : List ℕ → List ℕ → Read (List ℕ) = λ _ after. fields_at next after in
    let tail : ℕ → List ℕ → Read (List ℕ) = λ n rest. then_read (bytes_at n rest) after_all in
    let read : List ℕ → Read ℕ = passing_at test (count_at form) in
    elim p [
      | inl m ↦ stop (read bytes) tail left (refuses (IsTested form test) read (passing_count_exact form test) bytes left m)
      | inr q ↦ elim q [
        | inl t ↦
            ap (fields_at (Counted form test next)) t.3
            ∙ then_again (read (t.0 ++ left)) t.1 left tail (no_text left)
            (passing_again test (count_at form) (t.0 ++ left) t.1 left (count_again form t.0 t.1 left t.2.0) t.2.1)
            (stop (bytes_at t.1 left) after_all left (bytes_short t.1 left t.4))
        | inr t ↦
            let count = t.0 in let content = t.1 in let more = t.2 in
            let size = length content in
            let whole : List ℕ = count ++ (content ++ more) in
            ap (fields_at (Counted form test next)) t.4
            ∙ then_again (read whole) size (content ++ more) tail (no_text left)
            (passing_again test (count_at form) whole size (content ++ more) (count_again form count size (content ++ more) t.3.0) t.3.1)
            (then_again (bytes_at size (content ++ more)) content more after_all (no_text left) (bytes_again content more) (refusal_is_read next more left t.5))
      ]
    ]
refusal_is_read (Within form inner next) bytes left p =
    let tail : ℕ → List ℕ → Read (List ℕ) = λ n rest. counted_then inner next n rest in
    let in_content : List ℕ → List ℕ → Read (List ℕ) = λ content after. content_then inner next content after in
    elim p [
      | inl m ↦ stop (count_at form bytes) tail left (refuses (IsSomeCount form) (count_at form) (count_exact form) bytes left m)
      | inr q ↦ elim q [
        | inl t ↦
            ap (fields_at (Within form inner next)) t.3
            ∙ then_again (count_at form (t.0 ++ left)) t.1 left tail (no_text left) (count_again form t.0 t.1 left t.2)
            (stop (bytes_at t.1 left) in_content left (bytes_short t.1 left t.4))
        | inr t ↦
            let count = t.0 in let content = t.1 in let more = t.2 in
            let size = length content in
            let ends : List ℕ → List ℕ → Read (List ℕ) = λ vs rest. map_read (λ _. vs) (end_at rest) in
            let next_all : List ℕ → List ℕ → Read (List ℕ) = λ vs rest. behind_all next vs rest in
            ap (fields_at (Within form inner next)) t.4
            ∙ then_again (count_at form (count ++ (content ++ more))) size (content ++ more) tail (no_text left)
            (count_again form count size (content ++ more) t.3)
            (then_again (bytes_at size (content ++ more)) content more in_content (no_text left) (bytes_again content more)
            (elim t.5 [
              | inl i ↦
                  stop (before more (inside inner content)) next_all left
                  (ap (before more) (stop (fields_at inner content) ends i.0 (refusal_is_read inner content i.0 i.1)) ∙ ap no_text (sym i.2))
              | inr j ↦ elim j [
                | inl o ↦
                    stop (before more (inside inner content)) next_all left
                    (ap (before more) (then_again (fields_at inner content) o.0 o.1 ends (no_text o.1)
                    (text_is_read inner content o.0 o.1 o.2) (ap (map_read (λ _. o.0)) (end_over o.1 o.3)))
                    ∙ ap no_text (sym o.4))
                | inr o ↦
                    let all : inside inner content ≡ Ok (o.0, []) =
                    then_again (fields_at inner content) o.0 [] ends (Ok (o.0, []))
                    (text_is_read inner content o.0 [] o.1) (ap (map_read (λ _. o.0)) end_again) in
                    then_again (before more (inside inner content)) o.0 more next_all (no_text left)
                    (ap (before more) all) (ap (map_read (λ ws. o.0 ++ ws)) (refusal_is_read next more left o.2))
              ]
            ]))
      ]
    ]

-- no bytes are a text and refused
pub apart : (layout : Layout) (bytes values left place : List ℕ) → IsText layout bytes values left → IsRefusedAt layout bytes place → ⊥
apart layout bytes values left place t p =
    both (fields_at layout bytes) (values, left) place (text_is_read layout bytes values left t) (refusal_is_read layout bytes place p)
