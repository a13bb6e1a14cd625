-- What is left of a text, and of one that is refused, is its end.
use Rattle.std.proofs.Common.{◌≡◌, ℕ, inl, inr, List, [], ◌∷◌, ◌++◌, length, ap, sym, ◌∙◌, append_assoc, append-nil}
use Rattle.wire_num.specs.Layout.{Layout, Open, End, Rest, Body, Content, Exactly, Bytes, Any, Big, Little, CountsRest, AtLeast, Length, Counted, Within}
use Rattle.wire_num.specs.Grammar.{IsText}
use Rattle.wire_num.specs.Refusal.{IsRefusedAt}

-- some bytes, and then these
abbrev pub Ends : List ℕ → List ℕ → Type 0
Ends bytes left = (front : List ℕ) × (bytes ≡ front ++ left)

pub at_once : (bytes left : List ℕ) → left ≡ bytes → Ends bytes left
at_once bytes left e = ([], sym e)

pub moved : (bytes front more left : List ℕ) → bytes ≡ front ++ more → Ends more left → Ends bytes left
moved bytes front more left e h = (front ++ h.0, e ∙ ap (λ xs. front ++ xs) h.1 ∙ sym (append_assoc front h.0 left))

all_read : (bytes left : List ℕ) → left ≡ [] → Ends bytes left
all_read bytes left e = (bytes, sym (append-nil bytes) ∙ ap (λ xs. bytes ++ xs) (sym e))

-- behind content, and in it
pub behind : (bytes count content more left : List ℕ) → bytes ≡ count ++ (content ++ more) → Ends more left → Ends bytes left
behind bytes count content more left e h = moved bytes (count ++ content) more left (e ∙ sym (append_assoc count content more)) h

pub within : (bytes count content more place left : List ℕ) → bytes ≡ count ++ (content ++ more) → Ends content place → left ≡ place ++ more → Ends bytes left
within bytes count content more place left e h p =
    moved bytes count (content ++ more) left e (h.0, ap (λ xs. xs ++ more) h.1 ∙ append_assoc h.0 place more ∙ ap (λ xs. h.0 ++ xs) (sym p))

pub text_end : (layout : Layout) (bytes values left : List ℕ) → IsText layout bytes values left → Ends bytes left
text_end Open bytes values left p = ([], p.1)
text_end End bytes values left p = ([], p.1 ∙ sym p.2)
text_end Rest bytes values left p = all_read bytes left p.1
text_end (Body form) bytes values left p = all_read bytes left p.5
text_end (Content form) bytes values left p = all_read bytes left p.5
text_end (Exactly form next) bytes values left p = moved bytes p.0 p.1 left p.3 (text_end next p.1 values left p.4)
text_end (Bytes ws next) bytes values left p = moved bytes ws p.0 left p.1 (text_end next p.0 values left p.2)
text_end (Any n next) bytes values left p = moved bytes p.0 p.1 left p.3 (text_end next p.1 values left p.4)
text_end (Big n test next) bytes values left p = moved bytes p.0 p.1 left p.5 (text_end next p.1 p.2 left p.7)
text_end (Little n test next) bytes values left p = moved bytes p.0 p.1 left p.5 (text_end next p.1 p.2 left p.7)
text_end (CountsRest next) bytes values left p = moved bytes (length p.0 ∷ []) p.0 left p.1 (text_end next p.0 values left p.2)
text_end (AtLeast n next) bytes values left p = text_end next bytes values left p.1
text_end (Length form next) bytes values left p = moved bytes p.0 p.2 left p.4 (text_end next p.2 values left p.5)
text_end (Counted form test next) bytes values left p = behind bytes p.0 p.1 p.2 left p.5 (text_end next p.2 values left p.6)
text_end (Within form inner next) bytes values left p = behind bytes p.0 p.1 p.2 left p.7 (text_end next p.2 p.4 left p.9)

-- a refusal is in the text
pub place : (layout : Layout) (bytes left : List ℕ) → IsRefusedAt layout bytes left → (front : List ℕ) × (bytes ≡ front ++ left)
place Open bytes left p = absurd p
place End bytes left p = at_once bytes left p.1
place Rest bytes left p = absurd p
place (Body form) bytes left p = elim p [ inl m ↦ at_once bytes left m.1 | inr q ↦ (q.0, q.3) ]
place (Content form) bytes left p =
    elim p [
      | inl m ↦ at_once bytes left m.1
      | inr q ↦ elim q [ inl t ↦ (t.0, t.3) | inr t ↦ (t.0 ++ t.1, t.3 ∙ sym (append_assoc t.0 t.1 left)) ]
    ]
place (Exactly form next) bytes left p =
    elim p [
      | inl m ↦ at_once bytes left m.1
      | inr q ↦ elim q [ inl t ↦ (t.0, t.3) | inr t ↦ moved bytes t.0 t.1 left t.3 (place next t.1 left t.4) ]
    ]
place (Bytes ws next) bytes left p = elim p [ inl m ↦ at_once bytes left m.1 | inr q ↦ moved bytes ws q.0 left q.1 (place next q.0 left q.2) ]
place (Any n next) bytes left p = elim p [ inl m ↦ at_once bytes left m.1 | inr q ↦ moved bytes q.0 q.1 left q.3 (place next q.1 left q.4) ]
place (Big n test next) bytes left p = elim p [ inl m ↦ at_once bytes left m.1 | inr q ↦ moved bytes q.0 q.1 left q.4 (place next q.1 left q.5) ]
place (Little n test next) bytes left p = elim p [ inl m ↦ at_once bytes left m.1 | inr q ↦ moved bytes q.0 q.1 left q.4 (place next q.1 left q.5) ]
place (CountsRest next) bytes left p = elim p [ inl m ↦ at_once bytes left m.1 | inr q ↦ moved bytes (length q.0 ∷ []) q.0 left q.1 (place next q.0 left q.2) ]
place (AtLeast n next) bytes left p = elim p [ inl m ↦ all_read bytes left m.1 | inr q ↦ place next bytes left q.1 ]
place (Length form next) bytes left p = elim p [ inl m ↦ at_once bytes left m.1 | inr q ↦ moved bytes q.0 q.2 left q.4 (place next q.2 left q.5) ]
place (Counted form test next) bytes left p =
    elim p [
      | inl m ↦ at_once bytes left m.1
      | inr q ↦ elim q [ inl t ↦ (t.0, t.3) | inr t ↦ behind bytes t.0 t.1 t.2 left t.4 (place next t.2 left t.5) ]
    ]
place (Within form inner next) bytes left p =
    elim p [
      | inl m ↦ at_once bytes left m.1
      | inr q ↦ elim q [
        | inl t ↦ (t.0, t.3)
        | inr t ↦ elim t.5 [
          | inl i ↦ within bytes t.0 t.1 t.2 i.0 left t.4 (place inner t.1 i.0 i.1) i.2
          | inr j ↦ elim j [
            | inl o ↦ within bytes t.0 t.1 t.2 o.1 left t.4 (text_end inner t.1 o.0 o.1 o.2) o.4
            | inr o ↦ behind bytes t.0 t.1 t.2 left t.4 (place next t.2 left o.2)
          ]
        ]
      ]
    ]
