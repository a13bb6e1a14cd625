-- Readers one after the other.
use Rattle.std.proofs.Common.{◌≡◌, ℕ, List, [], ◌∷◌, ◌++◌, refl, ap, sym, ◌∙◌, subst, Some, None, append_assoc, Bool, true, false}
use Rattle.std.specs.Prelude.{Option, ℤ, pos, option_map, if◌then◌else◌}
use Rattle.std.specs.Option.{option_and_then}
use Rattle.std.proofs.lemmas.List.{append-nil}
use Rattle.px_core.specs.declared.rectangle.Rect.{Rect}
use Rattle.draw_ops.specs.declared.shape.Shape.{Shape}
use Rattle.draw_ops.specs.declared.shape.Drawing.{Drawing}
use Rattle.script_rules.specs.Fields.{Field, Values, values_of, rect_fields, rect_alone, rect_of, is_clip_word, with_clip}
use Rattle.script_lines.specs.Reading.{with_values, Reads, ReadsNone, drawing_of, numbers_of, clip_of}

values_both : (ns ms : List ℤ) (o : Option Values) → option_map (with_values ns) (option_map (with_values ms) o) ≡ option_map (with_values (ns ++ ms)) o
values_both ns ms None = refl
values_both ns ms (Some vs) = ap (λ xs. let v : Values = record { numbers = xs; words = vs.words } in Some v) (sym (append_assoc ns ms vs.numbers))

-- fields and then more of them
pub then_reads : {fs gs : List Field} {ns ms : List ℤ} {old mid new : List (List ℕ)} → Reads fs ns old mid → Reads gs ms mid new → Reads (fs ++ gs) (ns ++ ms) old new
then_reads {fs} {gs} {ns} {ms} {old} {mid} {new} first second = record {
  values = λ more. ap (λ x. values_of x old) (append_assoc fs gs more) ∙ first.values (gs ++ more) ∙ ap (option_map (with_values ns)) (second.values more) ∙ values_both ns ms (values_of more new);
}

pub then_none : {fs gs : List Field} {ns : List ℤ} {old mid : List (List ℕ)} → Reads fs ns old mid → ReadsNone gs mid → ReadsNone (fs ++ gs) old
then_none {fs} {gs} {ns} {old} {mid} first second = record {
  none = λ more. ap (λ x. values_of x old) (append_assoc fs gs more) ∙ first.values (gs ++ more) ∙ ap (option_map (with_values ns)) (second.none more);
}

-- the first fields aren't there
pub none_first : {fs : List Field} {old : List (List ℕ)} (gs : List Field) → ReadsNone fs old → ReadsNone (fs ++ gs) old
none_first {fs} {old} gs first = record {
  none = λ more. ap (λ x. values_of x old) (append_assoc fs gs more) ∙ first.none (gs ++ more);
}

-- ---- drawings

-- words that aren't the fields draw nothing
pub no_drawing : {fields : List Field} {words : List (List ℕ)} (ends : Shape → List (List ℕ) → Option Drawing) (make : List ℤ → Option Shape) → ReadsNone fields words → drawing_of ends fields make words ≡ None
no_drawing {fields} {words} ends make r =
    ap (λ o. option_and_then (λ vs. option_and_then (λ shape. ends shape vs.words) (make vs.numbers)) o) (ap (λ x. values_of x words) (sym (append-nil fields)) ∙ r.none [])

-- the fields, and then what may stand after them
pub drawn : {fields : List Field} {numbers : List ℤ} {old new : List (List ℕ)} {shape : Shape} (ends : Shape → List (List ℕ) → Option Drawing) (make : List ℤ → Option Shape)
    → Reads fields numbers old new → make numbers ≡ Some shape → drawing_of ends fields make old ≡ ends shape new
drawn {fields} {numbers} {old} {new} {shape} ends make r e =
    ap (λ o. option_and_then (λ vs. option_and_then (λ s. ends s vs.words) (make vs.numbers)) o)
    (ap (λ x. values_of x old) (sym (append-nil fields)) ∙ r.values [] ∙ ap (λ ns. let vs : Values = record { numbers = ns; words = new } in Some vs) (append-nil numbers))
    ∙ ap (λ o. option_and_then (λ s. ends s new) o) e

-- ---- numbers of a point and of a rectangle

-- the same numbers
pub reads_same : {fields : List Field} {ns ms : List ℤ} {old new : List (List ℕ)} → Reads fields ns old new → ns ≡ ms → Reads fields ms old new
reads_same {fields} {ns} {ms} {old} {new} r e = subst (λ xs. Reads fields xs old new) e r

pub same_point : {x y z w : ℤ} → x ≡ z → y ≡ w → (x ∷ y ∷ []) ≡ (z ∷ w ∷ [])
same_point {x} {y} {z} {w} ex ey = ap (λ a. a ∷ y ∷ []) ex ∙ ap (λ b. z ∷ b ∷ []) ey

pub same_rect : {x y z w : ℤ} {a b c d : ℕ} → x ≡ z → y ≡ w → a ≡ c → b ≡ d → (x ∷ y ∷ pos a ∷ pos b ∷ []) ≡ (z ∷ w ∷ pos c ∷ pos d ∷ [])
same_rect {x} {y} {z} {w} {a} {b} {c} {d} ex ey ea eb =
    ap (λ n. n ∷ y ∷ pos a ∷ pos b ∷ []) ex ∙ ap (λ n. z ∷ n ∷ pos a ∷ pos b ∷ []) ey ∙ ap (λ n. z ∷ w ∷ pos n ∷ pos b ∷ []) ea ∙ ap (λ n. z ∷ w ∷ pos c ∷ pos n ∷ []) eb

-- ---- clips

-- words that aren't a rectangle's fields are no rectangle
pub no_rect : {words : List (List ℕ)} → ReadsNone rect_fields words → rect_of words ≡ None
no_rect {words} r = ap (option_and_then (λ vs. rect_alone vs.numbers vs.words)) (r.none [])

-- a rectangle's fields, with what is left after them
pub rect_read : {words rest : List (List ℕ)} {r : Rect} → Reads rect_fields (numbers_of r) words rest → rect_of words ≡ rect_alone (numbers_of r) rest
rect_read {words} {rest} {r} reads = ap (option_and_then (λ vs. rect_alone vs.numbers vs.words)) (reads.values [])

-- a shape's clip is that of the words
pub clip_is : (shape : Shape) (words : List (List ℕ)) → with_clip shape words ≡ option_map (λ clip. record { shape = shape; clip = clip }) (clip_of words)
clip_is shape [] = refl
clip_is shape (word ∷ words) = by (is_clip_word word) (rect_of words)
  where
    by : (b : Bool) (o : Option Rect) → (if b then option_map (λ clip. let d : Drawing = record { shape = shape; clip = Some clip } in d) o else None)
        ≡ option_map (λ clip. let d : Drawing = record { shape = shape; clip = clip } in d) (if b then option_map (λ clip. Some clip) o else None)
    by true None = refl
    by true (Some r) = refl
    by false o = refl
