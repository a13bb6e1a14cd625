-- The bytes of an order's fields, apart from its counted ones.
use Rattle.std.proofs.Common.{◌≡◌, ℕ, ℤ, List, [], ◌∷◌, ◌++◌, refl, ap, sym, ◌∙◌, append_assoc, Bool, true, false}
use Rattle.std.specs.Prelude.{◌&&◌, not}
use Rattle.std.proofs.lemmas.Bool.{false≢true, or_parts}
use Rattle.order_fields.specs.declared.kind.FieldKind.{FieldKind}
use Rattle.order_fields.specs.declared.kind.FieldKind.TheVariants.{Coordinate, Number, Signed, Color}
use Rattle.order_fields.specs.OrderDelta.{Field, is_coordinate, is_present_coordinate, is_unchanged, unless_same, value_bytes, field_bytes, counted_bytes, present_bytes, any_coordinate, all_near, takes_deltas}

-- the counted bytes stand behind the fields
pub counted_behind : (fs : List Field) (delta keeps : Bool) (bytes : List ℕ) → present_bytes fs delta keeps bytes ≡ present_bytes fs delta true [] ++ counted_bytes keeps bytes
counted_behind [] delta keeps bytes = refl
counted_behind (f ∷ fs) delta keeps bytes =
    ap (λ r. field_bytes delta f ++ r) (counted_behind fs delta keeps bytes) ∙ sym (append_assoc (field_bytes delta f) (present_bytes fs delta true []) (counted_bytes keeps bytes))

-- a field that is no coordinate, or doesn't stand there, is the same in both forms
same_value : (k : FieldKind) (same : Bool) (last z : ℤ) → (is_coordinate k && not same) ≡ false → unless_same same (value_bytes k true last z) ≡ unless_same same (value_bytes k false last z)
same_value Coordinate true last z h = refl
same_value Coordinate false last z h = absurd (false≢true (sym h))
same_value (Number n) same last z h = refl
same_value Signed same last z h = refl
same_value Color same last z h = refl

-- without a coordinate both forms are the same
pub no_coordinate : (fs : List Field) → any_coordinate fs ≡ false → present_bytes fs true true [] ≡ present_bytes fs false true []
no_coordinate [] h = refl
no_coordinate (f ∷ fs) h =
    let here = same_value f.kind (is_unchanged f) f.last f.value ((or_parts (is_present_coordinate f) (any_coordinate fs) h).0) in
    let later = no_coordinate fs ((or_parts (is_present_coordinate f) (any_coordinate fs) h).1) in
    ap (λ b. b ++ present_bytes fs true true []) here ∙ ap (λ r. field_bytes false f ++ r) later

form_by : (fs : List Field) (any : Bool) → any_coordinate fs ≡ any → present_bytes fs true true [] ≡ present_bytes fs (any && true) true []
form_by fs true h = refl
form_by fs false h = no_coordinate fs h

-- where all fields are near, the delta form is as good as the one that is taken
pub near_form : (fs : List Field) → all_near fs ≡ true → present_bytes fs true true [] ≡ present_bytes fs (takes_deltas fs) true []
near_form fs near = rw near (form_by fs (any_coordinate fs) refl)

-- an order's parts, each put before the others, and its counted bytes behind them
pub whole_tail : (a b d : List ℕ) (fs : List Field) (delta keeps : Bool) (bytes t0 t1 t2 t3 : List ℕ) → t0 ≡ present_bytes fs delta true [] → t1 ≡ d ++ t0 → t2 ≡ b ++ t1 → t3 ≡ a ++ t2 →
    t3 ++ counted_bytes keeps bytes ≡ a ++ (b ++ (d ++ present_bytes fs delta keeps bytes))
whole_tail a b d fs delta keeps bytes t0 t1 t2 t3 e0 e1 e2 e3 =
    let p = present_bytes fs delta true [] in
    let k = counted_bytes keeps bytes in
    let all : t3 ≡ a ++ (b ++ (d ++ p)) = e3 ∙ ap (λ t. a ++ t) (e2 ∙ ap (λ t. b ++ t) (e1 ∙ ap (λ t. d ++ t) e0)) in
    let behind : (d ++ p) ++ k ≡ d ++ present_bytes fs delta keeps bytes = append_assoc d p k ∙ ap (λ t. d ++ t) (sym (counted_behind fs delta keeps bytes)) in
    let further : (b ++ (d ++ p)) ++ k ≡ b ++ (d ++ present_bytes fs delta keeps bytes) = append_assoc b (d ++ p) k ∙ ap (λ t. b ++ t) behind in
    ap (λ t. t ++ k) all ∙ (append_assoc a (b ++ (d ++ p)) k ∙ ap (λ t. a ++ t) further)
