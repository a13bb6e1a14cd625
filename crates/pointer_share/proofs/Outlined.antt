-- What is read of messages that bring a shape is its outline.
use Rattle.std.proofs.Common.{◌≡◌, ℕ, zero, suc, List, [], ◌∷◌, refl, ap, ◌∙◌}
use Rattle.std.specs.Prelude.{Bool, true, false, ◌==◌, nat_lt, is_some, Option, Some, None, Ok, Err, if◌then◌else◌}
use Rattle.std.proofs.lemmas.List.{length-map}
use Rattle.wire_num.specs.Field.{Read, then_read, map_read, bytes_at, ended}
use Rattle.wire_num.specs.Number.{little_at}
use Rattle.wire_num.specs.Caused.{Caused, caused, then_caused, map_caused}
use Rattle.draw_ops.specs.Slots.{Slots, lookup, filled_slot, empty_slots}
use Rattle.pointer_share.specs.declared.fault.Cause.{Cause}
use Rattle.pointer_share.specs.declared.fault.Cause.TheVariants.{Broken, Missing}
use Rattle.pointer_share.specs.declared.message.Sent.{Sent}
use Rattle.pointer_share.specs.declared.message.Sent.TheVariants.{Brings, Points}
use Rattle.frame_rules.specs.Pointers.{Shape}
use Rattle.frame_rules.specs.Told.{xor_size}
use Rattle.pointer_share.specs.Messages.{Message, fixed_at, brought_at, is_entry, is_filled, index_at, message_by, message_at}
use Rattle.pointer_share.specs.Messages.Message.{Brings as BringsShape, Points as PointsAt}
use Rattle.order_means.specs.PointerPackets.{compression_at}
use Rattle.pointer_share.specs.Views.{message_in}
use Rattle.pointer_share.specs.Outlines.{outline, outlined, outlines, outline_at, sent_brought, sent_by, sent_at, sent_in, sent_of}

-- ---- a function of what was read

under : {A B C : Type 0} (f : B → C) (r : Read A) (g : A → List ℕ → Read B) (h : A → List ℕ → Read C) → ((v : A) (more : List ℕ) → h v more ≡ map_read f (g v more)) → then_read r h ≡ map_read f (then_read r g)
under f (Ok v) g h e = e v.0 v.1
under f (Err left) g h e = refl

twice : {A B C : Type 0} (f : B → C) (g : A → B) (r : Read A) → map_read (λ a. f (g a)) r ≡ map_read f (map_read g r)
twice f g (Ok v) = refl
twice f g (Err left) = refl

under_caused : {D A B C : Type 0} (f : B → C) (r : Caused D A) (g : A → List ℕ → Caused D B) (h : A → List ℕ → Caused D C) → ((v : A) (more : List ℕ) → h v more ≡ map_caused f (g v more)) → then_caused r h ≡ map_caused f (then_caused r g)
under_caused f (Ok v) g h e = e v.0 v.1
under_caused f (Err d) g h e = refl

alike : {D A B : Type 0} (r : Caused D A) (g h : A → List ℕ → Caused D B) → ((v : A) (more : List ℕ) → g v more ≡ h v more) → then_caused r g ≡ then_caused r h
alike (Ok v) g h e = e v.0 v.1
alike (Err d) g h e = refl

joined : {D A B C : Type 0} (r : Caused D A) (g : A → List ℕ → Caused D B) (h : B → List ℕ → Caused D C) → then_caused (then_caused r g) h ≡ then_caused r (λ v more. then_caused (g v more) h)
joined (Ok v) g h = refl
joined (Err d) g h = refl

-- ---- cells

pub lookup_outline : (wide : Bool) (cells : Slots Shape) (i : ℕ) → lookup i (outlines wide cells) ≡ outlined wide (lookup i cells)
lookup_outline wide [] i = refl
lookup_outline wide (x ∷ xs) zero = refl
lookup_outline wide (x ∷ xs) (suc i) = lookup_outline wide xs i

pub filled_outline : (wide : Bool) (cells : Slots Shape) (i : ℕ) (s : Shape) → filled_slot i (outline wide s) (outlines wide cells) ≡ outlines wide (filled_slot i s cells)
filled_outline wide [] i s = refl
filled_outline wide (x ∷ xs) zero s = refl
filled_outline wide (x ∷ xs) (suc i) s = ap (λ ys. outlined wide x ∷ ys) (filled_outline wide xs i s)

pub empty_outlines : (wide : Bool) (n : ℕ) → empty_slots n ≡ outlines wide (empty_slots n)
empty_outlines wide zero = refl
empty_outlines wide (suc n) = ap (λ ys. None ∷ ys) (empty_outlines wide n)

some_outlined : (wide : Bool) (s : Option Shape) → is_some (outlined wide s) ≡ is_some s
some_outlined wide None = refl
some_outlined wide (Some s) = refl

entry_same : (wide : Bool) (cells : Slots Shape) (i : ℕ) → is_entry (outlines wide cells) i ≡ is_entry cells i
entry_same wide cells i = ap (nat_lt i) (length-map cells (outlined wide))

filled_same : (wide : Bool) (cells : Slots Shape) (i : ℕ) → is_filled (outlines wide cells) i ≡ is_filled cells i
filled_same wide cells i = ap is_some (lookup_outline wide cells i) ∙ some_outlined wide (lookup i cells)

-- ---- messages

outline_is : (wide : Bool) (bs : List ℕ) → outline_at wide bs ≡ map_read (outline wide) (brought_at wide bs)
outline_is wide bs =
    under (outline wide) (fixed_at wide bs) _ _ (λ fixed d. under (outline wide) (bytes_at (xor_size wide) d) _ _ (λ xor e.
    twice (outline wide) (λ mask. record { xor = xor; mask = mask }) (bytes_at 16 e)))

index_same : (s t : ℕ → Bool) (bs : List ℕ) → ((i : ℕ) → s i ≡ t i) → index_at s bs ≡ index_at t bs
index_same s t bs e = alike (caused Broken (little_at 2 bs)) _ _ (λ index rest. ap (λ b. if b then Ok (index, rest) else Err (Missing index, bs)) (e index))

brings_both : (wide : Bool) (index : ℕ) (r : Read Shape) → caused Broken (map_read (λ o. Brings index o) (map_read (outline wide) r)) ≡ map_caused (sent_of wide) (caused Broken (map_read (λ s. BringsShape index s) r))
brings_both wide index (Ok v) = refl
brings_both wide index (Err left) = refl

brought_is : (wide : Bool) (cells : Slots Shape) (bs : List ℕ) → sent_brought wide (outlines wide cells) bs
    ≡ map_caused (sent_of wide) (then_caused (index_at (is_entry cells) bs) (λ index rest. caused Broken (map_read (λ s. BringsShape index s) (brought_at wide rest))))
brought_is wide cells bs =
    ap (λ r. then_caused r (λ index rest. caused Broken (map_read (λ o. Brings index o) (outline_at wide rest)))) (index_same (is_entry (outlines wide cells)) (is_entry cells) bs (entry_same wide cells))
    ∙ under_caused (sent_of wide) (index_at (is_entry cells) bs) _ _ (λ index rest. ap (λ r. caused Broken (map_read (λ o. Brings index o) r)) (outline_is wide rest) ∙ brings_both wide index (brought_at wide rest))

points_both : (wide : Bool) (r : Caused Cause ℕ) → map_caused Points r ≡ map_caused (sent_of wide) (map_caused PointsAt r)
points_both wide (Ok v) = refl
points_both wide (Err d) = refl

points_is : (wide : Bool) (cells : Slots Shape) (bs : List ℕ) → map_caused Points (index_at (is_filled (outlines wide cells)) bs) ≡ map_caused (sent_of wide) (map_caused PointsAt (index_at (is_filled cells) bs))
points_is wide cells bs = ap (map_caused Points) (index_same (is_filled (outlines wide cells)) (is_filled cells) bs (filled_same wide cells)) ∙ points_both wide (index_at (is_filled cells) bs)

chosen : (f : Message → Sent) (a b : Bool) (whole : List ℕ) (x y : Caused Cause Sent) (p q : Caused Cause Message) → x ≡ map_caused f p → y ≡ map_caused f q
    → (if a then x else (if b then y else Err (Broken, whole))) ≡ map_caused f (if a then p else (if b then q else Err (Broken, whole)))
chosen f true b whole x y p q e g = e
chosen f false true whole x y p q e g = g
chosen f false false whole x y p q e g = refl

by_is : (wide : Bool) (cells : Slots Shape) (kind : ℕ) (whole bs : List ℕ) → sent_by wide (outlines wide cells) kind whole bs ≡ map_caused (sent_of wide) (message_by wide cells kind whole bs)
by_is wide cells kind whole bs = chosen (sent_of wide) (kind == 6) (kind == 7) whole _ _ _ _ (brought_is wide cells bs) (points_is wide cells bs)

ended_is : (f : Message → Sent) (m : Message) (bs : List ℕ) → caused Broken (ended (f m) bs) ≡ map_caused f (caused Broken (ended m bs))
ended_is f m [] = refl
ended_is f m (b ∷ bs) = refl

end_is : (f : Message → Sent) (r : Caused Cause Message) → then_caused (map_caused f r) (λ m b. caused Broken (ended m b)) ≡ map_caused f (then_caused r (λ m b. caused Broken (ended m b)))
end_is f (Ok v) = ended_is f v.0 v.1
end_is f (Err d) = refl

at_is : (wide : Bool) (cells : Slots Shape) (bs : List ℕ) → sent_at wide (outlines wide cells) bs ≡ map_caused (sent_of wide) (message_at wide cells bs)
at_is wide cells bs =
    joined (caused Broken (little_at 4 bs)) (λ kind a. sent_by wide (outlines wide cells) kind bs a) (λ m b. caused Broken (ended m b))
    ∙ under_caused (sent_of wide) (caused Broken (little_at 4 bs)) _ _ (λ kind a.
    ap (λ r. then_caused r (λ m b. caused Broken (ended m b))) (by_is wide cells kind bs a) ∙ end_is (sent_of wide) (message_by wide cells kind bs a))

pub in_is : (wide : Bool) (cells : Slots Shape) (bs : List ℕ) → sent_in wide (outlines wide cells) bs ≡ map_caused (sent_of wide) (message_in wide cells bs)
in_is wide cells bs = under_caused (sent_of wide) (caused Broken (compression_at bs)) _ _ (λ compression a. at_is wide cells a)
