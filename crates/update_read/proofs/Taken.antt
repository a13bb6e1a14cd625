-- A cutter that got bytes within a packet.
use Rattle.std.proofs.Common.{◌≡◌, ◌≤◌, ◌+◌, ◌*◌, ℕ, zero, suc, List, [], ◌∷◌, ◌++◌, length, length-append, append-nil, append_assoc, take, refl, ap, sym, subst, ◌∙◌, arith}
use Rattle.std.specs.Prelude.{Bool, Option, Some, None}
use Rattle.order_means.specs.Updates.{Cutting, cutting, Updates, updates, updates_from, before_updates, refusal_in}
use Rattle.std.proofs.lemmas.List.{length-take-le}
use Rattle.update_read.specs.declared.state.State.{State}
use Rattle.update_read.specs.declared.state.State.TheVariants.{Open, Update, Ended, Refused}
use Rattle.update_read.specs.Cutters.{fast_length, fast_stage, stage_of, length_or, IsOpen, IsFastOpen, IsMissing, Stands, GoesOn}
use Rattle.update_read.proofs.Judged.{goes_on}
use Rattle.update_read.proofs.FastJudged.{fast_goes_on, length_stays}

abbrev pub gone : ℕ → List ℕ → Updates
gone s packet = updates [] (cutting (s + length packet) (stage_of packet))

-- bytes that don't end a packet, of which the header is there
pub slow_from : (fast : Bool) (s a b h l : ℕ) (rest xs : List ℕ) → 5 + length rest + length xs ≤ 256 * h + l → 256 * h + l ≤ 65535 →
    updates_from fast (cutting (s + length (suc a ∷ b ∷ h ∷ l ∷ rest)) (stage_of (suc a ∷ b ∷ h ∷ l ∷ rest))) xs ≡ gone s (suc a ∷ b ∷ h ∷ l ∷ (rest ++ xs))
slow_from fast s a b h l rest [] fits most = ap (λ (r : List ℕ). gone s (suc a ∷ b ∷ h ∷ l ∷ r)) (sym (append-nil rest))
slow_from fast s a b h l rest (x ∷ xs) fits most =
    let size : length (rest ++ x ∷ []) ≡ length rest + 1 = length-append rest (x ∷ []) in
    let long : length (x ∷ xs) ≡ length xs + 1 = omega arith in
    let on = goes_on fast s (suc a ∷ b ∷ h ∷ l ∷ (rest ++ x ∷ [])) (suc a ∷ b ∷ h ∷ l ∷ rest) x refl (omega (arith, fits, long), most) (omega arith) most
    (λ four. absurd (omega (arith, size, four))) (λ whole. absurd (omega (arith, size, fits, long, whole))) (λ first. absurd (let is : suc a ≡ 0 = first in omega (arith, is))) in
    ap (λ (u : Updates). before_updates u.bodies (updates_from fast u.next xs)) on.0
    ∙ slow_from fast s a b h l (rest ++ x ∷ []) xs (omega (arith, size, fits, long)) most
    ∙ ap (λ (r : List ℕ). gone s (suc a ∷ b ∷ h ∷ l ∷ r)) (append_assoc rest (x ∷ []) xs)

-- the same of one of the fast path
pub fast_from : (fast : Bool) (s : ℕ) (bs xs : List ℕ) (m : ℕ × ℕ) → fast_length (zero ∷ bs) ≡ Some m → IsOpen (zero ∷ bs) → length (zero ∷ bs) + 1 + length xs ≤ m.1 → m.1 ≤ 32767 →
    (updates_from fast (cutting (s + length (zero ∷ bs)) (stage_of (zero ∷ bs))) xs ≡ gone s (zero ∷ (bs ++ xs))) × IsOpen (zero ∷ (bs ++ xs))
fast_from fast s bs [] m e sound fits most = (ap (λ (r : List ℕ). gone s (zero ∷ r)) (sym (append-nil bs)), subst (λ (r : List ℕ). IsOpen (zero ∷ r)) (sym (append-nil bs)) sound)
fast_from fast s bs (x ∷ xs) m e sound fits most =
    let size : length (bs ++ x ∷ []) ≡ length bs + 1 = length-append bs (x ∷ []) in
    let long : length (x ∷ xs) ≡ length xs + 1 = omega arith in
    let there : fast_length (zero ∷ (bs ++ x ∷ [])) ≡ Some m = length_stays (zero ∷ bs) (x ∷ []) m e in
    let on = fast_goes_on fast s (zero ∷ (bs ++ x ∷ [])) (zero ∷ bs) x m refl refl there sound most (omega (arith, size, fits, long)) in
    let more = fast_from fast s (bs ++ x ∷ []) xs m there on.1 (omega (arith, size, fits, long)) most in (
      ap (λ (u : Updates). before_updates u.bodies (updates_from fast u.next xs)) on.0 ∙ more.0 ∙ ap (λ (r : List ℕ). gone s (zero ∷ r)) (append_assoc bs (x ∷ []) xs),
      subst (λ (r : List ℕ). IsOpen (zero ∷ r)) (append_assoc bs (x ∷ []) xs) more.1,
    )

fast_further : (o : Option (ℕ × ℕ)) (fast : Bool) (s : ℕ) (bs xs : List ℕ) → fast_length (zero ∷ bs) ≡ o → IsOpen (zero ∷ bs) → length (zero ∷ bs) + 1 + length xs ≤ length_or o →
    (updates_from fast (cutting (s + length (zero ∷ bs)) (stage_of (zero ∷ bs))) xs ≡ gone s (zero ∷ (bs ++ xs))) × IsOpen (zero ∷ (bs ++ xs))
fast_further None fast s bs xs e sound fits = absurd (omega (arith, fits))
fast_further (Some m) fast s bs xs e sound fits =
    let most = (subst (λ (o : Option (ℕ × ℕ)). IsFastOpen o (zero ∷ bs)) e sound).2 in
    fast_from fast s bs xs m e sound fits most

goes_further : (fast : Bool) (s : ℕ) (packet xs : List ℕ) → IsOpen packet → IsMissing packet (length xs) →
    (updates_from fast (cutting (s + length packet) (stage_of packet)) xs ≡ gone s (packet ++ xs)) × IsOpen (packet ++ xs)
goes_further fast s [] xs fits missing = absurd (omega (arith, missing))
goes_further fast s (zero ∷ bs) xs fits missing = fast_further (fast_length (zero ∷ bs)) fast s bs xs refl fits missing
goes_further fast s (suc a ∷ []) xs fits missing = absurd (omega (arith, missing))
goes_further fast s (suc a ∷ b ∷ []) xs fits missing = absurd (omega (arith, missing))
goes_further fast s (suc a ∷ b ∷ h ∷ []) xs fits missing = absurd (omega (arith, missing))
goes_further fast s (suc a ∷ b ∷ h ∷ l ∷ rest) xs fits missing =
    let size : length (rest ++ xs) ≡ length rest + length xs = length-append rest xs in
    (slow_from fast s a b h l rest xs (omega (arith, missing)) fits.1, (omega (arith, missing, size), fits.1))

fast_unrefused : (o : Option (ℕ × ℕ)) (packet : List ℕ) → refusal_in (fast_stage o packet) ≡ None
fast_unrefused None [] = refl
fast_unrefused None (v ∷ []) = refl
fast_unrefused None (v ∷ l ∷ bs) = refl
fast_unrefused (Some m) packet = refl

-- a packet that goes on isn't refused
pub open_stage : (packet : List ℕ) → refusal_in (stage_of packet) ≡ None
open_stage [] = refl
open_stage (zero ∷ bs) = fast_unrefused (fast_length (zero ∷ bs)) (zero ∷ bs)
open_stage (suc a ∷ []) = refl
open_stage (suc a ∷ b ∷ []) = refl
open_stage (suc a ∷ b ∷ h ∷ []) = refl
open_stage (suc a ∷ b ∷ h ∷ l ∷ rest) = refl

-- a cutter in a packet took bytes
pub taken : (fast : Bool) (c : Cutting) (packet xs : List ℕ) (start : ℕ) → IsMissing packet (length xs) → Stands c (record { fast = fast; start = start; packet = packet; state = Open }) →
    GoesOn c (updates_from fast c xs) (record { fast = fast; start = start; packet = packet ++ xs; state = Open })
taken fast c packet xs start missing stands =
    let s : ℕ = stands.0 in
    let here : c ≡ cutting (s + length packet) (stage_of packet) = ap (λ (u : Updates). u.next) stands.2.0 in
    let further = goes_further fast s packet xs stands.2.1 missing in
    let e : updates_from fast c xs ≡ gone s (packet ++ xs) = ap (λ (x : Cutting). updates_from fast x xs) here ∙ further.0 in (
      ap (λ (u : Updates). u.bodies) e,
      (s, stands.1, (ap (λ (u : Updates). updates [] u.next) e, further.1)),
      λ none. ap (λ (u : Updates). refusal_in u.next.stage) e ∙ open_stage (packet ++ xs),
    )

-- ---- in the cutter's buffer

fewer : (packet : List ℕ) (m n k : ℕ) → IsMissing packet m → n ≤ m → k ≡ n → IsMissing packet k
fewer packet m n k missing less is = omega (arith, missing, less, is)

pub taken_by : (state : State) (fast : Bool) (items all : List ℕ) (start count m n : ℕ) (bytes : List ℕ) (c : Cutting) → state ≡ Open → IsMissing (take count items) m → n ≤ m → n ≤ length bytes →
    take (count + length (take n bytes)) all ≡ take count items ++ take n bytes → Stands c (record { fast = fast; start = start; packet = take count items; state = state }) →
    GoesOn c (updates_from fast c (take n bytes)) (record { fast = fast; start = start; packet = take (count + n) all; state = state })
taken_by Open fast items all start count m n bytes c is missing less within e stands =
    let size = length-take-le n bytes within in
    subst (λ (p : List ℕ). GoesOn c (updates_from fast c (take n bytes)) (record { fast = fast; start = start; packet = p; state = Open })) (sym (ap (λ (k : ℕ). take (count + k) all) (sym size) ∙ e))
    (taken fast c (take count items) (take n bytes) start (fewer (take count items) m n (length (take n bytes)) missing less size) stands)
taken_by (Update found) fast items all start count m n bytes c is missing less within e stands = absurd (let no : ⊥ = cc in no)
taken_by Ended fast items all start count m n bytes c is missing less within e stands = absurd (let no : ⊥ = cc in no)
taken_by (Refused at) fast items all start count m n bytes c is missing less within e stands = absurd (let no : ⊥ = cc in no)

-- none were taken
pub none_taken : (fast : Bool) (c : Cutting) (start : ℕ) (packet : List ℕ) (state : State) (n : ℕ) (bytes : List ℕ) → n ≡ 0 → Stands c (record { fast = fast; start = start; packet = packet; state = state }) →
    GoesOn c (updates_from fast c (take n bytes)) (record { fast = fast; start = start; packet = packet; state = state })
none_taken fast c start packet state n bytes e stands =
    subst (λ (k : ℕ). GoesOn c (updates_from fast c (take k bytes)) (record { fast = fast; start = start; packet = packet; state = state })) (sym e) (refl, stands, λ none. none)
