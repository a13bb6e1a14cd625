-- A cutter that got a further byte, or that went on to a further update.
use Rattle.std.proofs.Common.{◌≡◌, ◌≤◌, ◌<◌, ◌+◌, ℕ, zero, suc, List, [], ◌∷◌, ◌++◌, length, take, refl, ap, sym, subst, ◌∙◌, arith}
use Rattle.std.specs.Prelude.{Option, Some, None}
use Rattle.std.proofs.lemmas.List.{length-take-le}
use Rattle.order_means.specs.Updates.{Cutting, Updates, updates_by}
use Rattle.order_means.specs.Updates.Stage.{Between}
use Rattle.update_read.specs.declared.state.State.{State}
use Rattle.update_read.specs.declared.state.State.TheVariants.{Open, Update, Ended, Refused}
use Rattle.update_read.specs.Cutters.{capped, CutterOf, fast_length, IsOpen, IsFastOpen, Tells, Stands, Gives, IsSoundBy, place_after}
use Rattle.update_read.proofs.Judged.{after_byte}

-- what the packet's judgement says of its front and its last byte
abbrev pub Judged : CutterOf → Type 0
Judged new = (s : ℕ) (front : List ℕ) (b : ℕ) → new.packet ≡ front ++ b ∷ [] → IsOpen front → new.start ≡ capped s → Tells new.state (after_byte new.fast s front b) s new.packet

-- the bytes before the new one, and where their packet begins
pub pushed_by : (state : State) (items : List ℕ) (start count b : ℕ) (new : CutterOf) (c : Cutting) → ((at : ℕ) → state ≡ Refused at → ⊥) → count ≤ length items → Judged new
    → new.packet ≡ take (place_after state start count).1 items ++ b ∷ [] → new.start ≡ (place_after state start count).0 → Stands c (record { fast = new.fast; start = start; packet = take count items; state = state })
    → Gives (updates_by new.fast c.place c.stage b) new
pushed_by Open items start count b new c not room judged packet first stands =
    let s : ℕ = stands.0 in
    let fits = stands.2.1 in
    let here = ap (λ (u : Updates). u.next) stands.2.0 in
    let at : new.start ≡ capped s = first ∙ stands.1 in
    let same : updates_by new.fast c.place c.stage b ≡ after_byte new.fast s (take count items) b = ap (λ (x : Cutting). updates_by new.fast x.place x.stage b) here in
    (s, at, subst (λ (u : Updates). Tells new.state u s new.packet) (sym same) (judged s (take count items) b packet fits at))
pushed_by (Update found) items start count b new c not room judged packet first stands =
    let none = ap (λ (u : Updates). u.bodies) stands.2.told in
    absurd (let no : ⊥ = cc in no)
pushed_by Ended items start count b new c not room judged packet first stands =
    let size : length (take count items) ≡ count = length-take-le count items room in
    let s : ℕ = stands.0 + length (take count items) in
    let before = stands.1 in
    let at : new.start ≡ capped (stands.0 + length (take count items)) = omega (arith, first, before, size) in
    let here = ap (λ (u : Updates). u.next) stands.2 in
    let zero_more : s + 0 ≡ s = omega arith in
    let same : updates_by new.fast c.place c.stage b ≡ after_byte new.fast s [] b = ap (λ (x : Cutting). updates_by new.fast x.place x.stage b) here ∙ ap (λ (n : ℕ). updates_by new.fast n Between b) (sym zero_more) in
    (s, at, subst (λ (u : Updates). Tells new.state u s new.packet) (sym same) (judged s [] b packet tt at))
pushed_by (Refused at) items start count b new c not room judged packet first stands = absurd (not at refl)

fast_room : (o : Option (ℕ × ℕ)) (packet : List ℕ) → IsFastOpen o packet → length packet < 65535
fast_room None packet h = omega (arith, h)
fast_room (Some m) packet h = let low = h.1 in let most = h.2 in omega (arith, low, most)

front_room : (packet : List ℕ) → IsOpen packet → length packet < 65535
front_room [] h = omega arith
front_room (zero ∷ bs) h = fast_room (fast_length (zero ∷ bs)) (zero ∷ bs) h
front_room (suc a ∷ []) h = omega arith
front_room (suc a ∷ b ∷ []) h = omega arith
front_room (suc a ∷ b ∷ x ∷ []) h = omega arith
front_room (suc a ∷ b ∷ x ∷ y ∷ bs) h = let low = h.0 in let most = h.1 in omega (arith, low, most)

-- there is room for a byte
pub room_by : (state : State) (items : List ℕ) (start count : ℕ) → ((at : ℕ) → state ≡ Refused at → ⊥) → count ≤ length items → IsSoundBy state (take count items) → (place_after state start count).1 < 65535
room_by Open items start count not room sound = let size = length-take-le count items room in let below = front_room (take count items) sound in omega (arith, size, below)
room_by (Update found) items start count not room sound = omega arith
room_by Ended items start count not room sound = omega arith
room_by (Refused at) items start count not room sound = absurd (not at refl)

pub sound_by : (state : State) (u : Updates) (s : ℕ) (packet : List ℕ) → Tells state u s packet → IsSoundBy state packet
sound_by Open u s packet told = told.1
sound_by (Update found) u s packet told = (told.ordered, told.inside)
sound_by Ended u s packet told = tt
sound_by (Refused at) u s packet told = tt

front_fits : (state : State) (items : List ℕ) (start count : ℕ) → ((at : ℕ) → state ≡ Refused at → ⊥) → IsSoundBy state (take count items) → IsOpen (take (place_after state start count).1 items)
front_fits Open items start count not sound = sound
front_fits (Update found) items start count not sound = tt
front_fits Ended items start count not sound = tt
front_fits (Refused at) items start count not sound = absurd (not at refl)

pub sound_after : (state : State) (items : List ℕ) (start count b : ℕ) (new : CutterOf) → ((at : ℕ) → state ≡ Refused at → ⊥) → IsSoundBy state (take count items) → Judged new
    → new.packet ≡ take (place_after state start count).1 items ++ b ∷ [] → new.start < 18446744073709551616 → IsSoundBy new.state new.packet
sound_after state items start count b new not sound judged packet fits =
    let at : new.start ≡ capped new.start = omega (arith, fits) in
    sound_by new.state _ new.start new.packet (judged new.start (take (place_after state start count).1 items) b packet (front_fits state items start count not sound) at)

pub start_fits : (state : State) (start count : ℕ) → start < 18446744073709551616 → (place_after state start count).0 < 18446744073709551616
start_fits Open start count h = h
start_fits (Update found) start count h = omega arith
start_fits Ended start count h = omega arith
start_fits (Refused at) start count h = h
