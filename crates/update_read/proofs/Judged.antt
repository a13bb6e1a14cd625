-- A packet with an indication that got a further byte.
use Rattle.std.proofs.Common.{◌≡◌, ◌≤◌, ◌<◌, ◌+◌, ◌*◌, ◌-◌, ℕ, zero, suc, List, [], ◌∷◌, ◌++◌, length, length-append, drop, min, refl, ap, sym, subst, ◌∙◌, arith, true, false}
use Rattle.std.specs.Prelude.{Bool, Ok, Err, nat_le, slice_index}
use Rattle.std.proofs.lemmas.Bool.Decides.{nat_tests}
use Rattle.std.proofs.lemmas.List.{length-drop, drop_all}
use Rattle.wire_num.specs.Cursor.{CursorOf, rest}
use Rattle.wire_num.specs.declared.range.Range.{Range}
use Rattle.share_pdu.specs.Packet.{indication_at}
use Rattle.order_means.specs.Updates.{body_at, cutting, Updates, updates, updates_by, stage_if, whole_packet, turned}
use Rattle.order_means.specs.Updates.BodyForm.{Slow}
use Rattle.order_means.specs.Updates.Stage.{Between, Inside, Refused}
use Rattle.update_read.specs.PacketParts.{IsBody}
use Rattle.update_read.specs.declared.state.State.{State}
use Rattle.update_read.specs.declared.form.BodyForm.TheVariants as form
use Rattle.update_read.specs.Cutters.{capped, stage_of, length_in, length_or, fast_length, IsOpen, IsWhole, part_of, Tells, TellsUpdate, AreBehind}

-- what a byte behind others gives
abbrev pub after_byte : Bool → ℕ → List ℕ → ℕ → Updates
after_byte fast s front b = updates_by fast (s + length front) (stage_of front) b

pub capped_more : (s start k : ℕ) → start ≡ capped s → min (start + k) 18446744073709551615 ≡ capped (s + k)
capped_more s start k e = omega arith

pub turned-append : (xs : List ℕ) (x : ℕ) (ys : List ℕ) → turned (xs ++ x ∷ []) ys ≡ x ∷ turned xs ys
turned-append [] x ys = refl
turned-append (y ∷ xs) x ys = turned-append xs x (y ∷ ys)

pub turned_twice : (xs ys zs : List ℕ) → turned (turned xs ys) zs ≡ turned ys (xs ++ zs)
turned_twice [] ys zs = refl
turned_twice (x ∷ xs) ys zs = turned_twice xs (x ∷ ys) zs

-- the packet's first byte isn't that of the fast path
abbrev pub IsSlow : List ℕ → Type 0
IsSlow packet = slice_index packet 0 ≡ 0 → ⊥

-- ---- it goes on

few_after : (fast : Bool) (s : ℕ) (front : List ℕ) (b : ℕ) → 2 ≤ length (front ++ b ∷ []) → length (front ++ b ∷ []) < 4 → IsSlow (front ++ b ∷ [])
    → (after_byte fast s front b ≡ updates [] (cutting (s + length (front ++ b ∷ [])) (stage_of (front ++ b ∷ [])))) × IsOpen (front ++ b ∷ [])
few_after fast s [] b some few slow = absurd (omega arith)
few_after fast s (zero ∷ xs) b some few slow = absurd (slow refl)
few_after fast s (suc x ∷ []) b some few slow =
    let place : (s + 1) + 1 ≡ s + 2 = omega arith in
    (ap (λ (n : ℕ). updates [] (cutting n (stage_of (suc x ∷ b ∷ [])))) place, tt)
few_after fast s (suc x ∷ y ∷ []) b some few slow =
    let place : (s + 2) + 1 ≡ s + 3 = omega arith in
    (ap (λ (n : ℕ). updates [] (cutting n (stage_of (suc x ∷ y ∷ b ∷ [])))) place, tt)
few_after fast s (suc x ∷ y ∷ h ∷ xs) b some few slow = let size : length (xs ++ b ∷ []) ≡ length xs + 1 = length-append xs (b ∷ []) in absurd (omega (arith, size, few))

pub few_bytes : (fast : Bool) (s : ℕ) (packet front : List ℕ) (b : ℕ) → packet ≡ front ++ b ∷ [] → 2 ≤ length packet → length packet < 4 → IsSlow packet
    → (after_byte fast s front b ≡ updates [] (cutting (s + length packet) (stage_of packet))) × IsOpen packet
few_bytes fast s packet front b e some few slow =
    subst (λ (p : List ℕ). 2 ≤ length p → length p < 4 → IsSlow p → (after_byte fast s front b ≡ updates [] (cutting (s + length p) (stage_of p))) × IsOpen p) (sym e) (few_after fast s front b) some few slow

open_after : (fast : Bool) (s : ℕ) (front : List ℕ) (b : ℕ) → IsOpen front → 4 ≤ length (front ++ b ∷ []) → 256 * slice_index (front ++ b ∷ []) 2 + slice_index (front ++ b ∷ []) 3 ≤ 65535
    → (length (front ++ b ∷ []) ≡ 4 → 7 ≤ 256 * slice_index (front ++ b ∷ []) 2 + slice_index (front ++ b ∷ []) 3) → (IsWhole (front ++ b ∷ []) → ⊥) → IsSlow (front ++ b ∷ [])
    → (after_byte fast s front b ≡ updates [] (cutting (s + length (front ++ b ∷ [])) (stage_of (front ++ b ∷ [])))) × IsOpen (front ++ b ∷ [])
open_after fast s [] b fits many most least not_whole slow = absurd (omega arith)
open_after fast s (zero ∷ xs) b fits many most least not_whole slow = absurd (slow refl)
open_after fast s (suc x ∷ []) b fits many most least not_whole slow = absurd (omega arith)
open_after fast s (suc x ∷ y ∷ []) b fits many most least not_whole slow = absurd (omega arith)
open_after fast s (suc x ∷ y ∷ h ∷ []) b fits many most least not_whole slow =
    let enough : 7 ≤ 256 * h + b = least refl in
    let test : nat_le 7 (256 * h + b) ≡ true = grind (arith, nat_tests) in
    let missing : (256 * h + b) - 5 ≡ (256 * h + b - 5) - 0 = omega arith in
    let place : (s + 3) + 1 ≡ s + 4 = omega arith in (
      ap (λ t. updates [] (cutting ((s + 3) + 1) (stage_if t (Inside ((256 * h + b) - 5) y h b []) ((s + 3) - 1)))) test
          ∙ ap (λ (n : ℕ). updates [] (cutting ((s + 3) + 1) (Inside n y h b []))) missing ∙ ap (λ (n : ℕ). updates [] (cutting n (Inside ((256 * h + b - 5) - 0) y h b []))) place,
      (omega (arith, enough), most),
    )
open_after fast s (suc x ∷ y ∷ h ∷ l ∷ bs) b fits many most least not_whole slow =
    let size : length (bs ++ b ∷ []) ≡ length bs + 1 = length-append bs (b ∷ []) in
    let low = fits.0 in
    let differs : 5 + length bs ≡ 256 * h + l → ⊥ = λ e. not_whole (omega (arith, size, e)) in
    let below : 5 + length bs < 256 * h + l = omega (arith, low, differs) in
    let missing : (256 * h + l - 5) - length bs ≡ suc ((256 * h + l - 5) - (length bs + 1)) = omega (arith, below) in
    let left : (256 * h + l - 5) - (length bs + 1) ≡ (256 * h + l - 5) - length (bs ++ b ∷ []) = omega (arith, size) in
    let place : (s + length (suc x ∷ y ∷ h ∷ l ∷ bs)) + 1 ≡ s + length (suc x ∷ y ∷ h ∷ l ∷ (bs ++ b ∷ [])) = omega (arith, size) in (
      ap (λ (m : ℕ). updates_by fast (s + length (suc x ∷ y ∷ h ∷ l ∷ bs)) (Inside m y h l (turned bs [])) b) missing
          ∙ ap (λ (m : ℕ). updates [] (cutting ((s + length (suc x ∷ y ∷ h ∷ l ∷ bs)) + 1) (Inside m y h l (b ∷ turned bs [])))) left
          ∙ ap (λ (front : List ℕ). updates [] (cutting ((s + length (suc x ∷ y ∷ h ∷ l ∷ bs)) + 1) (Inside ((256 * h + l - 5) - length (bs ++ b ∷ [])) y h l front))) (sym (turned-append bs b []))
          ∙ ap (λ (m : ℕ). updates [] (cutting m (Inside ((256 * h + l - 5) - length (bs ++ b ∷ [])) y h l (turned (bs ++ b ∷ []) [])))) place,
      (omega (arith, size, below), fits.1),
    )

pub goes_on : (fast : Bool) (s : ℕ) (packet front : List ℕ) (b : ℕ) → packet ≡ front ++ b ∷ [] → IsOpen front → 4 ≤ length packet → 256 * slice_index packet 2 + slice_index packet 3 ≤ 65535
    → (length packet ≡ 4 → 7 ≤ 256 * slice_index packet 2 + slice_index packet 3) → (IsWhole packet → ⊥) → IsSlow packet
    → (after_byte fast s front b ≡ updates [] (cutting (s + length packet) (stage_of packet))) × IsOpen packet
goes_on fast s packet front b e fits many most least not_whole slow =
    subst (λ (p : List ℕ). 4 ≤ length p → 256 * slice_index p 2 + slice_index p 3 ≤ 65535 → (length p ≡ 4 → 7 ≤ 256 * slice_index p 2 + slice_index p 3) → (IsWhole p → ⊥) → IsSlow p
    → (after_byte fast s front b ≡ updates [] (cutting (s + length p) (stage_of p))) × IsOpen p) (sym e) (open_after fast s front b fits) many most least not_whole slow

-- ---- its length is too small

short_after : (fast : Bool) (s : ℕ) (front : List ℕ) (b : ℕ) → length (front ++ b ∷ []) ≡ 4 → 256 * slice_index (front ++ b ∷ []) 2 + slice_index (front ++ b ∷ []) 3 < 7 → IsSlow (front ++ b ∷ [])
    → after_byte fast s front b ≡ updates [] (cutting (s + length (front ++ b ∷ [])) (Refused (s + 2)))
short_after fast s [] b four few slow = absurd (omega arith)
short_after fast s (zero ∷ xs) b four few slow = absurd (slow refl)
short_after fast s (suc x ∷ []) b four few slow = absurd (omega arith)
short_after fast s (suc x ∷ y ∷ []) b four few slow = absurd (omega arith)
short_after fast s (suc x ∷ y ∷ h ∷ []) b four few slow =
    let test : nat_le 7 (256 * h + b) ≡ false = grind (arith, nat_tests) in
    let here : (s + 3) - 1 ≡ s + 2 = omega arith in
    let place : (s + 3) + 1 ≡ s + 4 = omega arith in
    ap (λ t. updates [] (cutting ((s + 3) + 1) (stage_if t (Inside ((256 * h + b) - 5) y h b []) ((s + 3) - 1)))) test
    ∙ ap (λ (n : ℕ). updates [] (cutting ((s + 3) + 1) (Refused n))) here ∙ ap (λ (n : ℕ). updates [] (cutting n (Refused (s + 2)))) place
short_after fast s (suc x ∷ y ∷ h ∷ l ∷ bs) b four few slow = let size : length (bs ++ b ∷ []) ≡ length bs + 1 = length-append bs (b ∷ []) in absurd (omega (arith, size, four))

pub too_short : (fast : Bool) (s : ℕ) (packet front : List ℕ) (b : ℕ) → packet ≡ front ++ b ∷ [] → length packet ≡ 4 → 256 * slice_index packet 2 + slice_index packet 3 < 7 → IsSlow packet
    → after_byte fast s front b ≡ updates [] (cutting (s + length packet) (Refused (s + 2)))
too_short fast s packet front b e four few slow =
    subst (λ (p : List ℕ). length p ≡ 4 → 256 * slice_index p 2 + slice_index p 3 < 7 → IsSlow p → after_byte fast s front b ≡ updates [] (cutting (s + length p) (Refused (s + 2)))) (sym e) (short_after fast s front b) four few slow

-- ---- it is whole

whole_after : (fast : Bool) (s : ℕ) (front : List ℕ) (b : ℕ) → IsOpen front → 5 ≤ length (front ++ b ∷ []) → IsWhole (front ++ b ∷ []) → IsSlow (front ++ b ∷ [])
    → after_byte fast s front b ≡ whole_packet (s + length (front ++ b ∷ [])) (indication_at (drop 4 (front ++ b ∷ [])))
whole_after fast s [] b fits many whole slow = absurd (omega arith)
whole_after fast s (zero ∷ xs) b fits many whole slow = absurd (slow refl)
whole_after fast s (suc x ∷ []) b fits many whole slow = absurd (omega arith)
whole_after fast s (suc x ∷ y ∷ []) b fits many whole slow = absurd (omega arith)
whole_after fast s (suc x ∷ y ∷ h ∷ []) b fits many whole slow = absurd (omega arith)
whole_after fast s (suc x ∷ y ∷ h ∷ l ∷ bs) b fits many whole slow =
    let size : length (bs ++ b ∷ []) ≡ length bs + 1 = length-append bs (b ∷ []) in
    let missing : (256 * h + l - 5) - length bs ≡ 0 = omega (arith, size, whole) in
    let place : (s + length (suc x ∷ y ∷ h ∷ l ∷ bs)) + 1 ≡ s + length (suc x ∷ y ∷ h ∷ l ∷ (bs ++ b ∷ [])) = omega (arith, size) in
    ap (λ (m : ℕ). updates_by fast (s + length (suc x ∷ y ∷ h ∷ l ∷ bs)) (Inside m y h l (turned bs [])) b) missing
    ∙ ap (λ (xs : List ℕ). whole_packet ((s + length (suc x ∷ y ∷ h ∷ l ∷ bs)) + 1) (indication_at xs)) (turned_twice bs [] (b ∷ []))
    ∙ ap (λ (n : ℕ). whole_packet n (indication_at (bs ++ b ∷ []))) place

pub is_whole : (fast : Bool) (s : ℕ) (packet front : List ℕ) (b : ℕ) → packet ≡ front ++ b ∷ [] → IsOpen front → 5 ≤ length packet → IsWhole packet → IsSlow packet
    → after_byte fast s front b ≡ whole_packet (s + length packet) (indication_at (drop 4 packet))
is_whole fast s packet front b e fits many whole slow =
    subst (λ (p : List ℕ). 5 ≤ length p → IsWhole p → IsSlow p → after_byte fast s front b ≡ whole_packet (s + length p) (indication_at (drop 4 p))) (sym e) (whole_after fast s front b fits) many whole slow

-- behind the one update of a packet there is none
pub none_behind : (end : ℕ) (packet : List ℕ) (behind : ℕ) → behind ≡ length packet → AreBehind end (drop behind packet) (updates [] (cutting end Between))
none_behind end packet behind e =
    let none : drop behind packet ≡ [] = drop_all behind packet (omega (arith, e)) in
    subst (λ (left : List ℕ). AreBehind end left (updates [] (cutting end Between))) (sym none) (0, omega arith, refl)

-- the packet is read
pub body_found : (fast : Bool) (s : ℕ) (packet front : List ℕ) (b : ℕ) (part : Range) (behind : ℕ) (old new : CursorOf) → packet ≡ front ++ b ∷ [] → IsOpen front → 5 ≤ length packet → IsWhole packet → IsSlow packet
    → old ≡ record { bytes = packet; at = 4 } → IsBody indication_at part old new → behind ≡ length packet
    → TellsUpdate (record { form = form.Slow; body = part; behind = behind }) (after_byte fast s front b) s packet
body_found fast s packet front b part behind old new e fits many whole slow is body end =
    let stands : indication_at (drop 4 packet) ≡ Ok (body.within, body.after) = ap (λ (c : CursorOf). indication_at (rest c)) (sym is) ∙ body.stands in
    let left : body.within.behind + part.from ≡ length packet = body.behind ∙ ap (λ (c : CursorOf). length c.bytes) is in
    let place : (s + length packet) - body.within.behind ≡ s + part.from = omega (arith, left) in
    record {
      more = updates [] (cutting (s + length packet) Between);
      told = is_whole fast s packet front b e fits many whole slow ∙ ap (whole_packet (s + length packet)) stands
          ∙ ap (λ (n : ℕ). updates (body_at n Slow body.within.bytes ∷ []) (cutting (s + length packet) Between)) place
          ∙ ap (λ (bs : List ℕ). updates (body_at (s + part.from) Slow bs ∷ []) (cutting (s + length packet) Between)) (body.bytes ∙ ap (λ (c : CursorOf). part_of c.bytes part) is);
      behind = none_behind (s + length packet) packet behind end;
      ordered = body.ordered;
      inside = let inside = body.inside in let size = ap (λ (c : CursorOf). length c.bytes) is in omega (arith, inside, size);
    }

-- the packet is refused
pub field_refused : (fast : Bool) (s : ℕ) (packet front : List ℕ) (b : ℕ) (old new : CursorOf) → packet ≡ front ++ b ∷ [] → IsOpen front → 5 ≤ length packet → IsWhole packet → IsSlow packet
    → old ≡ record { bytes = packet; at = 4 } → indication_at (rest old) ≡ Err (rest new) → new.bytes ≡ old.bytes → new.at ≤ length new.bytes
    → after_byte fast s front b ≡ updates [] (cutting (s + length packet) (Refused (s + new.at)))
field_refused fast s packet front b old new e fits many whole slow is read same within =
    let stands : indication_at (drop 4 packet) ≡ Err (rest new) = ap (λ (c : CursorOf). indication_at (rest c)) (sym is) ∙ read in
    let size = length-drop new.at new.bytes in
    let long : length new.bytes ≡ length packet = ap length same ∙ ap (λ (c : CursorOf). length c.bytes) is in
    let place : (s + length packet) - length (rest new) ≡ s + new.at = omega (arith, size, long, within) in
    is_whole fast s packet front b e fits many whole slow ∙ ap (whole_packet (s + length packet)) stands ∙ ap (λ (n : ℕ). updates [] (cutting (s + length packet) (Refused n))) place

-- what was refused, as a cutter tells it
pub refused_as : (u : Updates) (end place at : ℕ) → u ≡ updates [] (cutting end (Refused place)) → at ≡ capped place
    → (place : ℕ) × (u.bodies ≡ []) × (u.next.stage ≡ Refused place) × (at ≡ capped place)
refused_as u end place at e there = (place, ap (λ (x : Updates). x.bodies) e, ap (λ (x : Updates). x.next.stage) e, there)

-- ---- the first byte

first_after : (state : State) (fast : Bool) (s first : ℕ) (front : List ℕ) (b : ℕ) → length (front ++ b ∷ []) ≡ 1 → first ≡ slice_index (front ++ b ∷ []) 0 → Tells state (updates_by fast s Between first) s (first ∷ [])
    → Tells state (after_byte fast s front b) s (front ++ b ∷ [])
first_after state fast s first [] b one is told =
    let none : s + 0 ≡ s = omega arith in
    subst (λ (n : ℕ). Tells state (updates_by fast n Between b) s (b ∷ [])) (sym none) (subst (λ (n : ℕ). Tells state (updates_by fast s Between n) s (n ∷ [])) is told)
first_after state fast s first (x ∷ front) b one is told = let size : length (front ++ b ∷ []) ≡ length front + 1 = length-append front (b ∷ []) in absurd (omega (arith, size, one))

pub first_told : (state : State) (fast : Bool) (s first : ℕ) (packet front : List ℕ) (b : ℕ) → packet ≡ front ++ b ∷ [] → length packet ≡ 1 → first ≡ slice_index packet 0 → Tells state (updates_by fast s Between first) s (first ∷ [])
    → Tells state (after_byte fast s front b) s packet
first_told state fast s first packet front b e one is told =
    subst (λ (p : List ℕ). length p ≡ 1 → first ≡ slice_index p 0 → Tells state (after_byte fast s front b) s p) (sym e) (λ o i. first_after state fast s first front b o i told) one is

-- ---- lengths

pub none_in : (packet : List ℕ) → length packet ≡ 0 → length_in packet ≡ 0
none_in [] e = refl
none_in (x ∷ xs) e = absurd (omega (arith, e))

pub fast_in : (packet : List ℕ) → slice_index packet 0 ≡ 0 → length_in packet ≡ length_or (fast_length packet)
fast_in [] e = refl
fast_in (zero ∷ xs) e = refl
fast_in (suc x ∷ xs) e = absurd (let is : suc x ≡ 0 = e in omega (arith, is))

pub few_in : (packet : List ℕ) → (slice_index packet 0 ≡ 0 → ⊥) → length packet < 4 → length_in packet ≡ 0
few_in [] slow few = refl
few_in (zero ∷ xs) slow few = absurd (slow refl)
few_in (suc a ∷ []) slow few = refl
few_in (suc a ∷ b ∷ []) slow few = refl
few_in (suc a ∷ b ∷ h ∷ []) slow few = refl
few_in (suc a ∷ b ∷ h ∷ l ∷ xs) slow few = absurd (omega (arith, few))

pub slow_in : (packet : List ℕ) → (slice_index packet 0 ≡ 0 → ⊥) → 4 ≤ length packet → length_in packet ≡ 256 * slice_index packet 2 + slice_index packet 3
slow_in [] slow many = absurd (omega (arith, many))
slow_in (zero ∷ xs) slow many = absurd (slow refl)
slow_in (suc a ∷ []) slow many = absurd (omega (arith, many))
slow_in (suc a ∷ b ∷ []) slow many = absurd (omega (arith, many))
slow_in (suc a ∷ b ∷ h ∷ []) slow many = absurd (omega (arith, many))
slow_in (suc a ∷ b ∷ h ∷ l ∷ xs) slow many = refl
