-- Updates of a packet of the fast path, one by one.
use Rattle.std.proofs.Common.{◌≡◌, ◌≤◌, ◌<◌, ◌+◌, ◌*◌, ◌-◌, ℕ, zero, suc, List, [], ◌∷◌, length, take, drop, refl, ap, sym, subst, ◌∙◌, arith}
use Rattle.std.specs.Prelude.{Option, Some, None, Result, Ok, Err}
use Rattle.std.proofs.lemmas.List.{length-drop, length-take-le, drop_all}
use Rattle.wire_num.specs.Field.{Read, then_read, map_read, bytes_at}
use Rattle.wire_num.specs.Number.{little_at, big_at}
use Rattle.wire_num.specs.declared.short.Short.{Short}
use Rattle.wire_num.specs.Cursor.{CursorOf, rest, ReadsFieldsAs}
use Rattle.order_means.specs.Updates.{Body, BodyForm, body_at, cutting, Updates, updates, before_updates, form_of, fast_data_at, fast_update_at, then_updates, more_updates}
use Rattle.order_means.specs.Updates.Stage.{Between, Refused as RefusedAt}
use Rattle.update_read.specs.Forms.{told_form, data_at}
use Rattle.update_read.specs.declared.state.Found.{Found}
use Rattle.update_read.specs.declared.state.State.{State}
use Rattle.update_read.specs.declared.state.State.TheVariants.{Open, Update, Ended, Refused}
use Rattle.update_read.specs.Cutters.{part_of, told_found, IsFound, TellsUpdate, Tells, behind_first, pending_by, IsSoundBy}
use Rattle.update_read.proofs.Tiles.{taken_front}

one_byte : (bs : List ℕ) → little_at 1 bs ≡ big_at 1 bs
one_byte [] = refl
one_byte (b ∷ bs) = let same : b + 256 * 0 ≡ 256 * 0 + b = omega arith in ap (λ (n : ℕ). Ok (n, bs)) same

after_code : (bs : List ℕ) (r : Read ℕ) → big_at 1 bs ≡ r → fast_update_at bs ≡ then_read r (λ code a. fast_data_at (form_of code) bs a)
after_code bs r e = ap (λ (x : Read ℕ). then_read x (λ code a. fast_data_at (form_of code) bs a)) (one_byte bs ∙ e)

pub code_missing : (bs left : List ℕ) → big_at 1 bs ≡ Err left → fast_update_at bs ≡ Err left
code_missing bs left e = after_code bs (Err left) e

pub code_refused : (bs a : List ℕ) (code : ℕ) → big_at 1 bs ≡ Ok (code, a) → form_of code ≡ None → fast_update_at bs ≡ Err bs
code_refused bs a code e none = after_code bs (Ok (code, a)) e ∙ ap (λ (o : Option BodyForm). fast_data_at o bs a) none

pub data_behind : (bs a : List ℕ) (code : ℕ) (form : BodyForm) → big_at 1 bs ≡ Ok (code, a) → form_of code ≡ Some form → fast_update_at bs ≡ data_at form a
data_behind bs a code form e is = after_code bs (Ok (code, a)) e ∙ ap (λ (o : Option BodyForm). fast_data_at o bs a) is

pub size_missing : (form : BodyForm) (a left : List ℕ) → little_at 2 a ≡ Err left → data_at form a ≡ Err left
size_missing form a left e = ap (λ (r : Read ℕ). then_read r (λ n b. map_read (λ data_. (form, data_)) (bytes_at n b))) e

pub data_read : (form : BodyForm) (a b : List ℕ) (n : ℕ) (r : Read (List ℕ)) → little_at 2 a ≡ Ok (n, b) → bytes_at n b ≡ r → data_at form a ≡ map_read (λ data_. (form, data_)) r
data_read form a b n r e f = ap (λ (r : Read ℕ). then_read r (λ n b. map_read (λ data_. (form, data_)) (bytes_at n b))) e ∙ ap (map_read (λ data_. (form, data_))) f

-- what stands behind a code is read
pub read_behind : (result : Result Found Short) (form : BodyForm) (code : ℕ) (old mid new : CursorOf) → big_at 1 (rest old) ≡ Ok (code, rest mid) → mid.bytes ≡ old.bytes → form_of code ≡ Some form
    → ReadsFieldsAs (told_found mid.bytes) (data_at form) result mid new → ReadsFieldsAs (told_found old.bytes) fast_update_at result old new
read_behind (Ok found) form code old mid new e same is read =
    (data_behind (rest old) (rest mid) code form e is ∙ read.0 ∙ ap (λ (bs : List ℕ). Ok (told_found bs found, rest new)) same, read.1 ∙ same)
read_behind (Err short) form code old mid new e same is read = (data_behind (rest old) (rest mid) code form e is ∙ read.0, read.1 ∙ same, read.2)

-- a place behind bytes that were read
pub place_behind : (n : ℕ) (part : List ℕ) (old new : CursorOf) → new.bytes ≡ old.bytes → old.at ≤ length old.bytes → new.at ≤ length new.bytes → bytes_at n (rest old) ≡ Ok (part, rest new) → old.at ≤ new.at
place_behind n part old new same a b e =
    let t = taken_front n (rest old) part (rest new) e in
    let few = t.0 in
    let size = length-drop old.at old.bytes in
    let left = length-drop n (rest old) in
    let over = length-drop new.at new.bytes in
    let is : length (rest new) ≡ length (drop n (rest old)) = ap length t.2 in
    let long : length new.bytes ≡ length old.bytes = ap length same in
    omega (arith, size, left, over, is, long, few, a, b)

-- ---- an update has a byte

-- what a reading leaves
abbrev left_of : {A : Type 0} → Read A → List ℕ
left_of (Ok v) = v.1
left_of (Err left) = left

two_less : (bs a : List ℕ) (n : ℕ) → little_at 2 bs ≡ Ok (n, a) → length a ≤ length bs
two_less [] a n e = absurd (let no : ⊥ = cc in no)
two_less (x ∷ []) a n e = absurd (let no : ⊥ = cc in no)
two_less (x ∷ y ∷ bs) a n e = let same : length bs ≡ length a = ap (λ (r : Read ℕ). length (left_of r)) e in omega (arith, same)

some_less : (n : ℕ) (bs part a : List ℕ) → bytes_at n bs ≡ Ok (part, a) → length a ≤ length bs
some_less n bs part a e =
    let t = taken_front n bs part a e in
    let left = length-drop n bs in
    let is : length a ≡ length (drop n bs) = ap length t.2 in
    omega (arith, left, is)

data_less_by : (form : BodyForm) (r : Read (List ℕ)) (n : ℕ) (bs more : List ℕ) (v : BodyForm × List ℕ) → bytes_at n bs ≡ r → map_read (λ data_. (form, data_)) r ≡ Ok (v, more) → length more ≤ length bs
data_less_by form (Ok x) n bs more v f e =
    let less = some_less n bs x.0 x.1 f in
    let same : length x.1 ≡ length more = ap (λ (r : Read (BodyForm × List ℕ)). length (left_of r)) e in
    omega (arith, less, same)
data_less_by form (Err left) n bs more v f e = absurd (let no : ⊥ = cc in no)

data_less : (form : BodyForm) (r : Read ℕ) (bs more : List ℕ) (v : BodyForm × List ℕ) → little_at 2 bs ≡ r → then_read r (λ n b. map_read (λ data_. (form, data_)) (bytes_at n b)) ≡ Ok (v, more) → length more ≤ length bs
data_less form (Ok x) bs more v f e =
    let less = data_less_by form (bytes_at x.0 x.1) x.0 x.1 more v refl e in
    let two = two_less bs x.1 x.0 f in
    omega (arith, less, two)
data_less form (Err left) bs more v f e = absurd (let no : ⊥ = cc in no)

form_less : (o : Option BodyForm) (whole bs more : List ℕ) (v : BodyForm × List ℕ) → fast_data_at o whole bs ≡ Ok (v, more) → length more ≤ length bs
form_less None whole bs more v e = absurd (let no : ⊥ = cc in no)
form_less (Some form) whole bs more v e = data_less form (little_at 2 bs) bs more v refl e

pub update_shorter : (bs more : List ℕ) (v : BodyForm × List ℕ) → fast_update_at bs ≡ Ok (v, more) → length more < length bs
update_shorter [] more v e = absurd (let no : ⊥ = cc in no)
update_shorter (b ∷ bs) more v e = let less = form_less (form_of (b + 256 * 0)) (b ∷ bs) bs more v e in omega (arith, less)

-- ---- in a packet

pub none_more : (most end : ℕ) → more_updates most end [] ≡ updates [] (cutting end Between)
none_more zero end = refl
none_more (suc most) end = refl

part_length : (packet : List ℕ) (from to : ℕ) → from ≤ to → to ≤ length packet → length (take (to - from) (drop from packet)) ≡ to - from
part_length packet from to a b = let size = length-drop from packet in length-take-le (to - from) (drop from packet) (omega (arith, size, a, b))

-- an update is found
pub update_told : (found : Found) (s most from : ℕ) (packet : List ℕ) (old new : CursorOf) → old ≡ record { bytes = packet; at = from } → fast_update_at (rest old) ≡ Ok (told_found old.bytes found, rest new) → new.bytes ≡ old.bytes
    → IsFound found new → length (drop from packet) ≤ suc most
    → TellsUpdate found (then_updates (s + length packet) (fast_update_at (drop from packet)) (more_updates most (s + length packet))) s packet
update_told found s most from packet old new is read same at few =
    let end : ℕ = s + length packet in
    let bytes : new.bytes ≡ packet = same ∙ ap (λ (c : CursorOf). c.bytes) is in
    let long : length new.bytes ≡ length packet = ap length bytes in
    let ordered = at.0 in
    let last = at.1 in
    let behind = at.2 in
    let within = at.3 in
    let inside : found.body.to ≤ length packet = omega (arith, last, within, long) in
    let left : rest new ≡ drop found.behind packet = ap (λ (bs : List ℕ). drop new.at bs) bytes ∙ ap (λ (n : ℕ). drop n packet) (sym behind) in
    let here : fast_update_at (drop from packet) ≡ Ok (told_found packet found, drop found.behind packet) =
    ap (λ (c : CursorOf). fast_update_at (rest c)) (sym is) ∙ read ∙ ap (λ (c : CursorOf). Ok (told_found c.bytes found, rest new)) is ∙ ap (λ (bs : List ℕ). Ok (told_found packet found, bs)) left in
    let size = part_length packet found.body.from found.body.to ordered inside in
    let over = length-drop found.behind packet in
    let place : (s + length packet) - (length (drop found.behind packet) + length (part_of packet found.body)) ≡ s + found.body.from = omega (arith, size, over, ordered, last, behind, inside) in
    let less = update_shorter (drop from packet) (drop found.behind packet) (told_found packet found) here in
    record {
      more = more_updates most end (drop found.behind packet);
      told = ap (λ (r : Read (BodyForm × List ℕ)). then_updates end r (more_updates most end)) here
          ∙ ap (λ (n : ℕ). before_updates (body_at n (told_form found.form) (part_of packet found.body) ∷ []) (more_updates most end (drop found.behind packet))) place;
      behind = (most, omega (arith, less, few), refl);
      ordered = ordered;
      inside = inside;
    }

-- it is shorter than what is left
pub found_shorter : (found : Found) (from : ℕ) (packet : List ℕ) (old new : CursorOf) → old ≡ record { bytes = packet; at = from } → fast_update_at (rest old) ≡ Ok (told_found old.bytes found, rest new) → new.bytes ≡ old.bytes
    → IsFound found new → length (drop found.behind packet) < length (drop from packet)
found_shorter found from packet old new is read same at =
    let bytes : new.bytes ≡ packet = same ∙ ap (λ (c : CursorOf). c.bytes) is in
    let left : rest new ≡ drop found.behind packet = ap (λ (bs : List ℕ). drop new.at bs) bytes ∙ ap (λ (n : ℕ). drop n packet) (sym at.2) in
    let here : fast_update_at (drop from packet) ≡ Ok (told_found old.bytes found, drop found.behind packet) =
    ap (λ (c : CursorOf). fast_update_at (rest c)) (sym is) ∙ read ∙ ap (λ (bs : List ℕ). Ok (told_found old.bytes found, bs)) left in
    update_shorter (drop from packet) (drop found.behind packet) (told_found old.bytes found) here

-- a field is refused
pub update_refused : (s most from : ℕ) (packet : List ℕ) (old new : CursorOf) → old ≡ record { bytes = packet; at = from } → fast_update_at (rest old) ≡ Err (rest new) → new.bytes ≡ old.bytes → new.at ≤ length new.bytes
    → then_updates (s + length packet) (fast_update_at (drop from packet)) (more_updates most (s + length packet)) ≡ updates [] (cutting (s + length packet) (RefusedAt (s + new.at)))
update_refused s most from packet old new is read same within =
    let end : ℕ = s + length packet in
    let here : fast_update_at (drop from packet) ≡ Err (rest new) = ap (λ (c : CursorOf). fast_update_at (rest c)) (sym is) ∙ read in
    let size = length-drop new.at new.bytes in
    let long : length new.bytes ≡ length packet = ap length same ∙ ap (λ (c : CursorOf). length c.bytes) is in
    let place : (s + length packet) - length (rest new) ≡ s + new.at = omega (arith, size, long, within) in
    ap (λ (r : Read (BodyForm × List ℕ)). then_updates end r (more_updates most end)) here ∙ ap (λ (n : ℕ). updates [] (cutting end (RefusedAt n))) place

found_inside : (found : Found) (packet : List ℕ) (from : ℕ) (old new : CursorOf) → old ≡ record { bytes = packet; at = from } → new.bytes ≡ old.bytes → IsFound found new → (found.body.from ≤ found.body.to) × (found.body.to ≤ length packet)
found_inside found packet from old new is same at =
    let last = at.1 in
    let within = at.3 in
    let long : length new.bytes ≡ length packet = ap length same ∙ ap (λ (c : CursorOf). length c.bytes) is in
    (at.0, omega (arith, last, within, long))

-- the same, as a cutter keeps it
pub found_sound : (found : Found) (packet : List ℕ) (from : ℕ) (old new : CursorOf) → old ≡ record { bytes = packet; at = from } → new.bytes ≡ old.bytes → IsFound found new → IsSoundBy (Update found) packet
found_sound found packet from old new is same at = found_inside found packet from old new is same at

pub found_fewer : (found : Found) (from : ℕ) (packet : List ℕ) (old new : CursorOf) → old ≡ record { bytes = packet; at = from } → fast_update_at (rest old) ≡ Ok (told_found old.bytes found, rest new) → new.bytes ≡ old.bytes
    → IsFound found new → pending_by (Update found) packet < suc (length (drop from packet))
found_fewer found from packet old new is read same at = let less = found_shorter found from packet old new is read same at in omega (arith, less)

-- ---- what is left of a packet

pub some_more : (most end : ℕ) (xs : List ℕ) → 0 < length xs → length xs ≤ most → (k : ℕ) × (length xs ≤ suc k) × (more_updates most end xs ≡ then_updates end (fast_update_at xs) (more_updates k end))
some_more most end [] some few = absurd (omega (arith, some))
some_more zero end (x ∷ xs) some few = absurd (omega (arith, few))
some_more (suc k) end (x ∷ xs) some few = (k, few, refl)

-- what stands there is told
pub rest_told : (state : State) (s most from : ℕ) (packet : List ℕ) → from < length packet → length (drop from packet) ≤ most
    → ((k : ℕ) → length (drop from packet) ≤ suc k → Tells state (then_updates (s + length packet) (fast_update_at (drop from packet)) (more_updates k (s + length packet))) s packet)
    → Tells state (more_updates most (s + length packet) (drop from packet)) s packet
rest_told state s most from packet inside few told =
    let size = length-drop from packet in
    let some : 0 < length (drop from packet) = omega (arith, size, inside) in
    let m = some_more most (s + length packet) (drop from packet) some few in
    subst (λ (u : Updates). Tells state u s packet) (sym m.2) (told m.0 m.1)

pub end_told : (s most from : ℕ) (packet : List ℕ) → length packet ≤ from → Tells Ended (more_updates most (s + length packet) (drop from packet)) s packet
end_told s most from packet past = ap (more_updates most (s + length packet)) (drop_all from packet past) ∙ none_more most (s + length packet)

-- behind the update that was told
pub told_behind : (found : Found) (state new : State) (u : Updates) (s : ℕ) (packet : List ℕ) → state ≡ Update found → Tells state u s packet
    → ((most : ℕ) → length (drop found.behind packet) ≤ most → Tells new (more_updates most (s + length packet) (drop found.behind packet)) s packet) → Tells new (behind_first u) s packet
told_behind found state new u s packet is told next =
    let t : TellsUpdate found u s packet = subst (λ (st : State). Tells st u s packet) is told in
    let there : behind_first u ≡ more_updates t.behind.0 (s + length packet) (drop found.behind packet) = ap behind_first t.told ∙ t.behind.2 in
    subst (λ (x : Updates). Tells new x s packet) (sym there) (next t.behind.0 t.behind.1)

pub others_told : (state : State) (u : Updates) (s : ℕ) (packet : List ℕ) → ((found : Found) → state ≡ Update found → ⊥) → Tells state u s packet → Tells state (behind_first u) s packet
others_told Open u s packet not told = (ap behind_first told.0, told.1)
others_told (Update found) u s packet not told = absurd (not found refl)
others_told Ended u s packet not told = ap behind_first told
others_told (Refused at) u s packet not told = (told.0, ap (λ (bs : List Body). drop 1 bs) told.1, told.2, told.3)

pub others_none : (state : State) (packet : List ℕ) → ((found : Found) → state ≡ Update found → ⊥) → 0 < pending_by state packet → pending_by state packet < pending_by state packet
others_none Open packet not some = absurd (omega (arith, some))
others_none (Update found) packet not some = absurd (not found refl)
others_none Ended packet not some = absurd (omega (arith, some))
others_none (Refused at) packet not some = absurd (omega (arith, some))
