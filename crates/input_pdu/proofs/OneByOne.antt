-- Events one by one.
use Rattle.std.proofs.Common.{◌≡◌, ℕ, zero, suc, ◌+◌, ◌*◌, ◌<◌, ◌≤◌, ◌-◌, false, cond, List, [], ◌++◌, take, drop, refl, ap, ◌∙◌, sym, subst, append_assoc, append-nil, arith}
use Rattle.std.specs.Prelude.{nat_lt, length, Option, Result, Ok, Err, IsOk, option_to_list}
use Rattle.wire_num.specs.FieldValue.{placed}
use Rattle.wire_num.specs.Field.{Read, then_read, map_read, bytes_at}
use Rattle.wire_num.specs.Number.{little_value, little_at}
use Rattle.wire_num.proofs.Bytes.{bytes_at_is}
use Rattle.std.proofs.lemmas.Bool.Decides.{nat_tests}
use Rattle.std.proofs.lemmas.List.{length-drop}
use Rattle.input_pdu.specs.declared.event.Event.{Event}
use Rattle.input_pdu.specs.declared.input_fault.InputFault.{InputFault}
use Rattle.input_pdu.specs.declared.input_fault.InputFault.TheVariants.{BadInput, OutOfMemory}
use Rattle.input_pdu.specs.Events.{event_of, event_at, events_at, passed_events_at, event_count_at, body_at, Pushes, ReadsFrom, Reads}

step : (n k : ℕ) (bs : List ℕ) → k < n
    → events_at (n - k) bs ≡ then_read (event_at bs) (λ event more. map_read (λ events. option_to_list event ++ events) (events_at (n - (k + 1)) more))
step n k bs h =
    let e : n - k ≡ suc (n - (k + 1)) = omega (arith, h) in
    ap (λ m. events_at m bs) e

-- an event is there
pub one_event : (n k : ℕ) (bs more : List ℕ) (event : Option Event) → k < n → event_at bs ≡ Ok (event, more)
    → events_at (n - k) bs ≡ map_read (λ events. option_to_list event ++ events) (events_at (n - (k + 1)) more)
one_event n k bs more event h e =
    step n k bs h ∙ ap (λ r. then_read r (λ event more. map_read (λ events. option_to_list event ++ events) (events_at (n - (k + 1)) more))) e

-- an event is refused
pub no_event : (n k : ℕ) (bs left : List ℕ) → k < n → event_at bs ≡ Err left → events_at (n - k) bs ≡ Err left
no_event n k bs left h e =
    step n k bs h ∙ ap (λ r. then_read r (λ event more. map_read (λ events. option_to_list event ++ events) (events_at (n - (k + 1)) more))) e

-- ---- without their values

dropped : (f : List Event → List Event) (r : Read (List Event)) → map_read {B = List ℕ} (λ _. []) (map_read f r) ≡ map_read (λ _. []) r
dropped f (Ok v) = refl
dropped f (Err left) = refl

pub passed_event : (n k : ℕ) (bs more : List ℕ) (event : Option Event) → k < n → event_at bs ≡ Ok (event, more)
    → passed_events_at (n - (k + 1)) more ≡ passed_events_at (n - k) bs
passed_event n k bs more event h e =
    sym (ap (map_read (λ _. [])) (one_event n k bs more event h e) ∙ dropped (λ events. option_to_list event ++ events) (events_at (n - (k + 1)) more))

pub refused_event : (n k : ℕ) (bs left : List ℕ) → k < n → event_at bs ≡ Err left → passed_events_at (n - k) bs ≡ Err left
refused_event n k bs left h e = ap (map_read (λ _. [])) (no_event n k bs left h e)

pub no_events : (n k : ℕ) (bs : List ℕ) → k ≡ n → passed_events_at (n - k) bs ≡ Ok ([], bs)
no_events n k bs e = let none : n - k ≡ 0 = omega (arith, e) in ap (λ m. passed_events_at m bs) none

-- ---- with what was appended so far

-- what was appended, and what the events that are left give
pub record Pushed (whole left : Read (List Event)) (old now : List Event) : Type 0 where
  pub sent : List Event
  pub reading : whole ≡ map_read (λ events. sent ++ events) left
  pub written : now ≡ old ++ sent

same_read : (r : Read (List Event)) → r ≡ map_read (λ events. [] ++ events) r
same_read (Ok v) = refl
same_read (Err left) = refl

pub none_pushed : (whole : Read (List Event)) (old : List Event) → Pushed whole whole old old
none_pushed whole old = record { sent = []; reading = same_read whole; written = sym (append-nil old) }

joined : (xs ys : List Event) (r : Read (List Event))
    → map_read (λ events. xs ++ events) (map_read (λ events. ys ++ events) r) ≡ map_read (λ events. (xs ++ ys) ++ events) r
joined xs ys (Ok v) = ap (λ zs. Ok (zs, v.1)) (sym (append_assoc xs ys v.0))
joined xs ys (Err left) = refl

pub more_pushed : (whole here after : Read (List Event)) (old now next event : List Event) → Pushed whole here old now
    → here ≡ map_read (λ events. event ++ events) after → next ≡ now ++ event → Pushed whole after old next
more_pushed whole here after old now next event p e w = record {
  sent = p.sent ++ event;
  reading = p.reading ∙ ap (map_read (λ events. p.sent ++ events)) e ∙ joined p.sent event after;
  written = w ∙ ap (λ xs. xs ++ event) p.written ∙ append_assoc old p.sent event;
}

pub all_pushed : (whole : Read (List Event)) (old now : List Event) (bs : List ℕ) (u : Unit {0}) → Pushed whole (Ok ([], bs)) old now
    → Pushes whole (Ok u) old now
all_pushed whole old now bs u p =
    subst (λ r. Pushes r (Ok u) old now) (sym p.reading) (p.written ∙ ap (λ xs. old ++ xs) (sym (append-nil p.sent)))

-- an event that is wanted is there
refused_whole : (whole : Read (List Event)) (left : List ℕ) → IsOk whole → whole ≡ Err left → ⊥
refused_whole (Ok v) left ok e = let no : ⊥ = cc in no
refused_whole (Err l) left ok e = let no : ⊥ = cc in no

pub not_refused : (whole here : Read (List Event)) (old now : List Event) (left : List ℕ) → IsOk whole → Pushed whole here old now → here ≡ Err left → ⊥
not_refused whole here old now left ok p e = refused_whole whole left ok (p.reading ∙ ap (map_read (λ events. p.sent ++ events)) e)

front_by : (whole here : Read (List Event)) (old sent now : List Event) → IsOk whole → whole ≡ map_read (λ events. sent ++ events) here
    → now ≡ old ++ sent → Pushes whole (Err OutOfMemory) old now
front_by whole (Ok v) old sent now ok e w =
    subst (λ r. Pushes r (Err OutOfMemory) old now) (sym e) (sent, v.0, refl, w)
front_by whole (Err left) old sent now ok e w = absurd (refused_whole whole left ok e)

-- no memory is left
pub front_pushed : (whole here : Read (List Event)) (old now : List Event) → IsOk whole → Pushed whole here old now → Pushes whole (Err OutOfMemory) old now
front_pushed whole here old now ok p = front_by whole here old p.sent now ok p.reading p.written

-- ---- a body

is_ok_of : (r : Read (List Event)) (v : List ℕ × List ℕ) → map_read (λ _. []) r ≡ Ok v → IsOk r
is_ok_of (Ok w) v e = refl
is_ok_of (Err left) v e = absurd (let no : ⊥ = cc in no)

pub all_there : (count : ℕ) (bs : List ℕ) (v : List ℕ × List ℕ) → passed_events_at count bs ≡ Ok v → IsOk (events_at count bs)
all_there count bs v e = is_ok_of (events_at count bs) v e

is_err_of : (r : Read (List Event)) (left : List ℕ) → map_read {B = List ℕ} (λ _. []) r ≡ Err left → r ≡ Err left
is_err_of (Ok w) left e = absurd (let no : ⊥ = cc in no)
is_err_of (Err l) left e = let same : l ≡ left = cc in ap (λ k. Err k) same

pub one_missing : (count : ℕ) (bs more left : List ℕ) → event_count_at bs ≡ Ok (count, more) → passed_events_at count more ≡ Err left → body_at bs ≡ Err left
one_missing count bs more left e h = ap (λ r. then_read r (λ count more. events_at count more)) e ∙ is_err_of (events_at count more) left h

pub count_missing : (bs left : List ℕ) → event_count_at bs ≡ Err left → body_at bs ≡ Err left
count_missing bs left e = ap (λ r. then_read r (λ count more. events_at count more)) e

read_all : (bs : List ℕ) (r : Read (List Event)) (result : Result (Unit {0}) InputFault) (old new : List Event) → IsOk r
    → Pushes r result old new → ReadsFrom (placed (λ at. at) bs r) result old new
read_all bs (Ok v) (Ok u) old new ok p = p
read_all bs (Ok v) (Err fault) old new ok p = p
read_all bs (Err left) result old new ok p = absurd p

-- the events that are there were appended
pub body_read : (bs more : List ℕ) (count : ℕ) (result : Result (Unit {0}) InputFault) (old new : List Event) → event_count_at bs ≡ Ok (count, more)
    → IsOk (events_at count more) → Pushes (events_at count more) result old new → Reads bs result old new
body_read bs more count result old new e ok p =
    let whole : body_at bs ≡ events_at count more = ap (λ r. then_read r (λ count more. events_at count more)) e in
    subst (λ r. ReadsFrom (placed (λ at. at) bs r) result old new) (sym whole) (read_all bs (events_at count more) result old new ok p)

-- a body is refused
pub body_refused : (bs left : List ℕ) (at : ℕ) (old : List Event) → body_at bs ≡ Err left → length bs - length left ≡ at
    → Reads bs (Err (BadInput at)) old old
body_refused bs left at old e place =
    subst (λ r. ReadsFrom (placed (λ at. at) bs r) (Err (BadInput at)) old old) (sym e) (ap (λ k. Err (BadInput k)) (sym place), refl)

-- ---- as many bytes as the events have

whole_field : (n : ℕ) (bs : List ℕ) → n ≤ length bs → bytes_at n bs ≡ Ok (take n bs, drop n bs)
whole_field n bs h =
    let fits : nat_lt (length bs) n ≡ false = grind (arith, nat_tests, h) in
    bytes_at_is n bs ∙ ap (λ t. cond t (Err bs) (Ok (take n bs, drop n bs))) fits

event_there : (bs : List ℕ) → 12 ≤ length bs → (event : Option Event) × (more : List ℕ) × (event_at bs ≡ Ok (event, more)) × (12 + length more ≡ length bs)
unfolding event_at
event_there bs h =
    let kind_on : List ℕ = drop 4 bs in
    let data_on : List ℕ = drop 2 kind_on in
    let kind : ℕ = little_value (take 2 kind_on) in
    let a = length-drop 4 bs in
    let b = length-drop 2 kind_on in
    let c = length-drop 6 data_on in (
      event_of kind (take 6 data_on),
      drop 6 data_on,
      ap (λ r. then_read r (λ _ more. then_read (little_at 2 more) (λ kind more. map_read (event_of kind) (bytes_at 6 more)))) (whole_field 4 bs (omega (arith, h)))
          ∙ ap (λ r. then_read (map_read little_value r) (λ kind more. map_read (event_of kind) (bytes_at 6 more))) (whole_field 2 kind_on (omega (arith, h, a)))
          ∙ ap (λ r. map_read (event_of kind) r) (whole_field 6 data_on (omega (arith, h, a, b))),
      omega (arith, h, a, b, c),
    )

still_ok : (f : List Event → List Event) (r : Read (List Event)) → IsOk r → IsOk (map_read f r)
still_ok f (Ok v) ok = refl
still_ok f (Err left) ok = absurd (let no : ⊥ = cc in no)

pub events_there : (n : ℕ) (bs : List ℕ) → n * 12 ≤ length bs → IsOk (events_at n bs)
events_there zero bs h = refl
events_there (suc n) bs h =
    let e = event_there bs (omega (arith, h)) in
    let others = events_there n e.1 (omega (arith, h, e.3)) in
    subst IsOk (sym (ap (λ r. then_read r (λ event more. map_read (λ events. option_to_list event ++ events) (events_at n more))) e.2))
    (still_ok (λ events. option_to_list e.0 ++ events) (events_at n e.1) others)
