-- Reads that are appended, and the orders that they tell.
use Rattle.std.proofs.Common.{◌≡◌, ◌≤◌, ◌-◌, ◌+◌, ℕ, List, [], ◌∷◌, ◌++◌, length, take, drop, refl, ap, sym, subst, ◌∙◌, append_assoc, append-nil, arith}
use Rattle.std.specs.Prelude.{Ok, Err, nat_lt, Result}
use Rattle.std.proofs.lemmas.List.{map-append, length-drop, length-take-le, drop-take, take-take}
use Rattle.wire_num.specs.Field.{Read as Field, map_read, bytes_at}
use Rattle.wire_num.proofs.Bytes.{bytes_at_is}
use Rattle.wire_num.proofs.Steps.{short_ok, fits}
use Rattle.wire_num.specs.Cursor.{CursorOf, rest}
use Rattle.order_fields.specs.OrderStream.{Order}
use Rattle.order_read.specs.declared.order_fault.OrderFault.{OrderFault}
use Rattle.order_read.specs.declared.order_fault.OrderFault.TheVariants.{BadOrder, OutOfMemory}
use Rattle.order_read.specs.declared.read.Read.{Read}
use Rattle.order_read.specs.Told.{told_read, told_reads, told_order, told_orders, part_of}
use Rattle.order_read.specs.Reading.{ReadsOnto, Appends, IsFront}

pub appends_none : (bytes : List ℕ) (old : List Read) → Appends bytes [] old old
appends_none bytes old body front = sym (append-nil (told_reads body old))

pub appends_more : (bytes : List ℕ) (os more : List Order) (a b c : List Read) → Appends bytes os a b → Appends bytes more b c → Appends bytes (os ++ more) a c
appends_more bytes os more a b c first second body front =
    second body front ∙ ap (λ ts. ts ++ told_orders more) (first body front) ∙ append_assoc (told_reads body a) (told_orders os) (told_orders more) ∙ ap (λ ts. told_reads body a ++ ts) (sym (map-append told_order os more))

pub pushed : (bytes : List ℕ) (old new : List Read) (r : Read) (o : Order) → new ≡ old ++ r ∷ [] → ((body : List ℕ) → IsFront bytes body → told_read body r ≡ told_order o) → Appends bytes (o ∷ []) old new
pushed bytes old new r o e same body front =
    ap (told_reads body) e ∙ map-append (told_read body) old (r ∷ []) ∙ ap (λ t. told_reads body old ++ t ∷ []) (same body front)

-- the same reading from an earlier place, up to which all was read
pub onto_from : (first later : List ℕ → Field (List Order)) (result : Result (Unit {0}) OrderFault) (old mid new : CursorOf) (before after : List Read) → first (rest old) ≡ later (rest mid) → mid.bytes ≡ old.bytes
    → ReadsOnto later result mid new before after → ReadsOnto first result old new before after
onto_from first later (Ok x) old mid new before after e same read =
    (read.0, e ∙ read.1, read.2 ∙ same, subst (λ (bytes : List ℕ). Appends bytes read.0 before after) same read.3)
onto_from first later (Err (BadOrder at)) old mid new before after e same read = (e ∙ read.0, read.1 ∙ same, read.2)
onto_from first later (Err OutOfMemory) old mid new before after e same read = read

-- ---- parts of a body

taken_front : (count : ℕ) (bs part more : List ℕ) → bytes_at count bs ≡ Ok (part, more) → (count ≤ length bs) × (part ≡ take count bs) × (more ≡ drop count bs)
taken_front count bs part more e =
    let p = short_ok (nat_lt (length bs) count) bs (take count bs, drop count bs) (part, more) (sym (bytes_at_is count bs) ∙ e) in
    (fits count (length bs) p.0, sym (ap (λ x. x.0) p.1), sym (ap (λ x. x.1) p.1))

-- the bytes of a part are those that were read
pub part_read : (bytes body part more : List ℕ) (from to count : ℕ) → IsFront bytes body → from ≤ length bytes → to ≤ length bytes → bytes_at count (drop from bytes) ≡ Ok (part, more) → more ≡ drop to bytes
    → part_of body (record { from = from; to = to }) ≡ part
part_read bytes body part more from to count front a b e f =
    let t = taken_front count (drop from bytes) part more e in
    let size = length-drop from bytes in
    let left = length-drop count (drop from bytes) in
    let end = length-drop to bytes in
    let same : length (drop count (drop from bytes)) ≡ length (drop to bytes) = ap length (sym t.2 ∙ f) in
    let count_is : to - from ≡ count = omega (arith, size, left, end, same, t.0, a, b) in
    let m : ℕ = length bytes - from in
    let whole : from + m ≡ length bytes = omega (arith, a) in
    let few : count ≤ m = omega (arith, size, t.0) in
    let sum : count + (m - count) ≡ m = omega (arith, few) in
    let inner : drop from bytes ≡ take m (drop from body) = sym (ap (drop from) (ap (λ (n : ℕ). take n body) whole ∙ front)) ∙ drop-take from m body in
    let short : take count (take m (drop from body)) ≡ take count (drop from body) = take-take count m (drop from body) few in
    ap (λ (n : ℕ). take n (drop from body)) count_is ∙ sym short ∙ sym (ap (take count) inner) ∙ sym t.1

-- the same by the cursor before and after
pub part_at : (bytes body part : List ℕ) (mid new : CursorOf) (from to count : ℕ) → IsFront bytes body → mid.bytes ≡ bytes → new.bytes ≡ mid.bytes → from ≡ mid.at → to ≡ new.at → from ≤ length mid.bytes → to ≤ length new.bytes
    → bytes_at count (rest mid) ≡ Ok (part, rest new) → part_of body (record { from = from; to = to }) ≡ part
part_at bytes body part mid new from to count front here after first last a b e =
    let size : length new.bytes ≡ length mid.bytes = ap length after in
    ap (λ (n : ℕ). part_of body (record { from = n; to = to })) first ∙ ap (λ (n : ℕ). part_of body (record { from = mid.at; to = n })) last
    ∙ part_read mid.bytes body part (rest new) mid.at new.at count (subst (λ (bs : List ℕ). IsFront bs body) (sym here) front) (omega (arith, first, a)) (omega (arith, last, b, size)) e (ap (drop new.at) after)

-- what begins with bytes begins with a front of them
pub front_of_front : (end : ℕ) (bytes body : List ℕ) → end ≤ length bytes → IsFront bytes body → IsFront (take end bytes) body
front_of_front end bytes body within front =
    let size : length (take end bytes) ≡ end = length-take-le end bytes within in
    ap (λ (n : ℕ). take n body) size ∙ sym (take-take end (length bytes) body within) ∙ ap (take end) front

pub appends_within : (end : ℕ) (bytes inner : List ℕ) (os : List Order) (old new : List Read) → inner ≡ take end bytes → end ≤ length bytes → Appends inner os old new → Appends bytes os old new
appends_within end bytes inner os old new e within told body front = told body (subst (λ (bs : List ℕ). IsFront bs body) (sym e) (front_of_front end bytes body within front))

-- ---- orders one by one

-- orders were appended, and the others stand where the reading goes on
pub record HasPushed (whole here : Field (List Order)) (bytes : List ℕ) (old now : List Read) : Type 0 where
  pub sent : List Order
  pub reading : whole ≡ map_read (λ os. sent ++ os) here
  pub told : Appends bytes sent old now

same_read : (r : Field (List Order)) → r ≡ map_read (λ os. [] ++ os) r
same_read (Ok v) = refl
same_read (Err left) = refl

pub none_pushed : (whole : Field (List Order)) (bytes : List ℕ) (old : List Read) → HasPushed whole whole bytes old old
none_pushed whole bytes old = record { sent = []; reading = same_read whole; told = appends_none bytes old }

joined : (xs ys : List Order) (r : Field (List Order)) → map_read (λ os. xs ++ os) (map_read (λ os. ys ++ os) r) ≡ map_read (λ os. (xs ++ ys) ++ os) r
joined xs ys (Ok v) = ap (λ zs. Ok (zs, v.1)) (sym (append_assoc xs ys v.0))
joined xs ys (Err left) = refl

pub more_pushed : (whole here after : Field (List Order)) (bytes : List ℕ) (os : List Order) (old now next : List Read) → HasPushed whole here bytes old now
    → here ≡ map_read (λ xs. os ++ xs) after → Appends bytes os now next → HasPushed whole after bytes old next
more_pushed whole here after bytes os old now next p e told = record {
  sent = p.sent ++ os;
  reading = p.reading ∙ ap (map_read (λ xs. p.sent ++ xs)) e ∙ joined p.sent os after;
  told = appends_more bytes p.sent os old now next p.told told;
}

pub all_pushed : (whole : Field (List Order)) (bytes bs : List ℕ) (old now : List Read) (p : HasPushed whole (Ok ([], bs)) bytes old now) → whole ≡ Ok (p.sent, bs)
all_pushed whole bytes bs old now p = p.reading ∙ ap (λ os. Ok (os, bs)) (append-nil p.sent)

pub refused_pushed : (whole here : Field (List Order)) (bytes left : List ℕ) (old now : List Read) → HasPushed whole here bytes old now → here ≡ Err left → whole ≡ Err left
refused_pushed whole here bytes left old now p e = p.reading ∙ ap (map_read (λ xs. p.sent ++ xs)) e

-- orders were refused, or no memory was left
pub refused_onto : (fault : OrderFault) (whole one : List ℕ → Field (List Order)) (old cur new : CursorOf) (before now next after : List Read) → cur.bytes ≡ old.bytes
    → ((left : List ℕ) → one (rest cur) ≡ Err left → whole (rest old) ≡ Err left) → ReadsOnto {X = Unit {0}} one (Err fault) cur new now next → ReadsOnto {X = Unit {0}} whole (Err fault) old new before after
refused_onto (BadOrder at) whole one old cur new before now next after same step read = (step (rest new) read.0, read.1 ∙ same, read.2)
refused_onto OutOfMemory whole one old cur new before now next after same step read = tt
