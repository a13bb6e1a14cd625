-- The orders of a body, one after the other.
use Rattle.std.proofs.Common.{◌≡◌, ◌≤◌, ◌<◌, ◌+◌, ◌*◌, ◌-◌, ◌%◌, ℕ, suc, List, [], ◌∷◌, ◌++◌, length, refl, ap, sym, subst, ◌∙◌, append_assoc, append-nil, arith, true, zero, Some, None}
use Rattle.std.specs.Prelude.{Result, Ok, Err, ◌==◌, if◌then◌else◌}
use Rattle.std.proofs.lemmas.Bool.Decides.{nat_tests}
use Rattle.px_core.specs.declared.depth.Depth.{Depth}
use Rattle.wire_num.specs.Number.{little_at}
use Rattle.wire_num.specs.Cursor.{CursorOf, rest}
use Rattle.order_fields.specs.OrderTable.{Registers}
use Rattle.order_fields.specs.OrderStream.{Order, Stream, seen, order_at, order_by, primary_at, form_of, orders_in, then_orders, with_orders, stream_end, Form}
use Rattle.order_fields.specs.OrderStream.Form.{PrimaryForm}
use Rattle.order_fields.specs.OrderStream.Order.{Primary}
use Rattle.order_read.specs.declared.order_fault.OrderFault.{OrderFault}
use Rattle.order_read.specs.declared.order_fault.OrderFault.TheVariants.{BadOrder, OutOfMemory}
use Rattle.order_read.specs.declared.read.Read.{Read}
use Rattle.order_read.specs.Reading.{Appends, ReadsOrder, ReadsAll}
use Rattle.order_read.specs.Primary.{DrawsPrimary}
use Rattle.order_read.proofs.Appending.{appends_none, appends_more, pushed}

-- a primary order by its control byte
pub primary_first : (depth : Depth) (regs : Registers) (control : ℕ) (a b : List ℕ) → little_at 1 a ≡ Ok (control, b) → control % 4 ≡ 1 → order_at depth regs a ≡ primary_at regs control b
primary_first depth regs control [] b e class = absurd (let no : ⊥ = cc in no)
primary_first depth regs control (x ∷ xs) b e class =
    let pair : ◌≡◌ {A = ℕ × List ℕ} (x + 256 * 0, xs) (control, b) = cc in
    let value : x + 256 * 0 ≡ control = ap (λ p. p.0) pair in
    let same : x ≡ control = omega (arith, value) in
    let test : (control % 4 == 1) ≡ true = grind (arith, nat_tests) in
    let form : form_of control ≡ PrimaryForm = ap (λ b. if b then PrimaryForm else (if control == 3 then Form.SecondaryForm else (if control == 54 then Form.MarkerForm else Form.NoForm))) test in
    ap (λ (n : ℕ). order_by depth (form_of n) regs n xs) same ∙ ap (λ f. order_by depth f regs control xs) form ∙ ap (primary_at regs control) (ap (λ p. p.1) pair)

-- a primary order was read and appended
pub order_drawn : (depth : Depth) (result : Result (Unit {0}) OrderFault) (control : ℕ) (regs kept : Registers) (old mid new : CursorOf) (reads after : List Read) → little_at 1 (rest old) ≡ Ok (control, rest mid) → mid.bytes ≡ old.bytes → control % 4 ≡ 1
    → DrawsPrimary control regs kept result mid new reads after → ReadsOrder depth result regs kept old new reads after
order_drawn depth (Ok x) control regs kept old mid new reads after e same class drawn =
    let d = drawn.1 in
    let o = Primary d.fields d.bounds in (
      o ∷ [],
      primary_first depth regs control (rest old) (rest mid) e class ∙ d.stands ∙ ap (λ r. Ok (seen (o ∷ []) r, rest new)) (sym d.kept),
      d.bytes ∙ same,
      pushed _ _ _ _ o drawn.2 (λ body front. d.told body),
    )
order_drawn depth (Err (BadOrder at)) control regs kept old mid new reads after e same class drawn =
    (primary_first depth regs control (rest old) (rest mid) e class ∙ drawn.0.0, drawn.0.1 ∙ same, drawn.1)
order_drawn depth (Err OutOfMemory) control regs kept old mid new reads after e same class drawn = drawn

-- ---- streams

-- orders were read and appended, and the others stand where the reading goes on
pub record HasRead (whole here : Stream) (bytes : List ℕ) (old now : List Read) : Type 0 where
  pub sent : List Order
  pub reading : whole ≡ with_orders sent here
  pub told : Appends bytes sent old now

pub none_read : (whole : Stream) (bytes : List ℕ) (old : List Read) → HasRead whole whole bytes old old
none_read whole bytes old = record { sent = []; reading = refl; told = appends_none bytes old }

joined : (xs ys : List Order) (s : Stream) → with_orders xs (with_orders ys s) ≡ with_orders (xs ++ ys) s
joined xs ys s = ap (λ os. record s { orders = os }) (sym (append_assoc xs ys s.orders))

next : (depth : Depth) (n k : ℕ) (bs : List ℕ) (regs : Registers) → k < n → orders_in depth bs (n - k) regs ≡ then_orders (order_at depth regs bs) regs (λ rest after. orders_in depth rest (n - (k + 1)) after)
next depth n k bs regs lt = let is : n - k ≡ suc (n - (k + 1)) = omega arith in ap (λ m. orders_in depth bs m regs) is

pub one_order : (depth : Depth) (n k : ℕ) (bs more : List ℕ) (regs after : Registers) (os : List Order) → k < n → order_at depth regs bs ≡ Ok (seen os after, more) → orders_in depth bs (n - k) regs ≡ with_orders os (orders_in depth more (n - (k + 1)) after)
one_order depth n k bs more regs after os lt e = next depth n k bs regs lt ∙ ap (λ r. then_orders r regs (λ rest after. orders_in depth rest (n - (k + 1)) after)) e

no_order : (depth : Depth) (n k : ℕ) (bs left : List ℕ) (regs : Registers) → k < n → order_at depth regs bs ≡ Err left → orders_in depth bs (n - k) regs ≡ record { orders = []; after = regs; refused = Some left }
no_order depth n k bs left regs lt e = next depth n k bs regs lt ∙ ap (λ r. then_orders r regs (λ rest after. orders_in depth rest (n - (k + 1)) after)) e

pub more_read : (whole here after : Stream) (bytes : List ℕ) (os : List Order) (old now next : List Read) → HasRead whole here bytes old now → here ≡ with_orders os after → Appends bytes os now next → HasRead whole after bytes old next
more_read whole here after bytes os old now next p e told = record {
  sent = p.sent ++ os;
  reading = p.reading ∙ ap (with_orders p.sent) e ∙ joined p.sent os after;
  told = appends_more bytes p.sent os old now next p.told told;
}

-- an order was refused, or no memory was left
pub order_refused : (depth : Depth) (fault : OrderFault) (whole : Stream) (n k : ℕ) (regs kept : Registers) (old cur new : CursorOf) (before now after last : List Read) → k < n → cur.bytes ≡ old.bytes
    → HasRead whole (orders_in depth (rest cur) (n - k) regs) old.bytes before now → ReadsOrder {X = Unit {0}} depth (Err fault) regs kept cur new now after → ReadsAll {X = Unit {0}} whole (Err fault) kept old new before last
order_refused depth (BadOrder at) whole n k regs kept old cur new before now after last lt same p read =
    let is : whole ≡ with_orders p.sent (record { orders = []; after = regs; refused = Some (rest new) }) = p.reading ∙ ap (with_orders p.sent) (no_order depth n k (rest cur) (rest new) regs lt read.0) in
    (ap (λ (s : Stream). s.refused) is, ap (λ (s : Stream). s.after) is ∙ sym read.2, read.1 ∙ same)
order_refused depth OutOfMemory whole n k regs kept old cur new before now after last lt same p read = tt

ended : (depth : Depth) (n k : ℕ) (bs : List ℕ) (regs : Registers) → n ≤ k → orders_in depth bs (n - k) regs ≡ stream_end regs bs
ended depth n k bs regs le = let none : n - k ≡ 0 = omega arith in ap (λ m. orders_in depth bs m regs) none

-- bytes are left
pub left_over : (depth : Depth) (whole : Stream) (n k : ℕ) (bs bytes : List ℕ) (regs : Registers) (before now : List Read) → n ≤ k → HasRead whole (orders_in depth bs (n - k) regs) bytes before now → 0 < length bs
    → (whole.refused ≡ Some bs) × (whole.after ≡ regs)
left_over depth whole n k [] bytes regs before now le p some = absurd (omega arith)
left_over depth whole n k (b ∷ bs) bytes regs before now le p some =
    let is : whole ≡ with_orders p.sent (stream_end regs (b ∷ bs)) = p.reading ∙ ap (with_orders p.sent) (ended depth n k (b ∷ bs) regs le) in
    (ap (λ (s : Stream). s.refused) is, ap (λ (s : Stream). s.after) is)

-- no byte is left
pub all_there : (depth : Depth) (whole : Stream) (n k : ℕ) (bs bytes : List ℕ) (regs : Registers) (before now : List Read) → n ≤ k → HasRead whole (orders_in depth bs (n - k) regs) bytes before now → bs ≡ []
    → (whole.refused ≡ None) × (whole.after ≡ regs) × Appends bytes whole.orders before now
all_there depth whole n k bs bytes regs before now le p none =
    let is : whole ≡ with_orders p.sent (stream_end regs []) = p.reading ∙ ap (with_orders p.sent) (ended depth n k bs regs le ∙ ap (stream_end regs) none) in
    let sent : p.sent ≡ whole.orders = sym (ap (λ (s : Stream). s.orders) is ∙ append-nil p.sent) in
    (ap (λ (s : Stream). s.refused) is, ap (λ (s : Stream). s.after) is, subst (λ (os : List Order). Appends bytes os before now) sent p.told)

-- ---- registers

-- so many orders were read, and whatever number of orders follows is read with these registers from what is left
pub HasCome : Depth → List ℕ → ℕ → Registers → List ℕ → Registers → Type 0
HasCome depth bytes k before left here = (m : ℕ) → (os : List Order) × (orders_in depth bytes (k + m) before ≡ with_orders os (orders_in depth left m here))

pub at_first : (depth : Depth) (bytes : List ℕ) (regs : Registers) → HasCome depth bytes 0 regs bytes regs
unfolding HasCome
at_first depth bytes regs = λ m. ([], let same : 0 + m ≡ m = omega arith in ap (λ n. orders_in depth bytes n regs) same)

pub come_further : (depth : Depth) (bytes left more : List ℕ) (k : ℕ) (before here after : Registers) (os : List Order) → HasCome depth bytes k before left here → order_at depth here left ≡ Ok (seen os after, more) → HasCome depth bytes (k + 1) before more after
unfolding HasCome
come_further depth bytes left more k before here after os p e = λ m.
    let q = p (suc m) in
    let same : (k + 1) + m ≡ k + suc m = omega arith in (
      q.0 ++ os,
      ap (λ n. orders_in depth bytes n before) same ∙ q.1 ∙ ap (with_orders q.0) (ap (λ r. then_orders r here (λ rest after. orders_in depth rest m after)) e) ∙ joined q.0 os (orders_in depth more m after),
    )

after_end : (regs : Registers) (left : List ℕ) → (stream_end regs left).after ≡ regs
after_end regs [] = refl
after_end regs (b ∷ bs) = refl

pub registers_here : (depth : Depth) (bytes left : List ℕ) (k : ℕ) (before here : Registers) → HasCome depth bytes k before left here → (orders_in depth bytes k before).after ≡ here
unfolding HasCome
registers_here depth bytes left k before here p =
    let q = p zero in
    let same : k ≡ k + zero = omega arith in
    ap (λ n. (orders_in depth bytes n before).after) same ∙ ap (λ (s : Stream). s.after) q.1 ∙ after_end here left

-- an order that wasn't read leaves the registers
pub registers_stay : (depth : Depth) (fault : OrderFault) (regs kept : Registers) (old new : CursorOf) (before after : List Read) → ReadsOrder {X = Unit {0}} depth (Err fault) regs kept old new before after → kept ≡ regs
registers_stay depth (BadOrder at) regs kept old new before after read = read.2
registers_stay depth OutOfMemory regs kept old new before after read = read
