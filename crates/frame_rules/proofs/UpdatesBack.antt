-- Reading the updates of a frame's orders is obeying these orders one by one.
use Rattle.std.proofs.Common.{◌≡◌, ℕ, suc, ◌+◌, ◌-◌, ◌^◌, ◌<◌, ◌≤◌, List, [], ◌∷◌, ◌++◌, length, map, refl, ap, sym, ◌∙◌, arith, Bool, true, false, append-nil, length-append, flat_map, subst}
use Rattle.std.specs.Prelude.{Some, None, Result, Ok, Err, not, ◌&&◌, if◌then◌else◌}
use Rattle.std.proofs.lemmas.Bool.Decides.{nat_tests}
use Rattle.px_core.specs.declared.surface.Size.{Size}
use Rattle.caps_sets.specs.declared.confirmed.Confirmed.{Confirmed}
use Rattle.wire_num.specs.Field.{bind}
use Rattle.order_fields.specs.OrderTable.{Registers, AreRegisters}
use Rattle.caps_sets.specs.Confirmed.{depth_of, takes_fast}
use Rattle.order_fields.specs.OrderStream.{Order, orders_in}
use Rattle.order_fields.specs.OrderStream.Order.{Other}
use Rattle.order_fields.specs.Secondary.Cached.{Marker}
use Rattle.wire_num.proofs.Numbers.{little_back}
use Rattle.order_means.specs.UpdateBodies.{orders_body, orders_data, orders_packet, synchronize_body, synchronize_packet, update_packet, fast_packet}
use Rattle.order_means.specs.CacheOrders.{frame_marker_bytes}
use Rattle.order_means.specs.Updates.{BodyForm, Body, body_at, form_of, cutting, updates_from}
use Rattle.order_means.specs.Updates.BodyForm.{Slow, FastOrders, FastSynchronize}
use Rattle.order_means.specs.Updates.Stage.{Between}
use Rattle.order_means.specs.ClientState.{Fault}
use Rattle.order_means.specs.FrameMarks.{View, reading, reading_after, read_on, update_in, view_after_body, view_after_read, view_after_stream, view_after_order, view_after_orders, with_registers, meant, marked_if}
use Rattle.order_means.specs.FrameMarks.Update.{Orders}
use Rattle.order_means.proofs.Packet.{update_cut, fast_cut}
use Rattle.order_means.proofs.Pieces.{read_joined}
use Rattle.frame_rules.specs.FrameOrders.{SentOrder}
use Rattle.frame_rules.specs.FrameBytes.{bytes_of_order, registers_after_order, bytes_of_orders, registers_after_orders, joined_bytes, joins_update, onto_update, gathered_after, update_of, updates_of, mark_bytes}
use Rattle.frame_rules.specs.FrameRead.{as_read, FitsOrder, FitOrders, AreShort, Reads}
use Rattle.frame_rules.proofs.OrdersBack.{orders_back, sent_registers_all}
use Rattle.frame_rules.proofs.RegistersApart.{over, view_orders_apart}
use Rattle.frame_rules.proofs.DepthKept.{depth_kept}

-- ---- one packet

-- a packet of either kind whose body is obeyed wherever it stands
pub packet_obeyed : (c : Confirmed) (size : Size) (v w : View) (p : ℕ) (bytes : List ℕ) → 18 + length bytes < 16384
    → ((place : ℕ) → view_after_body c size v (body_at place Slow bytes) ≡ Ok w)
    → read_on c size (reading v (cutting p Between)) (update_packet bytes) ≡ Ok (reading w (cutting (p + length (update_packet bytes)) Between))
packet_obeyed c size v w p bytes short obeys =
    let place : ℕ = (p + length (update_packet bytes)) - length bytes in
    let all : update_packet bytes ++ [] ≡ update_packet bytes = append-nil (update_packet bytes) in
    ap (λ xs. read_on c size (reading v (cutting p Between)) xs) (sym all)
    ∙ ap (reading_after c size v) (update_cut (takes_fast c) p bytes [] short)
    ∙ ap (λ r. bind (bind r (λ u. Ok u)) (λ u. Ok (reading u (cutting (p + length (update_packet bytes)) Between)))) (obeys place)

pub fast_obeyed : (c : Confirmed) (size : Size) (v w : View) (p : ℕ) (code : ℕ) (form : BodyForm) (bytes : List ℕ) → takes_fast c ≡ true → form_of code ≡ Some form → length bytes < 32760
    → ((place : ℕ) → view_after_body c size v (body_at place form bytes) ≡ Ok w)
    → read_on c size (reading v (cutting p Between)) (fast_packet code bytes) ≡ Ok (reading w (cutting (p + length (fast_packet code bytes)) Between))
fast_obeyed c size v w p code form bytes fast is short obeys =
    let place : ℕ = (p + length (fast_packet code bytes)) - length bytes in
    let all : fast_packet code bytes ++ [] ≡ fast_packet code bytes = append-nil (fast_packet code bytes) in
    ap (λ xs. read_on c size (reading v (cutting p Between)) xs) (sym all)
    ∙ ap (λ b. reading_after c size v (updates_from b (cutting p Between) (fast_packet code bytes ++ []))) fast
    ∙ ap (reading_after c size v) (fast_cut code form p bytes [] is short)
    ∙ ap (λ r. bind (bind r (λ u. Ok u)) (λ u. Ok (reading u (cutting (p + length (fast_packet code bytes)) Between)))) (obeys place)

-- ---- an Orders update

-- the most bytes of orders in an update
abbrev pub most_bytes : Bool → ℕ
most_bytes false = 16357
most_bytes true = 16375

pub short_fits : (fast : Bool) (n : ℕ) → n ≤ 16357 → n ≤ most_bytes fast
short_fits false n h = h
short_fits true n h = omega (arith, h)

pub joins_short : (fast : Bool) (used more : ℕ) → joins_update fast used more ≡ true → used + more ≤ most_bytes fast
joins_short false used more h = grind (arith, nat_tests, h)
joins_short true used more h = grind (arith, nat_tests, h)

-- an Orders update's body is read, slow or fast
pub orders_body_back : (place n : ℕ) (bytes : List ℕ) → n < 2 ^ 16 → update_in (body_at place Slow (orders_body n bytes)) ≡ Ok (Orders n bytes, [])
orders_body_back place n bytes h = let few : n < 256 ^ 2 = omega arith in rw (little_back 2 n few) refl

pub fast_body_back : (place n : ℕ) (bytes : List ℕ) → n < 2 ^ 16 → update_in (body_at place FastOrders (orders_data n bytes)) ≡ Ok (Orders n bytes, [])
fast_body_back place n bytes h = let few : n < 256 ^ 2 = omega arith in rw (little_back 2 n few) refl

length-bytes_of_orders : (c : Confirmed) (regs : Registers) (os : List SentOrder) → length (bytes_of_orders c regs os) ≡ length os
length-bytes_of_orders c regs [] = refl
length-bytes_of_orders c regs (o ∷ os) = ap suc (length-bytes_of_orders c (registers_after_order c regs o) os)

-- the bytes of some orders, one after the other
abbrev all_bytes : Confirmed → Registers → List SentOrder → List ℕ
all_bytes c regs os = joined_bytes (bytes_of_orders c regs os)

-- an Orders update whose bytes are read as orders
stream_obeyed : (c : Confirmed) (size : Size) (v w : View) (b : Body) (count : ℕ) (bytes : List ℕ) (orders : List Order) (after : Registers)
    → update_in b ≡ Ok (Orders count bytes, [])
    → orders_in v.client.depth bytes count v.client.registers ≡ record { orders = orders; after = after; refused = None }
    → view_after_orders c size v orders ≡ Ok w
    → view_after_body c size v b ≡ Ok (with_registers w after)
stream_obeyed c size v w b count bytes orders after back read obeys =
    ap (view_after_read c size b v) back
    ∙ ap (view_after_stream c size b v) read
    ∙ ap (meant b.place) (view_orders_apart c size v after orders)
    ∙ ap (λ r. meant b.place (over (λ u. with_registers u after) r)) obeys

-- the same for the packet of the update, of the kind that the viewer confirmed
orders_obeyed : (c : Confirmed) (size : Size) (v w : View) (p : ℕ) (fast : Bool) (count : ℕ) (bytes : List ℕ) (orders : List Order) (after : Registers) → takes_fast c ≡ fast
    → count < 2 ^ 16 → length bytes ≤ most_bytes fast
    → orders_in v.client.depth bytes count v.client.registers ≡ record { orders = orders; after = after; refused = None }
    → view_after_orders c size v orders ≡ Ok w
    → read_on c size (reading v (cutting p Between)) (orders_packet fast count bytes)
    ≡ Ok (reading (with_registers w after) (cutting (p + length (orders_packet fast count bytes)) Between))
orders_obeyed c size v w p false count bytes orders after is few short read obeys =
    packet_obeyed c size v (with_registers w after) p (orders_body count bytes) (omega (arith, short))
    (λ place. stream_obeyed c size v w (body_at place Slow (orders_body count bytes)) count bytes orders after (orders_body_back place count bytes few) read obeys)
orders_obeyed c size v w p true count bytes orders after is few short read obeys =
    fast_obeyed c size v (with_registers w after) p 0 FastOrders (orders_data count bytes) is refl (omega (arith, short))
    (λ place. stream_obeyed c size v w (body_at place FastOrders (orders_data count bytes)) count bytes orders after (fast_body_back place count bytes few) read obeys)

pub update_obeyed : (c : Confirmed) (size : Size) (v w : View) (p : ℕ) (os : List SentOrder) → v.client.depth ≡ depth_of c → AreRegisters v.client.registers → FitOrders c os → length os < 2 ^ 16
    → length (all_bytes c v.client.registers os) ≤ most_bytes (takes_fast c)
    → view_after_orders c size v (map (as_read c) os) ≡ Ok w
    → read_on c size (reading v (cutting p Between)) (update_of (takes_fast c) (bytes_of_orders c v.client.registers os))
    ≡ Ok (reading (with_registers w (registers_after_orders c v.client.registers os)) (cutting (p + length (update_of (takes_fast c) (bytes_of_orders c v.client.registers os))) Between))
update_obeyed c size v w p os deep are fits few short obeys =
    let regs = v.client.registers in
    let bytes = all_bytes c regs os in
    let count : length (bytes_of_orders c regs os) ≡ length os = length-bytes_of_orders c regs os in
    let read : orders_in v.client.depth bytes (length os) regs ≡ record { orders = map (as_read c) os; after = registers_after_orders c regs os; refused = None } =
    ap (λ depth. orders_in depth bytes (length os) regs) deep ∙ orders_back c regs os are fits in
    rw count (orders_obeyed c size v w p (takes_fast c) (length os) bytes (map (as_read c) os) (registers_after_orders c regs os) refl few short read obeys)

-- ---- bytes read one after the other

pub reads_nothing : (c : Confirmed) (size : Size) (v : View) (p : ℕ) → Reads c size v p [] v
reads_nothing c size v p = let same : p ≡ p + 0 = omega arith in ap (λ n. Ok (reading v (cutting n Between))) same

pub reads_then : (c : Confirmed) (size : Size) (v u w : View) (p : ℕ) (xs ys : List ℕ) → Reads c size v p xs u → Reads c size u (p + length xs) ys w → Reads c size v p (xs ++ ys) w
reads_then c size v u w p xs ys first second =
    let same : (p + length xs) + length ys ≡ p + length (xs ++ ys) = omega (arith, length-append xs ys) in
    read_joined c size (reading v (cutting p Between)) xs ys ∙ ap (λ r. bind r (λ s. read_on c size s ys)) first ∙ second ∙ ap (λ n. Ok (reading w (cutting n Between))) same

reads_same : (c : Confirmed) (size : Size) (v w : View) (p : ℕ) (xs ys : List ℕ) → xs ≡ ys → Reads c size v p xs w → Reads c size v p ys w
reads_same c size v w p xs ys e h = subst (λ bytes. Reads c size v p bytes w) e h

-- ---- orders obeyed one after the other

bind_bind : (r : Result View Fault) (f g h : View → Result View Fault) → ((u : View) → f u ≡ bind (g u) h) → bind r f ≡ bind (bind r g) h
bind_bind (Ok u) f g h e = e u
bind_bind (Err fault) f g h e = refl

pub view_orders-append : (c : Confirmed) (size : Size) (v : View) (xs ys : List Order) → view_after_orders c size v (xs ++ ys) ≡ bind (view_after_orders c size v xs) (λ u. view_after_orders c size u ys)
view_orders-append c size v [] ys = refl
view_orders-append c size v (x ∷ xs) ys =
    bind_bind (view_after_order c size v x) (λ u. view_after_orders c size u (xs ++ ys)) (λ u. view_after_orders c size u xs) (λ u. view_after_orders c size u ys) (λ u. view_orders-append c size u xs ys)

-- what was obeyed first, and what was obeyed then
record ObeyedThrough (x : Result View Fault) (f : View → Result View Fault) (w : View) : Type 0 where
  mid : View
  first : x ≡ Ok mid
  second : f mid ≡ Ok w

between : (x : Result View Fault) (f : View → Result View Fault) (w : View) → bind x f ≡ Ok w → ObeyedThrough x f w
between (Ok u) f w h = record { mid = u; first = refl; second = h }
between (Err fault) f w h = absurd (cc h)

-- ---- gathering

onto_all : List (List ℕ) → List (List (List ℕ)) → List (List (List ℕ))
onto_all [] updates = updates
onto_all (o ∷ os) updates = onto_update o (onto_all os updates)

onto_all-last : (xs : List (List ℕ)) (y : List ℕ) (updates : List (List (List ℕ))) → onto_all xs (onto_update y updates) ≡ onto_all (xs ++ y ∷ []) updates
unfolding onto_all
onto_all-last [] y updates = refl
onto_all-last (x ∷ xs) y updates = ap (onto_update x) (onto_all-last xs y updates)

onto_all-open : (xs : List (List ℕ)) (updates : List (List (List ℕ))) → onto_all xs ([] ∷ updates) ≡ xs ∷ updates
unfolding onto_all
onto_all-open [] updates = refl
onto_all-open (x ∷ xs) updates = ap (onto_update x) (onto_all-open xs updates)

bytes_of_orders-last : (c : Confirmed) (regs : Registers) (os : List SentOrder) (o : SentOrder)
    → bytes_of_orders c regs os ++ bytes_of_order c (registers_after_orders c regs os) o ∷ [] ≡ bytes_of_orders c regs (os ++ o ∷ [])
bytes_of_orders-last c regs [] o = refl
bytes_of_orders-last c regs (x ∷ xs) o = ap (λ bs. bytes_of_order c regs x ∷ bs) (bytes_of_orders-last c (registers_after_order c regs x) xs o)

registers-last : (c : Confirmed) (regs : Registers) (os : List SentOrder) (o : SentOrder) → registers_after_order c (registers_after_orders c regs os) o ≡ registers_after_orders c regs (os ++ o ∷ [])
registers-last c regs [] o = refl
registers-last c regs (x ∷ xs) o = registers-last c (registers_after_order c regs x) xs o

joined-last : (xs : List (List ℕ)) (y : List ℕ) → length (joined_bytes (xs ++ y ∷ [])) ≡ length (joined_bytes xs) + length y
joined-last [] y = let e = append-nil y in omega (arith, ap length e)
joined-last (x ∷ xs) y = let more = joined-last xs y in omega (arith, more, length-append x (joined_bytes (xs ++ y ∷ [])), length-append x (joined_bytes xs))

fit-last : (c : Confirmed) (os : List SentOrder) (o : SentOrder) → FitOrders c os → FitsOrder c o → FitOrders c (os ++ o ∷ [])
fit-last c [] o h k = (k, tt)
fit-last c (x ∷ xs) o h k = (h.0, fit-last c xs o h.1 k)

length-last : (os : List SentOrder) (o : SentOrder) → length (os ++ o ∷ []) ≡ suc (length os)
length-last [] o = refl
length-last (x ∷ xs) o = ap suc (length-last xs o)

map-last : (c : Confirmed) (os : List SentOrder) (o : SentOrder) → map (as_read c) (os ++ o ∷ []) ≡ map (as_read c) os ++ as_read c o ∷ []
map-last c [] o = refl
map-last c (x ∷ xs) o = ap (λ r. as_read c x ∷ r) (map-last c xs o)

one_obeyed : (c : Confirmed) (size : Size) (v u : View) (o : Order) → view_after_order c size v o ≡ Ok u → view_after_orders c size v (o ∷ []) ≡ Ok u
one_obeyed c size v u o h = ap (λ r. bind r (λ w. view_after_orders c size w [])) h

abbrev view_or : View → Result View Fault → View
view_or v (Ok w) = w
view_or v (Err fault) = v

module _ (c : Confirmed) (size : Size) where
  -- what is still begun, with its bytes, and what is gathered after it
  rest_bytes : Registers → List SentOrder → ℕ → List SentOrder → List ℕ
  rest_bytes regs begun used os = flat_map (update_of (takes_fast c)) (onto_all (bytes_of_orders c regs begun) (gathered_after (takes_fast c) used (bytes_of_orders c (registers_after_orders c regs begun) os)))

  -- the premises of reading on: orders that are begun, those after them, and the views after both
  record GoesOn (begun os : List SentOrder) (v u w : View) (used : ℕ) : Type 0 where
    deep : v.client.depth ≡ depth_of c
    are : AreRegisters v.client.registers
    begun_fit : FitOrders c begun
    fit : FitOrders c os
    short : AreShort c (registers_after_orders c v.client.registers begun) os
    used_is : used ≡ length (all_bytes c v.client.registers begun)
    fits : used ≤ most_bytes (takes_fast c)
    few : length begun + length os < 2 ^ 16
    opened : view_after_orders c size v (map (as_read c) begun) ≡ Ok u
    obeyed_ : view_after_orders c size u (map (as_read c) os) ≡ Ok w

  final : View → List SentOrder → List SentOrder → View → View
  final v begun os w = with_registers w (registers_after_orders c (registers_after_orders c v.client.registers begun) os)

  all_open : (begun : List SentOrder) (v u w : View) (p used : ℕ) → GoesOn begun [] v u w used → Reads c size v p (rest_bytes v.client.registers begun used []) (final v begun [] w)
  unfolding rest_bytes final onto_all
  all_open begun v u w p used g =
      let regs = v.client.registers in
      let whole : onto_all (bytes_of_orders c regs begun) ([] ∷ []) ≡ bytes_of_orders c regs begun ∷ [] = onto_all-open (bytes_of_orders c regs begun) [] in
      let bytes : update_of (takes_fast c) (bytes_of_orders c regs begun) ≡ flat_map (update_of (takes_fast c)) (onto_all (bytes_of_orders c regs begun) ([] ∷ [])) =
      sym (ap (flat_map (update_of (takes_fast c))) whole ∙ append-nil (update_of (takes_fast c) (bytes_of_orders c regs begun))) in
      let few : length begun < 2 ^ 16 = let f = g.few in omega arith in
      let short : length (all_bytes c regs begun) ≤ most_bytes (takes_fast c) = subst (λ n. n ≤ most_bytes (takes_fast c)) g.used_is g.fits in
      let same : view_after_orders c size v (map (as_read c) begun) ≡ Ok w = g.opened ∙ g.obeyed_ in
      reads_same c size v (with_registers w (registers_after_orders c regs begun)) p _ _ bytes (update_obeyed c size v w p begun g.deep g.are g.begun_fit few short same)

  gathered_obeyed : (os begun : List SentOrder) (v u w : View) (p used : ℕ) → GoesOn begun os v u w used → Reads c size v p (rest_bytes v.client.registers begun used os) (final v begun os w)
  unfolding rest_bytes final onto_all
  gathered_obeyed [] begun v u w p used g = all_open begun v u w p used g
  gathered_obeyed (o ∷ os) begun v u w p used g = by_joining (joins_update (takes_fast c) used (length (bytes_of_order c (registers_after_orders c v.client.registers begun) o))) refl
      (λ v' u' p' used' g'. gathered_obeyed os (begun ++ o ∷ []) v' u' w p' used' g')
      (λ v' u' w' p' used' g'. gathered_obeyed os (o ∷ []) v' u' w' p' used' g')
    where
      by_joining : (b : Bool) → joins_update (takes_fast c) used (length (bytes_of_order c (registers_after_orders c v.client.registers begun) o)) ≡ b
          → ((v' u' : View) (p' used' : ℕ) → GoesOn (begun ++ o ∷ []) os v' u' w used' → Reads c size v' p' (rest_bytes v'.client.registers (begun ++ o ∷ []) used' os) (final v' (begun ++ o ∷ []) os w))
          → ((v' u' w' : View) (p' used' : ℕ) → GoesOn (o ∷ []) os v' u' w' used' → Reads c size v' p' (rest_bytes v'.client.registers (o ∷ []) used' os) (final v' (o ∷ []) os w'))
          → Reads c size v p (rest_bytes v.client.registers begun used (o ∷ os)) (final v begun (o ∷ os) w)
      by_joining true e joined fresh =
          let regs = v.client.registers in
          let R = registers_after_orders c regs begun in
          let chunk = bytes_of_order c R o in
          let X = bytes_of_orders c (registers_after_order c R o) os in
          let B = bytes_of_orders c regs begun in
          let n = used + length chunk in
          let m = between (view_after_order c size u (as_read c o)) (λ x. view_after_orders c size x (map (as_read c) os)) w g.obeyed_ in
          let used_is = g.used_is in
          let few = g.few in
          let next : GoesOn (begun ++ o ∷ []) os v m.mid w n = record {
            deep = g.deep;
            are = g.are;
            begun_fit = fit-last c begun o g.begun_fit g.fit.0;
            fit = g.fit.1;
            short = subst (λ r. AreShort c r os) (registers-last c regs begun o) g.short.1;
            used_is = omega (arith, joined-last B chunk, ap (λ bs. length (joined_bytes bs)) (bytes_of_orders-last c regs begun o));
            fits = joins_short (takes_fast c) used (length chunk) e;
            few = omega (arith, length-last begun o);
            opened = ap (view_after_orders c size v) (map-last c begun o) ∙ view_orders-append c size v (map (as_read c) begun) (as_read c o ∷ [])
                ∙ ap (λ r. bind r (λ x. view_after_orders c size x (as_read c o ∷ []))) g.opened ∙ one_obeyed c size u m.mid (as_read c o) m.first;
            obeyed_ = m.second;
          } in
          let bytes : rest_bytes regs (begun ++ o ∷ []) n os ≡ rest_bytes regs begun used (o ∷ os) =
          ap (λ r. flat_map (update_of (takes_fast c)) (onto_all (bytes_of_orders c regs (begun ++ o ∷ [])) (gathered_after (takes_fast c) n (bytes_of_orders c r os)))) (sym (registers-last c regs begun o))
          ∙ ap (λ bs. flat_map (update_of (takes_fast c)) (onto_all bs (gathered_after (takes_fast c) n X))) (sym (bytes_of_orders-last c regs begun o))
          ∙ ap (flat_map (update_of (takes_fast c))) (sym (onto_all-last B chunk (gathered_after (takes_fast c) n X)))
          ∙ ap (λ b. flat_map (update_of (takes_fast c)) (onto_all B (if b then onto_update chunk (gathered_after (takes_fast c) n X) else [] ∷ onto_update chunk (gathered_after (takes_fast c) (length chunk) X)))) (sym e) in
          let last : final v (begun ++ o ∷ []) os w ≡ final v begun (o ∷ os) w = ap (λ r. with_registers w (registers_after_orders c r os)) (sym (registers-last c regs begun o)) in
          subst (λ x. Reads c size v p (rest_bytes regs begun used (o ∷ os)) x) last (reads_same c size v (final v (begun ++ o ∷ []) os w) p _ _ bytes (joined v m.mid p n next))
      by_joining false e joined fresh =
          let regs = v.client.registers in
          let R = registers_after_orders c regs begun in
          let chunk = bytes_of_order c R o in
          let X = bytes_of_orders c (registers_after_order c R o) os in
          let B = bytes_of_orders c regs begun in
          let m = between (view_after_order c size u (as_read c o)) (λ x. view_after_orders c size x (map (as_read c) os)) w g.obeyed_ in
          let few = g.few in
          let here : length begun < 2 ^ 16 = omega arith in
          let short : length (all_bytes c regs begun) ≤ most_bytes (takes_fast c) = subst (λ n. n ≤ most_bytes (takes_fast c)) g.used_is g.fits in
          let alone = append-nil chunk in
          let small = g.short.0 in
          let next : GoesOn (o ∷ []) os (with_registers u R) (with_registers m.mid R) (with_registers w R) (length (chunk ++ [])) = record {
            deep = depth_kept c size v u (map (as_read c) begun) g.opened ∙ g.deep;
            are = sent_registers_all c regs begun g.are g.begun_fit;
            begun_fit = (g.fit.0, tt);
            fit = g.fit.1;
            short = g.short.1;
            used_is = refl;
            fits = short_fits (takes_fast c) (length (chunk ++ [])) (omega (arith, small, ap length alone));
            few = omega arith;
            opened = view_orders_apart c size u R (as_read c o ∷ []) ∙ ap (over (λ x. with_registers x R)) (one_obeyed c size u m.mid (as_read c o) m.first);
            obeyed_ = view_orders_apart c size m.mid R (map (as_read c) os) ∙ ap (over (λ x. with_registers x R)) m.second;
          } in
          let one = update_obeyed c size v u p begun g.deep g.are g.begun_fit here short g.opened in
          let two = fresh (with_registers u R) (with_registers m.mid R) (with_registers w R) (p + length (update_of (takes_fast c) B)) (length (chunk ++ [])) next in
          let bytes : update_of (takes_fast c) B ++ rest_bytes R (o ∷ []) (length (chunk ++ [])) os ≡ rest_bytes regs begun used (o ∷ os) =
          ap (λ n. update_of (takes_fast c) B ++ flat_map (update_of (takes_fast c)) (onto_update chunk (gathered_after (takes_fast c) n X))) (ap length alone)
          ∙ ap (flat_map (update_of (takes_fast c))) (sym (onto_all-open B (onto_update chunk (gathered_after (takes_fast c) (length chunk) X))))
          ∙ ap (λ b. flat_map (update_of (takes_fast c)) (onto_all B (if b then onto_update chunk (gathered_after (takes_fast c) (used + length chunk) X) else [] ∷ onto_update chunk (gathered_after (takes_fast c) (length chunk) X)))) (sym e) in
          reads_same c size v (final v begun (o ∷ os) w) p _ _ bytes (reads_then c size v (with_registers u R) (final v begun (o ∷ os) w) p (update_of (takes_fast c) B) (rest_bytes R (o ∷ []) (length (chunk ++ [])) os) one two)

  -- the updates that orders are gathered into are read as the orders, obeyed one by one
  pub updates_obeyed : (os : List SentOrder) (v w : View) (p : ℕ) → v.client.depth ≡ depth_of c → AreRegisters v.client.registers → FitOrders c os → AreShort c v.client.registers os → length os < 2 ^ 16
      → view_after_orders c size v (map (as_read c) os) ≡ Ok w
      → Reads c size v p (updates_of (takes_fast c) (bytes_of_orders c v.client.registers os)) (with_registers w (registers_after_orders c v.client.registers os))
  unfolding rest_bytes final onto_all
  updates_obeyed [] v w p deep are fit short few obeys =
      let same : v ≡ w = ap (λ r. view_or v r) obeys in
      subst (λ x. Reads c size v p [] (with_registers x v.client.registers)) same (reads_nothing c size v p)
  updates_obeyed (o ∷ os) v w p deep are fit short few obeys =
      let regs = v.client.registers in
      let chunk = bytes_of_order c regs o in
      let X = bytes_of_orders c (registers_after_order c regs o) os in
      let m = between (view_after_order c size v (as_read c o)) (λ x. view_after_orders c size x (map (as_read c) os)) w obeys in
      let alone = append-nil chunk in
      let small = short.0 in
      let next : GoesOn (o ∷ []) os v m.mid w (length (chunk ++ [])) = record {
        deep = deep;
        are = are;
        begun_fit = (fit.0, tt);
        fit = fit.1;
        short = short.1;
        used_is = refl;
        fits = short_fits (takes_fast c) (length (chunk ++ [])) (omega (arith, small, ap length alone));
        few = omega arith;
        opened = one_obeyed c size v m.mid (as_read c o) m.first;
        obeyed_ = m.second;
      } in
      reads_same c size v (with_registers w (registers_after_orders c regs (o ∷ os))) p _ _ (ap (λ n. flat_map (update_of (takes_fast c)) (onto_update chunk (gathered_after (takes_fast c) n X))) (ap length alone))
      (gathered_obeyed os (o ∷ []) v m.mid w p (length (chunk ++ [])) next)

-- ---- the mark

synchronize_obeyed : (c : Confirmed) (size : Size) (v : View) (p : ℕ) (fast : Bool) → takes_fast c ≡ fast → c.marker ≡ false → Reads c size v p (synchronize_packet fast) (marked_if true v)
synchronize_obeyed c size v p false is e = packet_obeyed c size v (marked_if true v) p synchronize_body (omega arith) (λ place. ap (λ b. Ok (marked_if (not b) v)) e)
synchronize_obeyed c size v p true is e = fast_obeyed c size v (marked_if true v) p 3 FastSynchronize [] is refl (omega arith) (λ place. ap (λ b. Ok (marked_if (not b) v)) e)

-- a frame marker fits into a packet of either kind
marker_fits : (fast : Bool) → length (joined_bytes (frame_marker_bytes true ∷ [])) ≤ most_bytes fast
marker_fits false = omega arith
marker_fits true = omega arith

-- a frame marker is read alike at every depth
marker_obeyed : (c : Confirmed) (size : Size) (v : View) (p : ℕ) (fast : Bool) → takes_fast c ≡ fast → c.marker ≡ true → Reads c size v p (update_of fast (frame_marker_bytes true ∷ [])) (marked_if true v)
marker_obeyed c size v p fast is e =
    let bytes = joined_bytes (frame_marker_bytes true ∷ []) in
    orders_obeyed c size v (marked_if true v) p fast 1 bytes (Other (Marker true) ∷ []) v.client.registers is (omega arith) (marker_fits fast) refl (ap (λ b. Ok (marked_if (b && true) v)) e)

mark_by : (c : Confirmed) (size : Size) (v : View) (p : ℕ) (fast b : Bool) → takes_fast c ≡ fast → c.marker ≡ b → Reads c size v p (mark_bytes fast b) (marked_if true v)
mark_by c size v p fast true is e = marker_obeyed c size v p fast is e
mark_by c size v p fast false is e = synchronize_obeyed c size v p fast is e

-- the mark's update shows the picture, with or without frame markers
pub mark_obeyed : (c : Confirmed) (size : Size) (v : View) (p : ℕ) → AreRegisters v.client.registers → Reads c size v p (mark_bytes (takes_fast c) c.marker) (marked_if true v)
mark_obeyed c size v p are = mark_by c size v p (takes_fast c) c.marker refl refl
