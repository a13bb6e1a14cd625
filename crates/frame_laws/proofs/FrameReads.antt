-- A frame's bytes are read as its orders, its tiles and its mark, and nothing else.
use Rattle.std.proofs.Common.{◌≡◌, ℕ, suc, ◌+◌, ◌*◌, ◌^◌, ◌<◌, ◌≤◌, List, [], ◌∷◌, ◌++◌, length, map, flat_map, refl, ap, sym, ◌∙◌, subst, arith}
use Rattle.std.proofs.Common.{append-nil, append_assoc, length-append, Some}
use Rattle.std.specs.Prelude.{◌-◌, Bool, true, false, nat_lt, Option, if◌then◌else◌}
use Rattle.std.specs.Option.{option_map, option_and_then}
use Rattle.px_core.specs.declared.surface.Size.{Size}
use Rattle.px_core.specs.declared.depth.Depth.{Depth}
use Rattle.px_core.specs.Picture.{rows_of}
use Rattle.px_core.specs.Rectangle.{pixel_of, cut_out, is_session_size}
use Rattle.px_core.specs.Tiles.{Tiles, tile_on}
use Rattle.caps_sets.specs.declared.confirmed.Confirmed.{Confirmed}
use Rattle.caps_sets.specs.Confirmed.{depth_of, takes_fast}
use Rattle.px_core.specs.declared.rectangle.Rect.{Rect}
use Rattle.order_fields.specs.OrderTable.{Registers, AreRegisters}
use Rattle.order_means.specs.UpdateBodies.{orders_body, orders_data, orders_packet, tile_body, tile_packet, synchronize_body, synchronize_packet, update_packet, fast_packet}
use Rattle.order_means.specs.Updates.{BodyForm, Body, body_at, form_of, Stage, Updates, cutting, before_updates, updates_from}
use Rattle.order_means.specs.Updates.BodyForm.{Slow, FastOrders, FastBitmap, FastSynchronize}
use Rattle.order_means.specs.Updates.Stage.{Between, One, Two, Three, Inside, Fast, FastLong, FastInside, Refused}
use Rattle.order_means.specs.FrameMarks.{update_in}
use Rattle.order_fields.specs.OrderStream.{orders_in}
use Rattle.order_means.proofs.Packet.{update_cut, fast_cut}
use Rattle.session_rules.specs.declared.entry.Entry.{Entry}
use Rattle.session_rules.specs.Steps.{TakeOf}
use Rattle.session_rules.specs.Journal.{Head, IsLegalJournal, state_after}
use Rattle.session_rules.specs.Pending.{Pending, pending_between}
use Rattle.frame_rules.specs.Frame.{Walk, first_dirty, framed_by, frame_over, is_first, most_orders}
use Rattle.frame_rules.specs.FrameOrders.{SentOrder, FrameOrder, tile_order, end_mark, orders_before_tiles}
use Rattle.frame_rules.specs.FrameOrders.FrameOrder.{Ordered, Tile}
use Rattle.frame_rules.specs.FrameOrders.SentOrder.{FrameMarker}
use Rattle.frame_rules.specs.FrameBytes.{bytes_of_order, registers_after_order, bytes_of_orders, registers_after_orders, joined_bytes, joins_update}
use Rattle.frame_rules.specs.FrameBytes.{onto_update, gathered_after, update_of, updates_of, tile_bytes, mark_bytes}
use Rattle.frame_rules.specs.FrameRead.{as_read, FitsOrder, FitOrders, AreShort}
use Rattle.frame_rules.specs.Encoder.{Encoder, encoder_frame, take_bytes, take_orders, encoder_after}
use Rattle.frame_rules.specs.Blocks.{AreApart}
use Rattle.frame_rules.specs.Describes.{HasAllCaches}
use Rattle.frame_rules.specs.OrdersOfBytes.{ReadOrder, OrdersRead, orders_read, read_in_stream, read_in_body, before_orders, read_in_bodies}
use Rattle.frame_rules.specs.OrdersOfBytes.{read_if_whole, frame_order_read, FramesReadAsTheirOrders}
use Rattle.frame_rules.specs.PacketKinds.{came_fast, AreOfKind, FramesGoAsConfirmed}
use Rattle.frame_rules.proofs.UpdatesBack.{most_bytes, short_fits, joins_short, orders_body_back, fast_body_back}
use Rattle.frame_rules.specs.OrdersOfBytes.ReadOrder.{OrderRead}
use Rattle.frame_rules.proofs.OrdersBack.{orders_back, sent_registers_all}
use Rattle.session_rules.proofs.Fitting.{sides_of}
use Rattle.frame_laws.specs.Sound.{AreColors}
use Rattle.frame_laws.specs.Tile.{IsTileRect}
use Rattle.frame_laws.proofs.TileBack.{body_back, body_short, fast_body_short}
use Rattle.frame_laws.proofs.TileBack.{fast_body_back as tile_fast_back}
use Rattle.frame_laws.specs.Drawings.{drawings_between}
use Rattle.frame_laws.proofs.Colored.{length-listed, colors_cut}
use Rattle.frame_laws.proofs.Entries.{pending_between_is}
use Rattle.frame_laws.proofs.Journals.{between_sound, state_sound}
use Rattle.frame_laws.proofs.FrameShown.{AreTiles}
use Rattle.frame_laws.proofs.OrderValues.{whole_fit, whole_short}
use Rattle.frame_laws.proofs.FrameFits.{FewWhole, frame_fits}
use Rattle.frame_laws.proofs.TileRects.{are_tiles}
use Rattle.frame_laws.proofs.FrameWhole.{picture_is}

-- ---- whole packets, one after the other

-- what updates of a stretch say, read with registers
abbrev said_by : Depth → Registers → Updates → Option OrdersRead
said_by depth regs u = read_if_whole u.next.stage (read_in_bodies depth regs u.bodies)

-- bytes that say something to a viewer, from a place on, in packets of the kind that it confirmed
record SaysAt (c : Confirmed) (regs : Registers) (bytes : List ℕ) (x : OrdersRead) (place : ℕ) : Type 0 where
  said : said_by (depth_of c) regs (updates_from (takes_fast c) (cutting place Between) bytes) ≡ Some x
  kind : AreOfKind (takes_fast c) (updates_from true (cutting place Between) bytes)

-- the same wherever they begin
abbrev Says : Confirmed → Registers → List ℕ → OrdersRead → Type 0
Says c regs bytes x = (place : ℕ) → SaysAt c regs bytes x place

says_nothing : (c : Confirmed) (regs : Registers) → Says c regs [] (orders_read [] regs)
says_nothing c regs place = record { said = refl; kind = record { whole = refl; alike = tt } }

whole_mapped : (s : Stage) (o : Option OrdersRead) (f : OrdersRead → OrdersRead) (y : OrdersRead) → read_if_whole s o ≡ Some y
    → read_if_whole s (option_map f o) ≡ Some (f y)
whole_mapped Between o f y e = ap (option_map f) e
whole_mapped One o f y e = absurd (cc e)
whole_mapped (Two second) o f y e = absurd (cc e)
whole_mapped (Three second high) o f y e = absurd (cc e)
whole_mapped (Inside missing second high low front) o f y e = absurd (cc e)
whole_mapped Fast o f y e = absurd (cc e)
whole_mapped (FastLong high) o f y e = absurd (cc e)
whole_mapped (FastInside missing head front) o f y e = absurd (cc e)
whole_mapped (Refused place) o f y e = absurd (cc e)

-- a body before others
says_body : (c : Confirmed) (regs : Registers) (b : Body) (u : Updates) (x y : OrdersRead) → read_in_body (depth_of c) regs (update_in b) ≡ Some x
    → said_by (depth_of c) x.after u ≡ Some y
    → said_by (depth_of c) regs (before_updates (b ∷ []) u) ≡ Some (before_orders x y)
says_body c regs b u x y first rest =
    ap (λ o. read_if_whole u.next.stage (option_and_then (λ a. option_map (before_orders a) (read_in_bodies (depth_of c) a.after u.bodies)) o)) first
    ∙ whole_mapped u.next.stage (read_in_bodies (depth_of c) x.after u.bodies) (before_orders x) y rest

before_kind : (fast : Bool) (b : Body) (u : Updates) → came_fast b.form ≡ fast → AreOfKind fast u → AreOfKind fast (before_updates (b ∷ []) u)
before_kind fast b u e k = record { whole = k.whole; alike = (e, k.alike) }

-- a packet before others, of a viewer without the fast path
says_packet : (c : Confirmed) (regs : Registers) (bytes more : List ℕ) (x y : OrdersRead) → takes_fast c ≡ false → 18 + length bytes < 16384
    → ((place : ℕ) → read_in_body (depth_of c) regs (update_in (body_at place Slow bytes)) ≡ Some x)
    → Says c x.after more y
    → Says c regs (update_packet bytes ++ more) (before_orders x y)
says_packet c regs bytes more x y is short first rest place =
    let next = place + length (update_packet bytes) in
    let b = body_at ((place + length (update_packet bytes)) - length bytes) Slow bytes in
    let r = rest next in
    record {
      said = ap (said_by (depth_of c) regs) (update_cut (takes_fast c) place bytes more short)
          ∙ says_body c regs b (updates_from (takes_fast c) (cutting next Between) more) x y (first b.place) r.said;
      kind = subst (AreOfKind (takes_fast c)) (sym (update_cut true place bytes more short))
          (before_kind (takes_fast c) b (updates_from true (cutting next Between) more) (sym is) r.kind);
    }

-- a packet of the fast path before others, of a viewer that confirmed it
says_fast : (c : Confirmed) (regs : Registers) (code : ℕ) (form : BodyForm) (bytes more : List ℕ) (x y : OrdersRead) → takes_fast c ≡ true → came_fast form ≡ true → form_of code ≡ Some form
    → length bytes < 32760
    → ((place : ℕ) → read_in_body (depth_of c) regs (update_in (body_at place form bytes)) ≡ Some x)
    → Says c x.after more y
    → Says c regs (fast_packet code bytes ++ more) (before_orders x y)
says_fast c regs code form bytes more x y is came fast short first rest place =
    let next = place + length (fast_packet code bytes) in
    let b = body_at ((place + length (fast_packet code bytes)) - length bytes) form bytes in
    let r = rest next in
    record {
      said = ap (λ k. said_by (depth_of c) regs (updates_from k (cutting place Between) (fast_packet code bytes ++ more))) is
          ∙ (ap (said_by (depth_of c) regs) (fast_cut code form place bytes more fast short)
          ∙ (ap (λ k. said_by (depth_of c) regs (before_updates (b ∷ []) (updates_from k (cutting next Between) more))) (sym is)
          ∙ says_body c regs b (updates_from (takes_fast c) (cutting next Between) more) x y (first b.place) r.said));
      kind = subst (AreOfKind (takes_fast c)) (sym (fast_cut code form place bytes more fast short))
          (before_kind (takes_fast c) b (updates_from true (cutting next Between) more) (came ∙ sym is) r.kind);
    }

-- ---- Orders updates

module _ (c : Confirmed) where
  abbrev read_as : SentOrder → ReadOrder
  read_as o = OrderRead (as_read c o)

  length-bytes : (regs : Registers) (os : List SentOrder) → length (bytes_of_orders c regs os) ≡ length os
  length-bytes regs [] = refl
  length-bytes regs (o ∷ os) = ap suc (length-bytes (registers_after_order c regs o) os)

  map_twice : (os : List SentOrder) → map OrderRead (map (as_read c) os) ≡ map read_as os
  map_twice [] = refl
  map_twice (o ∷ os) = ap (λ l. read_as o ∷ l) (map_twice os)

  stream_says : (regs : Registers) (os : List SentOrder) → AreRegisters regs → FitOrders c os
      → read_in_stream (orders_in (depth_of c) (joined_bytes (bytes_of_orders c regs os)) (length os) regs) ≡ Some (orders_read (map read_as os) (registers_after_orders c regs os))
  stream_says regs os are fit =
      ap read_in_stream (orders_back c regs os are fit) ∙ ap (λ l. Some (orders_read l (registers_after_orders c regs os))) (map_twice os)

  body_says : (regs : Registers) (os : List SentOrder) → AreRegisters regs → FitOrders c os → length os < 2 ^ 16 → (place : ℕ)
      → read_in_body (depth_of c) regs (update_in (body_at place Slow (orders_body (length os) (joined_bytes (bytes_of_orders c regs os))))) ≡ Some
      (orders_read (map read_as os) (registers_after_orders c regs os))
  body_says regs os are fit few place =
      ap (read_in_body (depth_of c) regs) (orders_body_back place (length os) (joined_bytes (bytes_of_orders c regs os)) few) ∙ stream_says regs os are fit

  fast_body_says : (regs : Registers) (os : List SentOrder) → AreRegisters regs → FitOrders c os → length os < 2 ^ 16 → (place : ℕ)
      → read_in_body (depth_of c) regs (update_in (body_at place FastOrders (orders_data (length os) (joined_bytes (bytes_of_orders c regs os))))) ≡ Some
      (orders_read (map read_as os) (registers_after_orders c regs os))
  fast_body_says regs os are fit few place =
      ap (read_in_body (depth_of c) regs) (fast_body_back place (length os) (joined_bytes (bytes_of_orders c regs os)) few) ∙ stream_says regs os are fit

  -- the packet of some orders, of the kind that the viewer confirmed, before other bytes
  packet_says : (fast : Bool) → takes_fast c ≡ fast → (regs : Registers) (os : List SentOrder) (more : List ℕ) (y : OrdersRead) → AreRegisters regs → FitOrders c os
      → length os < 2 ^ 16 → length (joined_bytes (bytes_of_orders c regs os)) ≤ most_bytes fast → Says c (registers_after_orders c regs os) more y
      → Says c regs (orders_packet fast (length os) (joined_bytes (bytes_of_orders c regs os)) ++ more) (orders_read (map read_as os ++ y.orders) y.after)
  packet_says false is regs os more y are fit few short rest =
      says_packet c regs (orders_body (length os) (joined_bytes (bytes_of_orders c regs os))) more (orders_read (map read_as os) (registers_after_orders c regs os)) y is
      (omega (arith, short)) (body_says regs os are fit few) rest
  packet_says true is regs os more y are fit few short rest =
      says_fast c regs 0 FastOrders (orders_data (length os) (joined_bytes (bytes_of_orders c regs os))) more
      (orders_read (map read_as os) (registers_after_orders c regs os)) y is refl refl (omega (arith, short)) (fast_body_says regs os are fit few) rest

  -- the update of some orders, before other bytes
  update_says : (regs : Registers) (os : List SentOrder) (more : List ℕ) (y : OrdersRead) → AreRegisters regs → FitOrders c os → length os < 2 ^ 16
      → length (joined_bytes (bytes_of_orders c regs os)) ≤ most_bytes (takes_fast c) → Says c (registers_after_orders c regs os) more y
      → Says c regs (update_of (takes_fast c) (bytes_of_orders c regs os) ++ more) (orders_read (map read_as os ++ y.orders) y.after)
  update_says regs os more y are fit few short rest =
      let bytes = joined_bytes (bytes_of_orders c regs os) in
      subst (λ n. Says c regs (orders_packet (takes_fast c) n bytes ++ more) (orders_read (map read_as os ++ y.orders) y.after))
      (sym (length-bytes regs os)) (packet_says (takes_fast c) refl regs os more y are fit few short rest)

  -- ---- gathering

  -- orders at the front of the first update
  opened : List (List ℕ) → List (List (List ℕ)) → List (List (List ℕ))
  opened xs [] = xs ∷ []
  opened xs (u ∷ us) = (xs ++ u) ∷ us

  opened_one : (y : List ℕ) (us : List (List (List ℕ))) → onto_update y us ≡ opened (y ∷ []) us
  unfolding opened
  opened_one y [] = refl
  opened_one y (u ∷ us) = refl

  opened_more : (xs : List (List ℕ)) (y : List ℕ) (us : List (List (List ℕ))) → opened xs (onto_update y us) ≡ opened (xs ++ y ∷ []) us
  unfolding opened
  opened_more xs y [] = refl
  opened_more xs y (u ∷ us) = ap (λ z. z ∷ us) (sym (append_assoc xs (y ∷ []) u))

  bytes-last : (regs : Registers) (os : List SentOrder) (o : SentOrder)
      → bytes_of_orders c regs os ++ bytes_of_order c (registers_after_orders c regs os) o ∷ [] ≡ bytes_of_orders c regs (os ++ o ∷ [])
  bytes-last regs [] o = refl
  bytes-last regs (x ∷ xs) o = ap (λ bs. bytes_of_order c regs x ∷ bs) (bytes-last (registers_after_order c regs x) xs o)

  registers-last : (regs : Registers) (os : List SentOrder) (o : SentOrder)
      → registers_after_order c (registers_after_orders c regs os) o ≡ registers_after_orders c regs (os ++ o ∷ [])
  registers-last regs [] o = refl
  registers-last regs (x ∷ xs) o = registers-last (registers_after_order c regs x) xs o

  joined-last : (xs : List (List ℕ)) (y : List ℕ) → length (joined_bytes (xs ++ y ∷ [])) ≡ length (joined_bytes xs) + length y
  joined-last [] y = let e = append-nil y in omega (arith, ap length e)
  joined-last (x ∷ xs) y = let more = joined-last xs y in omega (arith, more, length-append x (joined_bytes (xs ++ y ∷ [])), length-append x (joined_bytes xs))

  fit-last : (os : List SentOrder) (o : SentOrder) → FitOrders c os → FitsOrder c o → FitOrders c (os ++ o ∷ [])
  fit-last [] o h k = (k, tt)
  fit-last (x ∷ xs) o h k = (h.0, fit-last xs o h.1 k)

  map-last : (os : List SentOrder) (o : SentOrder) (rest : List ReadOrder) → map read_as (os ++ o ∷ []) ++ rest ≡ map read_as os ++ read_as o ∷ rest
  map-last [] o rest = refl
  map-last (x ∷ xs) o rest = ap (λ l. read_as x ∷ l) (map-last xs o rest)

  -- an open update with some orders, and those after them
  record GoesOn (regs : Registers) (begun os : List SentOrder) (used : ℕ) : Type 0 where
    are : AreRegisters regs
    begun_fit : FitOrders c begun
    fit : FitOrders c os
    short : AreShort c (registers_after_orders c regs begun) os
    used_is : used ≡ length (joined_bytes (bytes_of_orders c regs begun))
    fits : used ≤ most_bytes (takes_fast c)
    few : length begun + length os < 2 ^ 16

  rest_bytes : Registers → List SentOrder → ℕ → List SentOrder → List ℕ
  rest_bytes regs begun used os = flat_map (update_of (takes_fast c))
      (opened (bytes_of_orders c regs begun) (gathered_after (takes_fast c) used (bytes_of_orders c (registers_after_orders c regs begun) os)))

  gathered_says : (os begun : List SentOrder) (regs : Registers) (used : ℕ) (more : List ℕ) (y : OrdersRead) → GoesOn regs begun os used
      → Says c (registers_after_orders c (registers_after_orders c regs begun) os) more y
      → Says c regs (rest_bytes regs begun used os ++ more) (orders_read (map read_as begun ++ (map read_as os ++ y.orders)) y.after)
  unfolding rest_bytes opened
  gathered_says [] begun regs used more y g rest =
      let B = bytes_of_orders c regs begun in
      let a = g.used_is in
      let b = g.fits in
      let n = g.few in
      let bytes : update_of (takes_fast c) B ++ more ≡ flat_map (update_of (takes_fast c)) (opened B ([] ∷ [])) ++ more =
      sym (ap (λ xs. (update_of (takes_fast c) xs ++ []) ++ more) (append-nil B) ∙ ap (λ bs. bs ++ more) (append-nil (update_of (takes_fast c) B))) in
      subst (λ bs. Says c regs bs (orders_read (map read_as begun ++ y.orders) y.after)) bytes
      (update_says regs begun more y g.are g.begun_fit (omega (arith, n)) (subst (λ k. k ≤ most_bytes (takes_fast c)) a b) rest)
  gathered_says (o ∷ os) begun regs used more y g rest =
      by (joins_update (takes_fast c) used (length (bytes_of_order c (registers_after_orders c regs begun) o))) refl
      (λ r b u h. gathered_says os b r u more y h)
    where
      by : (b : Bool) → joins_update (takes_fast c) used (length (bytes_of_order c (registers_after_orders c regs begun) o)) ≡ b
          → ((r : Registers) (begun' : List SentOrder) (u : ℕ) → GoesOn r begun' os u
          → Says c (registers_after_orders c (registers_after_orders c r begun') os) more y
          → Says c r (rest_bytes r begun' u os ++ more) (orders_read (map read_as begun' ++ (map read_as os ++ y.orders)) y.after))
          → Says c regs (rest_bytes regs begun used (o ∷ os) ++ more) (orders_read (map read_as begun ++ (map read_as (o ∷ os) ++ y.orders)) y.after)
      by true e again =
          let R = registers_after_orders c regs begun in
          let chunk = bytes_of_order c R o in
          let X = bytes_of_orders c (registers_after_order c R o) os in
          let B = bytes_of_orders c regs begun in
          let n = used + length chunk in
          let used_is = g.used_is in
          let few = g.few in
          let next : GoesOn regs (begun ++ o ∷ []) os n = record {
            are = g.are;
            begun_fit = fit-last begun o g.begun_fit g.fit.0;
            fit = g.fit.1;
            short = subst (λ r. AreShort c r os) (registers-last regs begun o) g.short.1;
            used_is = omega (arith, used_is, joined-last B chunk, ap (λ bs. length (joined_bytes bs)) (bytes-last regs begun o));
            fits = joins_short (takes_fast c) used (length chunk) e;
            few = omega (arith, few, length-append begun (o ∷ []));
          } in
          let bytes : rest_bytes regs (begun ++ o ∷ []) n os ≡ rest_bytes regs begun used (o ∷ os) =
          ap (λ r. flat_map (update_of (takes_fast c)) (opened (bytes_of_orders c regs (begun ++ o ∷ [])) (gathered_after (takes_fast c) n (bytes_of_orders c r os))))
          (sym (registers-last regs begun o))
          ∙ (ap (λ bs. flat_map (update_of (takes_fast c)) (opened bs (gathered_after (takes_fast c) n X))) (sym (bytes-last regs begun o))
          ∙ (ap (flat_map (update_of (takes_fast c))) (sym (opened_more B chunk (gathered_after (takes_fast c) n X)))
          ∙ ap (λ t. flat_map (update_of (takes_fast c))
          (opened B (if t then onto_update chunk (gathered_after (takes_fast c) n X) else [] ∷ onto_update chunk (gathered_after (takes_fast c) (length chunk) X)))) (sym e))) in
          let there = again regs (begun ++ o ∷ []) n next (subst (λ r. Says c (registers_after_orders c r os) more y) (registers-last regs begun o) rest) in
          subst (λ bs. Says c regs (bs ++ more) (orders_read (map read_as begun ++ (map read_as (o ∷ os) ++ y.orders)) y.after)) bytes
          (subst (λ l. Says c regs (rest_bytes regs (begun ++ o ∷ []) n os ++ more) (orders_read l y.after))
          (map-last begun o (map read_as os ++ y.orders)) there)
      by false e again =
          let R = registers_after_orders c regs begun in
          let chunk = bytes_of_order c R o in
          let X = bytes_of_orders c (registers_after_order c R o) os in
          let B = bytes_of_orders c regs begun in
          let used_is = g.used_is in
          let fits = g.fits in
          let few = g.few in
          let small = g.short.0 in
          let one = append-nil chunk in
          let next : GoesOn R (o ∷ []) os (length chunk) = record {
            are = sent_registers_all c regs begun g.are g.begun_fit;
            begun_fit = (g.fit.0, tt);
            fit = g.fit.1;
            short = g.short.1;
            used_is = omega (arith, ap length one);
            fits = short_fits (takes_fast c) (length chunk) (omega (arith, small));
            few = omega (arith, few);
          } in
          let later = again R (o ∷ []) (length chunk) next rest in
          let first = update_says regs begun (rest_bytes R (o ∷ []) (length chunk) os ++ more)
          (orders_read (read_as o ∷ (map read_as os ++ y.orders)) y.after) g.are g.begun_fit
          (omega (arith, few)) (subst (λ k. k ≤ most_bytes (takes_fast c)) used_is fits) later in
          let bytes : update_of (takes_fast c) B ++ (rest_bytes R (o ∷ []) (length chunk) os ++ more) ≡ rest_bytes regs begun used (o ∷ os) ++ more =
          sym (append_assoc (update_of (takes_fast c) B) (rest_bytes R (o ∷ []) (length chunk) os) more)
          ∙ ap (λ bs. bs ++ more)
          (ap (λ us. update_of (takes_fast c) B ++ flat_map (update_of (takes_fast c)) us) (sym (opened_one chunk (gathered_after (takes_fast c) (length chunk) X)))
          ∙ (ap (λ xs. update_of (takes_fast c) xs ++ flat_map (update_of (takes_fast c)) (onto_update chunk (gathered_after (takes_fast c) (length chunk) X))) (sym (append-nil B))
          ∙ ap (λ t. flat_map (update_of (takes_fast c))
          (opened B (if t then onto_update chunk (gathered_after (takes_fast c) (used + length chunk) X) else [] ∷ onto_update chunk (gathered_after (takes_fast c) (length chunk) X)))) (sym e))) in
          subst (λ bs. Says c regs bs (orders_read (map read_as begun ++ (map read_as (o ∷ os) ++ y.orders)) y.after)) bytes first

  updates_say : (os : List SentOrder) (regs : Registers) (more : List ℕ) (y : OrdersRead) → AreRegisters regs → FitOrders c os → AreShort c regs os
      → length os < 2 ^ 16
      → Says c (registers_after_orders c regs os) more y
      → Says c regs (updates_of (takes_fast c) (bytes_of_orders c regs os) ++ more) (orders_read (map read_as os ++ y.orders) y.after)
  unfolding rest_bytes opened
  updates_say [] regs more y are fit short few rest = rest
  updates_say (o ∷ os) regs more y are fit short few rest =
      let chunk = bytes_of_order c regs o in
      let X = bytes_of_orders c (registers_after_order c regs o) os in
      let one = append-nil chunk in
      let small = short.0 in
      let next : GoesOn regs (o ∷ []) os (length chunk) =
      record {
        are = are;
        begun_fit = (fit.0, tt);
        fit = fit.1;
        short = short.1;
        used_is = omega (arith, ap length one);
        fits = short_fits (takes_fast c) (length chunk) (omega (arith, small));
        few = omega (arith, few);
      } in
      subst (λ us. Says c regs (flat_map (update_of (takes_fast c)) us ++ more) (orders_read (map read_as (o ∷ os) ++ y.orders) y.after))
      (sym (opened_one chunk (gathered_after (takes_fast c) (length chunk) X)))
      (gathered_says os (o ∷ []) regs (length chunk) more y next rest)

  -- ---- tiles and the mark

  abbrev Tiled : Size → List ℕ → List ℕ → List ReadOrder
  Tiled size picture ts = map (λ t. frame_order_read c (tile_order size picture t)) ts

  -- the packet of a tile, of the kind that the viewer confirmed, before other bytes
  tile_says : (fast : Bool) → takes_fast c ≡ fast → (size : Size) (r : Rect) (pixels : List ℕ) → IsTileRect size r → length pixels ≡ r.w * r.h → AreColors pixels
      → (regs : Registers) (more : List ℕ) (y : OrdersRead)
      → Says c regs more y
      → Says c regs (tile_packet (depth_of c) fast c.no_header r pixels ++ more) (orders_read (frame_order_read c (Tile r pixels) ∷ y.orders) y.after)
  tile_says false is size r pixels tile whole colors regs more y rest =
      says_packet c regs (tile_body (depth_of c) c.no_header r pixels) more (orders_read (frame_order_read c (Tile r pixels) ∷ []) regs) y is
      (body_short size (depth_of c) c.no_header r pixels tile whole colors)
      (λ place. ap (read_in_body (depth_of c) regs) (body_back size (depth_of c) c.no_header r pixels tile whole colors place)) rest
  tile_says true is size r pixels tile whole colors regs more y rest =
      says_fast c regs 1 FastBitmap (tile_body (depth_of c) c.no_header r pixels) more (orders_read (frame_order_read c (Tile r pixels) ∷ []) regs) y is refl refl
      (fast_body_short size (depth_of c) c.no_header r pixels tile whole colors)
      (λ place. ap (read_in_body (depth_of c) regs) (tile_fast_back size (depth_of c) c.no_header r pixels tile whole colors place)) rest

  tiles_say : (size : Size) (picture : List ℕ) → AreColors picture → (ts : List ℕ) → AreTiles size ts → (regs : Registers) (more : List ℕ) (y : OrdersRead)
      → Says c regs more y
      → Says c regs (flat_map (tile_bytes size c picture) ts ++ more) (orders_read (Tiled size picture ts ++ y.orders) y.after)
  tiles_say size picture colors [] h regs more y rest = rest
  tiles_say size picture colors (t ∷ ts) h regs more y rest =
      let r = tile_on size t in
      let cut = cut_out size picture 0 r in
      let whole = length-listed (r.w * r.h) 0 (pixel_of (rows_of size.w size.h picture) 0 r) in
      let cs = colors_cut size picture r colors in
      let later = tiles_say size picture colors ts h.1 regs more y rest in
      let first = tile_says (takes_fast c) refl size r cut h.0 whole cs regs (flat_map (tile_bytes size c picture) ts ++ more)
      (orders_read (Tiled size picture ts ++ y.orders) y.after) later in
      subst (λ bs. Says c regs bs (orders_read (Tiled size picture (t ∷ ts) ++ y.orders) y.after))
      (sym (append_assoc (tile_bytes size c picture t) (flat_map (tile_bytes size c picture) ts) more)) first

  synchronize_says : (fast : Bool) → takes_fast c ≡ fast → (regs : Registers) → Says c regs (synchronize_packet fast ++ []) (orders_read (frame_order_read c (end_mark false) ∷ []) regs)
  synchronize_says false is regs = says_packet c regs synchronize_body [] (orders_read (frame_order_read c (end_mark false) ∷ []) regs) (orders_read [] regs)
      is (omega arith) (λ place. refl) (says_nothing c regs)
  synchronize_says true is regs = says_fast c regs 3 FastSynchronize [] [] (orders_read (frame_order_read c (end_mark false) ∷ []) regs) (orders_read [] regs)
      is refl refl (omega arith) (λ place. refl) (says_nothing c regs)

  mark_says : (b : Bool) (regs : Registers) → AreRegisters regs
      → Says c regs (mark_bytes (takes_fast c) b ++ []) (orders_read (frame_order_read c (end_mark b) ∷ []) regs)
  mark_says true regs are = update_says regs (FrameMarker true ∷ []) [] (orders_read [] regs) are (tt, tt) (omega arith)
      (short_fits (takes_fast c) (length (joined_bytes (bytes_of_orders c regs (FrameMarker true ∷ [])))) (omega arith)) (says_nothing c regs)
  mark_says false regs are = synchronize_says (takes_fast c) refl regs

-- ---- a whole frame

map_ordered : (c : Confirmed) (os : List SentOrder) → map (frame_order_read c) (map Ordered os) ≡ map (λ o. OrderRead (as_read c o)) os
map_ordered c [] = refl
map_ordered c (o ∷ os) = ap (λ l. OrderRead (as_read c o) ∷ l) (map_ordered c os)

map_tiled : (c : Confirmed) (size : Size) (picture : List ℕ) (ts : List ℕ) (mark : FrameOrder)
    → map (frame_order_read c) (map (tile_order size picture) ts ++ mark ∷ []) ≡ map
    (λ t. frame_order_read c (tile_order size picture t)) ts ++ frame_order_read c mark ∷ []
map_tiled c size picture [] mark = refl
map_tiled c size picture (t ∷ ts) mark = ap (λ l. frame_order_read c (tile_order size picture t) ∷ l) (map_tiled c size picture ts mark)

map_append : (c : Confirmed) (xs ys : List FrameOrder) → map (frame_order_read c) (xs ++ ys) ≡ map (frame_order_read c) xs ++ map (frame_order_read c) ys
map_append c [] ys = refl
map_append c (x ∷ xs) ys = ap (λ l. frame_order_read c x ∷ l) (map_append c xs ys)

tiles_are : (size : Size) (c : Confirmed) (jump first : Bool) (w : Walk) (asked : Tiles) (picture : List ℕ) (ps : List Pending)
    → is_session_size size.w size.h ≡ true
    → AreTiles size (framed_by jump size c first w asked picture ps).tiles
tiles_are size c true first w asked picture ps session = are_tiles size _ session
tiles_are size c false first w asked picture ps session = are_tiles size _ session

-- what a frame's bytes say, and in packets of what kind
frame_says : (head : Head) (c : Confirmed) (j : List Entry) (e : Encoder) (t : TakeOf) → is_session_size head.size.w head.size.h ≡ true → HasAllCaches c
    → IsLegalJournal head j → t.before ≤ t.number → t.number ≤ length j → AreRegisters e.registers → AreApart e.held
    → SaysAt c e.registers (take_bytes head.size c j e t)
    (orders_read (map (frame_order_read c) (take_orders head.size c j e t)) (encoder_after head.size c j e t).registers) 0
frame_says head c j e t sized all legal up within are apart =
    let size = head.size in
    let sides = sides_of size.w size.h sized in
    let shown = (state_after size j t.number).surface.picture in
    let ps = pending_between size j t.before t.number in
    let jump = nat_lt most_orders (length ps) in
    let w : Walk = record { dirty = first_dirty size (is_first t) c; held = e.held } in
    let f = encoder_frame size c j e t in
    let os = orders_before_tiles size c e.uses f in
    let over = frame_fits size sides.not_wider sides c all j (state_after size j t.before).surface e.held e.uses
    (drawings_between size j t.before t.number)
    (between_sound head j sized legal t.before t.number up) apart (is_first t) t.asked shown in
    let few : FewWhole c 65535 os =
    subst (λ (qs : List Pending). FewWhole c 65535 (orders_before_tiles size c e.uses (frame_over size c (is_first t) e.held t.asked shown qs)))
    (sym (pending_between_is size j t.before t.number)) over in
    let count = few.few in
    let fit = whole_fit c os few.all in
    let later = registers_after_orders c e.registers os in
    let colors = subst AreColors (sym (picture_is jump size c (is_first t) w t.asked shown ps)) (state_sound head j sized legal t.number).colors in
    let mark = mark_says c c.marker later (sent_registers_all c e.registers os are fit) in
    let tiles = tiles_say c size f.picture colors f.tiles (tiles_are size c jump (is_first t) w t.asked shown ps sized) later (mark_bytes (takes_fast c) c.marker ++ [])
    (orders_read (frame_order_read c (end_mark c.marker) ∷ []) later) mark in
    let frame = updates_say c os e.registers (flat_map (tile_bytes size c f.picture) f.tiles ++ (mark_bytes (takes_fast c) c.marker ++ []))
    (orders_read (map (λ tile. frame_order_read c (tile_order size f.picture tile)) f.tiles ++ frame_order_read c (end_mark c.marker) ∷ []) later) are fit (whole_short c os e.registers few.all) (omega (arith, count)) tiles in
    let orders = sym (map_append c (map Ordered os) (map (tile_order size f.picture) f.tiles ++ end_mark c.marker ∷ [])
    ∙ (ap (λ l. l ++ map (frame_order_read c) (map (tile_order size f.picture) f.tiles ++ end_mark c.marker ∷ [])) (map_ordered c os)
    ∙ ap (λ l. map (λ o. OrderRead (as_read c o)) os ++ l) (map_tiled c size f.picture f.tiles (end_mark c.marker)))) in
    subst (λ bs. SaysAt c e.registers (updates_of (takes_fast c) (bytes_of_orders c e.registers os) ++ (flat_map (tile_bytes size c f.picture) f.tiles ++ bs))
    (orders_read (map (frame_order_read c) (take_orders size c j e t)) later) 0) (append-nil (mark_bytes (takes_fast c) c.marker))
    (subst (λ l. SaysAt c e.registers (updates_of (takes_fast c) (bytes_of_orders c e.registers os) ++ (flat_map (tile_bytes size c f.picture) f.tiles ++ (mark_bytes (takes_fast c) c.marker ++ [])))
    (orders_read l later) 0) orders (frame 0))

pub frames_read : (head : Head) (c : Confirmed) → FramesReadAsTheirOrders head c
frames_read head c j e t sized all legal up within are apart = (frame_says head c j e t sized all legal up within are apart).said

pub frames_go : (head : Head) (c : Confirmed) → FramesGoAsConfirmed head c
frames_go head c j e t sized all legal up within are apart = (frame_says head c j e t sized all legal up within are apart).kind
