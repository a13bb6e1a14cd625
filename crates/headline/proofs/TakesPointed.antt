-- What a viewer is sent for its takes, with its pointers: without these it is the takes' frames, and at each mark the pointer of its take is shown.
use Rattle.std.proofs.Common.{◌≡◌, ℕ, ◌+◌, ◌<◌, ◌≤◌, Bool, true, false, List, [], ◌∷◌, ◌++◌, length, map, take, refl, ap, sym, ◌∙◌, subst, arith, append_assoc, length-append, Some, None}
use Rattle.std.specs.Prelude.{◌==◌, filter, flat_map, replicate, Option, Result, Ok, Err, option_map, option_and_then, if◌then◌else◌}
use Rattle.std.proofs.lemmas.Bool.Decides.{nat_tests}
use Rattle.std.proofs.lemmas.List.{append-nil, length-replicate}
use Rattle.std.proofs.lemmas.List.Elements.{filter-append}
use Rattle.px_core.specs.declared.surface.Size.{Size}
use Rattle.px_core.specs.Depth.{seen}
use Rattle.px_core.specs.Rectangle.{is_session_size}
use Rattle.caps_sets.specs.declared.confirmed.Confirmed.{Confirmed}
use Rattle.caps_sets.specs.Confirmed.{depth_of, takes_fast, pointer_cells}
use Rattle.session_rules.specs.declared.entry.Entry.{Entry}
use Rattle.session_rules.specs.Journal.{Head, state_after, IsLegalJournal}
use Rattle.session_rules.specs.Steps.{TakeOf, TakesFollow}
use Rattle.order_means.specs.Updates.{cutting, updates_from}
use Rattle.order_means.specs.Updates.Stage.{Between}
use Rattle.order_means.specs.FrameMarks.{View as Sight, first_view, reading, read_on}
use Rattle.order_means.specs.PointerPackets.{pointer_kind, pointer_packet, is_pointer}
use Rattle.order_means.specs.Packets.{before_pieces, held_in, kept_pieces, pieces_in, without_pointers, pointer_packets}
use Rattle.order_means.proofs.PointerFound.{pointer_told}
use Rattle.order_means.proofs.PacketPieces.{share_cut}
use Rattle.order_means.proofs.ReadPieces.{read_has_no_pointers}
use Rattle.order_means.proofs.WithoutPointers.{cut_before, kept_before, none_before}
use Rattle.order_means.proofs.PieceJoined.{joined}
use Rattle.frame_rules.specs.Pointers.{Shape, pointer_at, key_shape, shape_of}
use Rattle.frame_rules.specs.Told.{is_told, message_of, told_after, key_at, bytes_told, pointer_bytes}
use Rattle.frame_rules.specs.FrameBytes.{joined_bytes}
use Rattle.frame_rules.specs.Encoder.{Encoder, first_encoder, take_bytes, encoder_after, bytes_of_takes, pointed_of_takes}
use Rattle.frame_rules.specs.Describes.{DescribesClient, HasAllCaches, FrameShowsJournal}
use Rattle.frame_rules.proofs.FrameLaws.{DescribesClient-first}
use Rattle.pointer_share.specs.declared.fault.Cause.{Cause}
use Rattle.pointer_share.specs.Views.{View, opening_view}
use Rattle.pointer_share.specs.Shows.{DescribesPointers, view_told}
use Rattle.pointer_share.proofs.Sizes.{message_short}
use Rattle.pointer_share.proofs.Shown.{take_points, key_tells}
use Rattle.pointer_share.proofs.Noted.{typed_small}
use Rattle.session_rules.proofs.Takes.{TakesFollow-≤}
use Rattle.headline.specs.Headline.{SeesJournal}
use Rattle.headline.specs.Fronts.{SeesFirst}
use Rattle.headline.specs.Pointed.{Watching, first_watching, marks_more, watched_as, watched_all, shape_after, listed_packet, packet_told, packets_told, SeesPointers}
use Rattle.headline.proofs.Takes.{read_to, takes_see}
use Rattle.headline.proofs.Watched.{pointer_fed, watched_append, watched_to, watched_others}
use Rattle.headline.proofs.PointerFronts.{left_of, kept_behind}
use Rattle.headline.proofs.PointedFronts.{front_sees_both}

-- ---- the packet before a frame

module _ (c : Confirmed) (keys : List ℕ) (key : ℕ) where
  abbrev told_message : List ℕ
  told_message = message_of c.cautious (pointer_cells c) keys key

  abbrev packet : List ℕ
  packet = pointer_packet told_message

  abbrev told_if : Bool → Option (List ℕ)
  told_if before = if before then None else Some packet

  told_short : length told_message ≤ 16365
  told_short = message_short c.cautious (pointer_cells c) key keys

  -- what is told is its packets
  told_cut : (more : List ℕ) → pieces_in (pointer_bytes c keys key ++ more) ≡ before_pieces (packet_told c keys key) (pieces_in more)
  told_cut more = by (pointer_cells c == 0) (is_told keys key)
    where
      by : (none before : Bool) → pieces_in ((if none then [] else bytes_told (told_if before)) ++ more)
          ≡ before_pieces (if none then [] else listed_packet (told_if before)) (pieces_in more)
      by true before = refl
      by false true = refl
      by false false = let few = told_short in share_cut pointer_kind told_message more (omega (arith, few))

  -- each of them is a pointer's
  told_picked : filter is_pointer (packet_told c keys key) ≡ packet_told c keys key
  told_picked = by (pointer_cells c == 0) (is_told keys key)
    where
      by : (none before : Bool) → filter is_pointer (if none then [] else listed_packet (told_if before)) ≡ (if none then [] else listed_packet (told_if before))
      by true before = refl
      by false true = refl
      by false false = ap (λ (b : Bool). if b then packet ∷ [] else []) (pointer_told told_message told_short)

  told_dropped : kept_pieces (packet_told c keys key) ≡ []
  told_dropped = by (pointer_cells c == 0) (is_told keys key)
    where
      by : (none before : Bool) → kept_pieces (if none then [] else listed_packet (told_if before)) ≡ []
      by true before = refl
      by false true = refl
      by false false = ap (λ (b : Bool). (if b then [] else packet) ++ []) (pointer_told told_message told_short)

-- ---- what is shown after it

-- a viewer with pointer cells is as the told keys describe; one without them shows nothing
data IsTold (c : Confirmed) (keys : List ℕ) (v : View) : Type 0 where
  NoCells : pointer_cells c ≡ 0 → v.shown ≡ None → IsTold c keys v
  HasCells : 0 < pointer_cells c → DescribesPointers c.cautious (pointer_cells c) keys v → IsTold c keys v

-- the shape of a key; a viewer without pointer cells shows none
abbrev shape_told : Confirmed → ℕ → Option Shape
shape_told c key = if pointer_cells c == 0 then None else Some (key_shape c.cautious key)

-- a viewer that was told these keys is told this one, unless it was told last
record Tells (c : Confirmed) (size : Size) (keys : List ℕ) (key : ℕ) (w : Watching) : Type 0 where
  after : View
  reads : watched_all c size w (packet_told c keys key) ≡ Some (record w { pointer = after })
  shows : after.shown ≡ shape_told c key
  describes : IsTold c (told_after keys key) after

module _ (c : Confirmed) (size : Size) (keys : List ℕ) (key : ℕ) (w : Watching) where
  abbrev its_view : Result View (Cause × ℕ) → View
  its_view (Ok v) = v
  its_view (Err fault) = w.pointer

  -- a packet that is read, if any
  watched_told : (after : View) (before : Bool) → view_told c.cautious w.pointer (told_if c keys key before) ≡ Ok after
      → watched_all c size w (listed_packet (told_if c keys key before)) ≡ Some (record w { pointer = after })
  watched_told after true e = ap (λ r. Some (record w { pointer = its_view r })) e
  watched_told after false e =
      let fed = pointer_fed c.cautious w.pointer after (packet c keys key) (pointer_told (told_message c keys key) (told_short c keys key)) e in
      ap (λ r. option_and_then (λ next. Some next) (watched_as c size w (packet c keys key) r)) fed

  tells : IsTold c keys w.pointer → Tells c size keys key w
  tells (NoCells none shown) =
      let no : (pointer_cells c == 0) ≡ true = grind (arith, nat_tests, none) in
      record {
        after = w.pointer;
        reads = ap (λ b. watched_all c size w (if b then [] else listed_packet (told_if c keys key (is_told keys key)))) no;
        shows = shown ∙ sym (ap (λ b. if b then None else Some (key_shape c.cautious key)) no);
        describes = NoCells none shown;
      }
  tells (HasCells some describes) =
      let yes : (pointer_cells c == 0) ≡ false = grind (arith, nat_tests, some) in
      let few : pointer_cells c < 65536 = omega arith in
      let s = take_points c.cautious (pointer_cells c) some few key w.pointer keys describes in
      record {
        after = s.after;
        reads = ap (λ b. watched_all c size w (if b then [] else listed_packet (told_if c keys key (is_told keys key)))) yes
            ∙ watched_told s.after (is_told keys key) s.reads;
        shows = s.shows ∙ sym (ap (λ b. if b then None else Some (key_shape c.cautious key)) yes);
        describes = HasCells some s.describes;
      }

-- the shape of the key after some entries is that of the pointer after them
shape_told_is : (c : Confirmed) (size : Size) (j : List Entry) (n : ℕ) → shape_told c (key_at size j n) ≡ shape_after c size j n
shape_told_is c size j n =
    let p = pointer_at size j n in
    let small = typed_small (take n j) in
    ap (λ q. if pointer_cells c == 0 then None else Some (shape_of c.cautious q)) (key_tells p (omega (arith, small)))

-- a viewer that was told nothing
opens : (c : Confirmed) → IsTold c [] (opening_view (pointer_cells c))
opens c = by (pointer_cells c == 0) refl
  where
    by : (b : Bool) → (pointer_cells c == 0) ≡ b → IsTold c [] (opening_view (pointer_cells c))
    by true e = NoCells (grind (arith, nat_tests, e)) refl
    by false e =
        let some : 0 < pointer_cells c = grind (arith, nat_tests, e) in
        HasCells some (record { entries = length-replicate (pointer_cells c) None; holds = λ k held. absurd (cc held); last = tt })

-- ---- a pointer and a frame before others

-- a frame that is read is cut into whole packets, and so is the pointer before it
module _ (c : Confirmed) (keys : List ℕ) (key place end : ℕ) (frame : List ℕ)
    (read : (updates_from (takes_fast c) (cutting place Between) frame).next ≡ cutting end Between) (more : List ℕ) where
  abbrev whole : List ℕ
  whole = (pointer_bytes c keys key ++ frame) ++ more

  grouped : whole ≡ pointer_bytes c keys key ++ (frame ++ more)
  grouped = append_assoc (pointer_bytes c keys key) frame more

  behind_pointer : pieces_in whole ≡ before_pieces (packet_told c keys key) (pieces_in (frame ++ more))
  behind_pointer = ap pieces_in grouped ∙ told_cut c keys key (frame ++ more)

  pointed_cut : (pieces_in whole).pieces ≡ packet_told c keys key ++ ((pieces_in frame).pieces ++ (pieces_in more).pieces)
  pointed_cut = ap (λ p. p.pieces) behind_pointer
      ∙ ap (λ p. packet_told c keys key ++ p.pieces) (cut_before (takes_fast c) place frame end read more)

  pointed_left : without_pointers whole ≡ frame ++ without_pointers more
  pointed_left = ap left_of behind_pointer ∙ kept_behind (packet_told c keys key) (pieces_in (frame ++ more))
      ∙ ap (λ xs. xs ++ without_pointers (frame ++ more)) (told_dropped c keys key) ∙ kept_before (takes_fast c) place frame end read more

  pointed_picked : pointer_packets whole ≡ packet_told c keys key ++ pointer_packets more
  pointed_picked = ap (λ p. filter is_pointer p.pieces) behind_pointer ∙ filter-append is_pointer (packet_told c keys key) (pieces_in (frame ++ more)).pieces
      ∙ ap (λ xs. xs ++ pointer_packets (frame ++ more)) (told_picked c keys key)
      ∙ ap (λ xs. packet_told c keys key ++ xs) (none_before (takes_fast c) place frame end read more)

-- the whole packets of a frame that is read, joined
joined_is : (cut : List (List ℕ)) → flat_map (λ piece. piece) cut ≡ joined_bytes cut
joined_is [] = refl
joined_is (piece ∷ cut) = ap (λ xs. piece ++ xs) (joined_is cut)

frame_joined : (c : Confirmed) (place end : ℕ) (frame : List ℕ) → (updates_from (takes_fast c) (cutting place Between) frame).next ≡ cutting end Between
    → joined_bytes (pieces_in frame).pieces ≡ frame
frame_joined c place end frame read =
    let cut = (pieces_in frame).pieces in
    sym (joined_is cut) ∙ sym (append-nil (flat_map (λ piece. piece) cut))
    ∙ ap (λ s. flat_map (λ piece. piece) cut ++ held_in s) (sym (read_has_no_pointers (takes_fast c) place frame end read).0) ∙ joined frame

-- ---- takes, one after the other

abbrev watching : View → Sight → ℕ → List (Option Shape) → Watching
watching pointer view place shapes = record { pointer = pointer; reading = reading view (cutting place Between); shapes = shapes }

-- one mark more
marks_once : (view after : Sight) (picture : List (Option ℕ)) (place end : ℕ) → after.pictures ≡ view.pictures ++ picture ∷ []
    → marks_more (reading view (cutting place Between)) (reading after (cutting end Between)) ≡ 1
marks_once view after picture place end e =
    let n : length after.pictures ≡ length (view.pictures ++ picture ∷ []) = ap length e in
    omega (arith, n, length-append view.pictures (picture ∷ []))

module _ (head : Head) (c : Confirmed) (shows : FrameShowsJournal head c) (sized : is_session_size head.size.w head.size.h ≡ true) (all : HasAllCaches c)
    (j : List Entry) (legal : IsLegalJournal head j) where
  abbrev numbers : List TakeOf → List ℕ
  numbers ts = map (λ t. t.number) ts

  -- what is sent for takes, one after the other
  abbrev sent : Encoder → List TakeOf → List ℕ
  sent e ts = joined_bytes (pointed_of_takes head.size c j e ts)

  -- what reading takes with their pointers gives
  record TakesPointed (e : Encoder) (ts : List TakeOf) (w : Watching) : Type 0 where
    after : Watching
    reads : watched_all c head.size w (pieces_in (sent e ts)).pieces ≡ Some after
    shapes : after.shapes ≡ w.shapes ++ map (λ n. shape_after c head.size j n) (numbers ts)
    packets : pointer_packets (sent e ts) ≡ packets_told c head.size j e.told (numbers ts)
    left : without_pointers (sent e ts) ≡ joined_bytes (bytes_of_takes head.size c j e ts)

  takes_pointed : (ts : List TakeOf) (from to : ℕ) (e : Encoder) (pointer : View) (view : Sight) (place : ℕ) (shapes : List (Option Shape))
      → TakesFollow from ts to → to ≤ length j → DescribesClient head.size c j from e view.client → IsTold c e.told pointer
      → TakesPointed e ts (watching pointer view place shapes)
  takes_pointed [] from to e pointer view place shapes follow within d is = record {
    after = watching pointer view place shapes;
    reads = refl;
    shapes = sym (append-nil shapes);
    packets = refl;
    left = refl;
  }
  takes_pointed (t ∷ ts) from to e pointer view place shapes follow within d is =
      let begins = follow.0 in
      let up = follow.1 in
      let ends = TakesFollow-≤ t.number to ts follow.2 in
      let d' : DescribesClient head.size c j t.before e view.client = subst (λ n. DescribesClient head.size c j n e view.client) (sym begins) d in
      let one = shows j e t view place sized all legal (omega (arith, begins, up)) (omega (arith, ends, within)) d' in
      let frame = take_bytes head.size c j e t in
      let next = encoder_after head.size c j e t in
      let key = key_at head.size j t.number in
      let end = place + length frame in
      let w = watching pointer view place shapes in
      let reached = reading one.after (cutting end Between) in
      let tell = tells c head.size e.told key w is in
      let more = takes_pointed ts t.number to next tell.after one.after end (shapes ++ shape_after c head.size j t.number ∷ []) follow.2 within one.describes tell.describes in
      let read : (updates_from (takes_fast c) (cutting place Between) frame).next ≡ cutting end Between =
      read_to c head.size (reading view (cutting place Between)) reached frame one.reads in
      let cut = (pieces_in frame).pieces in
      let rest = (pieces_in (sent next ts)).pieces in
      let told : Watching = record w { pointer = tell.after } in
      let whole : read_on c head.size (reading view (cutting place Between)) (joined_bytes cut) ≡ Ok reached =
      ap (read_on c head.size (reading view (cutting place Between))) (frame_joined c place end frame read) ∙ one.reads in
      let framed : watched_all c head.size told cut ≡ Some (watched_to told reached) =
      watched_others c head.size cut told reached (read_has_no_pointers (takes_fast c) place frame end read).1 whole in
      let stands : watched_to told reached ≡ watching tell.after one.after end (shapes ++ shape_after c head.size j t.number ∷ []) =
      ap (λ n. watching tell.after one.after end (shapes ++ replicate n tell.after.shown))
      (marks_once view one.after (map (seen (depth_of c)) (state_after head.size j t.number).surface.picture) place end one.mark)
      ∙ ap (λ shape. watching tell.after one.after end (shapes ++ shape ∷ [])) (tell.shows ∙ shape_told_is c head.size j t.number) in
      record {
        after = more.after;
        reads = ap (watched_all c head.size w) (pointed_cut c e.told key place end frame read (sent next ts))
            ∙ watched_append c head.size w (packet_told c e.told key) (cut ++ rest)
            ∙ ap (option_and_then (λ v. watched_all c head.size v (cut ++ rest))) tell.reads
            ∙ watched_append c head.size told cut rest
            ∙ ap (option_and_then (λ v. watched_all c head.size v rest)) (framed ∙ ap Some stands) ∙ more.reads;
        shapes = more.shapes ∙ append_assoc shapes (shape_after c head.size j t.number ∷ []) (map (λ n. shape_after c head.size j n) (numbers ts));
        packets = pointed_picked c e.told key place end frame read (sent next ts) ∙ ap (λ xs. packet_told c e.told key ++ xs) more.packets;
        left = pointed_left c e.told key place end frame read (sent next ts) ∙ ap (λ xs. frame ++ xs) more.left;
      }

  -- ---- a viewer that is sent its takes from the first on

  from_first : (ts : List TakeOf) (to : ℕ) → TakesFollow 0 ts to → to ≤ length j → TakesPointed first_encoder ts (first_watching c head.size)
  from_first ts to follow within =
      takes_pointed ts 0 to first_encoder (opening_view (pointer_cells c)) (first_view c head.size) 0 [] follow within (DescribesClient-first head.size c j) (opens c)

  -- without the packets of pointers it is sent its frames
  pub takes_without : (ts : List TakeOf) (to : ℕ) → TakesFollow 0 ts to → to ≤ length j
      → without_pointers (joined_bytes (pointed_of_takes head.size c j first_encoder ts)) ≡ joined_bytes (bytes_of_takes head.size c j first_encoder ts)
  takes_without ts to follow within = (from_first ts to follow within).left

  pub takes_see_without : (ts : List TakeOf) (to : ℕ) → TakesFollow 0 ts to → to ≤ length j
      → SeesJournal head.size c j (map (λ t. t.number) ts) (without_pointers (joined_bytes (pointed_of_takes head.size c j first_encoder ts)))
  takes_see_without ts to follow within =
      subst (SeesJournal head.size c j (numbers ts)) (sym (takes_without ts to follow within)) (takes_see head c shows sized all j legal ts to follow within)

  pub takes_point : (ts : List TakeOf) (to : ℕ) → TakesFollow 0 ts to → to ≤ length j
      → SeesPointers head.size c j (map (λ t. t.number) ts) (joined_bytes (pointed_of_takes head.size c j first_encoder ts))
  takes_point ts to follow within =
      let r = from_first ts to follow within in
      record {
        marks_show_pointers = ap (option_map (λ w. w.shapes)) r.reads ∙ ap Some r.shapes;
        packets_are_told = r.packets;
      }

  -- a front of what it is sent
  pub takes_front_see : (ts : List TakeOf) (to : ℕ) → TakesFollow 0 ts to → to ≤ length j
      → (front rest : List ℕ) → joined_bytes (pointed_of_takes head.size c j first_encoder ts) ≡ front ++ rest
      → SeesFirst head.size c j (map (λ t. t.number) ts) front
  takes_front_see ts to follow within front rest e =
      front_sees_both head.size c j (numbers ts) (sent first_encoder ts) front (takes_see_without ts to follow within) (takes_point ts to follow within)
      (record { rest = rest; joined = e })
