-- What an encoded frame is, from what its writer wrote.
use Rattle.std.proofs.Common.{◌≡◌, ℕ, ◌+◌, ◌≤◌, List, [], ◌∷◌, ◌++◌, append_assoc, map, flat_map, length, refl, ap, sym, ◌∙◌, subst}
use Rattle.std.specs.Prelude.{Bool, true, false, Option, Ok}
use Rattle.px_core.specs.Rectangle.{is_session_size}
use Rattle.caps_sets.specs.declared.confirmed.Confirmed.{Confirmed}
use Rattle.caps_sets.specs.Confirmed.{depth_of, takes_fast}
use Rattle.session_rules.specs.declared.entry.Entry.{Entry}
use Rattle.session_rules.specs.Journal.{Head, IsLegalJournal}
use Rattle.session_rules.specs.Steps.{TakeOf}
use Rattle.order_means.specs.Updates.{cutting}
use Rattle.order_means.specs.Updates.Stage.{Between}
use Rattle.order_means.specs.FrameMarks.{View, reading, read_on}
use Rattle.save_plan.specs.Blocks.{AreApart}
use Rattle.frame_rules.specs.Frame.{Sent, FrameOf, frame_of}
use Rattle.frame_rules.specs.FrameOrders.{SentOrder, Uses, uses_after, orders_before_tiles}
use Rattle.frame_rules.specs.FrameBytes.{frame_bytes, bytes_of_orders, updates_of, tile_bytes, mark_bytes}
use Rattle.frame_rules.specs.Told.{key_at}
use Rattle.frame_rules.specs.Encoder.{Encoder, encoder_frame, take_bytes, encoder_after_frame, with_told}
use Rattle.frame_rules.specs.Describes.{DescribesClient, HasAllCaches, ShowsFrame}
use Rattle.frame_rules.specs.OrdersOfBytes.{orders_of_bytes}
use Rattle.frame_rules.specs.PacketKinds.{HasPacketsOfKind}
use Rattle.frame_laws.proofs.JournalShown.{frame_shows_journal}
use Rattle.frame_laws.proofs.FrameReads.{frames_read, frames_go}
use Rattle.session_core.specs.SessionModel.{SessionModel}
use Rattle.frame_plan.specs.Takes.{DeskModel, TakenFrame, TakeModel, tile_taken, taken_as}
use Rattle.frame_plan.specs.Plans.{taken_if, take_at}
use Rattle.px_core.specs.declared.surface.Size.{Size}
use Rattle.cache_plan.specs.Kept.{Kept}
use Rattle.viewer_sender.specs.declared.writer.FrameWriter.{FrameWriter}
use Rattle.viewer_sender.specs.Gathering.{Gathering, gathering, nothing_gathered, packets_of, closed, after_orders}
use Rattle.viewer_sender.specs.Stands.{CachesStand}
use Rattle.viewer_sender.specs.Writes.{Wrote}
use Rattle.viewer_sender.proofs.Gathered.{gathered_is, kind_left}
use Rattle.viewer_sender.specs.Runs.{frame_sending}
use Rattle.viewer_sender.proofs.Loops.{tile_bytes_of, with_tiles}
use Rattle.viewer_sender.specs.Senders.{SenderModel, StandsFor}
use Rattle.viewer_sender.specs.OwnTakes.{IsOwnTake, IsOwn}
use Rattle.viewer_sender.specs.Shown.{ShowsJournal, Shows}
use Rattle.viewer_sender.specs.Goes.{AllGo, TilesGo}
use Rattle.viewer_sender.proofs.FrameGoes.{frame_goes, frame_tiles_go}

-- ---- a viewer's own takes

-- what a take gives is of the session's journal, which is legal
pub own_taken : (b : Bool) (s : SessionModel) (d : DeskModel) → is_session_size s.head.size.w s.head.size.h ≡ true → HasAllCaches d.confirmed → IsLegalJournal s.head s.journal
    → d.number ≤ length s.journal → AreApart d.held → IsOwn d.confirmed (taken_if b s d)
own_taken true s d sized all legal seen apart = record {
  head = s.head;
  journal = s.journal;
  held = d.held;
  found = take_at s d;
  sized = sized;
  all = all;
  legal = legal;
  up = seen;
  apart = apart;
  size_is = refl;
  frame_is = refl;
  cached_are = refl;
}
own_taken false s d sized all legal seen apart = tt

module _ (c : Confirmed) (take : TakeModel) (own : IsOwnTake c take) where
  pub own_size : is_session_size take.size.w take.size.h ≡ true
  own_size = ap (λ s. is_session_size s.w s.h) own.size_is ∙ own.sized

  pub own_drawings : AllGo c take.frame.sent
  own_drawings = subst (AllGo c) (ap (λ f. f.sent) (sym own.frame_is)) (frame_goes own.head c own.all own.journal own.held own.found own.sized own.legal own.up own.apart)

  pub own_tiles : TilesGo take.size take.frame.tiles
  own_tiles =
      let h = frame_tiles_go own.head c own.all own.journal own.held own.found own.sized own.legal own.up own.apart in
      subst (λ s. TilesGo s take.frame.tiles) (sym own.size_is) (subst (λ (ts : List (ℕ × List ℕ)). TilesGo own.head.size ts) (ap (λ f. f.tiles) (sym own.frame_is)) h)

-- ---- the law of one frame, of these bytes

-- what was told of a pointer says nothing of a sender
pub stands_told : (s : SenderModel) (e : Encoder) (key : ℕ) → StandsFor s e → StandsFor s (with_told key e)
stands_told s e key h = record { registers = h.registers; caches = h.caches }

module _ (s new : SenderModel) (take : TakeModel) (out : List ℕ) (all : HasAllCaches s.confirmed)
    (bytes : (e : Encoder) (f : FrameOf) → StandsFor s e → take.frame ≡ taken_as take.size f → out ≡ frame_bytes take.size s.confirmed e.registers e.uses f)
    (after : (e : Encoder) (f : FrameOf) → StandsFor s e → take.frame ≡ taken_as take.size f → StandsFor new (encoder_after_frame take.size s.confirmed e f)) where
  shown : (head : Head) (j : List Entry) (e : Encoder) (t : TakeOf) (view : View) (place : ℕ) → is_session_size head.size.w head.size.h ≡ true
      → IsLegalJournal head j → t.before ≤ t.number → t.number ≤ length j → take.size ≡ head.size
      → take.frame ≡ taken_as take.size (frame_of head.size s.confirmed j e.held t) → StandsFor s e → DescribesClient head.size s.confirmed j t.before e view.client
      → ShowsFrame head.size s.confirmed j e t view place
      → ShowsJournal head j s new e t view place out
  shown head j e t view place sized legal up within same frame stands describes x =
      let c = s.confirmed in
      let f = encoder_frame head.size c j e t in
      let is : take_bytes head.size c j e t ≡ out = sym (bytes e f stands frame ∙ ap (λ size. frame_bytes size c e.registers e.uses f) same) in
      record {
        after = x.after;
        reads = subst (λ (bs : List ℕ). read_on c head.size (reading view (cutting place Between)) bs ≡ Ok (reading x.after (cutting (place + length bs) Between))) is x.reads;
        orders = ap (orders_of_bytes c e.registers) (sym is) ∙ frames_read head c j e t sized all legal up within describes.are_registers describes.apart;
        kind = subst (HasPacketsOfKind (takes_fast c)) is (frames_go head c j e t sized all legal up within describes.are_registers describes.apart);
        mark = x.mark;
        describes = x.describes;
        stands = stands_told new (encoder_after_frame head.size c e f) (key_at head.size j t.number)
            (subst (λ size. StandsFor new (encoder_after_frame size c e f)) same (after e f stands frame));
      }

  pub shows : Shows s new take out
  shows head j e t view place sized legal up within same frame stands describes =
      shown head j e t view place sized legal up within same (frame ∙ ap (λ size. taken_as size (frame_of head.size s.confirmed j e.held t)) (sym same)) stands describes
      (frame_shows_journal head s.confirmed j e t view place sized all legal up within describes)

-- ---- a frame's bytes

flat_map-map : {A B : Type 0} (f : A → B) (g : B → List ℕ) (xs : List A) → flat_map g (map f xs) ≡ flat_map (λ x. g (f x)) xs
flat_map-map f g [] = refl
flat_map-map f g (x ∷ xs) = ap (λ bs. g (f x) ++ bs) (flat_map-map f g xs)

module _ (size : Size) (w w1 w3 w4 : FrameWriter) (u2 : Gathering) (t : TakenFrame) (uses : Uses) (f : FrameOf)
    (wrote : Wrote w w1 (frame_sending size w.confirmed t.first uses t.sent)) (same : w1.confirmed ≡ w.confirmed)
    (tiles : w3 ≡ with_tiles (record w1 { updates = u2 }) size t.tiles)
    (mark : w4 ≡ record w3 { updates = gathering w3.updates.fast (w3.updates.packets ++ mark_bytes w3.updates.fast w3.confirmed.marker) [] 0 [] })
    (is : t ≡ taken_as size f) where
  abbrev orders : List SentOrder
  orders = (frame_sending size w.confirmed t.first uses t.sent).orders

  orders_are : orders ≡ orders_before_tiles size w.confirmed uses f
  orders_are = ap (λ (x : TakenFrame). (frame_sending size w.confirmed x.first uses x.sent).orders) is

  pub frame_bytes_are : (out : List ℕ) → w.updates ≡ nothing_gathered (takes_fast w.confirmed) → u2 ≡ closed w1.updates → out ≡ w4.updates.packets → out ≡ frame_bytes size w.confirmed w.registers uses f
  frame_bytes_are out empty shut taken =
      let c = w.confirmed in
      let fast = takes_fast c in
      let os = bytes_of_orders c w.registers orders in
      let joined : w1.updates ≡ after_orders (nothing_gathered fast) os = wrote.gathered ∙ ap (λ g. after_orders g os) empty in
      let kind : u2.fast ≡ fast = ap (λ (g : Gathering). g.fast) shut ∙ (ap (λ (g : Gathering). g.fast) joined ∙ kind_left os (nothing_gathered fast)) in
      let front : u2.packets ≡ updates_of fast os = ap (λ (g : Gathering). g.packets) shut ∙ (ap packets_of joined ∙ gathered_is fast os) in
      let cut : flat_map (tile_bytes_of c fast size) t.tiles ≡ flat_map (tile_bytes size c f.picture) f.tiles =
      ap (λ (x : TakenFrame). flat_map (tile_bytes_of c fast size) x.tiles) is ∙ flat_map-map (tile_taken size f.picture) (tile_bytes_of c fast size) f.tiles in
      taken
      ∙ (ap (λ (x : FrameWriter). x.updates.packets) mark
      ∙ (ap (λ (x : FrameWriter). x.updates.packets ++ mark_bytes x.updates.fast x.confirmed.marker) tiles
      ∙ (ap (λ (k : Confirmed). (u2.packets ++ flat_map (tile_bytes_of k u2.fast size) t.tiles) ++ mark_bytes u2.fast k.marker) same
      ∙ (ap (λ (b : Bool). (u2.packets ++ flat_map (tile_bytes_of c b size) t.tiles) ++ mark_bytes b c.marker) kind
      ∙ (append_assoc u2.packets (flat_map (tile_bytes_of c fast size) t.tiles) (mark_bytes fast c.marker)
      ∙ (ap (λ bs. bs ++ (flat_map (tile_bytes_of c fast size) t.tiles ++ mark_bytes fast c.marker)) front
      ∙ (ap (λ bs. updates_of fast os ++ (bs ++ mark_bytes fast c.marker)) cut
      ∙ ap (λ xs. updates_of fast (bytes_of_orders c w.registers xs) ++ (flat_map (tile_bytes size c f.picture) f.tiles ++ mark_bytes fast c.marker)) orders_are)))))))

  pub frame_caches_stand : CachesStand w.confirmed w4.caches (uses_after w.confirmed uses f.sent)
  frame_caches_stand =
      let kept : w4.caches ≡ w1.caches = ap (λ (x : FrameWriter). x.caches) mark ∙ ap (λ (x : FrameWriter). x.caches) tiles in
      subst (λ (ss : List Sent). CachesStand w.confirmed w4.caches (uses_after w.confirmed uses ss)) (ap (λ (x : TakenFrame). x.sent) is)
      (subst (λ (ks : List (Option Kept)). CachesStand w.confirmed ks (uses_after w.confirmed uses t.sent)) (sym kept) wrote.caches)
