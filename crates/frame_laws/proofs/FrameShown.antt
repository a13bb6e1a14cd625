-- From the orders of a frame to its bytes: they are read, the mark shows the picture, and the encoder describes the client.
use Rattle.std.proofs.Common.{◌≡◌, ℕ, suc, ◌+◌, ◌*◌, ◌^◌, ◌≤◌, ◌<◌, List, [], ◌∷◌, ◌++◌, length, map, flat_map, refl, ap, sym, ◌∙◌, subst, append_assoc}
use Rattle.std.proofs.Common.{Some}
use Rattle.std.specs.Prelude.{Bool, true, false, ◌&&◌, ⊤, Option, Result, Ok, Err}
use Rattle.std.proofs.lemmas.List.{length-map}
use Rattle.px_core.specs.declared.surface.Size.{Size}
use Rattle.px_core.specs.Depth.{seen, shown_colors}
use Rattle.px_core.specs.Picture.{rows_of}
use Rattle.px_core.specs.Rectangle.{pixel_of, cut_out}
use Rattle.px_core.specs.Tiles.{tile_on, tiles_in, either_tiles}
use Rattle.draw_ops.specs.Slots.{SurfaceState, lookup}
use Rattle.caps_sets.specs.declared.confirmed.Confirmed.{Confirmed}
use Rattle.caps_sets.specs.Confirmed.{depth_of, takes_fast}
use Rattle.session_rules.specs.declared.entry.Entry.{Entry}
use Rattle.session_rules.specs.Journal.{state_after}
use Rattle.session_rules.specs.Steps.{TakeOf}
use Rattle.wire_num.specs.Field.{bind}
use Rattle.order_fields.specs.OrderTable.{Registers, AreRegisters}
use Rattle.order_means.specs.KeptContent.{kept_image}
use Rattle.order_means.specs.ClientState.{ClientState, Fault, cached, block_at, client_after_order}
use Rattle.order_means.specs.UpdateBodies.{tile_packet}
use Rattle.order_means.specs.FrameMarks.{View, marked_if, counted_order, view_with, view_after_orders, with_registers}
use Rattle.frame_rules.specs.Frame.{Walk, FrameOf}
use Rattle.frame_rules.specs.FrameOrders.{SentOrder, first_glyph_cache, brush_cache, orders_before_tiles}
use Rattle.frame_rules.specs.FrameOrders.SentOrder.{Drawn, CacheImage, CacheGlyph, CacheBrush, FrameMarker}
use Rattle.frame_rules.specs.FrameBytes.{bytes_of_orders, registers_after_orders, updates_of, tile_bytes, mark_bytes}
use Rattle.frame_rules.specs.FrameRead.{as_read, FitOrders, AreShort, Reads}
use Rattle.frame_rules.specs.Shown.{ShowsOutside, canvas_after_tiles}
use Rattle.frame_rules.specs.Encoder.{Encoder, encoder_frame, take_bytes, encoder_after}
use Rattle.frame_rules.specs.Describes.{DescribesClient, ShowsFrame, CachesAgree, index_of, block_shown}
use Rattle.frame_rules.specs.Blocks.{place_of}
use Rattle.save_plan.specs.Blocks.{AreApart}
use Rattle.frame_rules.proofs.OrdersBack.{sent_registers_all}
use Rattle.frame_rules.proofs.TilePhase.{canvas_after_dirty_tiles}
use Rattle.frame_rules.proofs.UpdatesBack.{reads_nothing, reads_then, updates_obeyed, mark_obeyed}
use Rattle.frame_laws.proofs.NotSent.{ShowsOutside-more}
use Rattle.frame_laws.specs.Sound.{AreColors}
use Rattle.frame_laws.proofs.Colored.{length-listed, colors_cut}
use Rattle.frame_laws.specs.Uses.{client_after_sent, ObeyedThrough}
use Rattle.frame_laws.specs.Tile.{IsTileRect, view_after_cut}
use Rattle.frame_laws.proofs.TileBack.{tile_obeyed}

-- ---- orders without an end marker change the client alone

abbrev pub NoMark : SentOrder → Type 0
NoMark (Drawn touched d bounds) = ⊤
NoMark (CacheImage cache index image) = ⊤
NoMark (CacheGlyph cache index glyph) = ⊤
NoMark (CacheBrush entry brush) = ⊤
NoMark (FrameMarker ends) = ends ≡ false

abbrev pub NoMarks : List SentOrder → Type 0
NoMarks [] = ⊤
NoMarks (o ∷ os) = NoMark o × NoMarks os

-- a view with this client and these pictures
pub record ViewIs (w : View) (d : ClientState) (pictures : List (List (Option ℕ))) : Type 0 where
  pub client : w.client ≡ d
  pub pictures_are : w.pictures ≡ pictures

-- a view that orders lead to
pub record ObeysTo (c : Confirmed) (size : Size) (v : View) (os : List SentOrder) (d : ClientState) : Type 0 where
  pub view : View
  pub obeys : view_after_orders c size v (map (as_read c) os) ≡ Ok view
  pub is : ViewIs view d v.pictures

not_marked : (c : Confirmed) (b : Bool) → b ≡ false → (v : View) → marked_if (c.marker && b) v ≡ v
not_marked c b e v = ap (λ t. marked_if (c.marker && t) v) e ∙ ap (λ t. marked_if t v) (and_false c.marker)
  where
    and_false : (t : Bool) → (t && false) ≡ false
    and_false true = refl
    and_false false = refl

counted : (c : Confirmed) (o : SentOrder) → NoMark o → (v : View) (d : ClientState) → ViewIs (counted_order c (as_read c o) (view_with v d)) d v.pictures
counted c (Drawn touched n bounds) h v d = record { client = refl; pictures_are = refl }
counted c (CacheImage cache index image) h v d = record { client = refl; pictures_are = refl }
counted c (CacheGlyph cache index glyph) h v d = record { client = refl; pictures_are = refl }
counted c (CacheBrush entry brush) h v d = record { client = refl; pictures_are = refl }
counted c (FrameMarker ends) h v d = record {
  client = ap (λ w. w.client) (not_marked c ends h (view_with v d));
  pictures_are = ap (λ w. w.pictures)
      (not_marked c ends h (view_with v d));
}

abbrev or_client : ClientState → Result ClientState Fault → ClientState
or_client x (Ok y) = y
or_client x (Err fault) = x

pub view_obeys : (c : Confirmed) (size : Size) (os : List SentOrder) (v : View) (d : ClientState) → NoMarks os → client_after_sent c size v.client os ≡ Ok d
    → ObeysTo c size v os d
view_obeys c size [] v d h e = record { view = v; obeys = refl; is = record { client = ap (λ r. or_client v.client r) e; pictures_are = refl } }
view_obeys c size (o ∷ os) v d h e = let r = by (client_after_order c size v.client (as_read c o)) e
    (λ w p. view_obeys c size os w d h.1 p) in record { view = r.0; obeys = r.1; is = r.2 }
  where
    by : (r : Result ClientState Fault) → bind r (λ x. client_after_sent c size x os) ≡ Ok d
        → ((w : View) → client_after_sent c size w.client os ≡ Ok d → ObeysTo c size w os d)
        → (w : View) × (bind (bind r (λ x. Ok (counted_order c (as_read c o) (view_with v x)))) (λ u. view_after_orders c size u (map (as_read c) os)) ≡ Ok w)
        × ViewIs w d v.pictures
    by (Err fault) p rest = absurd (cc p)
    by (Ok x) p rest =
        let u = counted_order c (as_read c o) (view_with v x) in
        let k = counted c o h.0 v x in
        let n = rest u (ap (λ y. client_after_sent c size y os) k.client ∙ p) in
        (n.view, n.obeys, record { client = n.is.client; pictures_are = n.is.pictures_are ∙ k.pictures_are })

-- ---- tiles

abbrev pub AreTiles : Size → List ℕ → Type 0
AreTiles size [] = ⊤
AreTiles size (t ∷ ts) = IsTileRect size (tile_on size t) × AreTiles size ts

-- a view that tiles lead to
pub record TilesTo (c : Confirmed) (size : Size) (picture : List ℕ) (ts : List ℕ) (v : View) (place : ℕ) : Type 0 where
  pub view : View
  pub reads : Reads c size v place (flat_map (tile_bytes size c picture) ts) view
  pub is : ViewIs view (record v.client { picture = canvas_after_tiles (depth_of c) size picture ts v.client.picture }) v.pictures

pub tiles_read : (c : Confirmed) (size : Size) (picture : List ℕ) → AreColors picture → (ts : List ℕ) (v : View) (place : ℕ) → v.client.depth ≡ depth_of c → AreTiles size ts
    → TilesTo c size picture ts v place
tiles_read c size picture colors [] v place same h = record { view = v; reads = reads_nothing c size v place; is = record { client = refl; pictures_are = refl } }
tiles_read c size picture colors (t ∷ ts) v place same h =
    let r = tile_on size t in
    let cut = cut_out size picture 0 r in
    let u = view_after_cut size v r (shown_colors (depth_of c) cut) in
    let one = tile_obeyed size (depth_of c) c.no_header r cut h.0 (length-listed (r.w * r.h) 0 (pixel_of (rows_of size.w size.h picture) 0 r))
    (colors_cut size picture r colors) c v place same in
    let packet = tile_packet (depth_of c) (takes_fast c) c.no_header r cut in
    let more = tiles_read c size picture colors ts u (place + length packet) same h.1 in
    record {
      view = more.view;
      reads = reads_then c size v u more.view place packet (flat_map (tile_bytes size c picture) ts) one more.reads;
      is = record { client = more.is.client; pictures_are = more.is.pictures_are };
    }

-- ---- a whole frame

-- what a frame's orders come to: they are obeyed, and session and client then agree outside the dirty tiles, which are sent
pub record FrameObeyed (size : Size) (c : Confirmed) (j : List Entry) (e : Encoder) (t : TakeOf) (client : ClientState) : Type 0 where
  pub walk : Walk
  pub obeyed : ObeyedThrough size c j (state_after size j t.number).surface walk (encoder_after size c j e t).uses client
      (orders_before_tiles size c e.uses (encoder_frame size c j e t))
  pub tiles : (encoder_frame size c j e t).tiles ≡ tiles_in size (either_tiles walk.dirty t.asked)
  pub held : (encoder_frame size c j e t).held ≡ walk.held
  pub apart : AreApart (encoder_frame size c j e t).held
  pub picture : (encoder_frame size c j e t).picture ≡ (state_after size j t.number).surface.picture
  pub marks : NoMarks (orders_before_tiles size c e.uses (encoder_frame size c j e t))
  pub fit : FitOrders c (orders_before_tiles size c e.uses (encoder_frame size c j e t))
  pub short : AreShort c e.registers (orders_before_tiles size c e.uses (encoder_frame size c j e t))
  pub few : length (orders_before_tiles size c e.uses (encoder_frame size c j e t)) < 2 ^ 16
  pub are_tiles : AreTiles size (tiles_in size (either_tiles walk.dirty t.asked))
  pub colors : AreColors (state_after size j t.number).surface.picture

module _ (size : Size) (narrow : size.w ≤ 2048) (c : Confirmed) (j : List Entry) (e : Encoder) (t : TakeOf) (view : View) (place : ℕ)
    (old : DescribesClient size c j t.before e view.client) (o : FrameObeyed size c j e t view.client) where
  abbrev f : FrameOf
  f = encoder_frame size c j e t

  abbrev os : List SentOrder
  os = orders_before_tiles size c e.uses f

  abbrev later : Registers
  later = registers_after_orders c e.registers os

  abbrev st : SurfaceState
  st = (state_after size j t.number).surface

  pub frame_shown : ShowsFrame size c j e t view place
  frame_shown =
      let regs = old.registers in
      let are : AreRegisters view.client.registers = subst AreRegisters (sym regs) old.are_registers in
      let n = view_obeys c size os view o.obeyed.after o.marks o.obeyed.obeys in
      let short : AreShort c view.client.registers os = subst (λ r. AreShort c r os) (sym regs) o.short in
      let A = updates_of (takes_fast c) (bytes_of_orders c view.client.registers os) in
      let v1 = with_registers n.view (registers_after_orders c view.client.registers os) in
      let first : Reads c size view place A v1 = updates_obeyed c size os view n.view place old.sized.depth are o.fit short o.few n.obeys in
      let seen_at : n.view.client.depth ≡ depth_of c = ap (λ d. d.depth) n.is.client ∙ o.obeyed.sized.depth in
      let ts = tiles_in size (either_tiles o.walk.dirty t.asked) in
      let B = flat_map (tile_bytes size c st.picture) ts in
      let m = tiles_read c size st.picture o.colors ts v1 (place + length A) seen_at o.are_tiles in
      let first_two = reads_then c size view v1 m.view place A B first m.reads in
      let registers_now : m.view.client.registers ≡ later = ap (λ d. d.registers) m.is.client ∙ ap (λ r. registers_after_orders c r os) regs in
      let are_later : AreRegisters later = sent_registers_all c e.registers os old.are_registers o.fit in
      let v3 = marked_if true m.view in
      let third : Reads c size m.view (place + length (A ++ B)) (mark_bytes (takes_fast c) c.marker) v3 =
      mark_obeyed c size m.view (place + length (A ++ B)) (subst AreRegisters (sym registers_now) are_later) in
      let all = reads_then c size view m.view v3 place (A ++ B) (mark_bytes (takes_fast c) c.marker) first_two third in
      let bytes : (A ++ B) ++ mark_bytes (takes_fast c) c.marker ≡ take_bytes size c j e t =
      append_assoc A B (mark_bytes (takes_fast c) c.marker)
      ∙ ap (λ r. updates_of (takes_fast c) (bytes_of_orders c r os) ++ (B ++ mark_bytes (takes_fast c) c.marker)) regs
      ∙ ap (λ p. updates_of (takes_fast c) (bytes_of_orders c e.registers os) ++ (flat_map (tile_bytes size c p) ts ++ mark_bytes (takes_fast c) c.marker)) (sym o.picture)
      ∙ ap (λ xs. updates_of (takes_fast c) (bytes_of_orders c e.registers os) ++ (flat_map (tile_bytes size c f.picture) xs ++ mark_bytes (takes_fast c) c.marker)) (sym o.tiles) in
      let shown : canvas_after_tiles (depth_of c) size st.picture ts n.view.client.picture ≡ map (seen (depth_of c)) st.picture =
      canvas_after_dirty_tiles (depth_of c) size (either_tiles o.walk.dirty t.asked) n.view.client.picture st.picture narrow
      (ShowsOutside-more (depth_of c) size o.walk.dirty t.asked n.view.client.picture st.picture
      (subst (λ depth. ShowsOutside depth size o.walk.dirty n.view.client.picture st.picture) seen_at
      (subst (λ d. ShowsOutside d.depth size o.walk.dirty d.picture st.picture) (sym n.is.client) o.obeyed.agrees.shown))) in
      let canvas : m.view.client.picture ≡ map (seen (depth_of c)) st.picture = ap (λ d. d.picture) m.is.client ∙ shown in
      let client_is : m.view.client ≡ record n.view.client {
        registers = registers_after_orders c view.client.registers os;
        picture = canvas_after_tiles (depth_of c) size st.picture ts n.view.client.picture;
      } = m.is.client in
      let depth_is : m.view.client.depth ≡ o.obeyed.after.depth = ap (λ d. d.depth) client_is ∙ ap (λ d. d.depth) n.is.client in
      let caches : CachesAgree size c j (encoder_after size c j e t).uses m.view.client =
      record {
        images = λ cache key few h. let x = o.obeyed.caches.images cache key few h in (
          x.0,
          x.1,
          ap (λ d. cached cache (index_of c (encoder_after size c j e t).uses cache key) d.images) client_is
              ∙ (ap (λ d. cached cache (index_of c (encoder_after size c j e t).uses cache key) d.images) n.is.client ∙ (x.2 ∙ ap (λ depth. Some (kept_image depth x.0)) (sym depth_is))),
        );
        glyphs = λ cache key few h. let x = o.obeyed.caches.glyphs cache key few h in (
          x.0,
          x.1,
          ap (λ d. cached cache (index_of c (encoder_after size c j e t).uses (first_glyph_cache + cache) key) d.glyphs) client_is
              ∙ (ap (λ d. cached cache (index_of c (encoder_after size c j e t).uses (first_glyph_cache + cache) key) d.glyphs) n.is.client ∙ x.2),
        );
        brushes = λ key h. let x = o.obeyed.caches.brushes key h in (
          x.0,
          x.1,
          ap (λ d. lookup (index_of c (encoder_after size c j e t).uses brush_cache key) d.brushes) client_is
              ∙ (ap (λ d. lookup (index_of c (encoder_after size c j e t).uses brush_cache key) d.brushes) n.is.client ∙ (x.2 ∙ ap (λ depth. Some (shown_colors depth x.0)) (sym depth_is))),
        );
      } in
      record {
        after = v3;
        reads = subst (λ bs. Reads c size view place bs v3) bytes all;
        mark = ap (λ ps. ps ++ m.view.client.picture ∷ []) (m.is.pictures_are ∙ n.is.pictures_are) ∙ ap (λ p. view.pictures ++ p ∷ []) canvas;
        describes = record {
          registers = registers_now;
          are_registers = are_later;
          sized = record {
            depth = depth_is ∙ o.obeyed.sized.depth;
            images = ap (λ d. map length d.images) client_is ∙ (ap (λ d. map length d.images) n.is.client ∙ o.obeyed.sized.images);
            glyphs = ap (λ d. map length d.glyphs) client_is ∙ (ap (λ d. map length d.glyphs) n.is.client ∙ o.obeyed.sized.glyphs);
            brushes = ap (λ d. length d.brushes) client_is ∙ (ap (λ d. length d.brushes) n.is.client ∙ o.obeyed.sized.brushes);
          };
          caches = caches;
          blocks = λ slot p h. let x = o.obeyed.agrees.blocks slot p (subst (λ hs. place_of slot hs ≡ Some p) o.held h) in (
            x.0,
            x.1,
            x.2,
            x.3,
            ap (λ d. block_at p.position p.w p.h d.blocks) client_is
                ∙ (ap (λ d. block_at p.position p.w p.h d.blocks) n.is.client ∙ (x.4 ∙ ap (λ depth. Some (block_shown depth p x.0)) (sym depth_is))),
          );
          apart = o.apart;
          pixels = ap length canvas ∙ (length-map st.picture (seen (depth_of c)) ∙ o.obeyed.agrees.shown.picture_length);
          picture = λ h. canvas;
        };
      }
