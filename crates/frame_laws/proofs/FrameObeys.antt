-- The orders of any frame are obeyed: a first one or a later one, a walk or a jump.
use Rattle.std.proofs.Common.{◌≡◌, ℕ, zero, suc, ◌+◌, ◌/◌, ◌%◌, ◌<◌, ◌≤◌, List, [], ◌∷◌, ◌++◌, length, map, replicate, refl, ap, sym, ◌∙◌, subst, arith}
use Rattle.std.proofs.Common.{append-nil, append_assoc, Some, None}
use Rattle.std.specs.Prelude.{Bool, true, false, not, ◌&&◌, nat_lt, Option, ℤ, pos, Ok, if◌then◌else◌}
use Rattle.px_core.specs.declared.surface.Size.{Size}
use Rattle.px_core.specs.declared.depth.Depth.{Depth}
use Rattle.px_core.specs.Depth.{shown, seen}
use Rattle.px_core.specs.Picture.{pixel_count, black_picture, item, where_chosen}
use Rattle.px_core.specs.Rectangle.{whole, in_rect, has_pixel}
use Rattle.px_core.specs.Tiles.{Tiles, no_tiles, tiles_of, tiles_in, either_tiles}
use Rattle.rop3_core.specs.Palette.{client_colors}
use Rattle.draw_ops.specs.declared.shape.Drawing.{Drawing}
use Rattle.draw_ops.specs.Formulas.{painted_area, over_rect, solid}
use Rattle.draw_ops.specs.Slots.{SurfaceState}
use Rattle.draw_ops.specs.Drawing.{state_after_drawings}
use Rattle.caps_sets.specs.declared.confirmed.Confirmed.{Confirmed}
use Rattle.caps_sets.specs.Confirmed.{depth_of}
use Rattle.session_rules.specs.declared.entry.Entry.{Entry}
use Rattle.wire_num.specs.Field.{bind}
use Rattle.order_fields.specs.NamedDrawing.NamedDrawing.{Opaque}
use Rattle.order_means.specs.ClientState.{ClientState, in_bounds, after_painting}
use Rattle.frame_rules.specs.Blocks.{Held}
use Rattle.session_rules.specs.Pending.{pending_drawings}
use Rattle.frame_rules.specs.Frame.{Walk, FrameOf, sent_from, walk_after, jumped, first_dirty, framed_by, frame_over, most_orders}
use Rattle.frame_rules.specs.FrameOrders.{Uses, start_orders, black_orders, orders_from, uses_after, orders_before_tiles}
use Rattle.frame_rules.specs.FrameOrders.SentOrder.{Drawn}
use Rattle.frame_rules.specs.Shown.{tile_of_place, ShowsOutside}
use Rattle.frame_rules.specs.Describes.{CachesAgree, IsSized, BlocksAgree, HasAllCaches}
use Rattle.frame_rules.proofs.Paint.{painted_at, item-painted_from, length-painted_from}
use Rattle.frame_rules.proofs.TileLaws.{column_below, row_below, in_rect-whole, tiles_of-in_rect}
use Rattle.frame_laws.specs.Agreement.{Agrees, AreFilled}
use Rattle.session_rules.proofs.Fitting.{Sides}
use Rattle.frame_laws.proofs.Jump.{jumped_agrees}
use Rattle.frame_laws.proofs.Sent.{obeyed_as}
use Rattle.frame_laws.specs.Uses.{client_after_sent, ObeyedThrough}
use Rattle.frame_laws.proofs.BlitSent.{orders_then}
use Rattle.frame_laws.proofs.WalkKeeps.{AllGood, walk_keeps}
use Rattle.frame_laws.proofs.SentOrCut.{Found, sent_keeps, unsent_keeps}

-- what is known of the client before a frame
pub record Before (size : Size) (c : Confirmed) (j : List Entry) (st : SurfaceState) (held : Held) (uses : Uses) (first : Bool)
    (client : ClientState) : Type 0 where
  pub caches : CachesAgree size c j uses client
  pub sized : IsSized c client
  pub blocks : BlocksAgree st held client
  pub filled : AreFilled held
  pub pixels : length client.picture ≡ pixel_count size
  pub whole_picture : length st.picture ≡ pixel_count size
  pub later : first ≡ false → client.picture ≡ map (seen (depth_of c)) st.picture
  pub black : first ≡ true → st.picture ≡ black_picture size

item_seen : (depth : Depth) (xs : List ℕ) (k : ℕ) → k < length xs → item (map (seen depth) xs) k None ≡ seen depth (item xs k 0)
item_seen depth [] k h = absurd (omega (arith, h))
item_seen depth (x ∷ xs) zero h = refl
item_seen depth (x ∷ xs) (suc k) h = item_seen depth xs k (omega (arith, h))

abbrev color_at : List ℕ → ℕ → ℕ
color_at xs k = item xs k 0

black_at : (n k : ℕ) → color_at (replicate n 0) k ≡ color_at [] k
black_at zero k = refl
black_at (suc n) zero = refl
black_at (suc n) (suc k) = black_at n k

module _ (size : Size) (c : Confirmed) (j : List Entry) (st : SurfaceState) (held : Held) (uses : Uses) (client : ClientState) where
  abbrev walk_at : Bool → Walk
  walk_at first = record { dirty = first_dirty size first c; held = held }

  -- the client once the frame has begun
  pub record Begun (first : Bool) : Type 0 where
    pub after : ClientState
    pub obeys : client_after_sent c size client (start_orders c.marker ++ black_orders size (first && c.pat)) ≡ Ok after
    pub agrees : Agrees size st (walk_at first) after
    pub caches : CachesAgree size c j uses after
    pub sized : IsSized c after

  started : (b : Bool) → client_after_sent c size client (start_orders b ++ []) ≡ Ok client
  started true = refl
  started false = refl

  abbrev blackened : ClientState
  blackened = after_painting size None (over_rect (whole size) (solid client_colors (shown client.depth 0))) client

  begun_black : (b : Bool) → client.depth ≡ depth_of c → has_pixel (whole size) ≡ true → client_after_sent c size client
      (start_orders b ++ (Drawn (whole size) (Opaque (whole size) 0) None ∷ [])) ≡ Ok blackened
  begun_black true same some = ap (λ r. bind r (λ d. client_after_sent c size d []))
      (obeyed_as c size client (whole size) (Opaque (whole size) 0) None (Ok blackened) same some (omega arith) refl)
  begun_black false same some = ap (λ r. bind r (λ d. client_after_sent c size d []))
      (obeyed_as c size client (whole size) (Opaque (whole size) 0) None (Ok blackened) same some (omega arith) refl)

  all_black : (b : Before size c j st held uses true client) → ShowsOutside client.depth size no_tiles blackened.picture st.picture
  all_black b = record {
    canvas_length = length-painted_from size.w 0 area f client.picture ∙ b.pixels;
    picture_length = b.whole_picture;
    pixels = λ i below clean.
        let here : in_rect (whole size) (pos (i % size.w)) (pos (i / size.w)) ≡ true =
        in_rect-whole size (i % size.w) (i / size.w) (column_below size i below) (row_below size i below) in
        let plus : 0 + i ≡ i = omega arith in
        item-painted_from size.w 0 area f client.picture i None (subst (λ n. i < n) (sym b.pixels) below)
        ∙ (ap (λ k. painted_at size.w area f k (item client.picture i None)) plus
        ∙ (ap (λ t. where_chosen (true && (t && true)) f (pos (i % size.w)) (pos (i / size.w)) (item client.picture i None)) here
        ∙ ap (seen client.depth) (sym (ap (λ xs. color_at xs i) (b.black refl) ∙ black_at (pixel_count size) i))));
  }
    where
      area : ℤ → ℤ → Bool
      area = painted_area (in_bounds None) (over_rect (whole size) (solid client_colors (shown client.depth 0)))

      f : ℤ → ℤ → Option ℕ → Option ℕ
      f = solid client_colors (shown client.depth 0)

  -- each pixel lies in a tile of the picture
  every_tile : size.w ≤ 2048 → (i : ℕ) → i < pixel_count size → tiles_of size (whole size) (tile_of_place size i) ≡ true
  every_tile narrow i below =
      let x = column_below size i below in
      let y = row_below size i below in
      tiles_of-in_rect size (whole size) (i % size.w) (i / size.w) narrow x y (in_rect-whole size (i % size.w) (i / size.w) x y)

  pub begins : size.w ≤ 2048 → has_pixel (whole size) ≡ true → (first : Bool) → Before size c j st held uses first client → Begun first
  begins narrow some false b = record {
    after = client;
    obeys = started c.marker;
    agrees = record {
      shown = record {
        canvas_length = b.pixels;
        picture_length = b.whole_picture;
        pixels = λ i below clean. ap (λ xs. item xs i None) (b.later refl)
            ∙ (item_seen (depth_of c) st.picture i (subst (λ n. i < n) (sym b.whole_picture) below)
            ∙ ap (λ d. seen d (item st.picture i 0)) (sym b.sized.depth));
      };
      blocks = b.blocks;
      filled = b.filled;
    };
    caches = b.caches;
    sized = b.sized;
  }
  begins narrow some true b = by c.pat refl
    where
      by : (p : Bool) → c.pat ≡ p → Begun true
      by true e = record {
        after = blackened;
        obeys = ap (λ t. client_after_sent c size client (start_orders c.marker ++ black_orders size t)) e ∙ begun_black c.marker b.sized.depth some;
        agrees = subst (λ (d : Tiles). Agrees size st (record { dirty = d; held = held }) blackened)
            (sym (ap (λ t. if true && not t then tiles_of size (whole size) else no_tiles) e))
            (record { shown = all_black b; blocks = b.blocks; filled = b.filled });
        caches = record { images = b.caches.images; glyphs = b.caches.glyphs; brushes = b.caches.brushes };
        sized = record { depth = b.sized.depth; images = b.sized.images; glyphs = b.sized.glyphs; brushes = b.sized.brushes };
      }
      by false e = record {
        after = client;
        obeys = ap (λ t. client_after_sent c size client (start_orders c.marker ++ black_orders size t)) e ∙ started c.marker;
        agrees = subst (λ (d : Tiles). Agrees size st (record { dirty = d; held = held }) client)
            (sym (ap (λ t. if true && not t then tiles_of size (whole size) else no_tiles) e))
            (record {
              shown = record {
                canvas_length = b.pixels;
                picture_length = b.whole_picture;
                pixels = λ i below clean. absurd
                    (cc (clean, every_tile narrow i below));
              };
              blocks = b.blocks;
              filled = b.filled;
            });
        caches = b.caches;
        sized = b.sized;
      }

  -- what the orders of a frame come to
  pub record Obeys (ds : List Drawing) (asked : Tiles) (f : FrameOf) : Type 0 where
    pub walk : Walk
    pub obeyed : ObeyedThrough size c j (state_after_drawings size st ds) walk (uses_after c uses f.sent) client (orders_before_tiles size c uses f)
    pub tiles : f.tiles ≡ tiles_in size (either_tiles walk.dirty asked)
    pub held_is : f.held ≡ walk.held

  pub frame_obeys : (narrow : size.w ≤ 2048) → Sides size.w size.h → HasAllCaches c → has_pixel (whole size) ≡ true → (first : Bool)
      → Before size c j st held uses first client
      → (ds : List Drawing) → AllGood size c j narrow (Found size j) st ds
      → (asked : Tiles) (picture : List ℕ) → Obeys ds asked (frame_over size c first held asked picture (pending_drawings size st ds))
  frame_obeys narrow sides all some first b ds good asked picture = by (nat_lt most_orders (length (pending_drawings size st ds)))
    where
      g : Begun first
      g = begins narrow some first b

      by : (jump : Bool) → Obeys ds asked (framed_by jump size c first (walk_at first) asked picture (pending_drawings size st ds))
      by true = record {
        walk = jumped size (walk_at first) (pending_drawings size st ds);
        obeyed = record {
          after = g.after;
          obeys = ap (λ os. client_after_sent c size client (start_orders c.marker ++ os)) (append-nil (black_orders size (first && c.pat))) ∙ g.obeys;
          agrees = jumped_agrees size narrow g.after ds st (walk_at first) g.agrees;
          caches = g.caches;
          sized = g.sized;
        };
        tiles = refl;
        held_is = refl;
      }
      by false =
          let ps = pending_drawings size st ds in
          let w = walk_keeps size c j narrow (Found size j) (sent_keeps size c j narrow all sides) (unsent_keeps size c j narrow) ds st
          (walk_at first) uses g.after good g.agrees g.caches g.sized in
          let rest = orders_from c uses (sent_from size c (walk_at first) ps) in
          let start = start_orders c.marker in
          let black = black_orders size (first && c.pat) in
          record {
            walk = walk_after size c (walk_at first) ps;
            obeyed = record {
              after = w.after;
              obeys = ap (client_after_sent c size client) (sym (append_assoc start black rest))
                  ∙ orders_then c size client g.after w.after (start ++ black) rest g.obeys w.obeys;
              agrees = w.agrees;
              caches = w.caches;
              sized = w.sized;
            };
            tiles = refl;
            held_is = refl;
          }
