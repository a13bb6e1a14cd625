-- The orders of a Blit, whether its image misses or hits, are obeyed; session and client agree after them, and so do the caches.
use Rattle.std.proofs.Common.{◌≡◌, ℕ, ◌/◌, ◌%◌, ◌≤◌, List, [], ◌∷◌, ◌++◌, length, refl, ap, ◌∙◌, arith, Some}
use Rattle.std.specs.Prelude.{Bool, true, false, ◌&&◌, nat_lt, Option, ℤ, pos, ◌+ℤ◌, ◌-ℤ◌, int_le, Ok, Err, Result}
use Rattle.std.proofs.lemmas.Int.{ints}
use Rattle.std.proofs.lemmas.Bool.{and_from, and_parts}
use Rattle.std.proofs.lemmas.Bool.Decides.{nat_tests}
use Rattle.px_core.specs.declared.depth.Depth.{Depth}
use Rattle.px_core.specs.declared.surface.Size.{Size}
use Rattle.px_core.specs.declared.rectangle.Rect.{Rect}
use Rattle.px_core.specs.Depth.{shown, seen}
use Rattle.px_core.specs.Picture.{nat_of}
use Rattle.px_core.specs.Rectangle.{within, in_rect, in_clip, has_pixel, is_inside}
use Rattle.rop3_core.specs.Palette.{session_colors, client_colors}
use Rattle.draw_ops.specs.declared.shape.Shape.TheVariants.{Blit}
use Rattle.draw_ops.specs.Content.{ImageOf}
use Rattle.draw_ops.specs.Slots.{SurfaceState, Loaded, lookup}
use Rattle.draw_ops.specs.Formulas.{Painting, imaged, image_rows}
use Rattle.draw_ops.specs.Drawing.{painting_of, state_after_drawing}
use Rattle.draw_ops.proofs.Shapes.{shifted_shown}
use Rattle.draw_ops.proofs.ShownRaster.{operation}
use Rattle.caps_sets.specs.declared.confirmed.Confirmed.{Confirmed}
use Rattle.caps_sets.specs.Confirmed.{cache_size}
use Rattle.session_rules.specs.declared.entry.Entry.{Entry}
use Rattle.wire_num.specs.Field.{bind}
use Rattle.order_fields.specs.OrderDelta.{edges_of_optional}
use Rattle.run_lengths.specs.WirePixels.{padded}
use Rattle.order_means.specs.KeptContent.{padded_image, kept_image}
use Rattle.order_fields.specs.NamedDrawing.NamedDrawing.{Mem}
use Rattle.order_means.specs.ClientState.{ClientState, Fault, found, needs, used, cached, image_used, source_rect, after_painting, mixing, no_operand, client_after_order}
use Rattle.order_means.specs.ClientState.Fault.{Broken, Oversized, Empty}
use Rattle.frame_rules.specs.Frame.{Walk}
use Rattle.frame_rules.specs.FrameOrders.{SentOrder, Uses, bounds_of, image_use}
use Rattle.frame_rules.specs.FrameOrders.SentOrder.{Drawn}
use Rattle.frame_rules.specs.FrameRead.{as_read}
use Rattle.frame_rules.specs.Describes.{CachesAgree, IsSized}
use Rattle.frame_laws.specs.Agreement.{Agrees, drawn}
use Rattle.frame_laws.proofs.Sent.{black, DoesTheSame, painting_agrees, obeyed_as, shifted_within}
use Rattle.frame_laws.specs.Sound.{IsSoundImage}
use Rattle.frame_laws.specs.Uses.{client_after_sent, IsServed, ObeyedThrough}
use Rattle.frame_laws.proofs.TurnedOver.{padded_least, padded_pixel}
use Rattle.frame_laws.proofs.ImageUse as images

-- orders one after the other
pub orders_then : (c : Confirmed) (size : Size) (client mid after : ClientState) (os ps : List SentOrder) → client_after_sent c size client os ≡ Ok mid
    → client_after_sent c size mid ps ≡ Ok after
    → client_after_sent c size client (os ++ ps) ≡ Ok after
orders_then c size client mid after [] ps first second = ap (λ r. bind r (λ d. client_after_sent c size d ps)) first ∙ second
orders_then c size client mid after (o ∷ os) ps first second =
    by (client_after_order c size client (as_read c o)) first (λ d e. orders_then c size d mid after os ps e second)
  where
    by : (r : Result ClientState Fault) → bind r (λ d. client_after_sent c size d os) ≡ Ok mid
        → ((d : ClientState) → client_after_sent c size d os ≡ Ok mid → client_after_sent c size d (os ++ ps) ≡ Ok after)
        → bind r (λ d. client_after_sent c size d (os ++ ps)) ≡ Ok after
    by (Ok d) e rest = rest d e
    by (Err fault) e rest = absurd (cc e)

-- a source inside an image is inside the image with the columns that were added
pub inside_padded : (image : ImageOf) (r : Rect) → is_inside (record { w = image.w; h = image.h }) r ≡ true
    → is_inside (record { w = (padded_image image).w; h = (padded_image image).h }) r ≡ true
inside_padded image r h =
    let parts = and_parts (int_le (pos 0) r.x && int_le (r.x +ℤ pos r.w) (pos image.w)) (int_le (pos 0) r.y && int_le (r.y +ℤ pos r.h) (pos image.h)) h in
    let sides = and_parts (int_le (pos 0) r.x) (int_le (r.x +ℤ pos r.w) (pos image.w)) parts.0 in
    let most = sides.1 in
    let least = padded_least image.w in
    and_from _ _ (and_from _ _ sides.0 (wider (r.x +ℤ pos r.w) image.w (padded image.w) least most)) parts.1
  where
    wider : (z : ℤ) (m n : ℕ) → m ≤ n → int_le z (pos m) ≡ true → int_le z (pos n) ≡ true
    wider z m n up h = by (int_le z (pos n)) refl
      where
        by : (b : Bool) → int_le z (pos n) ≡ b → b ≡ true
        by true e = refl
        by false e = absurd (omega (arith, ints, up, h, e))

-- a pixel of an image that a client keeps is what is shown of the session's
pub image_pixel : (depth : Depth) (r : Rect) (clip : Option Rect) (image : ImageOf) (sx sy : ℤ) (x y : ℕ) → IsSoundImage image
    → is_inside (record { w = image.w; h = image.h }) (source_rect r sx sy) ≡ true → (in_clip clip (pos x) (pos y) && (in_rect r (pos x) (pos y) && true)) ≡ true
    → imaged client_colors (image_rows (kept_image depth image)) r sx sy (pos x) (pos y)
    ≡ seen depth (imaged session_colors (image_rows image) r sx sy (pos x) (pos y))
image_pixel depth r clip image sx sy x y sound fits here =
    let parts = and_parts (in_clip clip (pos x) (pos y)) (in_rect r (pos x) (pos y) && true) here in
    let k = and_parts (in_rect r (pos x) (pos y)) true parts.1 in
    let sides = and_parts (within r.x r.w (pos x)) (within r.y r.h (pos y)) k.0 in
    let f = and_parts (int_le (pos 0) sx && int_le (sx +ℤ pos r.w) (pos image.w)) (int_le (pos 0) sy && int_le (sy +ℤ pos r.h) (pos image.h)) fits in
    let fx = and_parts (int_le (pos 0) sx) (int_le (sx +ℤ pos r.w) (pos image.w)) f.0 in
    let fy = and_parts (int_le (pos 0) sy) (int_le (sy +ℤ pos r.h) (pos image.h)) f.1 in
    let X = shifted_within r.x r.w sx image.w x sides.0 fx.0 fx.1 in
    let Y = shifted_within r.y r.h sy image.h y sides.1 fy.0 fy.1 in
    let p = padded_image image in
    ap Some (shifted_shown depth p.w p.h p.pixels r sx sy (pos x) (pos y)
    ∙ ap (shown depth) (padded_pixel image (nat_of ((pos x -ℤ r.x) +ℤ sx)) (nat_of ((pos y -ℤ r.y) +ℤ sy)) sound X.0 Y.0))

module _ (size : Size) (c : Confirmed) (j : List Entry) (st : SurfaceState) (w : Walk) (client : ClientState) (uses : Uses) (cache : ℕ) (image : Loaded ImageOf)
    (slot : ℕ) (r : Rect) (code : ℕ) (sx sy : ℤ) (clip : Option Rect) where
  abbrev source : Depth → List (List ℕ) → Painting (Option ℕ)
  source depth rows = mixing depth r code no_operand (imaged client_colors rows r sx sy)

  -- the pixels of the image are shown by those of the one that is kept
  pub blit_paints_the_same : (depth : Depth) → IsSoundImage image.content → lookup slot st.images ≡ Some image
      → is_inside (record { w = image.content.w; h = image.content.h }) (source_rect r sx sy) ≡ true
      → DoesTheSame depth size st w.dirty clip (painting_of size st (Blit r code slot sx sy)) (source depth (image_rows (kept_image depth image.content)))
  blit_paints_the_same depth sound held fits = rw held (record {
    rects = refl;
    areas = λ x y. refl;
    formulas = λ i d below clean here. operation depth code 0 _ d (black depth)
        (image_pixel depth r clip image.content sx sy (i % size.w) (i / size.w) sound fits here);
  })

  abbrev entry_used : ℕ
  entry_used = (image_use c uses cache (Some image)).index

  abbrev blit_orders : List SentOrder
  blit_orders = (image_use c uses cache (Some image)).orders ++ Drawn r (Mem cache entry_used r code sx sy) (bounds_of r clip) ∷ []

  pub blit_agrees : IsServed size c j cache image → length c.bitmaps ≡ 3 → lookup slot st.images ≡ Some image → has_pixel r ≡ true
      → is_inside (record { w = image.content.w; h = image.content.h }) (source_rect r sx sy) ≡ true
      → Agrees size st w client → CachesAgree size c j uses client → IsSized c client
      → ObeyedThrough size c j (state_after_drawing size st (drawn (Blit r code slot sx sy) clip)) w
      (image_use c uses cache (Some image)).uses client blit_orders
  blit_agrees s three held some fits a caches sized =
      let u = images.image_used size c j client uses cache image s sized caches three in
      let d = u.after in
      let kept = kept_image d.depth image.content in
      let after = after_painting size (edges_of_optional (bounds_of r clip)) (source d.depth (image_rows kept)) d in
      let few = s.bitmap in
      let below = u.below in
      let bitmap : nat_lt cache 3 ≡ true = grind (arith, nat_tests, few) in
      let entry : nat_lt entry_used (cache_size c.bitmaps cache).entries ≡ true = grind (arith, nat_tests, below) in
      let found_ : image_used c d cache entry_used (source_rect r sx sy) ≡ Ok kept =
      ap (λ t. needs t Broken (bind (used cache (cache_size c.bitmaps cache).entries entry_used (cached cache entry_used d.images))
      (λ x. needs (is_inside (record { w = x.w; h = x.h }) (source_rect r sx sy)) Broken (Ok x)))) bitmap
      ∙ ap (λ t. bind (needs t (Oversized cache entry_used) (found (cached cache entry_used d.images) (Empty cache entry_used)))
      (λ x. needs (is_inside (record { w = x.w; h = x.h }) (source_rect r sx sy)) Broken (Ok x))) entry
      ∙ ap (λ o. bind (found o (Empty cache entry_used)) (λ x. needs (is_inside (record { w = x.w; h = x.h }) (source_rect r sx sy)) Broken (Ok x))) u.there
      ∙ ap (λ t. needs t Broken (Ok kept)) (inside_padded image.content (source_rect r sx sy) fits) in
      let draws : client_after_order c size d (as_read c (Drawn r (Mem cache entry_used r code sx sy) (bounds_of r clip))) ≡ Ok after =
      obeyed_as c size d r (Mem cache entry_used r code sx sy) (bounds_of r clip) (Ok after) u.sized.depth some tt
      (ap (λ o. bind o (λ x. Ok (after_painting size (edges_of_optional (bounds_of r clip)) (source d.depth (image_rows x)) d))) found_) in
      record {
        after = after;
        obeys = orders_then c size client d after (image_use c uses cache (Some image)).orders
            (Drawn r (Mem cache entry_used r code sx sy) (bounds_of r clip) ∷ []) u.obeys
            (ap (λ o. bind o (λ e. client_after_sent c size e [])) draws);
        agrees = painting_agrees size st w d (Blit r code slot sx sy) clip (source d.depth (image_rows kept)) refl
            (blit_paints_the_same d.depth s.sound held fits)
            (u.agrees st w a);
        caches = record { images = u.caches.images; glyphs = u.caches.glyphs; brushes = u.caches.brushes };
        sized = record { depth = u.sized.depth; images = u.sized.images; glyphs = u.sized.glyphs; brushes = u.sized.brushes };
      }
