-- The order of a restore is obeyed, and session and client agree after it.
use Rattle.std.proofs.Common.{◌≡◌, ℕ, zero, suc, ◌+◌, ◌*◌, ◌/◌, ◌%◌, ◌<◌, List, [], ◌∷◌, refl, ap, sym, ◌∙◌, arith, length, map, Some, None}
use Rattle.std.specs.Prelude.{true, Option, ℤ, pos, ◌+ℤ◌, ◌-ℤ◌, Ok}
use Rattle.std.proofs.lemmas.Int.{ints}
use Rattle.std.proofs.lemmas.Bool.{and_parts}
use Rattle.px_core.specs.declared.depth.Depth.{Depth}
use Rattle.px_core.specs.declared.surface.Size.{Size}
use Rattle.px_core.specs.declared.rectangle.Rect.{Rect}
use Rattle.px_core.specs.Depth.{seen}
use Rattle.px_core.specs.Picture.{nat_of, item, rows_of}
use Rattle.px_core.specs.Rectangle.{boxed, within, in_rect, has_pixel, is_inside}
use Rattle.draw_ops.specs.declared.shape.Shape.TheVariants.{Restore}
use Rattle.draw_ops.specs.Content.{ImageOf}
use Rattle.draw_ops.specs.Slots.{SurfaceState, lookup}
use Rattle.draw_ops.specs.Drawing.{painting_of, state_after_drawing}
use Rattle.caps_sets.specs.declared.confirmed.Confirmed.{Confirmed}
use Rattle.caps_sets.specs.Confirmed.{depth_of}
use Rattle.wire_num.specs.Field.{bind}
use Rattle.order_fields.specs.NamedDrawing.NamedDrawing.{RestoreBlock}
use Rattle.order_means.specs.ClientState.{ClientState, Block, needs, found, block_at, restoring, after_painting}
use Rattle.order_means.specs.ClientState.Fault.{Broken}
use Rattle.frame_rules.specs.Blocks.{placed, place_of}
use Rattle.frame_rules.specs.Frame.{Walk}
use Rattle.frame_rules.specs.FrameOrders.SentOrder.{Drawn}
use Rattle.frame_rules.specs.Describes.{block_shown}
use Rattle.frame_rules.proofs.TileLaws.{int_le_from}
use Rattle.frame_rules.proofs.TileShown.{item_rows, place_below}
use Rattle.frame_laws.specs.Agreement.{Agrees, ObeyedAndAgrees, drawn}
use Rattle.frame_laws.proofs.Sent.{DoesTheSame, painting_agrees, obeyed_as, shifted_within}

item_some : (depth : Depth) (xs : List ℕ) (k : ℕ) → k < length xs → item (map (seen depth) xs) k None ≡ seen depth (item xs k 0)
item_some depth [] k h = absurd (omega (arith, h))
item_some depth (x ∷ xs) zero h = refl
item_some depth (x ∷ xs) (suc k) h = item_some depth xs k (omega (arith, h))

-- a pixel of known rows
known_pixel : (depth : Depth) (w h : ℕ) (xs : List ℕ) (x y : ℕ) → length xs ≡ w * h → x < w → y < h
    → item (item (rows_of w h (map (seen depth) xs)) y []) x None ≡ seen depth (item (item (rows_of w h xs) y []) x 0)
known_pixel depth w h xs x y whole hx hy =
    item_rows w h (map (seen depth) xs) x y None hx hy ∙ item_some depth xs (w * y + x) (rw whole (place_below w h x y hx hy)) ∙ ap (seen depth) (sym (item_rows w h xs x y 0 hx hy))

side_again : (from : ℤ) (n z : ℕ) → within from n (pos z) ≡ true → nat_of ((pos z -ℤ from) +ℤ pos 0) < n
side_again from n z h = (shifted_within from n (pos 0) n z h refl (int_le_from (pos 0 +ℤ pos n) (pos n) (omega (arith, ints)))).0

module _ (size : Size) (st : SurfaceState) (w : Walk) (client : ClientState) (slot : ℕ) (x y : ℤ) (block : ImageOf) where
  abbrev area : Rect
  area = boxed x y block.w block.h

  abbrev kept : ℕ → Block
  kept position = block_shown client.depth (placed position block.w block.h) block

  paints_the_same : (position : ℕ) → lookup slot st.blocks ≡ Some block → length block.pixels ≡ block.w * block.h
      → DoesTheSame client.depth size st w.dirty None (painting_of size st (Restore slot x y)) (restoring (kept position) area)
  paints_the_same position e whole = rw e (record {
    rects = refl;
    areas = λ u v. refl;
    formulas = λ i d below clean here.
        let k = and_parts (in_rect area (pos (i % size.w)) (pos (i / size.w))) true here in
        let sides = and_parts (within x block.w (pos (i % size.w))) (within y block.h (pos (i / size.w))) k.0 in
        known_pixel client.depth block.w block.h block.pixels (nat_of ((pos (i % size.w) -ℤ x) +ℤ pos 0)) (nat_of ((pos (i / size.w) -ℤ y) +ℤ pos 0)) whole
        (side_again x block.w (i % size.w) sides.0) (side_again y block.h (i / size.w) sides.1);
  })

  -- the order of a restore of the block that the viewer holds
  pub restore_agrees : (c : Confirmed) (position : ℕ) → client.depth ≡ depth_of c → lookup slot st.blocks ≡ Some block → length block.pixels ≡ block.w * block.h → has_pixel area ≡ true → is_inside size area ≡ true
      → place_of slot w.held ≡ Some (placed position block.w block.h) → Agrees size st w client
      → ObeyedAndAgrees c size (state_after_drawing size st (drawn (Restore slot x y) None)) w client (Drawn area (RestoreBlock position area) None)
  restore_agrees c position depth e whole some inside held a =
      let b = a.blocks slot (placed position block.w block.h) held in
      let same : b.0 ≡ block = cc (sym b.1 ∙ e) in
      let there : block_at position block.w block.h client.blocks ≡ Some (kept position) = b.4 ∙ ap (λ k. let o : Option Block = Some (block_shown client.depth (placed position block.w block.h) k) in o) same in
      record {
        after = after_painting size None (restoring (kept position) area) client;
        obeys = obeyed_as c size client area (RestoreBlock position area) None (Ok (after_painting size None (restoring (kept position) area) client)) depth some tt
            (ap (λ s. needs s Broken (bind (found (block_at position block.w block.h client.blocks) Broken) (λ k. Ok (after_painting size None (restoring k area) client)))) inside
            ∙ ap (λ o. bind (found o Broken) (λ k. Ok (after_painting size None (restoring k area) client))) there);
        agrees = painting_agrees size st w client (Restore slot x y) None (restoring (kept position) area) refl (paints_the_same position e whole) a;
      }
