-- The order of a save is obeyed, and session and client agree after it.
use Rattle.std.proofs.Common.{◌≡◌, ℕ, zero, suc, mod-lt, mul_comm, ◌+◌, ◌*◌, ◌/◌, ◌%◌, ◌≤◌, ◌<◌, List, [], ◌∷◌, refl, ap, sym, ◌∙◌, arith, length, map, Some, None, subst}
use Rattle.std.specs.Prelude.{Bool, true, false, ◌&&◌, ◌||◌, ◌==◌, nat_le, Option, slice_get, slice_set, ℤ, pos, ◌+ℤ◌, int_le, Ok}
use Rattle.std.proofs.lemmas.Int.{ints}
use Rattle.std.proofs.lemmas.Nat.{div_below}
use Rattle.std.proofs.lemmas.Bool.{and_from, and_parts}
use Rattle.std.proofs.lemmas.Bool.Decides.{nat_tests}
use Rattle.px_core.specs.declared.depth.Depth.{Depth}
use Rattle.px_core.specs.declared.surface.Size.{Size}
use Rattle.px_core.specs.declared.rectangle.Rect.{Rect}
use Rattle.px_core.specs.Depth.{seen}
use Rattle.px_core.specs.Picture.{listed, nat_of, rows_of}
use Rattle.px_core.specs.Rectangle.{within, in_rect, has_pixel, is_inside, pixel_of, cut_out}
use Rattle.px_core.specs.Tiles.{tiles_of, share_tile, Tiles}
use Rattle.draw_ops.specs.declared.shape.Shape.TheVariants.{Save}
use Rattle.draw_ops.specs.Content.{ImageOf}
use Rattle.draw_ops.specs.Slots.{SurfaceState, lookup, flattened}
use Rattle.draw_ops.specs.Drawing.{state_after_drawing, block_of as session_block}
use Rattle.caps_sets.specs.declared.confirmed.Confirmed.{Confirmed}
use Rattle.caps_sets.specs.Confirmed.{depth_of}
use Rattle.order_fields.specs.NamedDrawing.NamedDrawing.{SaveBlock}
use Rattle.order_means.specs.ClientState.{ClientState, Block, needs, with_block as client_with_block, block_of, block_at, chosen_block, are_apart, apart_from, positions}
use Rattle.order_means.specs.ClientState.Fault.{Broken}
use Rattle.frame_rules.specs.Blocks.{Place, placed, positions_of, has_room, least_free, place_of, without_slot}
use Rattle.frame_rules.specs.Frame.{Walk, with_block, given_up}
use Rattle.frame_rules.specs.FrameOrders.SentOrder.{Drawn}
use Rattle.frame_rules.specs.Shown.{ShowsOutside}
use Rattle.frame_rules.specs.Describes.{block_shown}
use Rattle.frame_rules.proofs.TileLaws.{pos-nat_of, int_le_from, int_lt_from}
use Rattle.frame_laws.specs.Agreement.{Agrees, ObeyedAndAgrees, drawn}
use Rattle.frame_laws.proofs.NotSent.{place-without, ShowsOutside-unpainted, blocks_of_others}
use Rattle.frame_laws.proofs.Sent.{obeyed_as, copy_source, source_clean, same_number}
use Rattle.frame_laws.proofs.SavedBlocks.{least_free-room, room_fits, free_apart, blocks_kept}

-- ---- the pixels

map-listed : (depth : Depth) (n i : ℕ) (f : ℕ → ℕ) → map (seen depth) (listed n i f) ≡ listed n i (λ k. seen depth (f k))
map-listed depth zero i f = refl
map-listed depth (suc n) i f = ap (λ xs. seen depth (f i) ∷ xs) (map-listed depth n (i + 1) f)

listed-same : {A : Type 0} (n i : ℕ) (f g : ℕ → A) → ((k : ℕ) → i ≤ k → k < i + n → f k ≡ g k) → listed n i f ≡ listed n i g
listed-same zero i f g h = refl
listed-same (suc n) i f g h = ap (λ x. x ∷ listed n (i + 1) f) (h i (omega arith) (omega arith)) ∙ ap (λ xs. g i ∷ xs) (listed-same n (i + 1) f g (λ k a b. h k (omega (arith, a)) (omega (arith, b))))

record InRect (size : Size) (r : Rect) (x y : ℕ) : Type 0 where
  column : nat_of (r.x +ℤ pos x) < size.w
  row : nat_of (r.y +ℤ pos y) < size.h
  inside : in_rect r (pos (nat_of (r.x +ℤ pos x))) (pos (nat_of (r.y +ℤ pos y))) ≡ true

side_inside : (from : ℤ) (n most x : ℕ) → x < n → int_le (pos 0) from ≡ true → int_le (from +ℤ pos n) (pos most) ≡ true → (nat_of (from +ℤ pos x) < most) × (within from n (pos (nat_of (from +ℤ pos x))) ≡ true)
side_inside from n most x h low high =
    let is : pos (nat_of (from +ℤ pos x)) ≡ from +ℤ pos x = pos-nat_of (from +ℤ pos x) (omega (arith, ints)) in
    (omega (arith, ints), rw is (and_from _ _ (int_le_from from (from +ℤ pos x) (omega (arith, ints))) (int_lt_from (from +ℤ pos x) (from +ℤ pos n) (omega (arith, ints)))))

in_rect_of : (size : Size) (r : Rect) (x y : ℕ) → is_inside size r ≡ true → x < r.w → y < r.h → InRect size r x y
in_rect_of size r x y whole hx hy =
    let w = and_parts (int_le (pos 0) r.x && int_le (r.x +ℤ pos r.w) (pos size.w)) (int_le (pos 0) r.y && int_le (r.y +ℤ pos r.h) (pos size.h)) whole in
    let wx = and_parts (int_le (pos 0) r.x) (int_le (r.x +ℤ pos r.w) (pos size.w)) w.0 in
    let wy = and_parts (int_le (pos 0) r.y) (int_le (r.y +ℤ pos r.h) (pos size.h)) w.1 in
    let a = side_inside r.x r.w size.w x hx wx.0 wx.1 in
    let b = side_inside r.y r.h size.h y hy wy.0 wy.1 in
    record { column = a.0; row = b.0; inside = and_from _ _ a.1 b.1 }

column_in : (w h k : ℕ) → k < w * h → k % w < w
column_in zero h k below = absurd (omega (arith, below))
column_in (suc w) h k below = mod-lt k (omega arith)

row_in : (w h k : ℕ) → k < w * h → k / w < h
row_in zero h k below = absurd (omega (arith, below))
row_in (suc w) h k below = div_below k (suc w) h (omega arith) (rw (mul_comm h (suc w)) below)

cut_agrees : (depth : Depth) (size : Size) (dirty : Tiles) (canvas : List (Option ℕ)) (picture : List ℕ) (r : Rect) → size.w ≤ 2048 → is_inside size r ≡ true → share_tile size dirty (tiles_of size r) ≡ false
    → ShowsOutside depth size dirty canvas picture → cut_out size canvas None r ≡ map (seen depth) (cut_out size picture 0 r)
cut_agrees depth size dirty canvas picture r narrow whole apart s =
    listed-same (r.w * r.h) 0 (pixel_of (rows_of size.w size.h canvas) None r) (λ k. seen depth (pixel_of (rows_of size.w size.h picture) 0 r k)) pixel
    ∙ sym (map-listed depth (r.w * r.h) 0 (pixel_of (rows_of size.w size.h picture) 0 r))
  where
    pixel : (k : ℕ) → 0 ≤ k → k < 0 + r.w * r.h → pixel_of (rows_of size.w size.h canvas) None r k ≡ seen depth (pixel_of (rows_of size.w size.h picture) 0 r k)
    pixel k low high =
        let below : k < r.w * r.h = omega arith in
        let i = in_rect_of size r (k % r.w) (k / r.w) whole (column_in r.w r.h k below) (row_in r.w r.h k below) in
        copy_source depth size dirty canvas picture (nat_of (r.x +ℤ pos (k % r.w))) (nat_of (r.y +ℤ pos (k / r.w))) i.column i.row s
        (source_clean size dirty r r.x r.y (nat_of (r.x +ℤ pos (k % r.w))) (nat_of (r.y +ℤ pos (k / r.w))) narrow apart i.column i.row i.inside)

-- ---- the blocks

get-set_same : {A : Type 0} (xs : List A) (i : ℕ) (x : A) → i < length xs → slice_get (slice_set xs i x) i ≡ Some x
get-set_same [] i x h = absurd (omega (arith, h))
get-set_same (y ∷ ys) zero x h = refl
get-set_same (y ∷ ys) (suc i) x h = get-set_same ys i x (omega (arith, h))

equal_test : (a b : ℕ) → a ≡ b → (a == b) ≡ true
equal_test a b h = grind (arith, nat_tests, h)

-- a new block and one that shares no position with it aren't at one place
not_same_place : (p n q w h : ℕ) → 0 < n → (nat_le (p + n) q || nat_le (q + positions w h) p) ≡ true → (b : Bool) → ((p == q) && b) ≡ true → (b ≡ true → n ≡ positions w h) → ⊥
not_same_place p n q w h some apart b e sides =
    let parts = and_parts (p == q) b e in
    let here : p ≡ q = same_number p q parts.0 in
    let same = sides parts.1 in
    by (nat_le (p + n) q) (nat_le (q + positions w h) p) refl refl here same
  where
    by : (s t : Bool) → nat_le (p + n) q ≡ s → nat_le (q + positions w h) p ≡ t → p ≡ q → n ≡ positions w h → ⊥
    by true t a b here same = absurd (grind (arith, nat_tests, a, here, some))
    by false true a b here same = absurd (grind (arith, nat_tests, b, here, same, some))
    by false false a b here same = cc (sym apart ∙ ap (λ s. s || nat_le (q + positions w h) p) a ∙ b)

product_positive : (a b : ℕ) → 0 < a → 0 < b → 0 < a * b
product_positive zero b h k = absurd (omega (arith, h))
product_positive (suc a) zero h k = absurd (omega (arith, k))
product_positive (suc a) (suc b) h k = grind arith

some_positions : (w h : ℕ) → 0 < w → 0 < h → 0 < positions w h
some_positions w h hw hh = product_positive w (20 * ((h + 19) / 20)) hw (omega arith)

false_where : (t : Bool) → (t ≡ true → ⊥) → t ≡ false
false_where true h = absurd (h refl)
false_where false h = refl

module _ (size : Size) (st : SurfaceState) (w : Walk) (client : ClientState) (slot : ℕ) (r : Rect) (clip : Option Rect) (position : ℕ) where
  abbrev new : Block
  new = block_of size client position r

  abbrev later : SurfaceState
  later = state_after_drawing size st (drawn (Save slot r) clip)

  -- what is said of each held block
  abbrev IsKept : ℕ → Place → Type 0
  IsKept k place = (block : ImageOf) × (lookup k later.blocks ≡ Some block) × (block.w ≡ place.w) × (block.h ≡ place.h)
      × (block_at place.position place.w place.h (client_with_block new client).blocks ≡ Some (block_shown client.depth place block))

  new_is_kept : size.w ≤ 2048 → is_inside size r ≡ true → share_tile size w.dirty (tiles_of size r) ≡ false → slot < length st.blocks → Agrees size st w client → IsKept slot (placed position r.w r.h)
  new_is_kept narrow whole apart there a =
      let at : ((position == position) && ((r.w == r.w) && (r.h == r.h))) ≡ true = and_from _ _ (equal_test position position refl) (and_from _ _ (equal_test r.w r.w refl) (equal_test r.h r.h refl)) in
      let pixels = cut_agrees client.depth size w.dirty client.picture st.picture r narrow whole apart a.shown in (
        session_block size st r,
        ap flattened (get-set_same st.blocks slot (Some (session_block size st r)) there),
        refl,
        refl,
        ap (λ s. chosen_block s new (block_at position r.w r.h (apart_from new client.blocks))) at
            ∙ ap (λ ps. let b : Option Block = Some (record { position = position; w = r.w; h = r.h; pixels = ps }) in b) pixels,
      )

  other_is_kept : has_pixel r ≡ true → has_room (positions_of r.w r.h) (without_slot slot w.held) position ≡ true → Agrees size st w client
      → (k : ℕ) (place : Place) → place_of k (without_slot slot w.held) ≡ Some place → IsKept k place
  other_is_kept some free a k place h =
      let b = blocks_of_others st w.held client slot (session_block size st r) later refl a.blocks k place h in
      let sides = and_parts (nat_le 1 r.w) (nat_le 1 r.h) some in
      let wide : 0 < r.w = let s = sides.0 in grind (arith, nat_tests, s) in
      let high : 0 < r.h = let s = sides.1 in grind (arith, nat_tests, s) in
      let apart : are_apart new (block_shown client.depth place b.0) ≡ true = free_apart (positions_of r.w r.h) (without_slot slot w.held) position k place (some_positions r.w r.h wide high) (a.filled k place (place-without slot k w.held place h).stays) free h in
      let elsewhere : ((position == place.position) && ((r.w == place.w) && (r.h == place.h))) ≡ false =
      false_where _ (λ e. not_same_place position (positions r.w r.h) place.position place.w place.h (some_positions r.w r.h wide high) apart ((r.w == place.w) && (r.h == place.h)) e
      (λ s. let p = and_parts (r.w == place.w) (r.h == place.h) s in ap (λ v. positions v r.h) (same_number r.w place.w p.0) ∙ ap (positions place.w) (same_number r.h place.h p.1))) in
      (b.0, b.1, b.2, b.3, ap (λ s. chosen_block s new (block_at place.position place.w place.h (apart_from new client.blocks))) elsewhere ∙ blocks_kept new (block_shown client.depth place b.0) client.blocks b.4 apart)

  -- by whether the slot is the save's own
  kept_by : (k : ℕ) (place : Place) (s : Bool) → (slot == k) ≡ s → IsKept slot (placed position r.w r.h) → (place_of k (without_slot slot w.held) ≡ Some place → IsKept k place)
      → place_of k ((slot, placed position r.w r.h) ∷ without_slot slot w.held) ≡ Some place → IsKept k place
  kept_by k place true e own other h =
      let same : placed position r.w r.h ≡ place = cc (rw e at h) in
      subst (λ p. IsKept k p) same (subst (λ n. IsKept n (placed position r.w r.h)) (same_number slot k e) own)
  kept_by k place false e own other h = other (rw e at h)

  filled_by : has_pixel r ≡ true → Agrees size st w client → (k : ℕ) (place : Place) (s : Bool) → (slot == k) ≡ s
      → place_of k ((slot, placed position r.w r.h) ∷ without_slot slot w.held) ≡ Some place → 0 < positions_of place.w place.h
  filled_by some a k place true e h =
      let sides = and_parts (nat_le 1 r.w) (nat_le 1 r.h) some in
      let wide : 0 < r.w = let s = sides.0 in grind (arith, nat_tests, s) in
      let high : 0 < r.h = let s = sides.1 in grind (arith, nat_tests, s) in
      let same : placed position r.w r.h ≡ place = cc (rw e at h) in
      subst (λ p. 0 < positions_of p.w p.h) same (some_positions r.w r.h wide high)
  filled_by some a k place false e h = a.filled k place (place-without slot k w.held place (rw e at h)).stays

  -- the order of a save to the least free position, of tiles that aren't dirty
  pub save_agrees : (c : Confirmed) → size.w ≤ 2048 → client.depth ≡ depth_of c → has_pixel r ≡ true → is_inside size r ≡ true → slot < length st.blocks
      → share_tile size w.dirty (tiles_of size r) ≡ false → least_free (positions_of r.w r.h) (without_slot slot w.held) ≡ Some position → Agrees size st w client
      → ObeyedAndAgrees c size later (with_block slot (placed position r.w r.h) (given_up slot w)) client (Drawn r (SaveBlock position r) None)
  save_agrees c narrow same some whole there apart least a =
      let free = least_free-room (positions_of r.w r.h) (without_slot slot w.held) position least in
      let fits = room_fits (positions_of r.w r.h) (without_slot slot w.held) position free in
      record {
        after = client_with_block new client;
        obeys = obeyed_as c size client r (SaveBlock position r) None (Ok (client_with_block new client)) same some tt
            (ap (λ s. needs s Broken (Ok (client_with_block new client))) (and_from _ _ whole fits));
        agrees = record {
          shown = ShowsOutside-unpainted client.depth size clip w.dirty client.picture st.picture a.shown;
          blocks = λ k place h. kept_by k place (slot == k) refl (new_is_kept narrow whole apart there a) (other_is_kept some free a k place) h;
          filled = λ k place h. filled_by some a k place (slot == k) refl h;
        };
      }
