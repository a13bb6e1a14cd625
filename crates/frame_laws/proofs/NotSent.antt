-- Drawings that aren't sent as orders keep the agreement.
use Rattle.std.proofs.lemmas.Bool.Decides.{nat_tests}
use Rattle.std.proofs.Common.{◌≡◌, ℕ, zero, suc, ◌+◌, ◌/◌, ◌%◌, ◌≤◌, List, [], ◌∷◌, refl, ap, sym, ◌∙◌, arith, Some}
use Rattle.std.specs.Prelude.{Bool, true, false, ◌==◌, slice_get, slice_set, ◌&&◌, Option, pos}
use Rattle.px_core.specs.declared.depth.Depth.{Depth}
use Rattle.px_core.specs.declared.surface.Size.{Size}
use Rattle.px_core.specs.declared.rectangle.Rect.{Rect}
use Rattle.px_core.specs.Depth.{seen}
use Rattle.px_core.specs.Picture.{item, where_chosen}
use Rattle.px_core.specs.Rectangle.{in_rect, in_clip}
use Rattle.px_core.specs.Tiles.{Tiles, either_tiles}
use Rattle.draw_ops.specs.declared.shape.Drawing.{Drawing}
use Rattle.draw_ops.specs.declared.shape.Shape.{Shape}
use Rattle.draw_ops.specs.Content.{ImageOf}
use Rattle.draw_ops.specs.Formulas.{Painting, no_painting, painted_area, picture_after}
use Rattle.draw_ops.specs.Slots.{SurfaceState, Slots, lookup, filled_slot, flattened}
use Rattle.draw_ops.specs.Drawing.{painting_of, slots_after, state_after_drawing}
use Rattle.order_means.specs.ClientState.{ClientState}
use Rattle.session_rules.specs.Pending.{pending_of, touched_rect}
use Rattle.frame_rules.specs.Blocks.{Place, Held, place_of, without_slot}
use Rattle.frame_rules.specs.Frame.{Walk, skipped}
use Rattle.frame_rules.specs.Shown.{tile_of_place, ShowsOutside}
use Rattle.frame_rules.specs.Describes.{BlocksAgree}
use Rattle.frame_rules.proofs.Paint.{painted_at, item-painted_from, length-painted_from}
use Rattle.frame_rules.proofs.TileLaws.{ShowsOutside-skipped, or_false}
use Rattle.frame_laws.specs.Agreement.{Agrees}

-- ---- what paints nothing

and_false : (a b : Bool) → (a && (b && false)) ≡ false
and_false true true = refl
and_false true false = refl
and_false false b = refl

pub ShowsOutside-unpainted : (depth : Depth) (size : Size) (clip : Option Rect) (dirty : Tiles) (canvas : List (Option ℕ)) (old : List ℕ)
    → ShowsOutside depth size dirty canvas old → ShowsOutside depth size dirty canvas (picture_after size (in_clip clip) no_painting old)
ShowsOutside-unpainted depth size clip dirty canvas old s = record {
  canvas_length = s.canvas_length;
  picture_length = length-painted_from size.w 0 (painted_area (in_clip clip) p) p.formula old ∙ s.picture_length;
  pixels = λ i below clean.
      let zero_plus : 0 + i ≡ i = omega arith in
      s.pixels i below clean ∙ ap (seen depth) (sym (item-painted_from size.w 0 (painted_area (in_clip clip) p) p.formula old i 0 (rw s.picture_length below)
      ∙ ap (λ j. painted_at size.w (painted_area (in_clip clip) p) p.formula j (item old i 0)) zero_plus
      ∙ ap (λ b. where_chosen b p.formula (pos (i % size.w)) (pos (i / size.w)) (item old i 0)) (and_false (in_clip clip (pos (i % size.w)) (pos (i / size.w))) (in_rect p.rect (pos (i % size.w)) (pos (i / size.w))))));
}
  where
    p : Painting ℕ
    p = no_painting

pub ShowsOutside-more : (depth : Depth) (size : Size) (dirty more : Tiles) (canvas : List (Option ℕ)) (picture : List ℕ) → ShowsOutside depth size dirty canvas picture
    → ShowsOutside depth size (either_tiles dirty more) canvas picture
ShowsOutside-more depth size dirty more canvas picture s = record {
  canvas_length = s.canvas_length;
  picture_length = s.picture_length;
  pixels = λ i below clean. s.pixels i below (or_false (dirty (tile_of_place size i)) (more (tile_of_place size i)) clean).0;
}

-- ---- skipped drawings

-- a shape that touches the rectangle that it paints and changes no block
pub record PaintsItsRect (size : Size) (st : SurfaceState) (s : Shape) : Type 0 where
  pub touched : touched_rect size st s ≡ (painting_of size st s).rect
  pub blocks : (slots_after size st s).blocks ≡ st.blocks

pub skipped_agrees : (size : Size) (st : SurfaceState) (w : Walk) (client : ClientState) (d : Drawing) → size.w ≤ 2048 → PaintsItsRect size st d.shape
    → Agrees size st w client → Agrees size (state_after_drawing size st d) (skipped size w (pending_of size st d)).walk client
skipped_agrees size st w client d narrow is a = record {
  shown = rw is.touched (ShowsOutside-skipped client.depth size (painting_of size st d.shape) d.clip w.dirty client.picture st.picture narrow a.shown);
  blocks = λ slot place h. rw is.blocks (a.blocks slot place h);
  filled = a.filled;
}

-- ---- a save that isn't sent gives up its slot's block

differ : (a b c : ℕ) → (a == b) ≡ true → (a == c) ≡ false → (b == c) ≡ false
differ a b c h k = grind (arith, nat_tests, h, k)

-- the place of another slot's block stays
pub record OtherPlace (slot k : ℕ) (held : Held) (place : Place) : Type 0 where
  pub stays : place_of k held ≡ Some place
  pub other : (k == slot) ≡ false

same_number : (a b : ℕ) → (a == b) ≡ true → a ≡ b
same_number a b h = grind (arith, nat_tests, h)

pub place-without : (slot k : ℕ) (held : Held) (place : Place) → place_of k (without_slot slot held) ≡ Some place → OtherPlace slot k held place
place-without slot k [] place h = absurd (cc h)
place-without slot k (b ∷ bs) place h = by (b.0 == slot) (b.0 == k) refl refl (λ g. place-without slot k bs place g)
  where
    by : (s t : Bool) → (b.0 == slot) ≡ s → (b.0 == k) ≡ t → (place_of k (without_slot slot bs) ≡ Some place → OtherPlace slot k bs place) → OtherPlace slot k (b ∷ bs) place
    by true true e f rest = let o = rest (rw e at h) in absurd (cc (sym (ap (λ n. n == slot) (same_number b.0 k f) ∙ o.other) ∙ e))
    by true false e f rest = let o = rest (rw e at h) in record { stays = rw f o.stays; other = o.other }
    by false true e f rest = record { stays = rw f (rw f at (rw e at h)); other = differ b.0 k slot f e }
    by false false e f rest = let o = rest (rw f at (rw e at h)) in record { stays = rw f o.stays; other = o.other }

get-set_other : {A : Type 0} (xs : List A) (i k : ℕ) (x : A) → (k == i) ≡ false → slice_get (slice_set xs i x) k ≡ slice_get xs k
get-set_other [] i k x h = refl
get-set_other (y ∷ ys) zero zero x h = absurd (cc h)
get-set_other (y ∷ ys) zero (suc k) x h = refl
get-set_other (y ∷ ys) (suc i) zero x h = refl
get-set_other (y ∷ ys) (suc i) (suc k) x h = get-set_other ys i k x (grind (arith, nat_tests, h))

lookup-filled_other : {A : Type 0} (slot k : ℕ) (x : A) (slots : Slots A) → (k == slot) ≡ false → lookup k (filled_slot slot x slots) ≡ lookup k slots
lookup-filled_other slot k x slots h = ap flattened (get-set_other slots slot k (Some x) h)

-- the blocks of the other slots agree after a slot is filled
pub blocks_of_others : (st : SurfaceState) (held : Held) (client : ClientState) (slot : ℕ) (block : ImageOf) (later : SurfaceState) → later.blocks ≡ filled_slot slot block st.blocks
    → BlocksAgree st held client → BlocksAgree later (without_slot slot held) client
blocks_of_others st held client slot block later is a k place h =
    let o = place-without slot k held place h in
    let b = a k place o.stays in
    (b.0, ap (lookup k) is ∙ lookup-filled_other slot k block st.blocks o.other ∙ b.1, b.2, b.3, b.4)
