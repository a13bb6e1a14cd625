-- The walk over pending drawings: what is sent of them is obeyed, and session and client agree after it. A shape is one premise.
use Rattle.std.proofs.Common.{◌≡◌, ℕ, ◌≤◌, List, [], ◌∷◌, ◌++◌, refl, sym, subst, Some, None, ◌⊎◌, inl, inr}
use Rattle.std.specs.Prelude.{Bool, true, false, ◌&&◌, Option, ⊤}
use Rattle.px_core.specs.declared.surface.Size.{Size}
use Rattle.px_core.specs.declared.rectangle.Rect.{Rect}
use Rattle.draw_ops.specs.declared.shape.Drawing.{Drawing}
use Rattle.draw_ops.specs.declared.shape.Shape.{Shape}
use Rattle.draw_ops.specs.declared.shape.Shape.TheVariants.{Fill, Dst, Pat, Copy, Blit, Blit3, Text, Line, Save, Restore, LoadImage, LoadBrush, LoadGlyph}
use Rattle.draw_ops.specs.Slots.{SurfaceState}
use Rattle.draw_ops.specs.Drawing.{state_after_drawing, state_after_drawings}
use Rattle.caps_sets.specs.declared.confirmed.Confirmed.{Confirmed}
use Rattle.session_rules.specs.declared.entry.Entry.{Entry}
use Rattle.order_means.specs.ClientState.{ClientState}
use Rattle.frame_rules.specs.Blocks.{Place, least_free, positions_of}
use Rattle.session_rules.specs.Pending.{Pending, pending_of, pending_drawings}
use Rattle.frame_rules.specs.Cautious.{as_walked}
use Rattle.frame_rules.specs.Support.{supports}
use Rattle.frame_rules.specs.Frame.{Walk, Sent, sent_if, saved_at, saved_if, given_up, restored_from, block_if, reads_clean_tiles, walked, walked_as, walked_pending}
use Rattle.frame_rules.specs.Frame.{sent_from, walk_after}
use Rattle.frame_rules.specs.FrameOrders.{Uses, sending_of, orders_from, uses_after}
use Rattle.frame_rules.specs.Describes.{CachesAgree, IsSized}
use Rattle.frame_laws.specs.Agreement.{Agrees}
use Rattle.frame_laws.specs.Uses.{ObeyedThrough}
use Rattle.frame_laws.proofs.BlitSent.{orders_then}

-- a drawing sends nothing, or is sent once
abbrev pub NoneOrOne : List Sent → Type 0
NoneOrOne sent = (sent ≡ []) ⊎ ((s : Sent) × (sent ≡ s ∷ []))

by_test : (b : Bool) (size : Size) (w : Walk) (p : Pending) → NoneOrOne (sent_if b size w p).sent
by_test true size w p = inr (_, refl)
by_test false size w p = inl refl

by_place : (o : Option Place) (size : Size) (w : Walk) (p : Pending) → NoneOrOne (restored_from size w p o).sent
by_place None size w p = inl refl
by_place (Some place) size w p = inr (_, refl)

by_position : (o : Option ℕ) (size : Size) (w : Walk) (p : Pending) (slot : ℕ) (r : Rect) → NoneOrOne (saved_at size w p slot r o).sent
by_position None size w p slot r = inl refl
by_position (Some position) size w p slot r = inr (_, refl)

by_save : (b : Bool) (size : Size) (w : Walk) (p : Pending) (slot : ℕ) (r : Rect) → NoneOrOne (saved_if b size w p slot r).sent
by_save true size w p slot r = by_position (least_free (positions_of r.w r.h) w.held) size w p slot r
by_save false size w p slot r = inl refl

none_or_one : (size : Size) (c : Confirmed) (w : Walk) (p : Pending) (s : Shape) → NoneOrOne (walked size c w p s).sent
none_or_one size c w p (Fill r color) = by_test (supports c p (Fill r color)) size w p
none_or_one size c w p (Dst r code) = by_test (supports c p (Dst r code)) size w p
none_or_one size c w p (Pat r code brush) = by_test (supports c p (Pat r code brush)) size w p
none_or_one size c w p (Copy r code sx sy) = by_test (supports c p (Copy r code sx sy) && reads_clean_tiles size w (Copy r code sx sy)) size w p
none_or_one size c w p (Blit r code image sx sy) = by_test (supports c p (Blit r code image sx sy)) size w p
none_or_one size c w p (Blit3 r code image sx sy brush) = by_test (supports c p (Blit3 r code image sx sy brush)) size w p
none_or_one size c w p (Text x y color font run) = by_test (supports c p (Text x y color font run)) size w p
none_or_one size c w p (Line x0 y0 x1 y1 color) = inl refl
none_or_one size c w p (Save slot r) = by_save (supports c p (Save slot r) && reads_clean_tiles size w (Save slot r)) size (given_up slot w) p slot r
none_or_one size c w p (Restore slot x y) = by_place (block_if (supports c p (Restore slot x y)) slot w) size w p
none_or_one size c w p (LoadImage slot image) = inl refl
none_or_one size c w p (LoadBrush slot brush) = inl refl
none_or_one size c w p (LoadGlyph font code glyph) = inl refl

-- so does what a viewer's drawing is walked as
none_or_one_as : (size : Size) (c : Confirmed) (w : Walk) (o : Option Pending) → NoneOrOne (walked_as size c w o).sent
none_or_one_as size c w None = inl refl
none_or_one_as size c w (Some q) = none_or_one size c w q q.drawing.shape

pub none_or_one_pending : (size : Size) (c : Confirmed) (w : Walk) (p : Pending) → NoneOrOne (walked_pending size c w p).sent
none_or_one_pending size c w p = none_or_one_as size c w (as_walked size c p)

module _ (size : Size) (c : Confirmed) (j : List Entry) (narrow : size.w ≤ 2048) (Good : SurfaceState → Drawing → Type 0) where
  -- the orders of a drawing that is sent are obeyed
  abbrev pub SentKeeps : Type 0
  SentKeeps = (st : SurfaceState) (w : Walk) (uses : Uses) (client : ClientState) (d : Drawing) (s : Sent) → Good st d
      → (walked_pending size c w (pending_of size st d)).sent ≡ s ∷ []
      → Agrees size st w client → CachesAgree size c j uses client → IsSized c client
      → ObeyedThrough size c j (state_after_drawing size st d) (walked_pending size c w (pending_of size st d)).walk (sending_of c uses s).uses client
      (sending_of c uses s).orders

  -- a drawing of which nothing is sent leaves session and client agreeing
  abbrev pub UnsentKeeps : Type 0
  UnsentKeeps = (st : SurfaceState) (w : Walk) (client : ClientState) (d : Drawing) → Good st d → (walked_pending size c w (pending_of size st d)).sent ≡ []
      → Agrees size st w client → Agrees size (state_after_drawing size st d) (walked_pending size c w (pending_of size st d)).walk client

  abbrev pub AllGood : SurfaceState → List Drawing → Type 0
  AllGood st [] = ⊤
  AllGood st (d ∷ ds) = Good st d × AllGood (state_after_drawing size st d) ds

  pub walk_keeps : SentKeeps → UnsentKeeps → (ds : List Drawing) (st : SurfaceState) (w : Walk) (uses : Uses) (client : ClientState) → AllGood st ds
      → Agrees size st w client
      → CachesAgree size c j uses client → IsSized c client
      → ObeyedThrough size c j (state_after_drawings size st ds) (walk_after size c w (pending_drawings size st ds))
      (uses_after c uses (sent_from size c w (pending_drawings size st ds))) client
      (orders_from c uses (sent_from size c w (pending_drawings size st ds)))
  walk_keeps keeps unsent [] st w uses client good a k z = record { after = client; obeys = refl; agrees = a; caches = k; sized = z }
  walk_keeps keeps unsent (d ∷ ds) st w uses client good a k z = by (none_or_one_pending size c w p)
      (λ next u d' good' a' k' z'. walk_keeps keeps unsent ds (state_after_drawing size st d) next u d' good' a' k' z')
    where
      p : Pending
      p = pending_of size st d

      by : NoneOrOne (walked_pending size c w (pending_of size st d)).sent
          → ((next : Walk) (u : Uses) (d' : ClientState) → AllGood (state_after_drawing size st d) ds → Agrees size (state_after_drawing size st d) next d'
          → CachesAgree size c j u d' → IsSized c d'
          → ObeyedThrough size c j (state_after_drawings size (state_after_drawing size st d) ds)
          (walk_after size c next (pending_drawings size (state_after_drawing size st d) ds))
          (uses_after c u (sent_from size c next (pending_drawings size (state_after_drawing size st d) ds))) d'
          (orders_from c u (sent_from size c next (pending_drawings size (state_after_drawing size st d) ds))))
          → ObeyedThrough size c j (state_after_drawings size (state_after_drawing size st d) ds)
          (walk_after size c (walked_pending size c w (pending_of size st d)).walk (pending_drawings size (state_after_drawing size st d) ds))
          (uses_after c uses ((walked_pending size c w (pending_of size st d)).sent
          ++ sent_from size c (walked_pending size c w (pending_of size st d)).walk (pending_drawings size (state_after_drawing size st d) ds))) client
          (orders_from c uses ((walked_pending size c w (pending_of size st d)).sent
          ++ sent_from size c (walked_pending size c w (pending_of size st d)).walk (pending_drawings size (state_after_drawing size st d) ds)))
      by (inl none) rest =
          let next = (walked_pending size c w (pending_of size st d)).walk in
          let later = state_after_drawing size st d in
          let more = sent_from size c next (pending_drawings size later ds) in
          let r = rest next uses client good.1 (unsent st w client d good.0 none a) k z in
          subst (λ (ss : List Sent). ObeyedThrough size c j (state_after_drawings size later ds) (walk_after size c next (pending_drawings size later ds))
          (uses_after c uses (ss ++ more)) client (orders_from c uses (ss ++ more))) (sym none) r
      by (inr one) rest =
          let s = one.0 in
          let next = (walked_pending size c w (pending_of size st d)).walk in
          let later = state_after_drawing size st d in
          let more = sent_from size c next (pending_drawings size later ds) in
          let o = keeps st w uses client d s good.0 one.1 a k z in
          let u = (sending_of c uses s).uses in
          let r = rest next u o.after good.1 o.agrees o.caches o.sized in
          subst (λ (ss : List Sent). ObeyedThrough size c j (state_after_drawings size later ds) (walk_after size c next (pending_drawings size later ds))
          (uses_after c uses (ss ++ more)) client (orders_from c uses (ss ++ more))) (sym one.1)
          (record {
            after = r.after;
            obeys = orders_then c size client o.after r.after (sending_of c uses s).orders
                (orders_from c u more) o.obeys r.obeys;
            agrees = r.agrees;
            caches = r.caches;
            sized = r.sized;
          })
