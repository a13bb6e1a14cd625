-- Whatever isn't sent as an order keeps the agreement: all thirteen shapes.
use Rattle.std.proofs.Common.{◌≡◌, ℕ, ◌≤◌, [], refl, Some, None}
use Rattle.std.specs.Prelude.{Bool, true, false, ◌&&◌, Option, ℤ}
use Rattle.px_core.specs.declared.surface.Size.{Size}
use Rattle.px_core.specs.declared.rectangle.Rect.{Rect}
use Rattle.draw_ops.specs.declared.shape.Shape.{Shape}
use Rattle.draw_ops.specs.declared.shape.Shape.TheVariants.{Fill, Dst, Pat, Copy, Blit, Blit3, Text, Line, Save, Restore, LoadImage, LoadBrush, LoadGlyph}
use Rattle.draw_ops.specs.Slots.{SurfaceState}
use Rattle.draw_ops.specs.Drawing.{state_after_drawing, block_of}
use Rattle.caps_sets.specs.declared.confirmed.Confirmed.{Confirmed}
use Rattle.order_means.specs.ClientState.{ClientState}
use Rattle.session_rules.specs.Pending.{pending_of}
use Rattle.frame_rules.specs.Support.{supports}
use Rattle.frame_rules.specs.Blocks.{Place, least_free, positions_of, without_slot}
use Rattle.frame_rules.specs.Frame.{Walk, skipped, sent_if, saved_if, given_up, restored_from, block_if, reads_clean_tiles, touched_tiles, walked}
use Rattle.frame_laws.specs.Agreement.{Agrees, drawn}
use Rattle.frame_laws.proofs.NotSent.{place-without, PaintsItsRect, skipped_agrees, ShowsOutside-unpainted, ShowsOutside-more, blocks_of_others}

module _ (size : Size) (narrow : size.w ≤ 2048) (st : SurfaceState) (clip : Option Rect) (client : ClientState) where
  -- by whether a drawing is sent
  sent_if_agrees : (s : Shape) (w : Walk) (b : Bool) → PaintsItsRect size st s → (sent_if b size w (pending_of size st (drawn s clip))).sent ≡ []
      → Agrees size st w client → Agrees size (state_after_drawing size st (drawn s clip)) (sent_if b size w (pending_of size st (drawn s clip))).walk client
  sent_if_agrees s w true is unsent a = absurd (cc unsent)
  sent_if_agrees s w false is unsent a = skipped_agrees size st w client (drawn s clip) narrow is a

  restored_agrees : (slot : ℕ) (x y : ℤ) (w : Walk) (o : Option Place) → (restored_from size w (pending_of size st (drawn (Restore slot x y) clip)) o).sent ≡ []
      → Agrees size st w client → Agrees size (state_after_drawing size st (drawn (Restore slot x y) clip)) (restored_from size w (pending_of size st (drawn (Restore slot x y) clip)) o).walk client
  restored_agrees slot x y w None unsent a = skipped_agrees size st w client (drawn (Restore slot x y) clip) narrow (record { touched = refl; blocks = refl }) a
  restored_agrees slot x y w (Some place) unsent a = absurd (cc unsent)

  pub save_skipped : (slot : ℕ) (r : Rect) (w : Walk) → Agrees size st w client
      → Agrees size (state_after_drawing size st (drawn (Save slot r) clip)) (skipped size (given_up slot w) (pending_of size st (drawn (Save slot r) clip))).walk client
  save_skipped slot r w a = record {
    shown = ShowsOutside-more client.depth size w.dirty (touched_tiles size (pending_of size st (drawn (Save slot r) clip))) client.picture _ (ShowsOutside-unpainted client.depth size clip w.dirty client.picture st.picture a.shown);
    blocks = blocks_of_others st w.held client slot (block_of size st r) (state_after_drawing size st (drawn (Save slot r) clip)) refl a.blocks;
    filled = λ k place h. a.filled k place (place-without slot k w.held place h).stays;
  }

  saved_agrees : (slot : ℕ) (r : Rect) (w : Walk) (b : Bool) (o : Option ℕ) → least_free (positions_of r.w r.h) (without_slot slot w.held) ≡ o
      → (saved_if b size (given_up slot w) (pending_of size st (drawn (Save slot r) clip)) slot r).sent ≡ []
      → Agrees size st w client → Agrees size (state_after_drawing size st (drawn (Save slot r) clip)) (saved_if b size (given_up slot w) (pending_of size st (drawn (Save slot r) clip)) slot r).walk client
  saved_agrees slot r w false o e unsent a = save_skipped slot r w a
  saved_agrees slot r w true None e unsent a = rw e (save_skipped slot r w a)
  saved_agrees slot r w true (Some position) e unsent a = absurd (cc (rw e at unsent))

  -- a drawing of which nothing is sent in its turn
  pub unsent_agrees : (c : Confirmed) (s : Shape) (w : Walk) → (walked size c w (pending_of size st (drawn s clip)) s).sent ≡ []
      → Agrees size st w client → Agrees size (state_after_drawing size st (drawn s clip)) (walked size c w (pending_of size st (drawn s clip)) s).walk client
  unsent_agrees c (Fill r color) w unsent a = let p = pending_of size st (drawn (Fill r color) clip) in
      sent_if_agrees (Fill r color) w (supports c p (Fill r color)) (record { touched = refl; blocks = refl }) unsent a
  unsent_agrees c (Dst r code) w unsent a = let p = pending_of size st (drawn (Dst r code) clip) in
      sent_if_agrees (Dst r code) w (supports c p (Dst r code)) (record { touched = refl; blocks = refl }) unsent a
  unsent_agrees c (Pat r code brush) w unsent a = let p = pending_of size st (drawn (Pat r code brush) clip) in
      sent_if_agrees (Pat r code brush) w (supports c p (Pat r code brush)) (record { touched = refl; blocks = refl }) unsent a
  unsent_agrees c (Copy r code sx sy) w unsent a = let p = pending_of size st (drawn (Copy r code sx sy) clip) in
      sent_if_agrees (Copy r code sx sy) w (supports c p (Copy r code sx sy) && reads_clean_tiles size w (Copy r code sx sy)) (record { touched = refl; blocks = refl }) unsent a
  unsent_agrees c (Blit r code image sx sy) w unsent a = let p = pending_of size st (drawn (Blit r code image sx sy) clip) in
      sent_if_agrees (Blit r code image sx sy) w (supports c p (Blit r code image sx sy)) (record { touched = refl; blocks = refl }) unsent a
  unsent_agrees c (Blit3 r code image sx sy brush) w unsent a = let p = pending_of size st (drawn (Blit3 r code image sx sy brush) clip) in
      sent_if_agrees (Blit3 r code image sx sy brush) w (supports c p (Blit3 r code image sx sy brush)) (record { touched = refl; blocks = refl }) unsent a
  unsent_agrees c (Text x y color font run) w unsent a = let p = pending_of size st (drawn (Text x y color font run) clip) in
      sent_if_agrees (Text x y color font run) w (supports c p (Text x y color font run)) (record { touched = refl; blocks = refl }) unsent a
  unsent_agrees c (Line x0 y0 x1 y1 color) w unsent a = skipped_agrees size st w client (drawn (Line x0 y0 x1 y1 color) clip) narrow (record { touched = refl; blocks = refl }) a
  unsent_agrees c (Save slot r) w unsent a = let p = pending_of size st (drawn (Save slot r) clip) in
      saved_agrees slot r w (supports c p (Save slot r) && reads_clean_tiles size w (Save slot r)) (least_free (positions_of r.w r.h) (without_slot slot w.held)) refl unsent a
  unsent_agrees c (Restore slot x y) w unsent a = let p = pending_of size st (drawn (Restore slot x y) clip) in
      restored_agrees slot x y w (block_if (supports c p (Restore slot x y)) slot w) unsent a
  unsent_agrees c (LoadImage slot image) w unsent a = record { shown = ShowsOutside-unpainted client.depth size clip w.dirty client.picture st.picture a.shown; blocks = a.blocks; filled = a.filled }
  unsent_agrees c (LoadBrush slot brush) w unsent a = record { shown = ShowsOutside-unpainted client.depth size clip w.dirty client.picture st.picture a.shown; blocks = a.blocks; filled = a.filled }
  unsent_agrees c (LoadGlyph font code glyph) w unsent a = record { shown = ShowsOutside-unpainted client.depth size clip w.dirty client.picture st.picture a.shown; blocks = a.blocks; filled = a.filled }
