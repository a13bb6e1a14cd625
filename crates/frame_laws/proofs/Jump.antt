-- A jump over pending drawings keeps the agreement: none of them is sent, and the tiles that any of them touches are dirty.
use Rattle.std.proofs.Common.{◌≤◌, List, [], ◌∷◌, refl}
use Rattle.std.specs.Prelude.{Option}
use Rattle.px_core.specs.declared.surface.Size.{Size}
use Rattle.px_core.specs.declared.rectangle.Rect.{Rect}
use Rattle.draw_ops.specs.declared.shape.Drawing.{Drawing}
use Rattle.draw_ops.specs.declared.shape.Shape.{Shape}
use Rattle.draw_ops.specs.declared.shape.Shape.TheVariants.{Fill, Dst, Pat, Copy, Blit, Blit3, Text, Line, Save, Restore, LoadImage, LoadBrush, LoadGlyph}
use Rattle.draw_ops.specs.Slots.{SurfaceState}
use Rattle.draw_ops.specs.Drawing.{state_after_drawing, state_after_drawings}
use Rattle.order_means.specs.ClientState.{ClientState}
use Rattle.session_rules.specs.Pending.{pending_of, pending_drawings}
use Rattle.frame_rules.specs.Frame.{Walk, jumped_one, jumped, touched_tiles}
use Rattle.px_core.specs.Tiles.{either_tiles}
use Rattle.px_core.specs.Rectangle.{in_clip}
use Rattle.draw_ops.specs.Formulas.{picture_after, no_painting}
use Rattle.frame_rules.specs.Shown.{ShowsOutside}
use Rattle.frame_laws.specs.Agreement.{Agrees, drawn}
use Rattle.frame_laws.proofs.NotSent.{skipped_agrees, ShowsOutside-unpainted, ShowsOutside-more}
use Rattle.frame_laws.proofs.Unsent.{save_skipped}

module _ (size : Size) (narrow : size.w ≤ 2048) (client : ClientState) where
  unpainted_more : (st : SurfaceState) (w : Walk) (s : Shape) (clip : Option Rect) → Agrees size st w client
      → ShowsOutside client.depth size (either_tiles w.dirty (touched_tiles size (pending_of size st (drawn s clip)))) client.picture (picture_after size (in_clip clip) no_painting st.picture)
  unpainted_more st w s clip a = ShowsOutside-more client.depth size w.dirty (touched_tiles size (pending_of size st (drawn s clip))) client.picture _ (ShowsOutside-unpainted client.depth size clip w.dirty client.picture st.picture a.shown)

  one_jumped : (st : SurfaceState) (w : Walk) (s : Shape) (clip : Option Rect) → Agrees size st w client
      → Agrees size (state_after_drawing size st (drawn s clip)) (jumped_one size w (pending_of size st (drawn s clip))) client
  one_jumped st w (Fill r color) clip a = skipped_agrees size st w client (drawn (Fill r color) clip) narrow (record { touched = refl; blocks = refl }) a
  one_jumped st w (Dst r code) clip a = skipped_agrees size st w client (drawn (Dst r code) clip) narrow (record { touched = refl; blocks = refl }) a
  one_jumped st w (Pat r code brush) clip a = skipped_agrees size st w client (drawn (Pat r code brush) clip) narrow (record { touched = refl; blocks = refl }) a
  one_jumped st w (Copy r code sx sy) clip a = skipped_agrees size st w client (drawn (Copy r code sx sy) clip) narrow (record { touched = refl; blocks = refl }) a
  one_jumped st w (Blit r code image sx sy) clip a = skipped_agrees size st w client (drawn (Blit r code image sx sy) clip) narrow (record { touched = refl; blocks = refl }) a
  one_jumped st w (Blit3 r code image sx sy brush) clip a = skipped_agrees size st w client (drawn (Blit3 r code image sx sy brush) clip) narrow (record { touched = refl; blocks = refl }) a
  one_jumped st w (Text x y color font run) clip a = skipped_agrees size st w client (drawn (Text x y color font run) clip) narrow (record { touched = refl; blocks = refl }) a
  one_jumped st w (Line x0 y0 x1 y1 color) clip a = skipped_agrees size st w client (drawn (Line x0 y0 x1 y1 color) clip) narrow (record { touched = refl; blocks = refl }) a
  one_jumped st w (Save slot r) clip a = save_skipped size narrow st clip client slot r w a
  one_jumped st w (Restore slot x y) clip a = skipped_agrees size st w client (drawn (Restore slot x y) clip) narrow (record { touched = refl; blocks = refl }) a
  one_jumped st w (LoadImage slot image) clip a = record { shown = unpainted_more st w (LoadImage slot image) clip a; blocks = a.blocks; filled = a.filled }
  one_jumped st w (LoadBrush slot brush) clip a = record { shown = unpainted_more st w (LoadBrush slot brush) clip a; blocks = a.blocks; filled = a.filled }
  one_jumped st w (LoadGlyph font code glyph) clip a = record { shown = unpainted_more st w (LoadGlyph font code glyph) clip a; blocks = a.blocks; filled = a.filled }

  pub jumped_agrees : (ds : List Drawing) (st : SurfaceState) (w : Walk) → Agrees size st w client
      → Agrees size (state_after_drawings size st ds) (jumped size w (pending_drawings size st ds)) client
  jumped_agrees [] st w a = a
  jumped_agrees (d ∷ ds) st w a = jumped_agrees ds (state_after_drawing size st d) (jumped_one size w (pending_of size st d)) (one_jumped st w d.shape d.clip a)
