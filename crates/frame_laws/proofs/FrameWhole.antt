-- The promise of one frame, from what is known of the journal's states and of the frame's orders.
use Rattle.std.proofs.Common.{◌≡◌, ℕ, ◌≤◌, ◌<◌, ◌^◌, List, length, refl, ap, sym, subst, arith}
use Rattle.std.specs.Prelude.{Bool, true, false, nat_lt}
use Rattle.std.proofs.lemmas.Bool.Decides.{nat_tests}
use Rattle.px_core.specs.declared.surface.Size.{Size}
use Rattle.px_core.specs.Picture.{pixel_count}
use Rattle.px_core.specs.Rectangle.{whole, has_pixel, is_session_size}
use Rattle.px_core.specs.Tiles.{Tiles}
use Rattle.draw_ops.specs.Slots.{SurfaceState}
use Rattle.draw_ops.specs.Drawing.{state_after_drawings}
use Rattle.caps_sets.specs.declared.confirmed.Confirmed.{Confirmed}
use Rattle.session_rules.specs.declared.entry.Entry.{Entry}
use Rattle.session_rules.specs.Journal.{state_after}
use Rattle.session_rules.specs.Steps.{TakeOf}
use Rattle.order_means.specs.FrameMarks.{View}
use Rattle.session_rules.specs.Pending.{Pending, pending_between}
use Rattle.frame_rules.specs.Frame.{Walk, framed_by, frame_over, is_first, first_dirty, most_orders}
use Rattle.frame_rules.specs.FrameOrders.{orders_before_tiles}
use Rattle.frame_rules.specs.FrameRead.{FitOrders, AreShort}
use Rattle.frame_rules.specs.Encoder.{Encoder, encoder_frame, encoder_after}
use Rattle.frame_rules.specs.Describes.{DescribesClient, ShowsFrame, HasAllCaches}
use Rattle.session_rules.proofs.Fitting.{sides_of}
use Rattle.frame_laws.specs.Agreement.{AreFilled}
use Rattle.frame_laws.specs.Sound.{AreColors}
use Rattle.frame_laws.specs.Uses.{ObeyedThrough}
use Rattle.frame_laws.proofs.WalkKeeps.{AllGood}
use Rattle.frame_laws.proofs.SentOrCut.{Found}
use Rattle.frame_laws.proofs.FrameObeys.{Before, Obeys, frame_obeys}
use Rattle.frame_laws.specs.Drawings.{drawings_between}
use Rattle.frame_laws.proofs.Entries.{pending_between_is, state_between_is}
use Rattle.frame_laws.proofs.TileRects.{are_tiles}
use Rattle.frame_laws.proofs.HeldApart.{frame_apart}
use Rattle.frame_laws.proofs.FrameShown.{NoMarks, frame_shown}

-- what is to be shown of the journal's states and of the frame's orders
pub record IsSoundTake (size : Size) (narrow : size.w ≤ 2048) (c : Confirmed) (j : List Entry) (e : Encoder) (t : TakeOf) : Type 0 where
  pub good : AllGood size c j narrow (Found size j) (state_after size j t.before).surface (drawings_between size j t.before t.number)
  pub whole_picture : length (state_after size j t.before).surface.picture ≡ pixel_count size
  pub filled : AreFilled e.held
  pub colors : AreColors (state_after size j t.number).surface.picture
  pub marks : NoMarks (orders_before_tiles size c e.uses (encoder_frame size c j e t))
  pub fit : FitOrders c (orders_before_tiles size c e.uses (encoder_frame size c j e t))
  pub short : AreShort c e.registers (orders_before_tiles size c e.uses (encoder_frame size c j e t))
  pub few : length (orders_before_tiles size c e.uses (encoder_frame size c j e t)) < 2 ^ 16

pub picture_is : (jump : Bool) (size : Size) (c : Confirmed) (first : Bool) (w : Walk) (asked : Tiles) (picture : List ℕ) (ps : List Pending)
    → (framed_by jump size c first w asked picture ps).picture ≡ picture
picture_is true size c first w asked picture ps = refl
picture_is false size c first w asked picture ps = refl

module _ (size : Size) (narrow : size.w ≤ 2048) (session : is_session_size size.w size.h ≡ true) (some : has_pixel (whole size) ≡ true) (c : Confirmed)
    (all : HasAllCaches c) (j : List Entry) where
  pub take_shows : (e : Encoder) (t : TakeOf) (view : View) (place : ℕ) → t.before ≤ t.number → DescribesClient size c j t.before e view.client
      → IsSoundTake size narrow c j e t → ShowsFrame size c j e t view place
  take_shows e t view place up old sound =
      let st = (state_after size j t.before).surface in
      let ds = drawings_between size j t.before t.number in
      let first = is_first t in
      let before : Before size c j st e.held e.uses first view.client = record {
        caches = old.caches;
        sized = old.sized;
        blocks = old.blocks;
        filled = sound.filled;
        pixels = old.pixels;
        whole_picture = sound.whole_picture;
        later = λ f. old.picture (grind (arith, nat_tests, f));
        black = λ f. let none : t.before ≡ 0 = grind (arith, nat_tests, f) in ap (λ n. (state_after size j n).surface.picture) none;
      } in
      let picture = (state_after size j t.number).surface.picture in
      let over_drawings = frame_obeys size c j st e.held e.uses view.client narrow
      (sides_of size.w size.h session) all some first before ds sound.good t.asked picture in
      let same = pending_between_is size j t.before t.number in
      let o : Obeys size c j st e.held e.uses view.client ds t.asked (encoder_frame size c j e t) =
      subst (λ (ps : List Pending). Obeys size c j st e.held e.uses view.client ds t.asked (frame_over size c first e.held t.asked picture ps))
      (sym same) over_drawings in
      let ends : state_after_drawings size st ds ≡ (state_after size j t.number).surface = sym (state_between_is size j t.before t.number up) in
      frame_shown size narrow c j e t view place old (record {
        walk = o.walk;
        obeyed = subst (λ (s : SurfaceState). ObeyedThrough size c j s o.walk (encoder_after size c j e t).uses view.client
            (orders_before_tiles size c e.uses (encoder_frame size c j e t))) ends o.obeyed;
        tiles = o.tiles;
        held = o.held_is;
        apart = frame_apart (nat_lt most_orders (length (pending_between size j t.before t.number))) size c first
            (record { dirty = first_dirty size first c; held = e.held }) t.asked picture
            (pending_between size j t.before t.number) old.apart;
        picture = picture_is (nat_lt most_orders (length (pending_between size j t.before t.number))) size c first
            (record { dirty = first_dirty size first c; held = e.held }) t.asked picture (pending_between size j t.before t.number);
        marks = sound.marks;
        fit = sound.fit;
        short = sound.short;
        few = sound.few;
        are_tiles = are_tiles size _ session;
        colors = sound.colors;
      })
