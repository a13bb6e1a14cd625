-- The agreement of session and client within a frame, from drawing to drawing.
use Rattle.std.specs.Prelude.{◌≡◌, ℕ, ◌<◌, Option, Some, Ok}
use Rattle.px_core.specs.declared.surface.Size.{Size}
use Rattle.px_core.specs.declared.rectangle.Rect.{Rect}
use Rattle.caps_sets.specs.declared.confirmed.Confirmed.{Confirmed}
use Rattle.draw_ops.specs.declared.shape.Drawing.{Drawing}
use Rattle.draw_ops.specs.declared.shape.Shape.{Shape}
use Rattle.draw_ops.specs.Slots.{SurfaceState}
use Rattle.order_means.specs.ClientState.{ClientState, client_after_order}
use Rattle.frame_rules.specs.Blocks.{Place, Held, place_of, positions_of}
use Rattle.frame_rules.specs.Frame.{Walk}
use Rattle.frame_rules.specs.FrameOrders.{SentOrder}
use Rattle.frame_rules.specs.FrameRead.{as_read}
use Rattle.frame_rules.specs.Shown.{ShowsOutside}
use Rattle.frame_rules.specs.Describes.{BlocksAgree}

-- each held block takes a position at least
abbrev pub AreFilled : Held → Type 0
AreFilled held = (slot : ℕ) (place : Place) → place_of slot held ≡ Some place → 0 < positions_of place.w place.h

-- outside the dirty tiles the client's picture is the session's as it is shown at the client's depth, each held block has the pixels of its slot, and none is
-- empty
pub record Agrees (size : Size) (st : SurfaceState) (w : Walk) (client : ClientState) : Type 0 where
  pub shown : ShowsOutside client.depth size w.dirty client.picture st.picture
  pub blocks : BlocksAgree st w.held client
  pub filled : AreFilled w.held

-- a shape in a clip
abbrev pub drawn : Shape → Option Rect → Drawing
drawn s clip = record { shape = s; clip = clip }

-- an order that the client obeys, after which it agrees with a state of the session
pub record ObeyedAndAgrees (c : Confirmed) (size : Size) (st : SurfaceState) (w : Walk) (client : ClientState) (o : SentOrder) : Type 0 where
  pub after : ClientState
  pub obeys : client_after_order c size client (as_read c o) ≡ Ok after
  pub agrees : Agrees size st w after
