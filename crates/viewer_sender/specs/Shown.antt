-- What a viewer makes of an encoded frame: the promise of one frame, of the bytes that a sender gave.
use Rattle.std.specs.Prelude.{◌≡◌, ℕ, ◌+◌, ◌≤◌, true, List, [], ◌∷◌, ◌++◌, map, length, Some, Ok}
use Rattle.px_core.specs.Depth.{seen}
use Rattle.px_core.specs.Rectangle.{is_session_size}
use Rattle.caps_sets.specs.Confirmed.{depth_of, takes_fast}
use Rattle.session_rules.specs.declared.entry.Entry.{Entry}
use Rattle.session_rules.specs.Journal.{Head, state_after, IsLegalJournal}
use Rattle.session_rules.specs.Steps.{TakeOf}
use Rattle.order_means.specs.Updates.{cutting}
use Rattle.order_means.specs.Updates.Stage.{Between}
use Rattle.order_means.specs.FrameMarks.{View, reading, read_on}
use Rattle.frame_rules.specs.Frame.{frame_of}
use Rattle.frame_rules.specs.Encoder.{Encoder, take_orders, encoder_after}
use Rattle.frame_rules.specs.Describes.{DescribesClient}
use Rattle.frame_rules.specs.OrdersOfBytes.{orders_read, orders_of_bytes, frame_order_read}
use Rattle.frame_rules.specs.PacketKinds.{HasPacketsOfKind}
use Rattle.frame_plan.specs.Takes.{TakeModel, taken_as}
use Rattle.viewer_sender.specs.Senders.{SenderModel, StandsFor}

-- the bytes of a take's frame, for a viewer whose client the encoder describes: they aren't refused and leave no rest; they are read as exactly the frame's
-- orders, tiles and mark; they are packets of the fast path alone where the viewer confirmed it, and of the other kind alone where not; there is one mark,
-- with the picture after the entries that the take found, cut to the viewer's depth; and the sender then stands for an encoder that describes the client
-- after them
pub record ShowsJournal (head : Head) (j : List Entry) (s new : SenderModel) (e : Encoder) (t : TakeOf) (view : View) (place : ℕ) (out : List ℕ) : Type 0 where
  pub after : View
  pub reads : read_on s.confirmed head.size (reading view (cutting place Between)) out ≡ Ok (reading after (cutting (place + length out) Between))
  pub orders : orders_of_bytes s.confirmed e.registers out ≡ Some
      (orders_read (map (frame_order_read s.confirmed) (take_orders head.size s.confirmed j e t)) (encoder_after head.size s.confirmed j e t).registers)
  pub kind : HasPacketsOfKind (takes_fast s.confirmed) out
  pub mark : after.pictures ≡ view.pictures ++ map (seen (depth_of s.confirmed)) (state_after head.size j t.number).surface.picture ∷ []
  pub describes : DescribesClient head.size s.confirmed j t.number (encoder_after head.size s.confirmed j e t) after.client
  pub stands : StandsFor new (encoder_after head.size s.confirmed j e t)

-- that holds over every legal journal of which the take is the frame, from every client that an encoder describes for which the sender stood
abbrev pub Shows : SenderModel → SenderModel → TakeModel → List ℕ → Type 0
Shows s new take out = (head : Head) (j : List Entry) (e : Encoder) (t : TakeOf) (view : View) (place : ℕ) → is_session_size head.size.w head.size.h ≡ true
    → IsLegalJournal head j → t.before ≤ t.number → t.number ≤ length j → take.size ≡ head.size
    → take.frame ≡ taken_as head.size (frame_of head.size s.confirmed j e.held t) → StandsFor s e
    → DescribesClient head.size s.confirmed j t.before e view.client
    → ShowsJournal head j s new e t view place out
