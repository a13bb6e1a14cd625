-- What a viewer shows of the messages that it gets.
use Rattle.std.specs.Prelude.{ℕ, Bool, true, false, List, Option, Some, None, Result, Ok, Err}
use Rattle.wire_num.specs.Field.{Read, place_in}
use Rattle.wire_num.specs.Caused.{Caused, caused, then_caused, before_caused}
use Rattle.draw_ops.specs.Slots.{Slots, lookup, filled_slot, empty_slots}
use Rattle.frame_rules.specs.Pointers.{Shape}
use Rattle.pointer_share.specs.declared.fault.Cause.{Cause}
use Rattle.pointer_share.specs.declared.fault.Cause.TheVariants.{Broken}
use Rattle.pointer_share.specs.Messages.{Message, message_at}
use Rattle.pointer_share.specs.Messages.Message.{Brings, Points}
use Rattle.order_means.specs.PointerPackets.{pointer_content, compression_at}

-- the shapes in the cells of a viewer, and the one that it shows
pub record View : Type 0 where
  pub cells : Slots Shape
  pub shown : Option Shape

abbrev pub opening_view : ℕ → View
opening_view cells = record { cells = empty_slots cells; shown = None }

abbrev pub view_after_message : View → Message → View
view_after_message v (Brings index s) = record { cells = filled_slot index s v.cells; shown = Some s }
view_after_message v (Points index) = record v { shown = lookup index v.cells }

-- what reading a message gives, or why it is refused and at which place in it
abbrev pub view_by : View → List ℕ → Caused Cause Message → Result View (Cause × ℕ)
view_by v message (Ok read) = Ok (view_after_message v read.0)
view_by v message (Err e) = Err (e.0, place_in message e.1)

abbrev pub view_after : Bool → View → List ℕ → Result View (Cause × ℕ)
view_after wide v message = view_by v message (message_at wide v.cells message)

-- ---- packets

-- what stands behind the kind of a pointer packet
abbrev pub message_in : {A : Type 0} → Bool → Slots A → List ℕ → Caused Cause Message
message_in wide cells bs = then_caused (caused Broken (compression_at bs)) (λ compression a. message_at wide cells a)

abbrev pub pointed : Result View (Cause × ℕ) → Result (View × Bool) (Cause × ℕ)
pointed (Ok v) = Ok (v, true)
pointed (Err e) = Err e

-- by what stands behind the kind, and behind the total
abbrev pub view_in : Bool → View → List ℕ → Read (List ℕ) → Result (View × Bool) (Cause × ℕ)
view_in wide v packet (Ok content) = pointed (view_by v packet (before_caused content.1 (message_in wide v.cells content.0)))
view_in wide v packet (Err left) = Ok (v, false)

-- The view after a packet, and whether it is a pointer packet; any other leaves it as it is. Or why the packet is refused, and at which place in it.
abbrev pub view_fed : Bool → View → List ℕ → Result (View × Bool) (Cause × ℕ)
view_fed wide v packet = view_in wide v packet (pointer_content packet)
