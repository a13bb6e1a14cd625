-- What a writer has written between two moments, for each history of uses that its caches stand for.
use Rattle.std.specs.Prelude.{◌≡◌, ℕ}
use Rattle.draw_ops.specs.Slots.{Loaded}
use Rattle.px_core.specs.declared.depth.Depth.{Depth}
use Rattle.order_fields.specs.OrderTable.{FieldList}
use Rattle.order_fields.specs.NamedDrawing.{NamedDrawing, drawing_fields}
use Rattle.px_core.specs.declared.rectangle.Rect.{Rect}
use Rattle.frame_rules.specs.FrameOrders.{Use, Uses, Sending, sending}
use Rattle.frame_rules.specs.FrameBytes.{bytes_of_orders, registers_after_orders}
use Rattle.viewer_sender.specs.declared.writer.FrameWriter.{FrameWriter}
use Rattle.viewer_sender.specs.Gathering.{after_orders}
use Rattle.viewer_sender.specs.Stands.{CachesStand}

-- what was sent has joined the updates, and moved registers and caches
pub record Wrote (old new : FrameWriter) (s : Sending) : Type 0 where
  pub gathered : new.updates ≡ after_orders old.updates (bytes_of_orders old.confirmed old.registers s.orders)
  pub registers : new.registers ≡ registers_after_orders old.confirmed old.registers s.orders
  pub caches : CachesStand old.confirmed new.caches s.uses

-- a writer has written what such a sending is after the uses so far
abbrev pub Writes : FrameWriter → FrameWriter → (Uses → Sending) → Type 0
Writes old new sends = (new.confirmed ≡ old.confirmed) × ((uses : Uses) → CachesStand old.confirmed old.caches uses → Wrote old new (sends uses))

-- the orders of a use, and the uses after it
abbrev pub used : Use → Sending
used u = sending u.orders u.uses

abbrev pub loaded : {A : Type 0} → ℕ → A → Loaded A
loaded number content = record { number = number; content = content }

-- fields that are those of a drawing at some depth
pub record IsDrawing (o : FieldList) : Type 0 where
  pub depth : Depth
  pub area : Rect
  pub drawing : NamedDrawing
  pub fields : o ≡ drawing_fields depth area drawing
