-- What the encoder keeps of its viewer from frame to frame, and the bytes of the viewer's takes.
use Rattle.std.specs.Prelude.{ℕ, List, [], ◌∷◌, ◌++◌}
use Rattle.px_core.specs.declared.surface.Size.{Size}
use Rattle.caps_sets.specs.declared.confirmed.Confirmed.{Confirmed}
use Rattle.order_fields.specs.OrderTable.{Registers, first_registers}
use Rattle.session_rules.specs.declared.entry.Entry.{Entry}
use Rattle.session_rules.specs.Steps.{TakeOf}
use Rattle.frame_rules.specs.Blocks.{Held}
use Rattle.frame_rules.specs.Frame.{FrameOf, frame_of}
use Rattle.frame_rules.specs.FrameOrders.{Uses, FrameOrder, uses_after, orders_before_tiles, frame_orders}
use Rattle.frame_rules.specs.FrameBytes.{registers_after_orders, frame_bytes}
use Rattle.frame_rules.specs.Told.{told_after, key_at, pointer_bytes}

-- the blocks that the viewer holds, the uses of its caches so far, the registers that its next order is written against, and the keys of the pointers that it
-- was told, the latest first
pub record Encoder : Type 0 where
  pub held : Held
  pub uses : Uses
  pub registers : Registers
  pub told : List ℕ

-- before the first frame: no blocks, empty caches, the first registers, and no pointer was told
abbrev pub first_encoder : Encoder
first_encoder = record { held = []; uses = []; registers = first_registers; told = [] }

-- the frame of a take
abbrev pub encoder_frame : Size → Confirmed → List Entry → Encoder → TakeOf → FrameOf
encoder_frame size c j e t = frame_of size c j e.held t

-- the bytes of a take's frame
abbrev pub take_bytes : Size → Confirmed → List Entry → Encoder → TakeOf → List ℕ
take_bytes size c j e t = frame_bytes size c e.registers e.uses (encoder_frame size c j e t)

-- the orders of a take's frame
abbrev pub take_orders : Size → Confirmed → List Entry → Encoder → TakeOf → List FrameOrder
take_orders size c j e t = frame_orders size c e.uses (encoder_frame size c j e t)

-- the encoder after a frame, before which a pointer may have been told
abbrev pub encoder_after_frame : Size → Confirmed → Encoder → FrameOf → Encoder
encoder_after_frame size c e f = record {
  held = f.held;
  uses = uses_after c e.uses f.sent;
  registers = registers_after_orders c e.registers (orders_before_tiles size c e.uses f);
  told = e.told;
}

-- the encoder after a pointer of this key was told, unless it was told last
abbrev pub with_told : ℕ → Encoder → Encoder
with_told key e = record e { told = told_after e.told key }

-- the encoder after a take's frame, and the pointer before it
abbrev pub encoder_after : Size → Confirmed → List Entry → Encoder → TakeOf → Encoder
encoder_after size c j e t = with_told (key_at size j t.number) (encoder_after_frame size c e (encoder_frame size c j e t))

-- what is sent for a take: the pointer after the take's entries, where the viewer has a pointer cache and wasn't told it last, and then its frame
abbrev pub pointed_bytes : Size → Confirmed → List Entry → Encoder → TakeOf → List ℕ
pointed_bytes size c j e t = pointer_bytes c e.told (key_at size j t.number) ++ take_bytes size c j e t

-- the bytes of each of a viewer's takes, in order
abbrev pub bytes_of_takes : Size → Confirmed → List Entry → Encoder → List TakeOf → List (List ℕ)
bytes_of_takes size c j e [] = []
bytes_of_takes size c j e (t ∷ ts) = take_bytes size c j e t ∷ bytes_of_takes size c j (encoder_after size c j e t) ts

-- what is sent for each of them, with pointers
abbrev pub pointed_of_takes : Size → Confirmed → List Entry → Encoder → List TakeOf → List (List ℕ)
pointed_of_takes size c j e [] = []
pointed_of_takes size c j e (t ∷ ts) = pointed_bytes size c j e t ∷ pointed_of_takes size c j (encoder_after size c j e t) ts

abbrev pub encoder_after_takes : Size → Confirmed → List Entry → Encoder → List TakeOf → Encoder
encoder_after_takes size c j e [] = e
encoder_after_takes size c j e (t ∷ ts) = encoder_after_takes size c j (encoder_after size c j e t) ts
