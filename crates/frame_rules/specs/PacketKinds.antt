-- A frame goes in packets of one kind: all of the fast path where the viewer confirmed it, and else none.
use Rattle.std.specs.Prelude.{◌≡◌, ℕ, ◌≤◌, Bool, true, false, List, [], ◌∷◌, length, ⊤}
use Rattle.px_core.specs.Rectangle.{is_session_size}
use Rattle.caps_sets.specs.declared.confirmed.Confirmed.{Confirmed}
use Rattle.caps_sets.specs.Confirmed.{takes_fast}
use Rattle.order_fields.specs.OrderTable.{AreRegisters}
use Rattle.order_means.specs.Updates.{BodyForm, Body, Updates, updates_in}
use Rattle.order_means.specs.Updates.BodyForm.{Slow, FastOrders, FastBitmap, FastSynchronize}
use Rattle.order_means.specs.Updates.Stage.{Between}
use Rattle.session_rules.specs.declared.entry.Entry.{Entry}
use Rattle.session_rules.specs.Journal.{Head, IsLegalJournal}
use Rattle.session_rules.specs.Steps.{TakeOf}
use Rattle.frame_rules.specs.Blocks.{AreApart}
use Rattle.frame_rules.specs.Encoder.{Encoder, take_bytes}
use Rattle.frame_rules.specs.Describes.{HasAllCaches}

-- whether a body came in a packet of the fast path
abbrev pub came_fast : BodyForm → Bool
came_fast Slow = false
came_fast FastOrders = true
came_fast FastBitmap = true
came_fast FastSynchronize = true

-- each body came in a packet of the fast path, or each in another one
abbrev pub CameAlike : Bool → List Body → Type 0
CameAlike fast [] = ⊤
CameAlike fast (body ∷ bodies) = (came_fast body.form ≡ fast) × CameAlike fast bodies

-- updates of whole packets, which are all of one kind
pub record AreOfKind (fast : Bool) (u : Updates) : Type 0 where
  pub whole : u.next.stage ≡ Between
  pub alike : CameAlike fast u.bodies

-- bytes that, where packets of both kinds may stand, are whole packets of one kind
abbrev pub HasPacketsOfKind : Bool → List ℕ → Type 0
HasPacketsOfKind fast bytes = AreOfKind fast (updates_in true bytes)

-- ---- the promise

-- the frames of a viewer that confirmed the fast path have its packets alone, and those of every other viewer have none: for every session size, every
-- legal journal, every take, and every encoder with registers whose held blocks have positions of their own
abbrev pub FramesGoAsConfirmed : Head → Confirmed → Type 0
FramesGoAsConfirmed head c = (j : List Entry) (e : Encoder) (t : TakeOf) → is_session_size head.size.w head.size.h ≡ true → HasAllCaches c
    → IsLegalJournal head j → t.before ≤ t.number → t.number ≤ length j → AreRegisters e.registers → AreApart e.held
    → HasPacketsOfKind (takes_fast c) (take_bytes head.size c j e t)
