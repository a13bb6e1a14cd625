-- The refusals of drawings and events, as their calls give them.
use Rattle.std.specs.Prelude.{◌≡◌, ◌⊎◌, ℕ, Bool, true, false, Option, Some, None, Result, Ok, Err}
use Rattle.draw_ops.specs.Fits.{Misfit}
use Rattle.draw_ops.specs.Fits.Misfit.{Empty, TooSmall}
use Rattle.session_rules.specs.Journal.{Refusal}
use Rattle.session_rules.specs.Journal.Refusal.{NotHolder, BadDrawing, EmptySlot, SlotSize, JournalFull}
use Rattle.session_core.specs.declared.faults.InputRefusal.{InputRefusal}
use Rattle.session_core.specs.declared.faults.InputRefusal.TheVariants as input
use Rattle.session_core.specs.declared.faults.DrawRefusal.{DrawRefusal}
use Rattle.session_core.specs.declared.faults.DrawRefusal.TheVariants as draw

abbrev pub draw_refusal : DrawRefusal → Option Refusal
draw_refusal (draw.NotHolder holder) = Some (NotHolder holder)
draw_refusal (draw.BadDrawing rule) = Some (BadDrawing rule)
draw_refusal (draw.EmptySlot slot) = Some (EmptySlot slot)
draw_refusal (draw.SlotSize slot) = Some (SlotSize slot)
draw_refusal draw.JournalFull = Some JournalFull
draw_refusal draw.OutOfMemory = None

-- a drawing is refused just so, and not for want of memory
abbrev pub IsRefused : Result (Unit {0}) DrawRefusal → Option Refusal → Type 0
IsRefused (Ok done) refusal = refusal ≡ None
IsRefused (Err why) refusal = (refusal ≡ draw_refusal why) × ((draw_refusal why ≡ None) → ⊥)

-- what a drawing's slots lack, just so
abbrev pub SaysFit : Result (Unit {0}) DrawRefusal → Option Misfit → Type 0
SaysFit (Ok done) misfit = misfit ≡ None
SaysFit (Err (draw.EmptySlot slot)) misfit = misfit ≡ Some (Empty slot)
SaysFit (Err (draw.SlotSize slot)) misfit = misfit ≡ Some (TooSmall slot)
SaysFit (Err (draw.NotHolder holder)) misfit = ⊥
SaysFit (Err (draw.BadDrawing rule)) misfit = ⊥
SaysFit (Err draw.JournalFull) misfit = ⊥
SaysFit (Err draw.OutOfMemory) misfit = ⊥

-- a drawing keeps all rules and names no slot of the board, else this is the first rule that it breaks
abbrev pub KeepsRules : Result (Unit {0}) DrawRefusal → Option ℕ → Bool → Type 0
KeepsRules (Ok done) rule own = (rule ≡ None) × (own ≡ false)
KeepsRules (Err (draw.BadDrawing broken)) rule own = (rule ≡ Some broken) ⊎ ((rule ≡ None) × (own ≡ true) × (broken ≡ 5))
KeepsRules (Err (draw.NotHolder holder)) rule own = ⊥
KeepsRules (Err (draw.EmptySlot slot)) rule own = ⊥
KeepsRules (Err (draw.SlotSize slot)) rule own = ⊥
KeepsRules (Err draw.JournalFull) rule own = ⊥
KeepsRules (Err draw.OutOfMemory) rule own = ⊥

-- an event that isn't F12 is refused just so
abbrev pub input_refusal : InputRefusal → Option Refusal
input_refusal (input.NotHolder holder) = Some (NotHolder holder)
input_refusal input.JournalFull = Some JournalFull
input_refusal input.OutOfMemory = None

abbrev pub IsInputRefused : Result (Unit {0}) InputRefusal → Option Refusal → Type 0
IsInputRefused (Ok done) refusal = refusal ≡ None
IsInputRefused (Err why) refusal = (refusal ≡ input_refusal why) × ((input_refusal why ≡ None) → ⊥)
