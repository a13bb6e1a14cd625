-- Which refusal a misfit of the slots is.
use Rattle.std.specs.Prelude.{◌≡◌, Option, Some, None, Result, Ok, Err}
use Rattle.draw_ops.specs.Fits.{Misfit}
use Rattle.draw_ops.specs.Fits.Misfit.{Rule, Empty, TooSmall}
use Rattle.surface_parts.specs.declared.fault.DrawFault.{DrawFault}
use Rattle.surface_parts.specs.declared.fault.DrawFault.TheVariants.{EmptySlot, SlotSize, OutOfMemory}

-- a refusal says the first misfit; want of memory says nothing
abbrev pub SaysMisfit : DrawFault → Option Misfit → Type 0
SaysMisfit (EmptySlot slot) misfit = misfit ≡ Some (Empty slot)
SaysMisfit (SlotSize slot) misfit = misfit ≡ Some (TooSmall slot)
SaysMisfit OutOfMemory misfit = Unit {0}

-- the misfit that a refusal is; want of memory is none of the slots
abbrev pub misfit_of : DrawFault → Misfit
misfit_of (EmptySlot slot) = Empty slot
misfit_of (SlotSize slot) = TooSmall slot
misfit_of OutOfMemory = Rule 0

-- what an answer says of the slots: nothing where it is Ok
abbrev pub misfit_said : Result (Unit {0}) DrawFault → Option Misfit
misfit_said (Ok u) = None
misfit_said (Err fault) = Some (misfit_of fault)
