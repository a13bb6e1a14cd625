-- Reading client data: a refusal has one of three causes.
use Rattle.std.specs.Prelude.{ℕ, List, Result}
use Rattle.wire_num.specs.Field.{Read}
use Rattle.wire_num.specs.Caused.{Caused, caused, placed_caused}
use Rattle.gcc_per.specs.declared.gcc_fault.GccFault.{GccFault}
use Rattle.gcc_per.specs.declared.gcc_fault.GccFault.TheVariants.{BadGcc, DepthNotOffered, TooManyChannels}
use Rattle.gcc_per.specs.declared.gcc_fault.Cause.{Cause}
use Rattle.gcc_per.specs.declared.gcc_fault.Cause.TheVariants.{Broken, NoDepth, Crowded}

-- a value and the bytes after it, or the cause and the bytes from the refused field on
abbrev pub Checked : Type 0 → Type 0
Checked A = Caused Cause A

-- a field that is refused because it is broken
abbrev pub plain : {A : Type 0} → Read A → Checked A
plain r = caused Broken r

-- the refusal for a cause at a place
abbrev pub fault_of : Cause → ℕ → GccFault
fault_of Broken at = BadGcc at
fault_of NoDepth at = DepthNotOffered at
fault_of Crowded at = TooManyChannels at

-- what reading a whole text gives: its value, or the fault at the place of the refused field
abbrev pub placed_checked : {A : Type 0} → List ℕ → Checked A → Result A GccFault
placed_checked bs r = placed_caused fault_of bs r
