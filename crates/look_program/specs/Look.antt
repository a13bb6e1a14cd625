-- What the program does, by its words.
use Rattle.std.specs.Prelude.{◌≡◌, ℕ, List, [], ◌∷◌, ◌++◌, Bool, true, false, codes, Result, Ok, Err, IfErr}
use Rattle.edge_io.specs.Outside.{Output, Outside}
use Rattle.capture_show.specs.Answers.{ShowsCapture, Writes, ReadCause, WriteCause, IsWriteFault}
use Rattle.capture_show.specs.declared.show_fault.ShowFault.{ShowFault}
use Rattle.capture_show.specs.declared.show_fault.ShowFault.TheVariants.{ReadFault, WriteFault, OutOfMemory}

-- what is printed where the words name no viewer
abbrev pub usage : List ℕ
usage = codes "usage: rdp_look V" ++ 10 ∷ []

-- the exit status that a fault is
abbrev pub fault_status : ShowFault → ℕ
fault_status ReadFault = 4
fault_status WriteFault = 5
fault_status OutOfMemory = 6

-- the exit status that an answer of showing a capture is
abbrev pub look_status : Result Bool ShowFault → ℕ
look_status (Ok true) = 0
look_status (Ok false) = 3
look_status (Err fault) = fault_status fault

-- the exit status that an answer of a write of the usage is
abbrev pub usage_status : Result (Unit {0}) ShowFault → ℕ
usage_status (Ok x) = 2
usage_status (Err fault) = fault_status fault

-- a capture was shown to a viewer: 0 is that the capture and the viewer's bytes in it are accepted, 3 that they aren't, with what is shown
-- written whole behind the capture's end; 4 is a fault of the source, whose count rose, with nothing written; 5 and 6 are a fault of the
-- sink, whose count rose, and want of memory, with a front of it there
pub record LooksAt (status viewer : ℕ) (before now : Outside) : Type 0 where
  pub answer : Result Bool ShowFault
  pub status_is : status ≡ look_status answer
  pub capture : ShowsCapture answer viewer before.input.left now.input.left before.output.told now.output.told
  pub read_cause : ReadCause answer before.input.faults now.input.faults
  pub write_cause : WriteCause answer before.output.faults now.output.faults

-- the usage was written: 2 is that it stands there; 5 and 6 are a fault of the sink, whose count rose, and want of memory, with a front
-- of it there
pub record WritesUsage (status : ℕ) (before now : Output) : Type 0 where
  pub answer : Result (Unit {0}) ShowFault
  pub status_is : status ≡ usage_status answer
  pub written : Writes answer usage before.told now.told
  pub fault : IfErr answer IsWriteFault
  pub write_cause : WriteCause answer before.faults now.faults
