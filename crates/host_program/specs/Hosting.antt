-- The mode serve: what a run of it comes to.
use Rattle.std.specs.Prelude.{◌≡◌, ℕ, List, [], OnOk, OnErr, IfErr}
use Rattle.std.specs.Io.KnownBytes.{Appends}
use Rattle.std.specs.declared.option.Option.{Option}
use Rattle.std.specs.declared.result.Result.{Result}
use Rattle.std.specs.declared.result.Result.TheVariants.{Ok, Err}
use Rattle.edge_io.specs.Sink.{WritesFront}
use Rattle.edge_io.specs.Outside.{Output}
use Rattle.session_rules.specs.declared.entry.Entry.{Entry}
use Rattle.session_rules.specs.Journal.{Head}
use Rattle.serve_rules.specs.declared.noted.ConnReport.{ConnReport}
use Rattle.gate_run.specs.declared.served.GateEnd.{GateEnd}
use Rattle.gate_run.specs.declared.served.GateEnd.TheVariants.{Ended, Failed, NoListen}
use Rattle.gate_run.specs.Gates.{GateState, ServesGate}
use Rattle.script_run.specs.Run.{WritesCause}
use Rattle.script_run.specs.Steps.{IsWriteFault}
use Rattle.script_run.specs.declared.fault.ScriptFault.{ScriptFault}
use Rattle.script_run.specs.declared.fault.ScriptFault.TheVariants.{Line, ReadFault, WriteFault, OutOfMemory}
use Rattle.host_program.specs.Changes.{ChangedByHolders}
use Rattle.host_program.specs.Statuses.{script_status}
use Rattle.host_program.specs.Serving.{HostingOf}
use Rattle.host_program.specs.Links.{served_text}

-- the size and the rows of the session
abbrev pub head_of : HostingOf → Head
head_of hosting = record { size = hosting.size; rows = hosting.rows }

-- the exit status after a gate that failed, by what the writing of the links' lines is answered: 7, also where the output failed; but where memory was wanted it
-- is 6, so that 7 never stands for lines that nobody wrote
abbrev pub failed_status : Result (Unit {0}) ScriptFault → ℕ
failed_status (Ok x) = 7
failed_status (Err (Line k rule)) = 7
failed_status (Err ReadFault) = 7
failed_status (Err WriteFault) = 7
failed_status (Err OutOfMemory) = 6

-- the exit status, by how the gate ended and by what the writing of the links' lines is answered: a gate that can't be opened is 7 whatever that is
abbrev pub served_status : GateEnd → Result (Unit {0}) ScriptFault → ℕ
served_status Ended answer = script_status answer
served_status Failed answer = failed_status answer
served_status NoListen answer = 7

-- the links' lines were written; after a fault of the sink, whose count rose, and after want of memory a front of them
pub record WritesLinks (answer : Result (Unit {0}) ScriptFault) (reports : List ConnReport) (before now : Output) : Type 0 where
  pub written : OnOk answer (Appends before.told now.told (served_text reports))
  pub front : OnErr answer (WritesFront before.told now.told (served_text reports))
  pub fault : IfErr answer IsWriteFault
  pub write_cause : WritesCause answer before.faults now.faults

-- the links' lines were written, also where the gate failed: all of them unless the output's count of faults rose or memory was wanted, and then a front; but
-- nothing where the gate can't be opened
abbrev pub WritesIfOpened : GateEnd → Result (Unit {0}) ScriptFault → List ConnReport → (before now : Output) → Type 0
WritesIfOpened Ended answer reports before now = WritesLinks answer reports before now
WritesIfOpened Failed answer reports before now = WritesLinks answer reports before now
WritesIfOpened NoListen answer reports before now = now ≡ before

-- what was written after a gate's end, and the exit status
pub record PrintsLinks (status : ℕ) (end : GateEnd) (reports : List ConnReport) (before now : Output) : Type 0 where
  pub answer : Result (Unit {0}) ScriptFault
  pub status_is : status ≡ served_status end answer
  pub writes_links : WritesIfOpened end answer reports before now

-- the links of the gate were served, over one session whose journal is legal, with each change made by the holder of control, and the line of each one's report was written: 0 is that the gate ended and all of them
-- stand there, 5 is a fault of the sink and 6 want of memory, behind a front of them, and 7 is a fault of the gate, whose count rose: where it could be opened all
-- of them stand there too, or the sink's count of faults rose as well and a front of them does
pub record HostsLinks (status : ℕ) (hosting : HostingOf) (given spent : GateState) (before now : Output) : Type 0 where
  pub j : List Entry
  pub reports : List ConnReport
  pub end : GateEnd
  pub serves : ServesGate (head_of hosting) [] hosting.port hosting.links given spent j reports end
  pub changes : ChangedByHolders (head_of hosting) j
  pub prints : PrintsLinks status end reports before now

-- memory was wanted before the gate was opened: nothing was done
pub record WantsMemory (status : ℕ) (given spent : GateState) (before now : Output) : Type 0 where
  pub status_is : status ≡ 6
  pub gate : spent ≡ given
  pub output : now ≡ before

-- what a run of the mode comes to
pub data RunsServe (status : ℕ) (hosting : HostingOf) (given spent : GateState) (before now : Output) : Type 0 where
  Wants : WantsMemory status given spent before now → RunsServe status hosting given spent before now
  Hosts : HostsLinks status hosting given spent before now → RunsServe status hosting given spent before now
