-- What the program does, by its mode.
use Rattle.std.specs.Prelude.{◌≡◌, ℕ, List, [], ◌∷◌, ◌++◌, codes, OnOk, OnErr, IfErr}
use Rattle.std.specs.Io.KnownBytes.{Appends}
use Rattle.std.specs.declared.result.Result.{Result}
use Rattle.std.specs.declared.result.Result.TheVariants.{Ok, Err}
use Rattle.edge_io.specs.Sink.{WritesFront}
use Rattle.edge_io.specs.Outside.{Output, Outside}
use Rattle.gate_run.specs.Gates.{GateState}
use Rattle.script_run.specs.Run.{RunsScript, ReadsCause, WritesCause}
use Rattle.script_run.specs.Steps.{IsWriteFault}
use Rattle.script_run.specs.declared.fault.ScriptFault.{ScriptFault}
use Rattle.script_run.specs.declared.fault.ScriptFault.TheVariants.{Line, ReadFault, WriteFault, OutOfMemory}
use Rattle.host_program.specs.Answering.{RunsService}
use Rattle.host_program.specs.Changes.{ScriptByHolders}
use Rattle.host_program.specs.Hosting.{RunsServe}
use Rattle.host_program.specs.Loading.{RunsDemo}
use Rattle.host_program.specs.Recording.{RunsRecord, RunsReplay}
use Rattle.host_program.specs.Statuses.{script_status}
use Rattle.host_program.specs.declared.mode.Mode.{Mode}
use Rattle.host_program.specs.declared.mode.Mode.TheVariants.{Script, Record, Answer, Demo, Replay, Serve}

-- what is printed where the words ask for no mode
abbrev pub usage : List ℕ
usage = codes "usage: rdp_host MODE ARGS" ++ 10 ∷ []

-- the exit status that an answer of a write of the usage is
abbrev pub usage_status : Result (Unit {0}) ScriptFault → ℕ
usage_status (Ok x) = 2
usage_status (Err (Line k rule)) = 3
usage_status (Err ReadFault) = 4
usage_status (Err WriteFault) = 5
usage_status (Err OutOfMemory) = 6

-- a script was run: 0 is its end, 3 the first line that breaks a rule, with the capture written that each viewer reads whole, and in
-- which each mark shows the picture after exactly the journal entries that the frame's take found; 4, 5 and 6 are faults of the
-- source and of the sink, whose counts rose, and want of memory, behind the capture of the lines that were done; each change of the
-- journal was made by the holder of control, also after a fault
pub record WritesCapture (status : ℕ) (before now : Outside) : Type 0 where
  pub answer : Result (Unit {0}) ScriptFault
  pub status_is : status ≡ script_status answer
  pub capture : RunsScript answer before.input.left now.input.left before.output.told now.output.told
  pub changes : ScriptByHolders before.input.left
  pub read_cause : ReadsCause answer before.input.faults now.input.faults
  pub write_cause : WritesCause answer before.output.faults now.output.faults

-- what a run of a mode comes to, by the exit status, what stands outside and the gate, before it and after it
abbrev pub RunsMode : Mode → (status : ℕ) → (before now : Outside) → (given spent : GateState) → Type 0
RunsMode Script status before now given spent = WritesCapture status before now
RunsMode Record status before now given spent = RunsRecord status before now
RunsMode (Answer client) status before now given spent = RunsService status client before now
RunsMode (Demo load) status before now given spent = RunsDemo status load before.output now.output
RunsMode (Replay stop) status before now given spent = RunsReplay status stop before now
RunsMode (Serve hosting) status before now given spent = RunsServe status hosting given spent before.output now.output

-- the usage was written: 2 is that it stands there; 5 and 6 are a fault of the sink, whose count rose, and want of memory, with a front
-- of it there
pub record WritesUsage (status : ℕ) (before now : Output) : Type 0 where
  pub answer : Result (Unit {0}) ScriptFault
  pub status_is : status ≡ usage_status answer
  pub written : OnOk answer (Appends before.told now.told usage)
  pub front : OnErr answer (WritesFront before.told now.told usage)
  pub fault : IfErr answer IsWriteFault
  pub write_cause : WritesCause answer before.faults now.faults
