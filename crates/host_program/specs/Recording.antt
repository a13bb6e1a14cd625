-- The modes record and replay: their words, and the statuses that they end with.
use Rattle.std.specs.Prelude.{◌≡◌, ℕ, ◌^◌, ◌-◌, List, [], ◌∷◌, Bool, true, false, Option, None}
use Rattle.std.specs.declared.result.Result.{Result}
use Rattle.std.specs.declared.result.Result.TheVariants.{Ok, Err}
use Rattle.line_text.specs.Numbers.{number_up_to}
use Rattle.script_run.specs.Run.{ReadsCause, WritesCause}
use Rattle.script_run.specs.declared.fault.ScriptFault.{ScriptFault}
use Rattle.record_run.specs.Run.{RecordsScript}
use Rattle.record_run.specs.Replays.{ReplaysRecord}
use Rattle.host_program.specs.Statuses.{script_status}
use Rattle.edge_io.specs.Outside.{Outside}
use Rattle.host_program.specs.Changes.{ScriptByHolders}

-- the most entries that the mode replay may be asked for (profile)
abbrev pub most_stop : ℕ
most_stop = 2 ^ 64 - 1

-- the arguments of the mode replay
abbrev pub stop_of_args : List (List ℕ) → Option ℕ
stop_of_args [] = None
stop_of_args (stop ∷ []) = number_up_to most_stop stop
stop_of_args (stop ∷ more ∷ args) = None

-- the exit status that an answer of a replay is: 0 is a picture, and 3 a line that says why there is none
abbrev pub replay_status : Result Bool ScriptFault → ℕ
replay_status (Ok true) = 0
replay_status (Ok false) = 3
replay_status (Err fault) = script_status (Err fault)

-- a script was recorded: 0 is its end, 3 the first line that breaks a rule, with the record written of its size, its rows and the journal of
-- the steps before that, and nothing where it is the first line; 4, 5 and 6 are faults of the source and of the sink, whose counts rose, and
-- want of memory, behind a front of it
pub record RunsRecord (status : ℕ) (before now : Outside) : Type 0 where
  pub answer : Result (Unit {0}) ScriptFault
  pub status_is : status ≡ script_status answer
  pub record_is : RecordsScript answer before.input.left now.input.left before.output.told now.output.told
  pub changes : ScriptByHolders before.input.left
  pub read_cause : ReadsCause answer before.input.faults now.input.faults
  pub write_cause : WritesCause answer before.output.faults now.output.faults

-- a record was replayed: 0 is that the picture after so many entries was written, 3 the line that says why there is none, behind the record's
-- end; 4 is a fault of the source, whose count rose, with nothing written; 5 and 6 are a fault of the sink, whose count rose, and want of
-- memory, with a front there
pub record RunsReplay (status stop : ℕ) (before now : Outside) : Type 0 where
  pub answer : Result Bool ScriptFault
  pub status_is : status ≡ replay_status answer
  pub replay : ReplaysRecord answer stop before.input.left now.input.left before.output.told now.output.told
  pub read_cause : ReadsCause answer before.input.faults now.input.faults
  pub write_cause : WritesCause answer before.output.faults now.output.faults
