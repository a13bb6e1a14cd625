-- The exit statuses of runs.
use Rattle.std.specs.Prelude.{ℕ}
use Rattle.std.specs.declared.result.Result.{Result}
use Rattle.std.specs.declared.result.Result.TheVariants.{Ok, Err}
use Rattle.script_run.specs.declared.fault.ScriptFault.{ScriptFault}
use Rattle.script_run.specs.declared.fault.ScriptFault.TheVariants.{Line, ReadFault, WriteFault, OutOfMemory}

-- the exit status that an answer of a script's run is
abbrev pub script_status : Result (Unit {0}) ScriptFault → ℕ
script_status (Ok x) = 0
script_status (Err (Line k rule)) = 3
script_status (Err ReadFault) = 4
script_status (Err WriteFault) = 5
script_status (Err OutOfMemory) = 6
