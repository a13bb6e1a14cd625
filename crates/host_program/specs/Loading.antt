-- The mode demo: its words, and what it writes.
use Rattle.std.specs.Prelude.{◌≡◌, ℕ, ◌^◌, ◌-◌, List, [], ◌∷◌, Option, None, OnOk, OnErr, IfErr}
use Rattle.std.specs.Option.{option_map, option_and_then}
use Rattle.std.specs.Io.KnownBytes.{Appends}
use Rattle.std.specs.declared.result.Result.{Result}
use Rattle.edge_io.specs.Sink.{WritesFront}
use Rattle.edge_io.specs.Outside.{Output}
use Rattle.line_text.specs.Numbers.{number_up_to}
use Rattle.script_run.specs.Run.{WritesCause}
use Rattle.script_run.specs.Steps.{IsWriteFault}
use Rattle.script_run.specs.declared.fault.ScriptFault.{ScriptFault}
use Rattle.demo_run.specs.Scene.{demo_head}
use Rattle.demo_run.specs.Load.{demo_asked}
use Rattle.demo_run.specs.Counts.{demo_line}
use Rattle.host_program.specs.declared.loading.Load.{Load}
use Rattle.host_program.specs.Changes.{StepsByHolders}
use Rattle.host_program.specs.Statuses.{script_status}

-- the greatest seed, and the most steps (profile)
abbrev pub most_seed : ℕ
most_seed = 2 ^ 64 - 1

abbrev pub most_steps : ℕ
most_steps = 100000

abbrev pub load_with : ℕ → ℕ → Load
load_with seed steps = record { seed = seed; steps = steps }

-- a seed and a number of steps, as words
abbrev pub load_of_words : List ℕ → List ℕ → Option Load
load_of_words seed steps = option_and_then (λ s. option_map (λ n. load_with s n) (number_up_to most_steps steps)) (number_up_to most_seed seed)

-- the arguments of the mode
abbrev pub load_of_args : List (List ℕ) → Option Load
load_of_args [] = None
load_of_args (seed ∷ []) = None
load_of_args (seed ∷ steps ∷ []) = load_of_words seed steps
load_of_args (seed ∷ steps ∷ more ∷ args) = None

-- a load was run: 0 is that the line which counts its run was written; 5 and 6 are a fault of the sink, whose count rose, and want of memory, behind a
-- front of it; each change of the load's journal was made by the holder of control
pub record RunsDemo (status : ℕ) (load : Load) (before now : Output) : Type 0 where
  pub answer : Result (Unit {0}) ScriptFault
  pub status_is : status ≡ script_status answer
  pub changes : StepsByHolders demo_head (demo_asked load.seed load.steps)
  pub written : OnOk answer (Appends before.told now.told (demo_line load.seed load.steps))
  pub front : OnErr answer (WritesFront before.told now.told (demo_line load.seed load.steps))
  pub fault : IfErr answer IsWriteFault
  pub write_cause : WritesCause answer before.faults now.faults
