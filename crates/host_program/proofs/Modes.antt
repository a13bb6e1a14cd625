-- Modes: what can be done, and what is done where memory is wanted before.
use Rattle.std.proofs.Common.{◌≡◌, ℕ, refl, [], ◌∙◌}
use Rattle.std.proofs.KnownBytes.{Appends-nil}
use Rattle.std.specs.Prelude.{Option, Some, None, IfSome}
use Rattle.std.specs.Option.{option_map}
use Rattle.std.specs.declared.result.Result.TheVariants.{Err}
use Rattle.edge_io.specs.Outside.{Outside}
use Rattle.edge_io.specs.Sink.{WritesFront}
use Rattle.gate_run.specs.Gates.{GateState}
use Rattle.script_run.specs.declared.fault.ScriptFault.TheVariants.{OutOfMemory}
use Rattle.script_run.proofs.Whole.{nothing_written}
use Rattle.script_run.proofs.Continued.{tells_of_all}
use Rattle.record_run.proofs.Whole.{nothing_written as nothing_recorded}
use Rattle.record_run.proofs.Runs.{stops_reading}
use Rattle.record_run.specs.Shown.{shown, text_of}
use Rattle.demo_run.specs.Scene.{demo_head}
use Rattle.demo_run.specs.Load.{demo_asked}
use Rattle.demo_run.specs.Counts.{demo_line}
use Rattle.answer_run.proofs.Served.{nothing_done}
use Rattle.answer_run.specs.declared.fault.AnswerFault.TheVariants as fault
use Rattle.host_program.specs.declared.answering.Client.{Client}
use Rattle.host_program.specs.declared.loading.Load.{Load}
use Rattle.host_program.specs.declared.mode.Mode.{Mode}
use Rattle.host_program.specs.declared.mode.Mode.TheVariants.{Script, Record, Answer, Demo, Replay, Serve}
use Rattle.host_program.specs.Answering.{IsServable}
use Rattle.host_program.specs.Serving.{HostingOf, IsHostable}
use Rattle.host_program.specs.Mode.{IsRunnable}
use Rattle.host_program.specs.Top.{RunsMode}
use Rattle.host_program.specs.Hosting.RunsServe.{Wants}
use Rattle.host_program.proofs.Changed.{script_changed, steps_changed}

-- ---- what can be done

pub client_runnable : (client : Option Client) → IfSome client IsServable → IfSome (option_map Answer client) IsRunnable
client_runnable None h = tt
client_runnable (Some client) h = h

pub load_runnable : (load : Option Load) → IfSome (option_map Demo load) IsRunnable
load_runnable None = tt
load_runnable (Some load) = tt

pub stop_runnable : (stop : Option ℕ) → IfSome (option_map Replay stop) IsRunnable
stop_runnable None = tt
stop_runnable (Some stop) = tt

pub hosting_runnable : (hosting : Option HostingOf) → IfSome hosting IsHostable → IfSome (option_map Serve hosting) IsRunnable
hosting_runnable None h = tt
hosting_runnable (Some hosting) h = h

-- ---- want of memory before anything was read or written

pub memory_wanted : (mode : Mode) (before : Outside) (gate : GateState) → RunsMode mode 6 before before gate gate
memory_wanted Script before gate = record {
  answer = Err OutOfMemory;
  status_is = refl;
  capture = nothing_written _ _;
  changes = script_changed before.input.left;
  read_cause = refl;
  write_cause = refl;
}
memory_wanted Record before gate = record {
  answer = Err OutOfMemory;
  status_is = refl;
  record_is = nothing_recorded _ _;
  changes = script_changed before.input.left;
  read_cause = refl;
  write_cause = refl;
}
memory_wanted (Answer client) before gate = record {
  answer = Err fault.OutOfMemory;
  status_is = refl;
  number = tt;
  serves = nothing_done client.size client.owner _ _;
  read_cause = refl;
  write_cause = refl;
}
memory_wanted (Demo load) before gate = record {
  answer = Err OutOfMemory;
  status_is = refl;
  changes = steps_changed demo_head (demo_asked load.seed load.steps);
  written = tt;
  front = record { front = []; rest = demo_line load.seed load.steps; whole = refl; written = Appends-nil _ };
  fault = tt;
  write_cause = refl;
}
memory_wanted (Replay stop) before gate = record {
  answer = Err OutOfMemory;
  status_is = refl;
  replay = stops_reading OutOfMemory stop before.input.left before.input.left before.output.told tt;
  read_cause = refl;
  write_cause = refl;
}
memory_wanted (Serve hosting) before gate = Wants (record { status_is = refl; gate = refl; output = refl })

-- words ask for one mode
pub one_mode : {A : Type 0} {a b : A} {found : Option A} → Some a ≡ found → found ≡ Some b → a ≡ b
one_mode is asks = cc (is ∙ asks)
