use Rattle.std.proofs.Common.{rules, refl, [], subst}
use Rattle.std.proofs.KnownBytes.{Appends-nil}
use Rattle.std.specs.declared.result.Result.TheVariants.{Err}
use Rattle.edge_io.specs.Outside.{outside_of}
use Rattle.gate_run.specs.Gates.{gate_state}
use Rattle.script_run.specs.declared.fault.ScriptFault.TheVariants.{OutOfMemory}
use Rattle.host_program.specs.Top.{usage, RunsMode}
use Rattle.host_program.proofs.Modes.{memory_wanted, one_mode}
use Rattle.host_program.proofs.host.top.Goals as goal

-- the words weren't read for want of memory: nothing was read or written
pub returns-in-Err-clause-mode : goal.returns-in-Err-clause-mode
returns-in-Err-clause-mode g c = λ mode asks. memory_wanted mode (outside_of g.S.Source g.K.Sink c.args.input.now c.args.output.now) (gate_state g.G.Gate g.G.Link.Link c.args.gate.now)

pub returns-in-Err-clause-usage : goal.returns-in-Err-clause-usage
returns-in-Err-clause-usage g c = λ asks. record { answer = Err OutOfMemory; status_is = refl; written = search rules; front = record { front = []; rest = usage; whole = refl; written = Appends-nil _ }; fault = search rules; write_cause = refl }
