use Rattle.std.proofs.Common.{refl}
use Rattle.std.specs.declared.result.Result.TheVariants.{Err}
use Rattle.capture_show.proofs.Showing.{nothing, stops_reading}
use Rattle.capture_show.specs.declared.show_fault.ShowFault.TheVariants.{OutOfMemory}
use Rattle.look_program.specs.Look.{usage}
use Rattle.look_program.proofs.top.look_top.Goals as goal

-- the words weren't read for want of memory: nothing was read or written
pub returns-in-Err-clause-look : goal.returns-in-Err-clause-look
returns-in-Err-clause-look g c = λ v asks. record { answer = Err OutOfMemory; status_is = refl; capture = stops_reading OutOfMemory v (g.S.Source.left c.args.input.now) (g.S.Source.left c.args.input.now) (g.K.Sink.told c.args.output.now) tt; read_cause = refl; write_cause = refl }

pub returns-in-Err-clause-usage : goal.returns-in-Err-clause-usage
returns-in-Err-clause-usage g c = λ asks. record { answer = Err OutOfMemory; status_is = refl; written = nothing (g.K.Sink.told c.args.output.now) usage; fault = tt; write_cause = refl }
