use Rattle.std.proofs.Common.{refl}
use Rattle.std.specs.declared.result.Result.TheVariants.{Err}
use Rattle.capture_show.specs.declared.show_fault.ShowFault.TheVariants.{OutOfMemory}
use Rattle.look_net.specs.Views.{usage}
use Rattle.look_net.proofs.SaidBehind.{nothing}
use Rattle.look_net.proofs.view.view_top.Goals as goal

-- the words weren't read for want of memory: nothing was written
pub returns-in-Err-clause-usage : goal.returns-in-Err-clause-usage
returns-in-Err-clause-usage g c = λ asks. record { answer = Err OutOfMemory; status_is = refl; written = nothing (g.K.Sink.told c.args.output.now) usage; fault = tt; cause = refl }
