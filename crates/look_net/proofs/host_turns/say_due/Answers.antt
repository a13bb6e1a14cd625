use Rattle.std.proofs.Common.{◌∙◌, ap, Some}
use Rattle.edge_io.specs.Outside.{output_of}
use Rattle.look_net.proofs.SaidBehind.{unleft}
use Rattle.look_net.proofs.host_turns.say_due.Goals as goal

pub returns-in-Err : goal.returns-in-Err
returns-in-Err g c = unleft c.args.asked c.args.text.now.items (output_of g.K.Sink c.args.writer.now) (c.in-Some-Marks.is ∙ ap Some (rw c.in-Some-Marks.is at c.in-Some-Marks.field-0-is))
