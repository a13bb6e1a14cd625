use Rattle.std.proofs.Common.{rules}
use Rattle.input_pdu.specs.Events.{event_count_at}
use Rattle.input_pdu.proofs.events.read_count.Goals as goal

pub returns : goal.returns
unfolding event_count_at
returns c = search rules
