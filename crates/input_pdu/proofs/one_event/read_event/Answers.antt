use Rattle.input_pdu.proofs.Data.{bytes_counted}
use Rattle.input_pdu.proofs.one_event.read_event.Goals as goal
use Rattle.std.proofs.Common.{rules}
use Rattle.input_pdu.specs.Events.{event_at}

pub event_of-requires : goal.event_of-requires
event_of-requires c = bytes_counted _ _ _ _ c.in_ok-data.ensures.0

pub returns-in_err-data : goal.returns-in_err-data
unfolding event_at
returns-in_err-data c = search rules

pub returns : goal.returns
unfolding event_at
returns c = search rules

pub returns-in_err-bytes : goal.returns-in_err-bytes
unfolding event_at
returns-in_err-bytes c = search rules
