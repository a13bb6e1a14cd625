use Rattle.std.proofs.Common.{rules}
use Rattle.input_pdu.proofs.one_event.event_of.Goals as goal

pub returns-in-5 : goal.returns-in-5
returns-in-5 c = search rules

pub returns-in_default : goal.returns-in_default
returns-in_default c = search rules

pub returns-in-4 : goal.returns-in-4
returns-in-4 c = search rules

pub returns-in-32769 : goal.returns-in-32769
returns-in-32769 c = search rules
