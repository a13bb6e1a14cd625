use Rattle.conn_rules.proofs.Order.{handshake_in_order, heard_in_order, in_order_then}
use Rattle.conn_rules.proofs.conn_laws.steps_come_in_order.Goals as goal

pub returns-clause-whole : goal.returns-clause-whole
returns-clause-whole c = handshake_in_order

pub returns-clause-further : goal.returns-clause-further
returns-clause-further c = heard_in_order

pub returns-clause-joined : goal.returns-clause-joined
returns-clause-joined c = in_order_then
