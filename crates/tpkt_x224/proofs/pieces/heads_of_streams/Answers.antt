use Rattle.tpkt_x224.proofs.Heads.{whole_head, part_head, version_head, length_head}
use Rattle.tpkt_x224.proofs.pieces.heads_of_streams.Goals as goal

pub returns-clause-whole : goal.returns-clause-whole
returns-clause-whole c = whole_head

pub returns-clause-part : goal.returns-clause-part
returns-clause-part c = part_head

pub returns-clause-not_tpkt : goal.returns-clause-not_tpkt
returns-clause-not_tpkt c = version_head

pub returns-clause-bad_length : goal.returns-clause-bad_length
returns-clause-bad_length c = length_head
