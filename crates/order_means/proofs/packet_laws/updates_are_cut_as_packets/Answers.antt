use Rattle.order_means.proofs.Cut.{cuts_whole, part_left, version_refused, length_refused, fast_whole, fast_left, short_refused, first_refused}
use Rattle.order_means.proofs.packet_laws.updates_are_cut_as_packets.Goals as goal

pub returns-clause-whole : goal.returns-clause-whole
returns-clause-whole c = cuts_whole

pub returns-clause-part : goal.returns-clause-part
returns-clause-part c = part_left

pub returns-clause-version : goal.returns-clause-version
returns-clause-version c = version_refused

pub returns-clause-length : goal.returns-clause-length
returns-clause-length c = length_refused

pub returns-clause-fast_whole : goal.returns-clause-fast_whole
returns-clause-fast_whole c = fast_whole

pub returns-clause-fast_part : goal.returns-clause-fast_part
returns-clause-fast_part c = fast_left

pub returns-clause-fast_length : goal.returns-clause-fast_length
returns-clause-fast_length c = short_refused

pub returns-clause-first : goal.returns-clause-first
returns-clause-first c = first_refused
