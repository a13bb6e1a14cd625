use Rattle.fast_path.proofs.Mixed.{stream_whole, stream_part, stream_other, stream_bad}
use Rattle.fast_path.proofs.stream_laws.heads_of_mixed_streams.Goals as goal

pub returns-clause-whole : goal.returns-clause-whole
returns-clause-whole c = stream_whole

pub returns-clause-part : goal.returns-clause-part
returns-clause-part c = stream_part

pub returns-clause-not_tpkt : goal.returns-clause-not_tpkt
returns-clause-not_tpkt c = stream_other

pub returns-clause-bad_length : goal.returns-clause-bad_length
returns-clause-bad_length c = stream_bad
