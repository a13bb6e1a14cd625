use Rattle.std.proofs.Common.{rules}
use Rattle.mcs_dom.specs.ChannelJoin.{channel_join_request}
use Rattle.wire_num.specs.FieldValue.{passing_at}
use Rattle.mcs_dom.proofs.channel_join.read_channel_join.Goals as goal

pub returns-in_err-above : goal.returns-in_err-above
unfolding channel_join_request passing_at
returns-in_err-above c = search rules

pub returns : goal.returns
unfolding channel_join_request passing_at
returns c = search rules
