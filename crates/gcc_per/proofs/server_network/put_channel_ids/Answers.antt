use Rattle.std.proofs.lemmas.Result.{err_from_is_err_and}
use Rattle.gcc_per.proofs.ChannelIds.{none_written, one_written, one_begun, all_written}
use Rattle.gcc_per.proofs.server_network.put_channel_ids.Goals as goal

pub loop-channel-init : goal.loop-channel-init
loop-channel-init c = none_written _ _

pub returns-in_err-put_u16_le-clause-memory : goal.returns-in_err-put_u16_le-clause-memory
returns-in_err-put_u16_le-clause-memory c =
    let p = err_from_is_err_and c.from_residual.result c.from_residual.ensures.1 in
    rw p.1 (one_begun _ _ _ _ _ c.loop-channel-test.true c.loop-channel.invariant c.in_err-put_u16_le.ensures.memory)

pub loop-channel-preserved : goal.loop-channel-preserved
loop-channel-preserved c = one_written _ _ _ _ _ c.loop-channel-test.true c.loop-channel.invariant c.in_ok-put_u16_le.ensures.ok

pub returns-clause-ok : goal.returns-clause-ok
returns-clause-ok c = all_written _ _ _ _ c.loop-channel-test.false c.loop-channel.invariant
