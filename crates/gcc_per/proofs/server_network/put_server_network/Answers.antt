use Rattle.std.proofs.lemmas.Result.{err_from_is_err_and}
use Rattle.gcc_per.proofs.Parts.{first_begun, second_of_three, third_of_three, all_three}
use Rattle.gcc_per.proofs.ChannelIds.{network_is}
use Rattle.gcc_per.proofs.server_network.put_server_network.Goals as goal

pub returns-in_err-put_headers-clause-memory : goal.returns-in_err-put_headers-clause-memory
returns-in_err-put_headers-clause-memory c =
    let p = err_from_is_err_and c.from_residual.result c.from_residual.ensures.1 in
    rw p.1 (first_begun _ _ _ _ _ (network_is c.args.channels) c.in_err-put_headers.ensures.memory)

pub returns-in_err-put_channel_ids-clause-memory : goal.returns-in_err-put_channel_ids-clause-memory
returns-in_err-put_channel_ids-clause-memory c =
    let p = err_from_is_err_and c.from_residual-in_err-put_channel_ids.result c.from_residual-in_err-put_channel_ids.ensures.1 in
    rw p.1 (second_of_three _ _ _ _ _ _ _ (network_is c.args.channels) c.in_ok-put_headers.ensures.ok c.in_err-put_channel_ids.ensures.memory)

pub returns-in_err-put_padding-clause-memory : goal.returns-in_err-put_padding-clause-memory
returns-in_err-put_padding-clause-memory c =
    let p = err_from_is_err_and c.from_residual-in_err-put_padding.result c.from_residual-in_err-put_padding.ensures.1 in
    rw p.1 (third_of_three _ _ _ _ _ _ _ _ (network_is c.args.channels) c.in_ok-put_headers.ensures.ok c.in_ok-put_channel_ids.ensures.ok c.in_err-put_padding.ensures.memory)

pub returns-clause-ok : goal.returns-clause-ok
returns-clause-ok c =
    all_three _ _ _ _ _ _ _ _ (network_is c.args.channels) c.in_ok-put_headers.ensures.ok c.in_ok-put_channel_ids.ensures.ok c.in_ok-put_padding.ensures.ok
