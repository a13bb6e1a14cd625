use Rattle.std.proofs.Common.{arith}
use Rattle.std.proofs.lemmas.Result.{err_from_is_err_and}
use Rattle.gcc_per.proofs.Parts.{both, first_begun, second_begun}
use Rattle.gcc_per.proofs.Response.{response_is, response_size, written_size}
use Rattle.gcc_per.proofs.server_data.write_server.Goals as goal

pub returns-in_err-put_headers-clause-memory : goal.returns-in_err-put_headers-clause-memory
returns-in_err-put_headers-clause-memory c =
    let p = err_from_is_err_and c.from_residual.result c.from_residual.ensures.1 in
    rw p.1 (first_begun _ _ _ _ _ (response_is c.args.channels c.args.asked _ (omega (arith, c.network_size.ensures))) c.in_err-put_headers.ensures.memory)

pub returns-in_err-put_server_blocks-clause-memory : goal.returns-in_err-put_server_blocks-clause-memory
returns-in_err-put_server_blocks-clause-memory c =
    let p = err_from_is_err_and c.from_residual-in_err-put_server_blocks.result c.from_residual-in_err-put_server_blocks.ensures.1 in
    rw p.1 (second_begun _ _ _ _ _ _ (response_is c.args.channels c.args.asked _ (omega (arith, c.network_size.ensures))) c.in_ok-put_headers.ensures.ok c.in_err-put_server_blocks.ensures.memory)

pub returns-clause-ok : goal.returns-clause-ok
returns-clause-ok c =
    both _ _ _ _ _ _ (response_is c.args.channels c.args.asked _ (omega (arith, c.network_size.ensures))) c.in_ok-put_headers.ensures.ok c.in_ok-put_server_blocks.ensures.ok

pub returns-clause-size : goal.returns-clause-size
returns-clause-size c =
    written_size _ _ _ (
    both _ _ _ _ _ _ (response_is c.args.channels c.args.asked _ (omega (arith, c.network_size.ensures))) c.in_ok-put_headers.ensures.ok c.in_ok-put_server_blocks.ensures.ok
    ) (response_size c.args.channels c.args.asked c.requires)
