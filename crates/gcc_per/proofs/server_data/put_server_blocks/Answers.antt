use Rattle.std.proofs.Common.{refl}
use Rattle.std.proofs.lemmas.Result.{err_from_is_err_and}
use Rattle.gcc_per.proofs.Parts.{first_begun, second_of_three, third_of_three, all_three}
use Rattle.gcc_per.proofs.server_data.put_server_blocks.Goals as goal

pub returns-in_err-put_server_core-clause-memory : goal.returns-in_err-put_server_core-clause-memory
returns-in_err-put_server_core-clause-memory c =
    let p = err_from_is_err_and c.from_residual.result c.from_residual.ensures.1 in
    rw p.1 (first_begun _ _ _ _ _ refl c.in_err-put_server_core.ensures.memory)

pub returns-in_err-put_server_network-clause-memory : goal.returns-in_err-put_server_network-clause-memory
returns-in_err-put_server_network-clause-memory c =
    let p = err_from_is_err_and c.from_residual-in_err-put_server_network.result c.from_residual-in_err-put_server_network.ensures.1 in
    rw p.1 (second_of_three _ _ _ _ _ _ _ refl c.in_ok-put_server_core.ensures.ok c.in_err-put_server_network.ensures.memory)

pub returns-in_err-put_server_security-clause-memory : goal.returns-in_err-put_server_security-clause-memory
returns-in_err-put_server_security-clause-memory c =
    let p = err_from_is_err_and c.from_residual-in_err-put_server_security.result c.from_residual-in_err-put_server_security.ensures.1 in
    rw p.1 (third_of_three _ _ _ _ _ _ _ _ refl c.in_ok-put_server_core.ensures.ok c.in_ok-put_server_network.ensures.ok c.in_err-put_server_security.ensures.memory)

pub returns-clause-ok : goal.returns-clause-ok
returns-clause-ok c =
    all_three _ _ _ _ _ _ _ _ refl c.in_ok-put_server_core.ensures.ok c.in_ok-put_server_network.ensures.ok c.in_ok-put_server_security.ensures.ok
