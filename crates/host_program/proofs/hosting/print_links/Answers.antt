use Rattle.std.proofs.Common.{refl}
use Rattle.std.specs.declared.result.Result.TheVariants.{Ok}
use Rattle.host_program.proofs.hosting.print_links.Goals as goal

-- nothing was written
pub returns-in-NoListen : goal.returns-in-NoListen
returns-in-NoListen g c = rw c.in-NoListen.is (record { answer = Ok tt; status_is = refl; writes_links = refl })
