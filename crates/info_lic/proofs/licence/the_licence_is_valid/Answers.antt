use Rattle.std.proofs.Common.{rules}
use Rattle.info_lic.proofs.licence.the_licence_is_valid.Goals as goal

pub returns : goal.returns
returns c = search rules
