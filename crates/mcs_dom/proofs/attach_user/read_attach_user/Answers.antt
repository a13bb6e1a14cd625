use Rattle.std.proofs.Common.{rules}
use Rattle.mcs_dom.specs.AttachUser.{attach_user_request}
use Rattle.mcs_dom.proofs.attach_user.read_attach_user.Goals as goal

pub returns : goal.returns
unfolding attach_user_request
returns c = search rules
