use Rattle.std.proofs.Common.{rules}
use Rattle.update_read.proofs.update.read_synchronize.Goals as goal

pub returns-in_err-expect : goal.returns-in_err-expect
returns-in_err-expect c = search rules

pub returns-in_err-end : goal.returns-in_err-end
returns-in_err-end c = search rules

pub returns : goal.returns
returns c = search rules
