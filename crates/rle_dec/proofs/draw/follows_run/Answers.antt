use Rattle.std.proofs.Common.{rules}
use Rattle.rle_dec.proofs.draw.follows_run.Goals as goal

pub returns-in-LaterBackground : goal.returns-in-LaterBackground
returns-in-LaterBackground c = search rules

pub returns-in-FirstRowBackground : goal.returns-in-FirstRowBackground
returns-in-FirstRowBackground c = search rules
