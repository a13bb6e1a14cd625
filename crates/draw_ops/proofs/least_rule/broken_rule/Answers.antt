use Rattle.std.proofs.Common.{rules}
use Rattle.draw_ops.proofs.least_rule.broken_rule.Goals as goal

pub returns-in-Pat : goal.returns-in-Pat
returns-in-Pat c = search rules

pub returns-in-Blit3 : goal.returns-in-Blit3
returns-in-Blit3 c = search rules

pub returns-in-LoadBrush : goal.returns-in-LoadBrush
returns-in-LoadBrush c = search rules

pub returns-in-Fill : goal.returns-in-Fill
returns-in-Fill c = search rules
