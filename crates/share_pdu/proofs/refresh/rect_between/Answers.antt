use Rattle.std.proofs.Common.{rules}
use Rattle.share_pdu.proofs.refresh.rect_between.Goals as goal

pub overflow_sub-right : goal.overflow_sub-right
overflow_sub-right c = search rules

pub overflow_sub-bottom : goal.overflow_sub-bottom
overflow_sub-bottom c = search rules

pub returns : goal.returns
returns c = search rules
