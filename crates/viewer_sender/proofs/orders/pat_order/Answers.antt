use Rattle.viewer_sender.proofs.Styles.{pat_style}
use Rattle.viewer_sender.proofs.orders.pat_order.Goals as goal

pub pat_blt-requires : goal.pat_blt-requires
pat_blt-requires c = pat_style c.args.depth c.args.r c.args.rop c.args.entry c.requires

pub returns : goal.returns
returns c = c.styled.ensures.pattern c.args.r c.args.rop c.args.entry c.pat_blt.ensures
