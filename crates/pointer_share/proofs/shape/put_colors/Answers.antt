use Rattle.pointer_share.proofs.Eight.{eight}
use Rattle.pointer_share.proofs.shape.put_colors.Goals as goal

pub returns : goal.returns
returns c = eight _ _ _ _ _ _ _ _ _ _ _ _ _ _ _ _ _
    c.in_ok-put_row.ensures c.in_ok-put_row-2.ensures c.in_ok-put_row-3.ensures c.in_ok-put_row-4.ensures c.in_ok-put_row-5.ensures c.in_ok-put_row-6.ensures c.in_ok-put_row-7.ensures c.in_ok-put_row-8.ensures
