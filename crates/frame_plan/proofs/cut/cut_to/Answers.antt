use Rattle.std.proofs.Common.{arith, rules}
use Rattle.std.proofs.lemmas.Int.{ints, to_z-of_z}
use Rattle.frame_plan.proofs.Cutting.{copy_moves, blit_moves, blit3_moves}
use Rattle.frame_plan.proofs.cut.cut_to.Goals as goal

pub returns-in-Copy : goal.returns-in-Copy
returns-in-Copy c =
    copy_moves c.args.area c.args.shape.now c.in-Copy.rect c.in-Copy.rop c.in-Copy.sx c.in-Copy.sy _ _ (search rules)
    (grind (arith, ints, to_z-of_z, c.moved.ensures)) (grind (arith, ints, to_z-of_z, c.moved-in-Copy.ensures)) (search rules)

pub returns-in-Blit : goal.returns-in-Blit
returns-in-Blit c =
    blit_moves c.args.area c.args.shape.now c.in-Blit.rect c.in-Blit.rop c.in-Blit.sx c.in-Blit.sy _ _ (search rules)
    (grind (arith, ints, to_z-of_z, c.moved-in-Blit.ensures)) (grind (arith, ints, to_z-of_z, c.moved-in-Blit-2.ensures)) c.in-Blit.image (search rules)

pub returns-in-Blit3 : goal.returns-in-Blit3
returns-in-Blit3 c =
    blit3_moves c.args.area c.args.shape.now c.in-Blit3.rect c.in-Blit3.rop c.in-Blit3.sx c.in-Blit3.sy _ _ (search rules)
    (grind (arith, ints, to_z-of_z, c.moved-in-Blit3.ensures)) (grind (arith, ints, to_z-of_z, c.moved-in-Blit3-2.ensures)) c.in-Blit3.image c.in-Blit3.brush (search rules)
