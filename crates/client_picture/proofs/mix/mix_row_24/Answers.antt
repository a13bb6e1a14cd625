use Rattle.std.proofs.Common.{◌+◌, ◌∙◌, get_or, pos}
use Rattle.std.specs.Prelude.{Some, None, option_copied}
use Rattle.client_picture.specs.Pictures.{brush_operand}
use Rattle.client_picture.specs.Sources.{texture_color}
use Rattle.client_picture.proofs.CopyCode.{mixed_copied}
use Rattle.client_picture.proofs.mix.mix_row_24.Goals as goal

pub returns-in-Some : goal.returns-in-Some
returns-in-Some c = let p = c.args.part in let mix = c.args.mix in
    rw c.in-Some.is (λ k below. c.copy_row.ensures k below
    ∙ mixed_copied mix.rop (brush_operand (option_copied mix.brush) (pos (p.x + k)) (pos c.args.y)) (Some (texture_color p c.in-Some.texture (p.x + k) c.args.y)) (get_or c.args.row.now k None) c.if-mix-eq-SOURCE_COPY.true)
