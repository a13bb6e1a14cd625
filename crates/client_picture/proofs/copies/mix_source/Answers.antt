use Rattle.std.proofs.Common.{◌∙◌, get_or}
use Rattle.std.specs.Prelude.{Some, None}
use Rattle.client_picture.proofs.CopyCode.{mixed_copied}
use Rattle.client_picture.proofs.copies.mix_source.Goals as goal

pub returns-in-Bits24 : goal.returns-in-Bits24
returns-in-Bits24 c = rw c.in-Bits24.is (λ k below.
    c.copy_pixels.ensures k below ∙ mixed_copied c.args.rop (Some 0) (get_or c.args.source.now k None) (get_or c.args.row.now k None) c.if-rop-eq-SOURCE_COPY.true)
