use Rattle.std.proofs.Common.{◌≡◌, ◌∙◌, ap, length, arith}
use Rattle.px_core.specs.Pixels.{pixels_bytes}
use Rattle.px_core.proofs.Pixels.{length-pixels_bytes}
use Rattle.std.proofs.lemmas.Grind.{common_steps}
use Rattle.rle_enc.proofs.data.raw_bytes.Goals as goal

pub returns-clause-number : goal.returns-clause-number
returns-clause-number c =
    let value : c.put_pixels.new.out.items ≡ pixels_bytes c.args.depth c.args.pixels.now = grind (arith, common_steps) in
    ap length value ∙ length-pixels_bytes c.args.depth c.args.pixels.now
