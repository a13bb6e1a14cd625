use Rattle.std.proofs.Common.{ℕ, ◌%◌, ◌^◌, ◌∙◌, ap, Some}
use Rattle.client_picture.proofs.CopyCode.{raster_low, raster_low_16}
use Rattle.client_picture.proofs.pixel.over_known.Goals as goal

pub returns-in-Bits24 : goal.returns-in-Bits24
returns-in-Bits24 c = let a = c.args in
    rw c.in-Bits24.is (c.known.ensures ∙ ap Some (c.low.ensures ∙ ap (λ (n : ℕ). n % 2 ^ 24) c.rop3-color.ensures ∙ raster_low a.rop a.pattern a.source a.destination))

pub returns-in-Bits16 : goal.returns-in-Bits16
returns-in-Bits16 c = let a = c.args in
    rw c.in-Bits16.is (c.known-in-Bits16.ensures ∙ ap Some (c.low-in-Bits16.ensures ∙ ap (λ (n : ℕ). n % 65536 % 2 ^ 24) c.rop3-color.ensures ∙ raster_low_16 a.rop a.pattern a.source a.destination))
