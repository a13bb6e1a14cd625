-- The three rounds of choices are the operation on whole words.
use Rattle.std.proofs.Common.{◌≡◌, ap, get_or}
use Rattle.rop3_core.specs.Masks.{mask}
use Rattle.rop3_core.proofs.WholeWords.{raster_by_words, words_of}
use Rattle.rop3_core.proofs.masks.Masks.mixed.Goals as goal

pub returns : goal.returns
returns c =
    let words : words_of (λ i. get_or c.args.self.now.words i 0) c.args.p c.args.s c.args.d ≡ words_of (mask c.args.self.now.code) c.args.p c.args.s c.args.d
    = ap (λ w. words_of (λ i. get_or w i 0) c.args.p c.args.s c.args.d) c.args.self.now.of_code in
    let law = raster_by_words c.args.self.now.code c.args.p c.args.s c.args.d in
    cc (words, law)
