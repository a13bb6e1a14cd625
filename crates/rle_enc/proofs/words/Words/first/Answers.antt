use Rattle.std.proofs.Common.{suc, ◌≡◌, ◌+◌, ◌<◌, ◌∙◌, sym, arith}
use Rattle.std.specs.Int.{bit_at}
use Rattle.rle_enc.proofs.Telling.{bit_past, none_of_both, some_of_both}
use Rattle.rle_enc.proofs.words.Words.first.Goals as goal

pub returns : goal.returns
returns c =
    let alone = c.zeros-alone.result in
    let background = c.ones-background.result in
    let color = c.ones-color.result in
    let background_short : alone + background < c.args.self.left = omega (arith, c.if-alone-max.false, c.max.ensures) in
    let color_short : alone + suc color < c.args.self.left = omega (arith, c.if-alone-max.false, c.max.ensures) in
    let background_ends : bit_at c.args.self.same (alone + background) ≡ 0 = sym (bit_past c.args.self.same alone background) ∙ c.ones-background.ensures.stops (omega (arith, background_short, c.requires)) in
    let color_ends : bit_at c.args.self.next (alone + color) ≡ 0 = sym (bit_past c.args.self.next alone color) ∙ c.ones-color.ensures.stops (omega (arith, color_short, c.requires)) in
    record {
      alone = λ k below. none_of_both c.args.self.same c.args.self.next k (c.zeros-alone.ensures.zeros k below);
      some = some_of_both c.args.self.same c.args.self.next alone background color (c.zeros-alone.ensures.stops (omega (arith, c.if-alone-self.false, c.requires))) background_ends color_ends;
      background = λ k below. sym (bit_past c.args.self.same alone k) ∙ c.ones-background.ensures.ones k below;
      background_ends = background_ends;
      color = λ k below. sym (bit_past c.args.self.next alone k) ∙ c.ones-color.ensures.ones k below;
      color_ends = color_ends;
      background_within = background_short;
      color_within = color_short;
    }
