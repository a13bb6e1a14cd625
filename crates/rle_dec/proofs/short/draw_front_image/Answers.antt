use Rattle.std.proofs.Common.{◌≡◌, ◌≤◌, ◌*◌, ℕ, List, length, take, drop, ap, subst, ◌∙◌, arith}
use Rattle.std.proofs.lemmas.List.{length-take-le}
use Rattle.px_core.specs.Depth.{bytes_in}
use Rattle.px_core.specs.Pixels.{pixels_of}
use Rattle.px_core.proofs.Pixels.{length-pixels_of}
use Rattle.rle_dec.proofs.Steps.{front_drawn}
use Rattle.rle_dec.proofs.short.draw_front_image.Goals as goal

pub draw_image-requires : goal.draw_image-requires
draw_image-requires c =
    let front = c.in-Some.ensures.cases in
    let size : length c.in-Some.image.now ≡ bytes_in c.args.depth * c.args.n = ap length front.1 ∙ length-take-le c.size_of.result c.args.bytes.now front.0 ∙ c.size_of.ensures in
    let few : length (pixels_of c.args.depth c.in-Some.image.now) ≡ c.args.n = length-pixels_of c.args.depth c.args.n c.in-Some.image.now size in
    omega (arith, few, c.requires.room)

pub returns-in-Some-clause-drawn : goal.returns-in-Some-clause-drawn
returns-in-Some-clause-drawn c =
    let front = c.in-Some.ensures.cases in
    let bytes : List ℕ = c.args.bytes.now in
    let long : bytes_in c.args.depth * c.args.n ≤ length bytes = subst (λ (n : ℕ). n ≤ length bytes) c.size_of.ensures front.0 in (
      long,
      front.2 ∙ ap (λ (n : ℕ). drop n bytes) c.size_of.ensures,
      front_drawn c.args.depth c.args.at c.draw_image.result c.args.n c.args.out.now c.draw_image.new.out bytes c.in-Some.image.now c.requires.room long (front.1 ∙ ap (λ (n : ℕ). take n bytes) c.size_of.ensures) (omega (arith, c.draw_image.ensures.within, c.draw_image.auto.out)) c.draw_image.ensures.drawn,
    )
