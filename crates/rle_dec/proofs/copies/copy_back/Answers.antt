use Rattle.std.proofs.Common.{◌≡◌, ◌≤◌, ◌+◌, ◌-◌, take, ap, ◌∙◌, arith}
use Rattle.std.proofs.lemmas.List.{length-take-le}
use Rattle.std.specs.Prelude.{◌++◌, slice_range}
use Rattle.rle_dec.proofs.Places.{copied_more}
use Rattle.rle_dec.proofs.copies.copy_back.Goals as goal

pub loop-preserved : goal.loop-preserved
loop-preserved c =
    let long = length-take-le c.args.at c.args.out.now (omega (arith, c.requires.room)) in (
      omega (arith, c.loop.invariant.0),
      copied_more c.args.at c.args.from c.loop.done 16 (take c.args.at c.args.out.now) c.loop.out c.copy_chunk.new.out long
          (omega (arith, c.requires.drawn, c.loop.invariant.0, c.loop-test.true)) c.loop.invariant.1 c.copy_chunk.ensures,
    )

pub returns : goal.returns
returns c =
    let long = length-take-le c.args.at c.args.out.now (omega (arith, c.requires.room)) in
    let under : c.loop.done ≤ c.args.n = omega (arith, c.loop.invariant.0, c.loop.auto.counter-end) in
    let all : c.args.n ≡ c.loop.done + (c.args.n - c.loop.done) = omega (arith, under) in
    ap (λ m. take (c.args.at + m) c.copy_rest.new.out) all
    ∙ copied_more c.args.at c.args.from c.loop.done (c.args.n - c.loop.done) (take c.args.at c.args.out.now) c.loop.out c.copy_rest.new.out long
    (omega (arith, c.requires.drawn, under)) c.loop.invariant.1 c.copy_rest.ensures
    ∙ ap (λ m. take c.args.at c.args.out.now ++ slice_range (take c.args.at c.args.out.now) c.args.from (c.args.from + m)) (omega (arith, under))
