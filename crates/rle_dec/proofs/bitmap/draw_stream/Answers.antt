use Rattle.std.proofs.Common.{◌≡◌, ◌-◌, ◌≤◌, ◌∙◌, ℕ, List, [], length, take, sym, ap, Ok, arith}
use Rattle.std.proofs.lemmas.Bool.Decides.{nat_tests}
use Rattle.std.proofs.lemmas.List.{length-take-le, take_all}
use Rattle.run_lengths.specs.declared.codes.Before.TheVariants.{Other}
use Rattle.run_lengths.specs.RunLength.{Drawn, run_orders_in}
use Rattle.rle_dec.specs.Drawing.{drawn_rest, drawn_whole}
use Rattle.rle_dec.proofs.Progress.{all_drawn, orders_end_late}
use Rattle.rle_dec.proofs.bitmap.draw_stream.Goals as goal

pub loop-at-init : goal.loop-at-init
loop-at-init c =
    let none : length c.args.out.now - 0 ≡ length c.args.out.now = omega arith in
    let start : ℕ → Drawn = λ f. record { count = 0; foreground = f; before = Other } in (
      omega arith,
      omega arith,
      ap (λ n. drawn_rest c.args.w (start c.white-foreground.result) [] (run_orders_in c.args.depth n c.args.bytes.now)) none
          ∙ ap (λ f. drawn_rest c.args.w (start f) [] (run_orders_in c.args.depth (length c.args.out.now) c.args.bytes.now)) c.white-foreground.ensures,
    )

pub returns-then-is_empty-clause-ok : goal.returns-then-is_empty-clause-ok
returns-then-is_empty-clause-ok c =
    let p : List ℕ = take c.loop-at.at c.loop-at.out in
    let count : ℕ = length c.loop-at.out in
    let long : length p ≡ c.loop-at.at = length-take-le c.loop-at.at c.loop-at.out c.loop-at.invariant.1 in
    let all : count ≤ length p = omega (arith, long, c.loop-at-test.false) in
    let none : length c.loop-at.stream.now ≡ 0 = grind (arith, nat_tests, c.is_empty.ensures, c.if-is_empty.true) in
    let d : Drawn = record { count = length p; foreground = c.loop-at.foreground; before = c.loop-at.before } in
    ap Ok (sym (take_all c.loop-at.at c.loop-at.out (omega (arith, c.loop-at-test.false))))
    ∙ all_drawn c.args.depth c.args.w count d p c.loop-at.stream.now (drawn_whole c.args.depth c.args.w count c.args.bytes.now) all none c.loop-at.invariant.2
    ∙ ap (λ n. drawn_whole c.args.depth c.args.w n c.args.bytes.now) c.loop-at.auto.out

pub returns-else-is_empty-clause-refused : goal.returns-else-is_empty-clause-refused
returns-else-is_empty-clause-refused c =
    let p : List ℕ = take c.loop-at.at c.loop-at.out in
    let count : ℕ = length c.loop-at.out in
    let long : length p ≡ c.loop-at.at = length-take-le c.loop-at.at c.loop-at.out c.loop-at.invariant.1 in
    let all : count ≤ length p = omega (arith, long, c.loop-at-test.false) in
    let some : 1 ≤ length c.loop-at.stream.now = grind (arith, nat_tests, c.is_empty.ensures, c.if-is_empty.false) in
    let d : Drawn = record { count = length p; foreground = c.loop-at.foreground; before = c.loop-at.before } in
    sym (orders_end_late c.args.depth c.args.w count d p c.loop-at.stream.now all some) ∙ c.loop-at.invariant.2 ∙ ap (λ n. drawn_whole c.args.depth c.args.w n c.args.bytes.now) c.loop-at.auto.out
