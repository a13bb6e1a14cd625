use Rattle.std.proofs.Common.{◌≡◌, List, ℕ, length, take, sym, subst, ◌∙◌, arith}
use Rattle.std.proofs.lemmas.Bool.Decides.{nat_tests}
use Rattle.std.proofs.lemmas.List.{take_rest}
use Rattle.std.proofs.lemmas.Result.{err_from_is_err_and}
use Rattle.conn_core.specs.Stream.{hearing, IsStanding}
use Rattle.conn_core.proofs.Part.{over_silence, stands_after}
use Rattle.conn_core.proofs.Loop.{HearsSoFar, hears_more, hears_all, hears_some, hears_end}
use Rattle.conn_core.proofs.hear.hear.Goals as goal

pub returns-then-is_over-clause-heard : goal.returns-then-is_over-clause-heard
returns-then-is_over-clause-heard c =
    let s = c.loop-left.invariant in
    let over = sym c.is_over.ensures ∙ c.if-is_over.true in
    (hears_all _ _ _ _ _ _ _ _ s.so_far (over_silence _ _ s.standing over)).0

pub returns-then-is_over-clause-appended : goal.returns-then-is_over-clause-appended
returns-then-is_over-clause-appended c =
    let s = c.loop-left.invariant in
    let over = sym c.is_over.ensures ∙ c.if-is_over.true in
    (hears_all _ _ _ _ _ _ _ _ s.so_far (over_silence _ _ s.standing over)).1

pub returns-in_err-n-clause-memory : goal.returns-in_err-n-clause-memory
returns-in_err-n-clause-memory c =
    let p = err_from_is_err_and c.from_residual.result c.from_residual.ensures.1 in
    rw p.1 (hears_some _ _ _ _ _ _ _ _ _ _ c.loop-left.invariant.so_far c.in_err-n.ensures.memory)

pub loop-left-preserved : goal.loop-left-preserved
loop-left-preserved c =
    let s = c.loop-left.invariant in
    let e = c.in_ok-n.ensures.heard in
    let more = hears_more _ _ _ _ _ _ _ _ _ _ c.in_ok-n.n _ s.so_far e c.in_ok-n.ensures.appended in
    let stands = stands_after (hearing c.loop-left.talk c.loop-left.part.items) (take c.in_ok-n.n c.loop-left.left.now) s.standing.wide s.standing.high in
    record {
      so_far = subst (λ (left : List ℕ). HearsSoFar (hearing c.args.talk.now c.args.part.now.items) c.args.bytes.now (hearing c.hear_some.new.talk c.hear_some.new.part.items) left
          c.args.out.now.items c.hear_some.new.out.items c.args.steps.now.items c.hear_some.new.steps.items)
          (sym (take_rest c.loop-left.left.now c.in_ok-n.n)) more;
      standing = subst IsStanding (sym e) stands;
      size = c.in_ok-n.ensures.size ∙ s.size;
    }

pub returns-clause-heard : goal.returns-clause-heard
returns-clause-heard c =
    let s = c.loop-left.invariant in
    let test = c.loop-left-test.false in
    let empty = c.is_empty.ensures in
    let none : length c.loop-left.left.now ≡ 0 = grind (arith, nat_tests, test, empty) in
    (hears_all _ _ _ _ _ _ _ _ s.so_far (hears_end _ _ none s.standing)).0

pub returns-clause-appended : goal.returns-clause-appended
returns-clause-appended c =
    let s = c.loop-left.invariant in
    let test = c.loop-left-test.false in
    let empty = c.is_empty.ensures in
    let none : length c.loop-left.left.now ≡ 0 = grind (arith, nat_tests, test, empty) in
    (hears_all _ _ _ _ _ _ _ _ s.so_far (hears_end _ _ none s.standing)).1
