use Rattle.std.proofs.Common.{◌≡◌, ◌+◌, ◌++◌, ap, subst, arith}
use Rattle.px_core.specs.Picture.{listed}
use Rattle.session_rules.specs.Steps.Step.{TakeStep}
use Rattle.script_rules.specs.Script.{without_preset}
use Rattle.demo_run.specs.Standing.{Stands}
use Rattle.demo_run.proofs.Loops.{listed_on}
use Rattle.demo_run.proofs.demo.Demo.take_all.Goals as goal

pub loop-i-preserved : goal.loop-i-preserved
loop-i-preserved c = λ done s.
    let i = c.loop-i.i in
    let number : i + 1 ≡ 1 + i = omega arith in
    listed_on c.ask.new.self (λ v. without_preset (TakeStep v)) i 1 (without_preset (TakeStep (i + 1))) done (ap (λ v. without_preset (TakeStep v)) number)
    (c.in_ok-ask.ensures (done ++ listed i 1 (λ v. without_preset (TakeStep v))) (c.loop-i.invariant done s))

pub returns : goal.returns
returns c = λ done s.
    let end : c.loop-i.i ≡ 16 = omega arith in
    subst (λ n. Stands (done ++ listed n 1 (λ v. without_preset (TakeStep v))) c.loop-i.self) end (c.loop-i.invariant done s)
