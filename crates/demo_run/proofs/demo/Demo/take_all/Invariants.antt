use Rattle.std.specs.Prelude.{List, ◌++◌}
use Rattle.px_core.specs.Picture.{listed}
use Rattle.session_rules.specs.Steps.Step.{TakeStep}
use Rattle.script_rules.specs.Script.{Asked, without_preset}
use Rattle.demo_run.specs.Standing.{Stands}
use Rattle.demo_run.proofs.demo.Demo.take_all.Given as goal

-- it stands for so many takes
abbrev pub invariant-loop-i : goal.invariant-loop-i
invariant-loop-i l = (done : List Asked) → Stands done l.fn.self → Stands (done ++ listed l.i 1 (λ v. without_preset (TakeStep v))) l.self
