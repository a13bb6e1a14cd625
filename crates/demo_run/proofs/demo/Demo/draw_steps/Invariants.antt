use Rattle.std.specs.Prelude.{List, ◌-◌}
use Rattle.script_rules.specs.Script.{Asked}
use Rattle.demo_run.specs.Numbers.{generator_of}
use Rattle.demo_run.specs.Standing.{Stands}
use Rattle.demo_run.proofs.Loops.{Reaches}
use Rattle.demo_run.proofs.demo.Demo.draw_steps.Given as goal

-- it stands for the steps so far, and the others are ahead
abbrev pub invariant-loop-i : goal.invariant-loop-i
invariant-loop-i l = (done : List Asked) → Stands done l.fn.self → Reaches done (generator_of l.fn.seed) l.fn.steps (l.fn.steps - l._i) l.words l.self
