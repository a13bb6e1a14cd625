use Rattle.std.specs.Prelude.{List, ◌++◌}
use Rattle.px_core.specs.Picture.{listed}
use Rattle.script_rules.specs.Script.{Asked}
use Rattle.demo_run.specs.Scene.{draw_by, brush_load}
use Rattle.demo_run.specs.Standing.{Stands}
use Rattle.demo_run.proofs.demo.Demo.load_brushes.Given as goal

-- it stands for so many loads
abbrev pub invariant-loop-slot : goal.invariant-loop-slot
invariant-loop-slot l = (done : List Asked) → Stands done l.fn.self → Stands (done ++ listed l.slot 0 (λ slot. draw_by 1 (brush_load slot))) l.self
