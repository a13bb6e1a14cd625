use Rattle.std.specs.Prelude.{List, ◌++◌}
use Rattle.px_core.specs.Picture.{listed}
use Rattle.script_rules.specs.Script.{Asked}
use Rattle.demo_run.specs.Scene.{draw_by, glyph_load}
use Rattle.demo_run.specs.Standing.{Stands}
use Rattle.demo_run.proofs.demo.Demo.load_glyphs.Given as goal

-- it stands for so many loads
abbrev pub invariant-loop-code : goal.invariant-loop-code
invariant-loop-code l = (done : List Asked) → Stands done l.fn.self → Stands (done ++ listed l.code 0 (λ code. draw_by 1 (glyph_load code))) l.self
