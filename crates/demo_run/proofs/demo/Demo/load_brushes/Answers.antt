use Rattle.std.proofs.Common.{◌≡◌, ◌∙◌, ◌+◌, ◌++◌, ap, arith}
use Rattle.px_core.specs.Picture.{listed}
use Rattle.script_rules.specs.Script.{without_preset}
use Rattle.script_lines.specs.Keywords.{step_of}
use Rattle.demo_run.specs.Scene.{draw_by, brush_load}
use Rattle.demo_run.proofs.Loops.{listed_on}
use Rattle.demo_run.proofs.demo.Demo.load_brushes.Goals as goal

pub loop-slot-preserved : goal.loop-slot-preserved
loop-slot-preserved c = λ done s.
    let i = c.loop-slot.slot in
    let first : i ≡ 0 + i = omega arith in
    listed_on c.ask.new.self (λ slot. draw_by 1 (brush_load slot)) i 0 _ done
    (ap (λ v. without_preset (step_of v c.draw.result.step)) c.draw.ensures.viewer
    ∙ (ap without_preset c.draw.ensures.value ∙ (ap (draw_by 1) c.in_ok-brush_load.ensures.value ∙ ap (λ k. draw_by 1 (brush_load k)) first)))
    (c.in_ok-ask.ensures (done ++ listed i 0 (λ slot. draw_by 1 (brush_load slot))) (c.loop-slot.invariant done s))
