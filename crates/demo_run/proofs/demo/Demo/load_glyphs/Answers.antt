use Rattle.std.proofs.Common.{◌≡◌, ◌∙◌, ◌+◌, ◌++◌, ap, arith}
use Rattle.px_core.specs.Picture.{listed}
use Rattle.script_rules.specs.Script.{without_preset}
use Rattle.script_lines.specs.Keywords.{step_of}
use Rattle.demo_run.specs.Scene.{draw_by, glyph_load}
use Rattle.demo_run.proofs.Loops.{listed_on}
use Rattle.demo_run.proofs.demo.Demo.load_glyphs.Goals as goal

pub loop-code-preserved : goal.loop-code-preserved
loop-code-preserved c = λ done s.
    let i = c.loop-code.code in
    let first : i ≡ 0 + i = omega arith in
    listed_on c.ask.new.self (λ code. draw_by 1 (glyph_load code)) i 0 _ done
    (ap (λ v. without_preset (step_of v c.draw.result.step)) c.draw.ensures.viewer
    ∙ (ap without_preset c.draw.ensures.value ∙ (ap (draw_by 1) c.in_ok-glyph_load.ensures.value ∙ ap (λ k. draw_by 1 (glyph_load k)) first)))
    (c.in_ok-ask.ensures (done ++ listed i 0 (λ code. draw_by 1 (glyph_load code))) (c.loop-code.invariant done s))
