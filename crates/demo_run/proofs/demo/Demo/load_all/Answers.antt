use Rattle.std.proofs.Common.{List, ◌++◌, ◌∙◌, append_assoc, subst}
use Rattle.px_core.specs.Picture.{listed}
use Rattle.script_rules.specs.Script.{Asked}
use Rattle.demo_run.specs.Scene.{draw_by, image_load, brush_load, glyph_load}
use Rattle.demo_run.specs.Standing.{Stands}
use Rattle.demo_run.proofs.Asked.{on_ok}
use Rattle.demo_run.proofs.demo.Demo.load_all.Goals as goal

pub returns : goal.returns
returns c =
    let images : List Asked = listed 8 0 (λ slot. draw_by 1 (image_load slot)) in
    let brushes : List Asked = listed 4 0 (λ slot. draw_by 1 (brush_load slot)) in
    let glyphs : List Asked = listed 8 0 (λ code. draw_by 1 (glyph_load code)) in
    on_ok c.load_glyphs.result (λ more done s.
    subst (λ xs. Stands xs c.load_glyphs.new.self) (append_assoc (done ++ images) brushes glyphs ∙ append_assoc done images (brushes ++ glyphs))
    (more ((done ++ images) ++ brushes) (c.in_ok-load_brushes.ensures (done ++ images) (c.in_ok-load_images.ensures done s)))) c.load_glyphs.ensures
