use Rattle.std.proofs.Common.{◌≡◌, ◌∙◌, ap, sym, subst, arith, w32, to_z, of_z, length}
use Rattle.std.proofs.lemmas.Grind.{common_steps}
use Rattle.std.proofs.lemmas.Int.{to_z-of_z}
use Rattle.draw_ops.specs.Drawing.{state_after_drawings}
use Rattle.draw_ops.specs.Formulas.{joint_of}
use Rattle.session_rules.specs.Pending.{run_glyphs}
use Rattle.session_core.specs.Cells.{cells_along, ArePlain}
use Rattle.session_core.proofs.TextShown.{plain_after, run_length, run_plain, plain_text}
use Rattle.session_core.proofs.ShownLemmas.{rules_as, slots_as, pat_brush, blit3_brush, line_ends, line_is, text_is, all_there}
use Rattle.session_core.proofs.shown.shown_at.Goals as goal

pub brush_after-requires-clause-slot : goal.brush_after-requires-clause-slot
brush_after-requires-clause-slot c =
    let st = state_after_drawings c.args.surface.now.size c.args.surface.now.state c.args.before.now in
    pat_brush c.args.surface.now.size c.args.d.now.clip c.in-Pat.rect c.in-Pat.rop c.in-Pat.brush (rules_as c.args.surface.now.size st c.args.d.now _ c.requires.fits c.in-Pat.is)

pub brush_after-requires-in-Blit3-clause-slot : goal.brush_after-requires-in-Blit3-clause-slot
brush_after-requires-in-Blit3-clause-slot c =
    let st = state_after_drawings c.args.surface.now.size c.args.surface.now.state c.args.before.now in
    blit3_brush c.args.surface.now.size c.args.d.now.clip c.in-Blit3.rect c.in-Blit3.rop c.in-Blit3.image c.in-Blit3.sx c.in-Blit3.sy c.in-Blit3.brush (rules_as c.args.surface.now.size st c.args.d.now _ c.requires.fits c.in-Blit3.is)

pub run_rect-rect-requires-clause-each : goal.run_rect-rect-requires-clause-each
run_rect-rect-requires-clause-each c =
    let st = state_after_drawings c.args.surface.now.size c.args.surface.now.state c.args.before.now in
    let full = all_there _ (slots_as c.args.surface.now.size st c.args.d.now _ c.requires.fits c.in-Text.is) in
    ap length (c.deref.ensures.value ∙ c.in_ok-glyphs-in-Text.ensures) ∙ ap (λ run. length (run_glyphs st.glyphs c.in-Text.font run)) c.pairs.ensures ∙ run_length st.glyphs c.in-Text.font _ full ∙ sym (ap length c.pairs-in-Text.ensures)

pub run_rect-rect-requires-clause-plain : goal.run_rect-rect-requires-clause-plain
run_rect-rect-requires-clause-plain c =
    let st = state_after_drawings c.args.surface.now.size c.args.surface.now.state c.args.before.now in
    let full = all_there _ (slots_as c.args.surface.now.size st c.args.d.now _ c.requires.fits c.in-Text.is) in
    subst ArePlain (sym (c.deref.ensures.value ∙ c.in_ok-glyphs-in-Text.ensures ∙ ap (run_glyphs st.glyphs c.in-Text.font) c.pairs.ensures))
    (run_plain st.glyphs c.in-Text.font _ (plain_after c.args.surface.now.size c.args.before.now c.args.surface.now.state c.requires.before c.recall_sound.ensures.glyphs) full)

pub run_rect-rect-requires-clause-pen : goal.run_rect-rect-requires-clause-pen
run_rect-rect-requires-clause-pen c =
    let st = state_after_drawings c.args.surface.now.size c.args.surface.now.state c.args.before.now in
    let ex : to_z w32 (of_z w32 c.in-Text.x) ≡ c.in-Text.x = grind (arith, common_steps, to_z-of_z) in
    let ey : to_z w32 (of_z w32 c.in-Text.y) ≡ c.in-Text.y = grind (arith, common_steps, to_z-of_z) in
    let text = plain_text c.args.surface.now.size c.args.d.now.clip c.in-Text.x c.in-Text.y c.in-Text.color c.in-Text.font c.in-Text.run' (rules_as c.args.surface.now.size st c.args.d.now _ c.requires.fits c.in-Text.is) in
    rw (ex, ey, c.pairs-in-Text.ensures) text.pen

pub returns-in_ok-glyphs-in-Text : goal.returns-in_ok-glyphs-in-Text
returns-in_ok-glyphs-in-Text c =
    let st = state_after_drawings c.args.surface.now.size c.args.surface.now.state c.args.before.now in
    let ex : to_z w32 (of_z w32 c.in-Text.x) ≡ c.in-Text.x = grind (arith, common_steps, to_z-of_z) in
    let ey : to_z w32 (of_z w32 c.in-Text.y) ≡ c.in-Text.y = grind (arith, common_steps, to_z-of_z) in
    let full = all_there _ (slots_as c.args.surface.now.size st c.args.d.now _ c.requires.fits c.in-Text.is) in
    let glyphs = c.in_ok-glyphs-in-Text.ensures ∙ ap (run_glyphs st.glyphs c.in-Text.font) c.pairs.ensures in
    text_is c.args.surface.now.size st c.args.d.now c.with_glyphs.result c.in-Text.x c.in-Text.y _ c.in-Text.font _ c.run_rect-rect.result c.in_ok-glyphs-in-Text.glyphs.items c.in-Text.is full
    (c.run_rect-rect.ensures.rect ∙ (λ i. joint_of (cells_along ((c.deref.ensures.value ∙ glyphs) i) (c.pairs-in-Text.ensures i) (ex i) (ey i)))) glyphs
    (c.with_glyphs.ensures.rect c.args.d.now.shape) c.with_glyphs.ensures.image c.with_glyphs.ensures.brush c.with_glyphs.ensures.glyphs

pub returns-in-Line : goal.returns-in-Line
returns-in-Line c =
    let size = c.args.surface.now.size in
    let st = state_after_drawings size c.args.surface.now.state c.args.before.now in
    let l = c.in-Line in
    line_is size st c.args.d.now l.x0 l.y0 l.x1 l.y1 l.color l.is (line_ends size c.args.d.now.clip l.x0 l.y0 l.x1 l.y1 l.color (rules_as size st c.args.d.now _ c.requires.fits l.is))
