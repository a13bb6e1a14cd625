use Rattle.std.proofs.Common.{◌++◌, ◌∙◌, ap, sym, arith, take}
use Rattle.std.specs.Prelude.{option_to_list}
use Rattle.draw_ops.specs.Drawing.{state_after_drawings}
use Rattle.session_rules.specs.Pending.{run_glyphs}
use Rattle.session_core.proofs.TextShown.{run_more}
use Rattle.session_core.proofs.slots.glyphs_after.Goals as goal

pub loop-pair-preserved : goal.loop-pair-preserved
loop-pair-preserved c =
    let st = state_after_drawings c.args.surface.now.size c.args.surface.now.state c.args.before.now in
    let so_far = run_glyphs st.glyphs c.args.font (take c.loop-pair.pair-index c.args.pairs.now) in
    c.in_ok-push_glyph.ensures ∙ ap (λ xs. xs ++ option_to_list c.in_ok-glyph.glyph) c.loop-pair.invariant ∙ ap (λ o. so_far ++ option_to_list o) c.in_ok-glyph.ensures
    ∙ sym (run_more st.glyphs c.args.font c.args.pairs.now c.loop-pair.pair-index (omega arith))
