use Rattle.std.proofs.Common.{◌<◌, ◌+◌, ◌∙◌, length, ap, sym, arith}
use Rattle.std.proofs.lemmas.Result.{IfOk-weaker}
use Rattle.draw_ops.specs.Slots.{glyph_slot}
use Rattle.session_core.specs.Filled.{glyph_load, last_filling}
use Rattle.session_core.proofs.LastFilling as filling
use Rattle.session_core.proofs.slots.glyph_after.Goals as goal

pub returns-in-Some : goal.returns-in-Some
returns-in-Some c =
    let st = c.args.surface.now.state in
    let room : (glyph_slot c.args.font c.args.code) < length st.glyphs = omega (arith, c.requires.font, c.ranges.code.fits, c.recall_sound.ensures.glyph_slots) in
    let d = c.index-before-i.result in
    let holds = filling.glyph_after c.args.surface.now.size (glyph_slot c.args.font c.args.code) st c.args.before.now c.in-Some.i d room (sym (c.last_filling.ensures.place ∙ ap (λ slot. last_filling slot c.args.before.now) c.glyph_slot.ensures) ∙ c.in-Some.is) c.index-before-i.is in
    let number = ap (λ n. glyph_load d.shape (n + c.in-Some.i + 1)) c.count.ensures in
    IfOk-weaker c.loaded_glyph.result _ _ (λ x h. h ∙ number ∙ sym holds) c.loaded_glyph.ensures

pub returns-in-None : goal.returns-in-None
returns-in-None c =
    let holds = filling.glyph_before c.args.surface.now.size (glyph_slot c.args.font c.args.code) c.args.surface.now.state c.args.before.now (sym (c.last_filling.ensures.place ∙ ap (λ slot. last_filling slot c.args.before.now) c.glyph_slot.ensures) ∙ c.in-None.is) in
    IfOk-weaker c.shared_glyph.result _ _ (λ x h. h ∙ c.glyph.ensures ∙ sym holds) c.shared_glyph.ensures
