use Rattle.std.proofs.Common.{◌<◌, ◌+◌, ◌∙◌, length, ap, sym, arith}
use Rattle.std.proofs.lemmas.Result.{IfOk-weaker}
use Rattle.session_core.specs.Filled.{brush_load}
use Rattle.session_core.proofs.LastFilling as filling
use Rattle.session_core.proofs.slots.brush_after.Goals as goal

pub returns-in-Some : goal.returns-in-Some
returns-in-Some c =
    let st = c.args.surface.now.state in
    let room : c.args.slot < length st.brushes = omega (arith, c.requires.slot, c.recall_sound.ensures.brush_slots) in
    let d = c.index-before-i.result in
    let holds = filling.brush_after c.args.surface.now.size c.args.slot st c.args.before.now c.in-Some.i d room (sym c.last_filling.ensures.place ∙ c.in-Some.is) c.index-before-i.is in
    let number = ap (λ n. brush_load d.shape (n + c.in-Some.i + 1)) c.count.ensures in
    IfOk-weaker c.loaded_brush.result _ _ (λ x h. h ∙ number ∙ sym holds) c.loaded_brush.ensures

pub returns-in-None : goal.returns-in-None
returns-in-None c =
    let holds = filling.brush_before c.args.surface.now.size c.args.slot c.args.surface.now.state c.args.before.now (sym c.last_filling.ensures.place ∙ c.in-None.is) in
    IfOk-weaker c.shared_brush.result _ _ (λ x h. h ∙ c.brush.ensures ∙ sym holds) c.shared_brush.ensures
