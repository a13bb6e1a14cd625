use Rattle.std.proofs.Common.{◌<◌, ◌∙◌, length, ap, sym, arith}
use Rattle.draw_ops.specs.declared.shape.Drawing.{Drawing}
use Rattle.draw_ops.specs.Slots.{lookup}
use Rattle.session_core.specs.Filled.{sides_saved}
use Rattle.session_core.proofs.LastFilling as filling
use Rattle.session_core.proofs.slots.block_sides.Goals as goal

pub returns-in-Some : goal.returns-in-Some
returns-in-Some c =
    let st = c.args.surface.now.state in
    let room : c.args.slot < length st.blocks = omega (arith, c.requires, c.recall_sound.ensures.block_slots) in
    c.saved_sides.ensures ∙ ap (λ (d : Drawing). sides_saved d.shape) (sym c.index-before-i.is) ∙ sym (filling.block_after c.args.surface.now.size c.args.slot st c.args.before.now c.in-Some.i c.index-before-i.result room
    (sym c.last_filling.ensures.place ∙ c.in-Some.is) c.index-before-i.is)

pub returns-in-None : goal.returns-in-None
returns-in-None c = c.block_sides.ensures ∙ filling.sides_mapped (lookup c.args.slot c.args.surface.now.state.blocks)
    ∙ sym (filling.block_before c.args.surface.now.size c.args.slot c.args.surface.now.state c.args.before.now (sym c.last_filling.ensures.place ∙ c.in-None.is))
