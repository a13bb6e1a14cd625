use Rattle.std.proofs.Common.{◌≡◌, refl, subst}
use Rattle.std.specs.Prelude.{true, ◌||◌, is_some, IfOk}
use Rattle.session_core.specs.Showing.{image_shown, brush_shown}
use Rattle.session_core.specs.declared.about.About.{About}
use Rattle.session_core.specs.About.{held_in}
use Rattle.session_core.proofs.ShownLemmas.{slots_are}
use Rattle.session_core.proofs.shown.shown_slots.Goals as goal

pub returns : goal.returns
returns c =
    let st = c.args.surface.now.state in
    let d = c.args.d.now in
    slots_are c.args.surface.now.size st d c.with_slots.result d.shape refl
    (subst (λ (a : About). (is_some a.image || is_some a.brush) ≡ true) c.requires.about c.requires.some)
    c.with_slots.ensures.rect
    (subst (λ (a : About). IfOk c.with_slots.result (λ shown. image_shown shown ≡ held_in a.image st.images)) c.requires.about
    (subst (λ image. IfOk c.with_slots.result (λ shown. image_shown shown ≡ image)) c.in_ok-image.ensures c.with_slots.ensures.image))
    (subst (λ (a : About). IfOk c.with_slots.result (λ shown. brush_shown shown ≡ held_in a.brush st.brushes)) c.requires.about
    (subst (λ brush. IfOk c.with_slots.result (λ shown. brush_shown shown ≡ brush)) c.in_ok-brush.ensures c.with_slots.ensures.brush))
    c.with_slots.ensures.glyphs
