use Rattle.std.proofs.Common.{◌≡◌, ◌∙◌, ap, subst}
use Rattle.std.specs.Prelude.{Err}
use Rattle.draw_ops.specs.Fits.{slot_misfit}
use Rattle.surface_parts.specs.declared.fault.DrawFault.TheVariants.{OutOfMemory}
use Rattle.surface_parts.specs.Refused.{misfit_said}
use Rattle.session_core.proofs.SlotMisfits.{no_rule_of_slots}
use Rattle.session_core.proofs.fit.fit.Goals as goal

pub unreachable-requires : goal.unreachable-requires
unreachable-requires c =
    let said : misfit_said (Err OutOfMemory) ≡ slot_misfit c.args.surface.now.size c.args.surface.now.state c.args.d.now.shape =
    subst (λ r. misfit_said r ≡ slot_misfit c.args.surface.now.size c.args.surface.now.state c.args.d.now.shape)
    (c.in-Err-OutOfMemory.is ∙ ap Err c.in-Err-OutOfMemory.field-0-is) c.fit.ensures in
    no_rule_of_slots c.args.surface.now.size c.args.surface.now.state c.args.d.now.shape 0 said
