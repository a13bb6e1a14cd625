use Rattle.std.proofs.Common.{◌≡◌, ◌∷◌, [], ℕ, drop, false, arith, add-one, ap, refl, subst, sym, ◌∙◌}
use Rattle.std.specs.Option.{option_to_list}
use Rattle.edge_io.specs.Faults.{Rose}
use Rattle.edge_io.specs.Plan.{CallPlan, next_fails}
use Rattle.edge_io.specs.PlannedDial.{PlannedDial}
use Rattle.edge_io.proofs.Gates.{IsNext, first_is_next}
use Rattle.edge_io.proofs.mem_dial.MemDialDial.dial.Goals as goal

pub invariant_of-self-in-Some : goal.invariant_of-self-in-Some
invariant_of-self-in-Some c =
    let first : drop c.self.inside.given c.self.inside.links.items ≡ c.in-Some.link ∷ [] = sym c.self.invariant.2 ∙ ap option_to_list (sym c.in-Some.ensures.value) in
    let next : IsNext c.self.inside.links.items [] c.in-Some.link c.self.inside.given = first_is_next _ _ _ _ first in
    (omega (arith, next.inside), c.self.invariant.1, ap option_to_list c.in-Some.ensures.after ∙ rw add-one next.waiting, omega (arith, c.self.invariant.3))

pub returns-in-None-clause-cause : goal.returns-in-None-clause-cause
returns-in-None-clause-cause c =
    let fails : next_fails c.self.inside.plan ≡ false = sym c.fails_now.ensures.answer ∙ c.if-fails_now.false in
    let same : c.fails_now.new.self.faults ≡ c.self.inside.plan.faults = ap (λ (p : CallPlan). p.faults) c.fails_now.ensures.after ∙ rw fails refl in
    let view : c.self.inside.plan.faults ≡ c.args.self.now.plan.faults = ap (λ (d : PlannedDial). d.plan.faults) c.self.view_is in
    subst (λ (n : ℕ). Rose n c.count_fault.new.self.faults) (same ∙ view) c.count_fault.ensures.rose
