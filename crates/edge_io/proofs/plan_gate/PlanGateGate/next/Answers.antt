use Rattle.std.proofs.Common.{◌≡◌, ◌+◌, ◌∷◌, ◌++◌, [], length, take, false, rules, arith, add-one, ◌∙◌, sym}
use Rattle.std.proofs.lemmas.List.{length-take}
use Rattle.edge_io.specs.Plan.{next_fails}
use Rattle.edge_io.proofs.Gates.{IsNext, first_is_next, after_link}
use Rattle.edge_io.proofs.plan_gate.PlanGateGate.next.Goals as goal
use Rattle.std.proofs.lemmas.Grind.{common_steps}

pub invariant_of-self-in-Some : goal.invariant_of-self-in-Some
invariant_of-self-in-Some c =
    let next : IsNext c.self.inside.links.items c.pop_front.new.self.items c.in-Some.link c.self.inside.given =
    first_is_next _ _ _ _ (sym (c.self.invariant.2) ∙ c.in-Some.ensures.items) in
    (omega (arith, next.inside), c.self.invariant.1, rw add-one next.waiting, omega (arith, c.self.invariant.3))

pub returns-in-Some-clause-after : goal.returns-in-Some-clause-after
returns-in-Some-clause-after c =
    let links = c.self.inside.links.items in
    let next : IsNext links c.pop_front.new.self.items c.in-Some.link c.self.inside.given =
    first_is_next _ _ _ _ (sym (c.self.invariant.2) ∙ c.in-Some.ensures.items) in
    let fails : next_fails c.self.inside.plan ≡ false = sym c.fails_now.ensures.answer ∙ c.if-fails_now.false in
    let ended : c.self.inside.ended ≡ false = search rules in
    let count : c.self.inside.given ≡ length (take c.self.inside.given links) = omega (arith, length-take c.self.inside.given links, c.self.invariant.0) in
    let handed : take (c.self.inside.given + 1) links ≡ take c.self.inside.given links ++ c.in-Some.link ∷ [] = rw add-one next.handed in
    rw (← c.self.view_is)
    (after_link _ _ _ _ _ _ c.fails_now.ensures.after fails ended count (sym c.has_room.ensures ∙ c.if-has_room.true) c.in-Some.ensures.items handed)

pub returns-clause-ended : goal.returns-clause-ended
returns-clause-ended c = search rules

pub returns-clause-after : goal.returns-clause-after
returns-clause-after c = search rules

pub returns-in-Some-clause-given : goal.returns-in-Some-clause-given
returns-in-Some-clause-given c = grind (arith, common_steps)
