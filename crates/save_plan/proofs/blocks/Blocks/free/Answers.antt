-- What is kept is what the filter keeps, and that stands apart as before.
use Rattle.std.proofs.Common.{◌≡◌, ℕ, not, eqb, sym, ap, ◌∙◌, subst, rules}
use Rattle.std.proofs.lemmas.Fn.{filter_same}
use Rattle.save_plan.specs.declared.place.Place.{Place}
use Rattle.save_plan.specs.Blocks.{place_of, without_slot, AreApart}
use Rattle.save_plan.proofs.Apart.{without_is_filter, apart_without, none_after, without_none}
use Rattle.save_plan.proofs.blocks.Blocks.free.Goals as goal

kept : (c : goal.After-retain) → c.retain.new.self.items ≡ without_slot c.args.slot c.self.inside.held.items
kept c = filter_same _ (λ (b : ℕ × Place). not (eqb b.0 c.args.slot)) _ (λ x b f' k. search rules) _ _ c.retain.ensures.filtered
    ∙ without_is_filter c.args.slot c.self.inside.held.items

pub returns-clause-given_up : goal.returns-clause-given_up
returns-clause-given_up c = kept c ∙ ap (without_slot c.args.slot) c.self.view_is

pub invariant_of-self : goal.invariant_of-self
invariant_of-self c = subst AreApart (sym (kept c)) (apart_without c.args.slot c.self.inside.held.items c.self.invariant)

pub returns-clause-apart : goal.returns-clause-apart
returns-clause-apart c = subst AreApart (sym (kept c)) (apart_without c.args.slot c.self.inside.held.items c.self.invariant)

pub returns-clause-none : goal.returns-clause-none
returns-clause-none c = ap (place_of c.args.slot) (kept c) ∙ none_after c.args.slot c.self.inside.held.items

pub returns-clause-nothing : goal.returns-clause-nothing
returns-clause-nothing c = λ none. kept c ∙ ap (without_slot c.args.slot) c.self.view_is ∙ without_none c.args.slot c.args.self.now none
