-- What is said of the vector's items is said of the blocks, which are those.
use Rattle.std.proofs.Common.{ℕ, ◌∙◌, subst, rules}
use Rattle.save_plan.specs.Blocks.{positions_of, IsFree, IsLeastFree}
use Rattle.save_plan.proofs.blocks.Blocks.place.Goals as goal

pub returns-in_default-clause-no_room : goal.returns-in_default-clause-no_room
returns-in_default-clause-no_room c = λ _. subst (λ held. (from : ℕ) → IsFree (positions_of c.args.w c.args.h) held from → ⊥)
    (c.deref.ensures.value ∙ c.self.view_is) c.in_default.ensures

pub returns-clause-full : goal.returns-clause-full
returns-clause-full c = λ never. let least = subst (λ held. IsLeastFree (positions_of c.args.w c.args.h) held c.in-Some.position)
    (c.deref.ensures.value ∙ c.self.view_is) c.in-Some.ensures in absurd (never c.in-Some.position least.is_free)

pub returns-clause-held : goal.returns-clause-held
returns-clause-held c = search rules
