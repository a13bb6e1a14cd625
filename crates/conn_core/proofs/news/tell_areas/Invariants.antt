use Rattle.std.proofs.Common.{drop}
use Rattle.std.specs.Prelude.{map}
use Rattle.conn_rules.specs.declared.conn_step.ConnStep.TheVariants as step
use Rattle.conn_core.proofs.Fronts.{ToldSoFar}
use Rattle.conn_core.proofs.news.tell_areas.Given as goal

-- the areas that are left
abbrev pub invariant-loop-area : goal.invariant-loop-area
invariant-loop-area l =
    ToldSoFar l.fn.steps.items l.steps.items (map (λ area. step.Refresh area) l.areas) (map (λ area. step.Refresh area) (drop l.area-index l.areas))
