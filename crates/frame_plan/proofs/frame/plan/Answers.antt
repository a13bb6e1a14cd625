use Rattle.std.proofs.Common.{◌≡◌, true, sym, subst, rules}
use Rattle.session_core.specs.SessionModel.{SessionModel, is_here}
use Rattle.frame_plan.specs.Takes.{DeskModel}
use Rattle.frame_plan.proofs.frame.plan.Goals as goal

pub returns-then-not-is_work-clause-taken : goal.returns-then-not-is_work-clause-taken
returns-then-not-is_work-clause-taken c = search rules

pub returns-then-not-is_work-clause-desk : goal.returns-then-not-is_work-clause-desk
returns-then-not-is_work-clause-desk c = search rules

pub returns-then-not-is_work-clause-asked : goal.returns-then-not-is_work-clause-asked
returns-then-not-is_work-clause-asked c = search rules

pub served-requires : goal.served-requires
served-requires c =
    let here : is_here c.args.session.now c.desk.inside.v ≡ true = subst (λ (d : DeskModel). is_here c.args.session.now d.v ≡ true) (sym c.desk.view_is) c.requires.present in
    subst (λ (s : SessionModel). is_here s c.desk.inside.v ≡ true) (sym c.plan_frame.ensures.unchanged) here
