use Rattle.std.proofs.Common.{◌≡◌, ◌-◌, ◌++◌, refl, ap, ◌∙◌, sym, append-nil, arith}
use Rattle.std.specs.Prelude.{option_to_list}
use Rattle.share_pdu.proofs.Areas.{areas_left, none_refused}
use Rattle.conn_core.proofs.Areas.{area_pushed, all_pushed}
use Rattle.conn_core.proofs.found.push_areas.Goals as goal
use Rattle.conn_core.proofs.found.push_areas.Goals.{in-Some+in_ok-push, in_default}

pub loop-init : goal.loop-init
loop-init c = let e : c.args.count - 0 ≡ c.args.count = omega arith in rw e (refl, c.requires)

pub returns-in-Err : goal.returns-in-Err
returns-in-Err c = absurd (none_refused _ _ _ _ c.loop-test.true c.in-Err.ensures.0 c.loop.invariant.1)

pub loop-preserved : goal.loop-preserved
loop-preserved c =
    let read = c.in-Ok.ensures.0 in
    let before = c.loop.invariant in (
      elim c.match-area.branch [
        | in-Some+in_ok-push w ↦ area_pushed _ _ _ _ _ _ _ _ c.loop-test.true read before.1 before.0
            (ap (λ v. v.items) w.areas-is ∙ w.in_ok-push.ensures.items ∙ ap (λ o. c.loop.areas.items ++ option_to_list o) (sym w.in-Some.is))
        | in_default w ↦ area_pushed _ _ _ _ _ _ _ _ c.loop-test.true read before.1 before.0
            (ap (λ v. v.items) w.areas-is ∙ sym (append-nil c.loop.areas.items) ∙ ap (λ o. c.loop.areas.items ++ option_to_list o) (sym w.in_default.is))
      ],
      areas_left _ _ _ _ _ c.loop-test.true read before.1,
    )

pub returns : goal.returns
returns c = all_pushed _ _ _ _ _ c.loop.invariant.0 (omega (arith, c.loop-test.false, c.loop.auto.counter-end))
