use Rattle.std.proofs.Common.{◌+◌, ◌-◌, ap, ◌∙◌, arith, rules}
use Rattle.std.specs.Prelude.{slice_get}
use Rattle.wire_num.specs.Cursor.{rest}
use Rattle.share_pdu.specs.Bodies.{areas_at, areas_by}
use Rattle.share_pdu.proofs.Areas.{areas_left, found_behind, found_after_none}
use Rattle.share_pdu.proofs.refresh.find_area.Goals as goal
use Rattle.share_pdu.proofs.refresh.find_area.Goals.{in-Some+else-left-eq0, in_default}

pub loop-preserved : goal.loop-preserved
loop-preserved c =
    let read = c.in-Ok.ensures.0 in
    let before = c.loop.invariant in (
      elim c.match-area.branch [
        | in-Some+else-left-eq0 w ↦ ap (λ k. slice_get (areas_by (areas_at (c.args.count - (c.loop.counter + 1)) (rest c.read_area.new.cursor))) k) w.left-is ∙ found_behind _ _ _ _ _ _ _ c.loop-test.true read w.in-Some.is before.1 (omega (arith, w.if-left-eq0.false)) ∙ before.0
        | in_default w ↦ ap (λ k. slice_get (areas_by (areas_at (c.args.count - (c.loop.counter + 1)) (rest c.read_area.new.cursor))) k) w.left-is ∙ found_after_none _ _ _ _ _ _ c.loop-test.true read w.in_default.is before.1 ∙ before.0
      ],
      areas_left _ _ _ _ _ c.loop-test.true read before.1,
    )

pub overflow_sub-left : goal.overflow_sub-left
overflow_sub-left c = search rules
