use Rattle.std.proofs.Common.{◌∙◌, ap, ◌++◌}
use Rattle.serve_rules.specs.Turns.{SessionPass}
use Rattle.grow_lock.proofs.Shares.{holds_same}
use Rattle.serve_rules.proofs.ReadOn.{reads_met}
use Rattle.viewer_run.proofs.SendOn.{sends_met}
use Rattle.viewer_run.proofs.sides.run_sides.Goals as goal

pub returns-clause-reads : goal.returns-clause-reads
returns-clause-reads g c =
    let split = c.split-theirs in let sides = c.side_by_side-mine in let meet = c.meet.ensures in
    reads_met _ _ _ _ _ _ split.new.pass c.args.pass sides.result.0 sides.result.2 c.meet.result _ _ _ _ _ split.ensures.unchanged sides.ensures.reads
    meet.seen.1 meet.found meet.mine.0 (sides.ensures.mine ∙ split.ensures.mine) meet.share (holds_same _ _ (sides.ensures.share ∙ split.ensures.share))

pub returns-clause-sends : goal.returns-clause-sends
returns-clause-sends g c =
    let split = c.split-theirs in let sides = c.side_by_side-mine in let meet = c.meet.ensures in
    sends_met _ _ _ _ _ c.args.pass split.result sides.result.0 sides.result.2 c.meet.result _ _ _ _ sides.ensures.sends split.ensures.seen split.ensures.found
    (sides.ensures.reads.handles.found ∙ ap (λ (x : SessionPass). x.found ++ sides.ensures.reads.handles.more_found) split.ensures.unchanged)
    meet.seen.2 meet.found
