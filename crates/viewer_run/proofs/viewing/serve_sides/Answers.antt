use Rattle.std.proofs.Common.{◌∙◌, sym}
use Rattle.viewer_run.proofs.Attending.{sides_ended, sides_read_on, read_stopped}
use Rattle.viewer_run.proofs.viewing.serve_sides.Goals as goal

pub returns-in-Done-clause-serves : goal.returns-in-Done-clause-serves
returns-in-Done-clause-serves g c =
    let r = c.run_sides-pass in
    sides_ended _ _ _ _ _ _ _ _ _ _ _ _ _ _ _ _ _ r.result.1 r.result.2 c.in-Done.end r.ensures.reads r.ensures.sends (sym c.in-Done.is ∙ c.ended_by.ensures)

pub returns-in-Stopped-clause-serves : goal.returns-in-Stopped-clause-serves
returns-in-Stopped-clause-serves g c =
    let r = c.run_sides-pass in
    sides_read_on _ _ _ _ _ _ _ _ _ _ _ _ _ _ _ _ _ r.result.1 r.result.2 c.read_out.result.1 _ _ _ _ r.ensures.reads r.ensures.sends
    (sym c.in-Stopped.is ∙ c.ended_by.ensures) c.read_out.ensures.reads

pub read_out-requires-clause-part : goal.read_out-requires-clause-part
read_out-requires-clause-part g c =
    let r = c.run_sides-pass in
    r.ensures.part (read_stopped r.result.1 r.result.2 (sym c.in-Stopped.is ∙ c.ended_by.ensures))
