use Rattle.std.proofs.Common.{◌∙◌, sym, arith, rules}
use Rattle.script_run.specs.Standing.{Stands}
use Rattle.script_run.proofs.Invited.{invited}
use Rattle.script_run.proofs.line.invite.Goals as goal

pub returns : goal.returns
returns g c = λ r run out stands. invited g.C.Course.writing r run (g.C.Course.seen c.args.course.now) (g.C.Course.keeps c.args.course.now)
    (Stands (g.C.Course.seen c.invite.new.self) (g.C.Course.keeps c.invite.new.self)) c.args.name.now c.args.role out stands
    (sym c.has_begun.ensures ∙ c.if-has_begun.false) (sym c.is_name.ensures ∙ c.if-not-is_name.false) (sym c.is_invited.ensures ∙ c.if-is_invited.false)
    (omega (arith, c.row_count.ensures, c.if-row_count-ge-ROW_LIMIT.false)) (c.in_ok-invite.ensures r run stands)

pub invite-requires-clause-room : goal.invite-requires-clause-room
invite-requires-clause-room g c = search rules

pub returns-then-not-is_name : goal.returns-then-not-is_name
returns-then-not-is_name g c = search rules

pub invite-requires-clause-early : goal.invite-requires-clause-early
invite-requires-clause-early g c = search rules
