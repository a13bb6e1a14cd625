use Rattle.std.proofs.Common.{[]}
use Rattle.script_rules.specs.Script.{opened_reading, solo_rows}
use Rattle.script_run.specs.Solo.{first_run}
use Rattle.script_run.specs.Standing.{Stands}
use Rattle.script_run.specs.Texts.{text_of}
use Rattle.script_run.proofs.SoloJoins.{invited_alone, joined_alone}
use Rattle.script_run.proofs.lines.join_alone.Goals as goal

pub returns-clause-standing : goal.returns-clause-standing
returns-clause-standing g c =
    let size = (g.C.Course.seen c.args.course.now).head.size in
    (joined_alone g.C.Course.writing size c.in_ok-join.field-0 (first_run size) (Stands (g.C.Course.seen c.join.new.course) (g.C.Course.keeps c.join.new.course))
    (text_of c.args.out.now) (text_of c.join.new.out)
    (c.in_ok-join.ensures (opened_reading size solo_rows) (first_run size)
    (invited_alone g.C.Course.writing size c.in_ok-invite.field-0 (first_run size) (Stands (g.C.Course.seen c.invite.new.course) (g.C.Course.keeps c.invite.new.course)) []
    (c.in_ok-invite.ensures (opened_reading size []) (first_run size) [] c.requires)))).standing

pub returns-clause-line : goal.returns-clause-line
returns-clause-line g c =
    let size = (g.C.Course.seen c.args.course.now).head.size in
    (joined_alone g.C.Course.writing size c.in_ok-join.field-0 (first_run size) (Stands (g.C.Course.seen c.join.new.course) (g.C.Course.keeps c.join.new.course))
    (text_of c.args.out.now) (text_of c.join.new.out)
    (c.in_ok-join.ensures (opened_reading size solo_rows) (first_run size)
    (invited_alone g.C.Course.writing size c.in_ok-invite.field-0 (first_run size) (Stands (g.C.Course.seen c.invite.new.course) (g.C.Course.keeps c.invite.new.course)) []
    (c.in_ok-invite.ensures (opened_reading size []) (first_run size) [] c.requires)))).written
