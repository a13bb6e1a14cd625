use Rattle.std.proofs.Common.{◌≡◌, [], ◌∙◌, ap, sym, subst}
use Rattle.script_rules.specs.Script.{opened_reading}
use Rattle.script_run.specs.Outcomes.{is_invite_found}
use Rattle.script_run.specs.Solo.{first_run, solo_reading, solo_run}
use Rattle.script_run.specs.Standing.{Stands}
use Rattle.script_run.proofs.SoloJoins.{begins_solo, begins_invited}
use Rattle.script_run.specs.Texts.{text_of}
use Rattle.script_run.proofs.lines.begin.Goals as goal
use Rattle.script_run.proofs.lines.begin.Goals.{then-not-is_invite_found+in_ok-join_alone, else-not-is_invite_found}

pub returns : goal.returns
returns g c =
    let size = (g.C.Course.seen c.args.course.now).head.size in
    let is = is_invite_found c.args.found c.args.text.now in
    let invite : c.is_invite_found.result ≡ is = c.is_invite_found.ensures in
    elim c.if-not-is_invite_found.branch [
      | then-not-is_invite_found+in_ok-join_alone w ↦ begins_solo g.C.Course.writing is size (Stands (g.C.Course.seen c.if-not-is_invite_found.course) (g.C.Course.keeps c.if-not-is_invite_found.course)) (text_of c.new-out.result) (text_of c.if-not-is_invite_found.out)
          (sym invite ∙ w.if-not-is_invite_found.true) c.new-out.ensures
          (subst (λ h. Stands (g.C.Course.seen h) (g.C.Course.keeps h) (solo_reading size) (solo_run size)) (sym w.course-is) w.in_ok-join_alone.ensures.standing)
          (ap text_of w.out-is ∙ w.in_ok-join_alone.ensures.line)
      | else-not-is_invite_found w ↦ begins_invited g.C.Course.writing is size (Stands (g.C.Course.seen c.if-not-is_invite_found.course) (g.C.Course.keeps c.if-not-is_invite_found.course)) (text_of c.if-not-is_invite_found.out)
          (sym invite ∙ w.if-not-is_invite_found.false) (ap text_of w.out-is ∙ c.new-out.ensures)
          (subst (λ h. Stands (g.C.Course.seen h) (g.C.Course.keeps h) (opened_reading size []) (first_run size)) (sym w.course-is) c.requires)
    ]
