use Rattle.std.proofs.Common.{◌++◌, ◌∙◌, ap, subst, sym}
use Rattle.script_lines.specs.Lines.{number_of_rule}
use Rattle.script_run.specs.Standing.{Stands}
use Rattle.script_run.specs.Texts.{text_of}
use Rattle.script_run.proofs.Founds.{line_done, line_broken, line_unsaid, line_stands, past_broken}
use Rattle.script_run.proofs.found.do_found.Goals as goal
use Rattle.script_run.proofs.found.do_found.Goals.{in-Line+in_ok-broken-in-Line, in-PastLimits}

pub returns-in-None : goal.returns-in-None
returns-in-None g c = λ r run standing. elim c.match-found.branch [
  | in-Line+in_ok-broken-in-Line w ↦ line_done g.C.Course.writing c.args.found w.in-Line.ended c.args.text.now w.in_ok-broken-in-Line.broken c.match-found.broken r run c.args.k
      (Stands (g.C.Course.seen w.do_line.new.course) (g.C.Course.keeps w.do_line.new.course)) (Stands (g.C.Course.seen c.match-found.course) (g.C.Course.keeps c.match-found.course))
      (text_of c.args.out.now) (text_of w.do_line.new.out) (text_of c.match-found.out)
      w.in-Line.is (w.in_ok-broken-in-Line.ensures r run standing) w.broken-is c.in-None.is (ap (λ h. Stands (g.C.Course.seen h) (g.C.Course.keeps h)) w.course-is) (ap text_of w.out-is)
  | in-PastLimits w ↦ absurd (cc (w.broken-is, c.in-None.is))
]

pub returns-in_ok-refuse-in-Some : goal.returns-in_ok-refuse-in-Some
returns-in_ok-refuse-in-Some g c = λ r run standing.
    let refusal = g.C.Course.writing.broken c.args.k r (number_of_rule c.in-Some.rule) in
    elim c.match-found.branch [
      | in-Line+in_ok-broken-in-Line w ↦
          let done = Stands (g.C.Course.seen w.do_line.new.course) (g.C.Course.keeps w.do_line.new.course) in
          let does = w.in_ok-broken-in-Line.ensures r run standing in (
            line_broken g.C.Course.writing c.args.found w.in-Line.ended c.args.text.now w.in_ok-broken-in-Line.broken c.match-found.broken c.in-Some.rule r run done
                (text_of c.args.out.now) (text_of w.do_line.new.out) w.in-Line.is does w.broken-is c.in-Some.is,
            c.in_ok-refuse-in-Some.ensures r run
                (line_stands g.C.Course.writing w.in-Line.ended c.args.text.now w.in_ok-broken-in-Line.broken c.match-found.broken c.in-Some.rule r run done
                (Stands (g.C.Course.seen c.match-found.course) (g.C.Course.keeps c.match-found.course)) (text_of c.args.out.now) (text_of w.do_line.new.out) does w.broken-is c.in-Some.is
                (ap (λ h. Stands (g.C.Course.seen h) (g.C.Course.keeps h)) w.course-is))
                ∙ ap (λ o. text_of o ++ refusal) w.out-is ∙ ap (λ t. t ++ refusal)
                (line_unsaid g.C.Course.writing w.in-Line.ended c.args.text.now w.in_ok-broken-in-Line.broken c.match-found.broken c.in-Some.rule r run done
                (text_of c.args.out.now) (text_of w.do_line.new.out) does w.broken-is c.in-Some.is),
          )
      | in-PastLimits w ↦ (
        past_broken c.args.found c.args.text.now c.match-found.broken c.in-Some.rule r w.in-PastLimits.is w.broken-is c.in-Some.is,
        c.in_ok-refuse-in-Some.ensures r run (subst (λ h. Stands (g.C.Course.seen h) (g.C.Course.keeps h) r run) (sym w.course-is) standing) ∙ ap (λ o. text_of o ++ refusal) w.out-is,
      )
    ]
