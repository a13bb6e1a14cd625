use Rattle.std.proofs.Common.{◌∙◌, ap, sym, subst, true, rules}
use Rattle.std.proofs.lemmas.Result.{err_from_is_err_and}
use Rattle.std.specs.Prelude.{Ok, Err, []}
use Rattle.session_rules.specs.Journal.{Head}
use Rattle.script_rules.specs.Script.{opened_reading}
use Rattle.script_run.specs.Steps.{HoldsNone}
use Rattle.script_run.specs.Solo.{first_run}
use Rattle.script_run.specs.Standing.{Stands}
use Rattle.script_run.specs.Reading.{moment}
use Rattle.script_run.specs.Progress.{NextLineDone, LinesDoneSoFar, AllLinesDone}
use Rattle.script_run.proofs.Steady.{steady_rest}
use Rattle.script_run.proofs.Held.{grows_on}
use Rattle.script_run.proofs.HeldLines.{holding, holding_none}
use Rattle.script_run.proofs.Progressed.{done_further, done_at_first, ended_at_last, ends_at_first, shorter, holds_on, in_course}
use Rattle.script_run.proofs.lines.hold_lines.Goals as goal

pub loop-goes_on-init : goal.loop-goes_on-init
loop-goes_on-init g c =
    let told = g.K.Sink.told c.args.output.now in
    let left = g.S.Source.left c.args.input.now in
    let at = c.args.reader.now.at in
    let size = (g.C.Course.seen c.begin-course.result).head.size in
    let m = moment c.args.reader.now left told in
    let n = holding c.do_second.new.reader (g.S.Source.left c.do_second.new.input) (g.K.Sink.told c.do_second.new.output) c.do_second.new.page in
    let answer = Ok c.in_ok-goes_on.goes_on in
    record {
      done = done_at_first g.C.Course.writing c.in_ok-goes_on.goes_on (g.C.Course.writing.rest c.args.size at) (Stands (g.C.Course.seen c.do_second.new.course) (g.C.Course.keeps c.do_second.new.course)) told m n
          (subst (λ s. NextLineDone g.C.Course.writing answer (g.C.Course.writing.rest s at) 2 (Stands (g.C.Course.seen c.do_second.new.course) (g.C.Course.keeps c.do_second.new.course)) told m n) (sym (ap (λ (h : Head). h.size) c.begin-course.ensures.head))
          (subst (λ b. NextLineDone g.C.Course.writing answer (g.C.Course.writing.rest size at) 2 (Stands (g.C.Course.seen c.do_second.new.course) (g.C.Course.keeps c.do_second.new.course)) told b n) (holding_none c.args.reader.now left told c.args.page.now c.requires.empty)
          c.in_ok-goes_on.ensures.done));
      grows = c.in_ok-goes_on.ensures.grows;
      read = c.in_ok-goes_on.ensures.read;
      write = c.in_ok-goes_on.ensures.write;
    }

pub returns-in_err-goes_on-clause-done : goal.returns-in_err-goes_on-clause-done
returns-in_err-goes_on-clause-done g c =
    let p = err_from_is_err_and c.from_residual.result c.from_residual.ensures.1 in
    let told = g.K.Sink.told c.args.output.now in
    let left = g.S.Source.left c.args.input.now in
    let at = c.args.reader.now.at in
    let size = (g.C.Course.seen c.begin-course.result).head.size in
    let m = moment c.args.reader.now left told in
    let n = holding c.do_second.new.reader (g.S.Source.left c.do_second.new.input) (g.K.Sink.told c.do_second.new.output) c.do_second.new.page in
    let fault = c.in_err-goes_on.field-0.0 in
    rw p.1 (subst (λ e. AllLinesDone (Err e) (g.C.Course.writing.rest c.args.size at) m n) (sym p.2)
    (ends_at_first g.C.Course.writing fault (g.C.Course.writing.rest c.args.size at) 2 (Stands (g.C.Course.seen c.do_second.new.course) (g.C.Course.keeps c.do_second.new.course)) m n (steady_rest g.C.Course.writing c.requires.writing c.args.size at)
    (subst (λ s. NextLineDone g.C.Course.writing (Err fault) (g.C.Course.writing.rest s at) 2 (Stands (g.C.Course.seen c.do_second.new.course) (g.C.Course.keeps c.do_second.new.course)) told m n) (sym (ap (λ (h : Head). h.size) c.begin-course.ensures.head))
    (subst (λ b. NextLineDone g.C.Course.writing (Err fault) (g.C.Course.writing.rest size at) 2 (Stands (g.C.Course.seen c.do_second.new.course) (g.C.Course.keeps c.do_second.new.course)) told b n) (holding_none c.args.reader.now left told c.args.page.now c.requires.empty)
    c.in_err-goes_on.ensures.done))))

pub returns-in_err-goes_on-clause-empty : goal.returns-in_err-goes_on-clause-empty
returns-in_err-goes_on-clause-empty g c =
    let p = err_from_is_err_and c.from_residual.result c.from_residual.ensures.1 in
    rw p.1 (subst (λ e. HoldsNone {T = Unit {0}} (Err e) c.do_second.new.page) (sym p.2) (holds_on c.in_err-goes_on.field-0.0 c.do_second.new.page c.in_err-goes_on.ensures.empty))

pub returns-in_err-goes_on-2-clause-done : goal.returns-in_err-goes_on-2-clause-done
returns-in_err-goes_on-2-clause-done g c =
    let p = err_from_is_err_and c.from_residual-in_err-goes_on-2.result c.from_residual-in_err-goes_on-2.ensures.1 in
    let whole = g.C.Course.writing.rest c.args.size c.args.reader.now.at in
    let m = moment c.args.reader.now (g.S.Source.left c.args.input.now) (g.K.Sink.told c.args.output.now) in
    let told = g.K.Sink.told c.loop-goes_on.output in
    let mid = holding c.loop-goes_on.reader (g.S.Source.left c.loop-goes_on.input) told c.loop-goes_on.page in
    let n = holding c.do_next.new.reader (g.S.Source.left c.do_next.new.input) (g.K.Sink.told c.do_next.new.output) c.do_next.new.page in
    let done : LinesDoneSoFar g.C.Course.writing true whole c.loop-goes_on.k (Stands (g.C.Course.seen c.loop-goes_on.course) (g.C.Course.keeps c.loop-goes_on.course)) m mid =
    subst (λ b. LinesDoneSoFar g.C.Course.writing b whole c.loop-goes_on.k (Stands (g.C.Course.seen c.loop-goes_on.course) (g.C.Course.keeps c.loop-goes_on.course)) m mid) c.loop-goes_on-test.true c.loop-goes_on.invariant.done in
    rw p.1 (subst (λ e. AllLinesDone (Err e) whole m n) (sym p.2)
    (ended_at_last g.C.Course.writing c.in_err-goes_on-2.field-0.0 whole c.loop-goes_on.k (Stands (g.C.Course.seen c.loop-goes_on.course) (g.C.Course.keeps c.loop-goes_on.course)) (Stands (g.C.Course.seen c.do_next.new.course) (g.C.Course.keeps c.do_next.new.course)) told m mid n
    (steady_rest g.C.Course.writing c.requires.writing c.args.size c.args.reader.now.at) c.loop-goes_on.invariant.grows done
    (c.in_err-goes_on-2.ensures.done done.2.r done.2.run done.2.standing)))

pub returns-in_err-goes_on-2-clause-grows : goal.returns-in_err-goes_on-2-clause-grows
returns-in_err-goes_on-2-clause-grows g c = grows_on (g.K.Sink.told c.args.output.now) (g.K.Sink.told c.loop-goes_on.output) (g.K.Sink.told c.do_next.new.output)
    c.loop-goes_on.invariant.grows c.in_err-goes_on-2.ensures.grows

pub returns-in_err-goes_on-2-clause-empty : goal.returns-in_err-goes_on-2-clause-empty
returns-in_err-goes_on-2-clause-empty g c =
    let p = err_from_is_err_and c.from_residual-in_err-goes_on-2.result c.from_residual-in_err-goes_on-2.ensures.1 in
    rw p.1 (subst (λ e. HoldsNone {T = Unit {0}} (Err e) c.do_next.new.page) (sym p.2) (holds_on c.in_err-goes_on-2.field-0.0 c.do_next.new.page c.in_err-goes_on-2.ensures.empty))

pub loop-goes_on-smaller : goal.loop-goes_on-smaller
loop-goes_on-smaller g c =
    let whole = g.C.Course.writing.rest c.args.size c.args.reader.now.at in
    let m = moment c.args.reader.now (g.S.Source.left c.args.input.now) (g.K.Sink.told c.args.output.now) in
    let told = g.K.Sink.told c.loop-goes_on.output in
    let mid = holding c.loop-goes_on.reader (g.S.Source.left c.loop-goes_on.input) told c.loop-goes_on.page in
    let n = holding c.do_next.new.reader (g.S.Source.left c.do_next.new.input) (g.K.Sink.told c.do_next.new.output) c.do_next.new.page in
    let done : LinesDoneSoFar g.C.Course.writing true whole c.loop-goes_on.k (Stands (g.C.Course.seen c.loop-goes_on.course) (g.C.Course.keeps c.loop-goes_on.course)) m mid =
    subst (λ b. LinesDoneSoFar g.C.Course.writing b whole c.loop-goes_on.k (Stands (g.C.Course.seen c.loop-goes_on.course) (g.C.Course.keeps c.loop-goes_on.course)) m mid) c.loop-goes_on-test.true c.loop-goes_on.invariant.done in
    shorter g.C.Course.writing c.loop-goes_on.goes_on c.in_ok-goes_on-2.goes_on _ _ (Stands (g.C.Course.seen c.do_next.new.course) (g.C.Course.keeps c.do_next.new.course)) told mid n c.loop-goes_on-test.true
    (c.in_ok-goes_on-2.ensures.done done.2.r done.2.run done.2.standing)

pub loop-goes_on-preserved : goal.loop-goes_on-preserved
loop-goes_on-preserved g c =
    let whole = g.C.Course.writing.rest c.args.size c.args.reader.now.at in
    let m = moment c.args.reader.now (g.S.Source.left c.args.input.now) (g.K.Sink.told c.args.output.now) in
    let told = g.K.Sink.told c.loop-goes_on.output in
    let mid = holding c.loop-goes_on.reader (g.S.Source.left c.loop-goes_on.input) told c.loop-goes_on.page in
    let n = holding c.do_next.new.reader (g.S.Source.left c.do_next.new.input) (g.K.Sink.told c.do_next.new.output) c.do_next.new.page in
    let done : LinesDoneSoFar g.C.Course.writing true whole c.loop-goes_on.k (Stands (g.C.Course.seen c.loop-goes_on.course) (g.C.Course.keeps c.loop-goes_on.course)) m mid =
    subst (λ b. LinesDoneSoFar g.C.Course.writing b whole c.loop-goes_on.k (Stands (g.C.Course.seen c.loop-goes_on.course) (g.C.Course.keeps c.loop-goes_on.course)) m mid) c.loop-goes_on-test.true c.loop-goes_on.invariant.done in
    record {
      done = done_further g.C.Course.writing c.in_ok-goes_on-2.goes_on whole c.loop-goes_on.k (Stands (g.C.Course.seen c.loop-goes_on.course) (g.C.Course.keeps c.loop-goes_on.course)) (Stands (g.C.Course.seen c.do_next.new.course) (g.C.Course.keeps c.do_next.new.course)) told m mid n done
          (c.in_ok-goes_on-2.ensures.done done.2.r done.2.run done.2.standing);
      grows = grows_on (g.K.Sink.told c.args.output.now) told (g.K.Sink.told c.do_next.new.output) c.loop-goes_on.invariant.grows c.in_ok-goes_on-2.ensures.grows;
      read = c.in_ok-goes_on-2.ensures.read ∙ c.loop-goes_on.invariant.read;
      write = c.in_ok-goes_on-2.ensures.write ∙ c.loop-goes_on.invariant.write;
    }

pub returns-clause-done : goal.returns-clause-done
returns-clause-done g c = search rules

pub do_second-requires-clause-begins : goal.do_second-requires-clause-begins
do_second-requires-clause-begins g c = subst (λ s. (Stands (g.C.Course.seen c.begin-course.result) (g.C.Course.keeps c.begin-course.result)) (opened_reading s []) (first_run s))
    (ap (λ (h : Head). h.size) c.begin-course.ensures.head) c.begin-course.ensures

pub do_next-requires-clause-course : goal.do_next-requires-clause-course
do_next-requires-clause-course g c = in_course g.C.Course.writing c.loop-goes_on.goes_on _ c.loop-goes_on.k _ _ _ _ c.loop-goes_on.invariant.done c.loop-goes_on-test.true
