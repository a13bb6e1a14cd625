use Rattle.std.proofs.Common.{subst, sym, rules}
use Rattle.std.proofs.lemmas.Result.{err_from_is_err_and}
use Rattle.std.specs.Prelude.{Err}
use Rattle.script_run.specs.Reading.{Opens, moment, RunsLines}
use Rattle.script_run.proofs.AllLines.{sized_run, broken_run, failed_run, nothing_run}
use Rattle.script_run.proofs.run.run_course.Goals as goal

pub returns-in-Sized-clause-lines : goal.returns-in-Sized-clause-lines
returns-in-Sized-clause-lines g c = sized_run g.C.Course.writing c.do_lines.result c.first_line.result c.in-Sized.size c.in_ok-reader.reader
    c.first_line.new.reader c.do_lines.new.reader
    (g.S.Source.left c.args.input.now) (g.S.Source.left c.first_line.new.input) (g.S.Source.left c.do_lines.new.input) (g.K.Sink.told c.args.output.now)
    (g.K.Sink.told c.do_lines.new.output)
    c.in-Sized.is c.in_ok-reader.ensures (c.first_line.ensures.opens g.C.Course.writing (g.K.Sink.told c.args.output.now) c.requires) c.do_lines.ensures.done

pub returns-in-Breaks-clause-lines : goal.returns-in-Breaks-clause-lines
returns-in-Breaks-clause-lines g c = broken_run g.C.Course.writing c.requires c.first_line.result c.refuse_first.result c.in-Breaks.rule c.in_ok-reader.reader c.first_line.new.reader
    (g.S.Source.left c.args.input.now) (g.S.Source.left c.first_line.new.input) (g.K.Sink.told c.args.output.now) (g.K.Sink.told c.refuse_first.new.output)
    c.in-Breaks.is c.in_ok-reader.ensures (c.first_line.ensures.opens g.C.Course.writing (g.K.Sink.told c.args.output.now) c.requires) c.refuse_first.ensures.done

pub returns-clause-lines : goal.returns-clause-lines
returns-clause-lines g c = failed_run g.C.Course.writing c.first_line.result c.in_ok-reader.reader c.first_line.new.reader
    (g.S.Source.left c.args.input.now) (g.S.Source.left c.first_line.new.input) (g.K.Sink.told c.args.output.now)
    c.in-Failed.is c.in_ok-reader.ensures (c.first_line.ensures.opens g.C.Course.writing (g.K.Sink.told c.args.output.now) c.requires)

pub returns-in_err-reader-clause-lines : goal.returns-in_err-reader-clause-lines
returns-in_err-reader-clause-lines g c =
    let p = err_from_is_err_and c.from_residual.result c.from_residual.ensures.1 in
    let left = g.S.Source.left c.args.input.now in
    let told = g.K.Sink.told c.args.output.now in
    rw p.1 (subst (λ e. RunsLines (Err e) g.C.Course.writing.script left left told told) (sym p.2) (nothing_run g.C.Course.writing.script left told c.requires.none_at_first))

pub do_lines-requires-clause-size : goal.do_lines-requires-clause-size
do_lines-requires-clause-size g c = (subst (λ a. Opens g.C.Course.writing a (moment c.in_ok-reader.reader (g.S.Source.left c.args.input.now) (g.K.Sink.told c.args.output.now))
    (moment c.first_line.new.reader (g.S.Source.left c.first_line.new.input) (g.K.Sink.told c.args.output.now))) c.in-Sized.is
    (c.first_line.ensures.opens g.C.Course.writing (g.K.Sink.told c.args.output.now) c.requires)).0

pub returns-clause-read : goal.returns-clause-read
returns-clause-read g c = search rules
