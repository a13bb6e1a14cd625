use Rattle.std.proofs.Common.{sym, subst}
use Rattle.std.proofs.lemmas.Result.{err_from_is_err_and}
use Rattle.std.specs.Prelude.{Err}
use Rattle.std.proofs.KnownBytes.{Appends-nil}
use Rattle.script_run.specs.Run.{ReadsCause, WritesCause}
use Rattle.script_run.specs.Reading.{moment}
use Rattle.script_run.specs.Progress.{AllLinesDone}
use Rattle.edge_io.specs.Reading.{ahead}
use Rattle.script_run.proofs.Cut.{nothing_stops}
use Rattle.script_run.proofs.Steady.{steady_rest}
use Rattle.script_run.proofs.Held.{flushed, front_told}
use Rattle.script_run.proofs.HeldLines.{holding}
use Rattle.script_run.proofs.Progressed.{all_flushed, front_flushed, flushed_reads, flushed_writes}
use Rattle.script_run.proofs.lines.do_lines.Goals as goal

pub returns : goal.returns
returns g c =
    let told1 = g.K.Sink.told c.hold_lines-done.new.output in
    let told2 = g.K.Sink.told c.flush.new.output in
    let m = moment c.args.reader.now (g.S.Source.left c.args.input.now) (g.K.Sink.told c.args.output.now) in
    let n = holding c.hold_lines-done.new.reader (g.S.Source.left c.hold_lines-done.new.input) told1 c.hold_lines-done.new.page in
    record {
      done = all_flushed c.hold_lines-done.result (g.C.Course.writing.rest c.args.size c.args.reader.now.at) m n told2
          (flushed told1 told2 c.hold_lines-done.new.page c.in_ok-flush.ensures.written) c.hold_lines-done.ensures.done;
      read = c.hold_lines-done.ensures.read;
      write = subst (λ n. WritesCause c.hold_lines-done.result (g.K.Sink.faults c.args.output.now) n) (sym c.in_ok-flush.ensures.cause) c.hold_lines-done.ensures.write;
    }

pub returns-in_err-flush : goal.returns-in_err-flush
returns-in_err-flush g c =
    let p = err_from_is_err_and c.from_residual-in_err-flush.result c.from_residual-in_err-flush.ensures.1 in
    let told1 = g.K.Sink.told c.hold_lines-done.new.output in
    let told2 = g.K.Sink.told c.flush.new.output in
    let page = c.hold_lines-done.new.page in
    let result = c.hold_lines-done.result in
    let answer = c.in_err-flush.field-0.0 in
    let whole = g.C.Course.writing.rest c.args.size c.args.reader.now.at in
    let m = moment c.args.reader.now (g.S.Source.left c.args.input.now) (g.K.Sink.told c.args.output.now) in
    let n = holding c.hold_lines-done.new.reader (g.S.Source.left c.hold_lines-done.new.input) told1 page in
    rw p.1 (record {
      done = subst (λ e. AllLinesDone (Err e) whole m (moment c.hold_lines-done.new.reader (g.S.Source.left c.hold_lines-done.new.input) told2)) (sym p.2)
          (front_flushed result answer whole m n told1 told2 page (steady_rest g.C.Course.writing c.requires.writing c.args.size c.args.reader.now.at) c.in_err-flush.ensures.fault
          c.hold_lines-done.ensures.empty c.in_err-flush.ensures.some c.hold_lines-done.ensures.done c.hold_lines-done.ensures.grows
          (front_told told1 told2 page c.in_err-flush.ensures.front));
      read = subst (λ e. ReadsCause {T = Unit {0}} (Err e) (g.S.Source.faults c.args.input.now) (g.S.Source.faults c.hold_lines-done.new.input)) (sym p.2)
          (flushed_reads result answer (g.S.Source.faults c.args.input.now) (g.S.Source.faults c.hold_lines-done.new.input) page c.in_err-flush.ensures.fault
          c.hold_lines-done.ensures.empty c.in_err-flush.ensures.some c.hold_lines-done.ensures.read);
      write = subst (λ e. WritesCause {T = Unit {0}} (Err e) (g.K.Sink.faults c.args.output.now) (g.K.Sink.faults c.flush.new.output)) (sym p.2)
          (flushed_writes result answer (g.K.Sink.faults c.args.output.now) (g.K.Sink.faults c.hold_lines-done.new.output) (g.K.Sink.faults c.flush.new.output) page
          c.hold_lines-done.ensures.empty c.in_err-flush.ensures.some c.hold_lines-done.ensures.write c.in_err-flush.ensures.cause);
    })

pub returns-in_err-page-clause-done : goal.returns-in_err-page-clause-done
returns-in_err-page-clause-done g c =
    let p = err_from_is_err_and c.from_residual.result c.from_residual.ensures.1 in
    let left = g.S.Source.left c.args.input.now in
    let told = g.K.Sink.told c.args.output.now in
    let whole = g.C.Course.writing.rest c.args.size c.args.reader.now.at in
    let m = moment c.args.reader.now left told in
    rw p.1 (subst (λ e. AllLinesDone (Err e) whole m m) (sym p.2) (nothing_stops (ahead c.args.reader.now left) told told whole (c.requires.writing.none_behind c.args.size c.args.reader.now.at) (Appends-nil told)))
