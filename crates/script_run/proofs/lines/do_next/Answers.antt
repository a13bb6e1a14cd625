use Rattle.std.proofs.Common.{[], ◌++◌, ◌∙◌, sym, subst, Bool, Some}
use Rattle.std.proofs.lemmas.Result.{err_from_is_err_and}
use Rattle.std.specs.Prelude.{Err}
use Rattle.edge_io.specs.Sink.{WritesFront}
use Rattle.script_run.specs.declared.fault.ScriptFault.TheVariants as fault
use Rattle.script_run.specs.Held.{Holds}
use Rattle.script_run.specs.Run.{ReadsCause, WritesCause}
use Rattle.script_run.specs.Standing.{Stands}
use Rattle.script_run.specs.Steps.{DoesFound, HoldsNone}
use Rattle.script_run.specs.Progress.{NextLineDone}
use Rattle.script_run.proofs.Steady.{steady_lines}
use Rattle.script_run.proofs.Held.{held_grows, front_grows, grows_on}
use Rattle.script_run.proofs.NextLine.{leads_on, found_reads, fault_reads, found_is_same, step_writes, step_holds, empty_holds, fault_writes, writes_after}
use Rattle.script_run.proofs.HeldLines.{holding, line_held, line_cut, line_wanting, line_unfound, line_unread}
use Rattle.script_run.specs.Texts.{text_of}
use Rattle.script_run.proofs.lines.do_next.Goals as goal

pub returns : goal.returns
returns g c =
    let told0 = g.K.Sink.told c.args.output.now in
    let told1 = g.K.Sink.told c.find_line.new.output in
    let told2 = g.K.Sink.told c.hold_text.new.output in
    let f = c.in_ok-found.found in
    let now = c.find_line.new.reader in
    let line = text_of c.do_found.new.out in
    let m = holding c.args.reader.now (g.S.Source.left c.args.input.now) told0 c.args.page.now in
    let n = holding now (g.S.Source.left c.find_line.new.input) told2 c.hold_text.new.page in
    let held : Holds told1 told2 c.find_line.new.page c.hold_text.new.page line = c.in_ok-hold_text.ensures.held in
    record {
      done = λ r run standing. subst (λ a. NextLineDone g.C.Course.writing a (g.C.Course.writing.from c.args.k c.args.reader.now.at r run) c.args.k (Stands (g.C.Course.seen c.do_found.new.course) (g.C.Course.keeps c.do_found.new.course)) told0 m n) (sym c.answer.ensures)
          (line_held g.C.Course.writing c.requires.writing c.in_ok-step.step f (g.C.Course.writing.from c.args.k c.args.reader.now.at r run) [] c.args.k r run (Stands (g.C.Course.seen c.do_found.new.course) (g.C.Course.keeps c.do_found.new.course)) c.args.reader.now now (g.S.Source.left c.args.input.now)
          (g.S.Source.left c.find_line.new.input) told0 told1 told2 c.args.page.now c.find_line.new.page c.hold_text.new.page line c.in_ok-found.ensures.found
          (leads_on g.C.Course.writing c.requires.writing f c.args.k c.args.reader.now.at now.text r run) c.in_ok-found.ensures.held held (subst (λ t. DoesFound g.C.Course.writing c.in_ok-step.step f c.args.k r run (Stands (g.C.Course.seen c.do_found.new.course) (g.C.Course.keeps c.do_found.new.course)) t (Some []) (Some line)) c.text.ensures
          (subst (λ b. DoesFound g.C.Course.writing c.in_ok-step.step f c.args.k r run (Stands (g.C.Course.seen c.do_found.new.course) (g.C.Course.keeps c.do_found.new.course)) c.text.result.now (Some b) (Some line)) c.new-out.ensures
          (c.in_ok-step.ensures r run standing))));
      grows = grows_on told0 told1 told2 (held_grows told0 told1 c.args.page.now c.find_line.new.page [] c.in_ok-found.ensures.held)
          (held_grows told1 told2 c.find_line.new.page c.hold_text.new.page line held);
      empty = subst (λ a. HoldsNone a c.hold_text.new.page) (sym c.answer.ensures) (step_holds c.in_ok-step.step c.args.k c.hold_text.new.page);
      read = subst (λ a. ReadsCause a (g.S.Source.faults c.args.input.now) (g.S.Source.faults c.find_line.new.input)) (sym c.answer.ensures)
          (found_reads c.in_ok-step.step c.args.k f (g.S.Source.faults c.args.input.now) (g.S.Source.faults c.find_line.new.input) c.in_ok-found.ensures.read
          c.in_default.not-Failed);
      write = subst (λ a. WritesCause a (g.K.Sink.faults c.args.output.now) (g.K.Sink.faults c.hold_text.new.output)) (sym c.answer.ensures)
          (step_writes c.in_ok-step.step c.args.k (g.K.Sink.faults c.args.output.now) (g.K.Sink.faults c.hold_text.new.output)
          (c.in_ok-hold_text.ensures.cause ∙ c.in_ok-found.ensures.cause));
    }

pub returns-in_err-found-clause-done : goal.returns-in_err-found-clause-done
returns-in_err-found-clause-done g c =
    let p = err_from_is_err_and c.from_residual.result c.from_residual.ensures.1 in
    let told0 = g.K.Sink.told c.args.output.now in
    let told1 = g.K.Sink.told c.find_line.new.output in
    let now = c.find_line.new.reader in
    let m = holding c.args.reader.now (g.S.Source.left c.args.input.now) told0 c.args.page.now in
    let n = holding now (g.S.Source.left c.find_line.new.input) told1 c.find_line.new.page in
    rw p.1 (λ r run standing. subst (λ e. NextLineDone g.C.Course.writing (Err e) (g.C.Course.writing.from c.args.k c.args.reader.now.at r run) c.args.k (Stands (g.C.Course.seen c.args.course.now) (g.C.Course.keeps c.args.course.now)) told0 m n) (sym p.2)
    (line_unfound g.C.Course.writing c.in_err-found.field-0.0 (g.C.Course.writing.from c.args.k c.args.reader.now.at r run) c.args.k (Stands (g.C.Course.seen c.args.course.now) (g.C.Course.keeps c.args.course.now)) c.args.reader.now now (g.S.Source.left c.args.input.now) (g.S.Source.left c.find_line.new.input)
    told0 told1 c.args.page.now c.find_line.new.page c.in_err-found.ensures.fault (c.requires.writing.none c.args.k c.args.reader.now.at r run) c.in_err-found.ensures.front c.in_err-found.ensures.unheld))

pub returns-in_err-step : goal.returns-in_err-step
returns-in_err-step g c =
    let p = err_from_is_err_and c.from_residual-in_err-step.result c.from_residual-in_err-step.ensures.1 in
    let told0 = g.K.Sink.told c.args.output.now in
    let told1 = g.K.Sink.told c.find_line.new.output in
    let now = c.find_line.new.reader in
    let m = holding c.args.reader.now (g.S.Source.left c.args.input.now) told0 c.args.page.now in
    let n = holding now (g.S.Source.left c.find_line.new.input) told1 c.find_line.new.page in
    rw p.1 (record {
      done = λ r run standing. subst (λ e. NextLineDone g.C.Course.writing (Err e) (g.C.Course.writing.from c.args.k c.args.reader.now.at r run) c.args.k (Stands (g.C.Course.seen c.do_found.new.course) (g.C.Course.keeps c.do_found.new.course)) told0 m n) (sym p.2)
          (line_wanting g.C.Course.writing fault.OutOfMemory (g.C.Course.writing.from c.args.k c.args.reader.now.at r run) c.args.k (Stands (g.C.Course.seen c.do_found.new.course) (g.C.Course.keeps c.do_found.new.course)) c.args.reader.now now (g.S.Source.left c.args.input.now) (g.S.Source.left c.find_line.new.input)
          told0 told1 c.args.page.now c.find_line.new.page tt (c.requires.writing.none c.args.k c.args.reader.now.at r run) c.in_ok-found.ensures.held);
      grows = held_grows told0 told1 c.args.page.now c.find_line.new.page [] c.in_ok-found.ensures.held;
      empty = subst (λ e. HoldsNone {T = Bool} (Err e) c.find_line.new.page) (sym p.2) tt;
      read = subst (λ e. ReadsCause {T = Bool} (Err e) (g.S.Source.faults c.args.input.now) (g.S.Source.faults c.find_line.new.input)) (sym p.2)
          (found_is_same c.in_ok-found.found (g.S.Source.faults c.args.input.now) (g.S.Source.faults c.find_line.new.input) c.in_default.not-Failed c.in_ok-found.ensures.read);
      write = subst (λ e. WritesCause {T = Bool} (Err e) (g.K.Sink.faults c.args.output.now) (g.K.Sink.faults c.find_line.new.output)) (sym p.2) c.in_ok-found.ensures.cause;
    })

pub returns-in_err-hold_text : goal.returns-in_err-hold_text
returns-in_err-hold_text g c =
    let p = err_from_is_err_and c.from_residual-in_err-hold_text.result c.from_residual-in_err-hold_text.ensures.1 in
    let told0 = g.K.Sink.told c.args.output.now in
    let told1 = g.K.Sink.told c.find_line.new.output in
    let told2 = g.K.Sink.told c.hold_text.new.output in
    let f = c.in_ok-found.found in
    let now = c.find_line.new.reader in
    let line = text_of c.do_found.new.out in
    let answer = c.in_err-hold_text.field-0.0 in
    let m = holding c.args.reader.now (g.S.Source.left c.args.input.now) told0 c.args.page.now in
    let n = holding now (g.S.Source.left c.find_line.new.input) told2 c.hold_text.new.page in
    let front : WritesFront told1 told2 (c.find_line.new.page ++ line) = c.in_err-hold_text.ensures.front in
    rw p.1 (record {
      done = λ r run standing. subst (λ e. NextLineDone g.C.Course.writing (Err e) (g.C.Course.writing.from c.args.k c.args.reader.now.at r run) c.args.k (Stands (g.C.Course.seen c.do_found.new.course) (g.C.Course.keeps c.do_found.new.course)) told0 m n) (sym p.2)
          (line_cut g.C.Course.writing c.requires.writing answer c.in_ok-step.step f (g.C.Course.writing.from c.args.k c.args.reader.now.at r run) [] c.args.k r run (Stands (g.C.Course.seen c.do_found.new.course) (g.C.Course.keeps c.do_found.new.course)) c.args.reader.now now (g.S.Source.left c.args.input.now)
          (g.S.Source.left c.find_line.new.input) told0 told1 told2 c.args.page.now c.find_line.new.page c.hold_text.new.page line c.in_err-hold_text.ensures.fault
          (steady_lines g.C.Course.writing c.requires.writing c.args.k c.args.reader.now.at r run) c.in_ok-found.ensures.found (leads_on g.C.Course.writing c.requires.writing f c.args.k c.args.reader.now.at now.text r run) c.in_ok-found.ensures.held front c.in_err-hold_text.ensures.empty (subst (λ t. DoesFound g.C.Course.writing c.in_ok-step.step f c.args.k r run (Stands (g.C.Course.seen c.do_found.new.course) (g.C.Course.keeps c.do_found.new.course)) t (Some []) (Some line)) c.text.ensures
          (subst (λ b. DoesFound g.C.Course.writing c.in_ok-step.step f c.args.k r run (Stands (g.C.Course.seen c.do_found.new.course) (g.C.Course.keeps c.do_found.new.course)) c.text.result.now (Some b) (Some line)) c.new-out.ensures
          (c.in_ok-step.ensures r run standing))));
      grows = grows_on told0 told1 told2 (held_grows told0 told1 c.args.page.now c.find_line.new.page [] c.in_ok-found.ensures.held)
          (front_grows told1 told2 (c.find_line.new.page ++ line) front);
      empty = subst (λ e. HoldsNone {T = Bool} (Err e) c.hold_text.new.page) (sym p.2) (empty_holds answer c.hold_text.new.page c.in_err-hold_text.ensures.empty);
      read = subst (λ e. ReadsCause {T = Bool} (Err e) (g.S.Source.faults c.args.input.now) (g.S.Source.faults c.find_line.new.input)) (sym p.2)
          (fault_reads answer (g.S.Source.faults c.args.input.now) (g.S.Source.faults c.find_line.new.input) c.in_err-hold_text.ensures.fault
          (found_is_same f (g.S.Source.faults c.args.input.now) (g.S.Source.faults c.find_line.new.input) c.in_default.not-Failed c.in_ok-found.ensures.read));
      write = subst (λ e. WritesCause {T = Bool} (Err e) (g.K.Sink.faults c.args.output.now) (g.K.Sink.faults c.hold_text.new.output)) (sym p.2)
          (writes_after answer (g.K.Sink.faults c.args.output.now) (g.K.Sink.faults c.find_line.new.output) (g.K.Sink.faults c.hold_text.new.output) c.in_ok-found.ensures.cause
          (fault_writes answer (g.K.Sink.faults c.find_line.new.output) (g.K.Sink.faults c.hold_text.new.output) c.in_err-hold_text.ensures.cause));
    })

pub returns-in-Failed-clause-done : goal.returns-in-Failed-clause-done
returns-in-Failed-clause-done g c = λ r run standing. line_unread c.in_ok-found.found (g.C.Course.writing.from c.args.k c.args.reader.now.at r run) c.args.reader.now c.find_line.new.reader
    (g.S.Source.left c.args.input.now) (g.S.Source.left c.find_line.new.input) (g.K.Sink.told c.args.output.now) (g.K.Sink.told c.find_line.new.output)
    c.args.page.now c.find_line.new.page c.in_ok-found.ensures.found (c.requires.writing.none c.args.k c.args.reader.now.at r run) c.in-Failed.is c.in_ok-found.ensures.held c.in_ok-found.ensures.part
