use Rattle.std.proofs.Common.{◌++◌}
use Rattle.std.proofs.lemmas.Result.{err_from_is_err_and}
use Rattle.record_file.proofs.Replayed.{more_came}
use Rattle.record_file.proofs.reading.read_on.Goals as goal

pub returns-in_err-read_first-clause-read : goal.returns-in_err-read_first-clause-read
returns-in_err-read_first-clause-read c = λ stream h.
    let p = err_from_is_err_and c.from_residual-in_err-read_first.result c.from_residual-in_err-read_first.ensures.1 in
    let course = c.args.course.now in
    let b = more_came course.playing stream c.args.bytes.now course.part.items c.put_bytes.new.out.items course.missing c.args.told.now c.in_ok-put_bytes.ensures.ok h in
    rw (p.1, p.2) (c.in_err-read_first.ensures.read (stream ++ c.args.bytes.now) b)

pub returns-clause-read : goal.returns-clause-read
returns-clause-read c = λ stream h.
    let course = c.args.course.now in
    let b = more_came course.playing stream c.args.bytes.now course.part.items c.put_bytes.new.out.items course.missing c.args.told.now c.in_ok-put_bytes.ensures.ok h in
    c.read_rest.ensures.read (stream ++ c.args.bytes.now) (c.in_ok-read_first.ensures.read (stream ++ c.args.bytes.now) b)
