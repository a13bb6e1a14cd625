use Rattle.std.proofs.Common.{ap, Some}
use Rattle.record_file.specs.Reads.{head_of}
use Rattle.record_file.specs.Replaying.{replayed}
use Rattle.record_file.specs.Replaying.Fault.{BadForm}
use Rattle.record_file.proofs.HeadRight.{head_right}
use Rattle.record_file.proofs.Stands.{broken_head_is, first_tells}
use Rattle.record_file.proofs.reading.read_new.Goals as goal

pub begin-requires-clause-size : goal.begin-requires-clause-size
begin-requires-clause-size c = (head_right c.deref.result.now (head_of c.in-Ok.head) _ c.in-Ok.ensures.1).0

pub begin-requires-clause-rows : goal.begin-requires-clause-rows
begin-requires-clause-rows c = (head_right c.deref.result.now (head_of c.in-Ok.head) _ c.in-Ok.ensures.1).1

pub returns-in-Err-Broken-clause-read : goal.returns-in-Err-Broken-clause-read
returns-in-Err-Broken-clause-read c = λ first.
    let h = rw c.deref.ensures.value at (rw c.in-Err-Broken.field-0-is at c.in-Err-Broken.ensures) in
    let stream = c.args.course.now.part.items in
    let e = broken_head_is stream c.in-Err-Broken.at h.0 h.1 in
    rw c.in-Err-Broken.field-0-is (ap (λ r. r.fault) e, first_tells (replayed stream) c.args.told.now (Some (BadForm c.in-Err-Broken.at)) e first)
