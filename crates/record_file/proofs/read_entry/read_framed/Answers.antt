use Rattle.record_file.proofs.Readers.{framed_broken}
use Rattle.record_file.proofs.read_entry.read_framed.Goals as goal

pub returns-in-Err-Broken-clause-read : goal.returns-in-Err-Broken-clause-read
returns-in-Err-Broken-clause-read c =
    let found = rw c.new-cursor.ensures at c.in-Ok.ensures in
    let read = rw c.in-Err-Broken.field-0-is at c.in-Err-Broken.ensures.read in
    rw (c.at-in-Err-Broken.ensures.place) (framed_broken c.args.bytes.now c.find_body.new.cursor c.in-Ok.body c.read_body.new.body found.0 found.1 found.2 found.3 read.0 read.1 (rw c.at-in-Err-Broken.ensures.place at c.at-in-Err-Broken.ensures.inside))
