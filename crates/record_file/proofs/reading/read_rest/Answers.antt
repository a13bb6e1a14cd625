use Rattle.std.proofs.Common.{◌≡◌, ◌∙◌, sym, Some}
use Rattle.record_file.proofs.Replayed.{behind_some, rest_done}
use Rattle.record_file.proofs.reading.read_rest.Goals as goal

pub returns-clause-read : goal.returns-clause-read
returns-clause-read c = λ stream h.
    let course = c.args.course.now in
    let is : course.playing ≡ Some c.in-Some.playing = sym c.take.ensures.value ∙ c.in-Some.is in
    let b = behind_some course.playing c.in-Some.playing stream course.part.items course.missing c.args.told.now is h in
    rest_done stream course.part.items c.deref.result.now c.drop_front.new.bytes.items c.in_ok-used.used c.in-Some.playing c.replay_entries.new.playing c.args.told.now c.replay_entries.new.told
    c.deref.ensures.value c.drop_front.ensures (c.in_ok-used.ensures.replayed stream) b.0 b.1
