use Rattle.std.proofs.Common.{length, subst}
use Rattle.std.specs.Prelude.{Option, vec_len}
use Rattle.record_file.specs.declared.playing.Playing.{Playing}
use Rattle.record_file.specs.Standing.{IsReadingBy}
use Rattle.record_file.proofs.Resuming.{some_resumed, none_resumed, none_left}
use Rattle.record_file.proofs.resumed.session_of.Goals as goal

pub returns-in-Some : goal.returns-in-Some
returns-in-Some c = λ stream told h.
    let course = c.args.course in
    let k = subst (λ (o : Option Playing). IsReadingBy o stream course.part.items course.missing told) c.in-Some.is h in
    some_resumed stream course.part.items c.in-Some.playing told c.with_more.result c.with_more.ensures.session c.with_more.ensures.place
    (λ none. none_left (vec_len course.part) (length course.part.items) c.is_empty-more.result c.with_more.result.more course.part.ok.0 c.is_empty-more.ensures c.with_more.ensures.more none) k.0 k.1

pub returns : goal.returns
returns c = λ stream told h.
    let course = c.args.course in
    let k = subst (λ (o : Option Playing). IsReadingBy o stream course.part.items course.missing told) c.in-None.is h in
    none_resumed stream course.part.items course.missing told k
