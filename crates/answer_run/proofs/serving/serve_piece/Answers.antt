use Rattle.std.proofs.Common.{◌<◌, Fits, w8, sym, subst, arith}
use Rattle.std.specs.Prelude.{All, slice_index_or}
use Rattle.std.proofs.lemmas.List.Elements.{All-from_get_or}
use Rattle.conn_rules.specs.Hearing.{heard}
use Rattle.conn_rules.specs.Placed.{AreBytes, ArePlaced}
use Rattle.answer_run.specs.Asking.{owners_head}
use Rattle.answer_run.specs.Visits.{HasCaches}
use Rattle.answer_run.specs.Serves.{DoesHeard}
use Rattle.answer_run.specs.declared.fault.AnswerFault.TheVariants as fault
use Rattle.answer_run.proofs.Pieces.{fed_from, fed_placed}
use Rattle.answer_run.proofs.Served.{piece_served, memory_served}
use Rattle.answer_run.proofs.serving.serve_piece.Goals as goal

pub do_heard-requires-clause-placed : goal.do_heard-requires-clause-placed
do_heard-requires-clause-placed g c =
    let h = c.args.serving.now.conn.hearing in
    let bytes = c.args.bytes.now in
    let are : AreBytes bytes = All-from_get_or (λ b. b < 256) bytes 0
    (λ k below. let fits : Fits w8 (slice_index_or bytes k 0) = c.type_inv.bytes k in let less : slice_index_or bytes k 0 < 256 = omega (arith, fits) in less) in
    let fed = fed_from c.feed-fed.result c.in-Ok.refusal (heard h bytes) c.feed-fed.new.self c.new-replies.result.items c.feed-fed.new.out.items c.new-steps.result.items
    c.feed-fed.new.steps.items c.new-replies.ensures.items c.new-steps.ensures.items c.in-Ok.ensures c.feed-fed.ensures.heard c.feed-fed.ensures.appended in
    subst ArePlaced (sym c.deref-in-Ok-2.ensures.value)
    (fed_placed h bytes c.feed-fed.new.out.items c.feed-fed.new.steps.items c.feed-fed.new.self c.in-Ok.refusal fed c.requires.part are)

pub returns-in-Ok-clause-done : goal.returns-in-Ok-clause-done
returns-in-Ok-clause-done g c =
    let h = c.args.serving.now.conn.hearing in
    let head = owners_head c.args.host.now.size c.args.host.now.owner in
    let bytes = c.args.bytes.now in
    let replies = c.feed-fed.new.out.items in
    let steps = c.feed-fed.new.steps.items in
    let told = g.K.Sink.told c.args.output.now in
    let telling = g.K.Sink.told c.do_heard.new.output in
    let are : AreBytes bytes = All-from_get_or (λ b. b < 256) bytes 0
    (λ k below. let fits : Fits w8 (slice_index_or bytes k 0) = c.type_inv.bytes k in let less : slice_index_or bytes k 0 < 256 = omega (arith, fits) in less) in
    let fed = fed_from c.feed-fed.result c.in-Ok.refusal (heard h bytes) c.feed-fed.new.self c.new-replies.result.items replies c.new-steps.result.items
    steps c.new-replies.ensures.items c.new-steps.ensures.items c.in-Ok.ensures c.feed-fed.ensures.heard c.feed-fed.ensures.appended in
    let caches : All HasCaches steps = subst (All HasCaches) c.deref.ensures.value c.have_caches.ensures in
    let done : DoesHeard c.do_heard.result head replies steps c.in-Ok.refusal c.args.serving.now.visitor c.do_heard.new.visitor told telling =
    subst (λ xs. DoesHeard c.do_heard.result head replies xs c.in-Ok.refusal c.args.serving.now.visitor c.do_heard.new.visitor told telling) c.deref-in-Ok-2.ensures.value
    (subst (λ bs. DoesHeard c.do_heard.result head bs c.deref-in-Ok-2.result.now c.in-Ok.refusal c.args.serving.now.visitor c.do_heard.new.visitor told telling) c.deref-in-Ok.ensures.value
    c.do_heard.ensures.done) in
    piece_served c.do_heard.result head c.args.serving.now bytes replies steps c.in-Ok.refusal c.feed-fed.new.self c.do_heard.new.visitor told telling fed are caches done
    c.do_heard.ensures.ready

pub returns-clause-done : goal.returns-clause-done
returns-clause-done g c = memory_served fault.OutOfMemory (owners_head c.args.host.now.size c.args.host.now.owner) c.args.serving.now c.args.serving.now c.args.bytes.now (g.K.Sink.told c.args.output.now)
