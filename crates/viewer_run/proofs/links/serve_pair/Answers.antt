use Rattle.std.proofs.Common.{◌≡◌, ◌∙◌, [], true, sym, ap, subst, Ok, Err}
use Rattle.std.specs.Prelude.{Some}
use Rattle.edge_io.specs.Outside.{input_of, output_of, outside_of}
use Rattle.px_core.specs.declared.surface.Size.{Size}
use Rattle.px_core.specs.Rectangle.{is_session_size}
use Rattle.conn_core.specs.Kept.{ConnOf}
use Rattle.conn_rules.specs.Hearing.{Hearing, first_hearing, end_of}
use Rattle.serve_rules.specs.Reading.{IsNoRefusal}
use Rattle.viewer_run.specs.Greeting.{Greets}
use Rattle.viewer_run.proofs.Streams.{silent_replies}
use Rattle.viewer_run.proofs.LinkStreams.{heard_first}
use Rattle.viewer_run.proofs.Outsiders.{not_heard, not_greeted}
use Rattle.viewer_run.proofs.LetIn.{ready_served}
use Rattle.viewer_run.proofs.links.serve_pair.Goals as goal

pub returns-in_default-clause-served : goal.returns-in_default-clause-served
returns-in_default-clause-served g c =
    not_heard c.args.lock.now.head c.args.pass c.size_of-pass.result.0 c.turn_away.result (input_of g.S.Source c.args.input.now) (output_of g.K.Sink c.args.output.now)
    (output_of g.K.Sink c.turn_away.new.output)
    c.size_of-pass.ensures.idle c.size_of-pass.ensures.legal
    (silent_replies (first_hearing c.args.lock.now.head.size) (first_hearing c.args.lock.now.head.size, [], heard_first c.args.lock.now.head.size))
    (record { nobody = c.turn_away.ensures.nobody; none = c.turn_away.ensures.none }) c.turn_away.ensures.last

pub greet-requires-clause-heard : goal.greet-requires-clause-heard
greet-requires-clause-heard g c =
    let at : c.in-Ok.conn.hearing ≡ first_hearing c.size_of-pass.result.1 = ap (λ (k : ConnOf). k.hearing) c.in-Ok.ensures in
    (first_hearing c.size_of-pass.result.1, [], at ∙ heard_first c.size_of-pass.result.1)

pub greet-requires-clause-unrefused : goal.greet-requires-clause-unrefused
greet-requires-clause-unrefused g c = subst (λ (h : Hearing). IsNoRefusal (end_of h)) (sym (ap (λ (k : ConnOf). k.hearing) c.in-Ok.ensures)) tt

pub returns-in-Ok-greet-clause-served : goal.returns-in-Ok-greet-clause-served
returns-in-Ok-greet-clause-served g c =
    let link = outside_of g.S.Source g.K.Sink c.args.input.now c.args.output.now in
    let between = outside_of g.S.Source g.K.Sink c.greet.new.input c.greet.new.output in
    ready_served c.args.lock.now.head c.args.pass c.size_of-pass.result.0 c.serve_over.result.0 c.size_of-pass.result.1 c.greet.new.conn.hearing c.in-Ok-greet.ensures.greets.0
    c.in-Ok-greet.guest c.serve_over.result.1 link between (outside_of g.S.Source g.K.Sink c.serve_over.new.input c.serve_over.new.output) c.size_of-pass.ensures.size
    (subst (λ (size : Size). is_session_size size.w size.h ≡ true) c.size_of-pass.ensures.size c.size_of-pass.ensures.fits) c.serve_over.ensures.caches c.size_of-pass.ensures.idle c.serve_over.ensures.legal
    (subst (λ (h : Hearing). Greets h c.greet.new.conn.hearing [] c.in-Ok-greet.ensures.greets.0 link between (Ok (Some c.in-Ok-greet.guest))) (ap (λ (k : ConnOf). k.hearing) c.in-Ok.ensures)
    c.in-Ok-greet.ensures.greets.1)
    c.serve_over.ensures.served

pub returns-in-Err-clause-served : goal.returns-in-Err-clause-served
returns-in-Err-clause-served g c =
    let link = outside_of g.S.Source g.K.Sink c.args.input.now c.args.output.now in
    not_greeted c.args.lock.now.head c.args.pass c.size_of-pass.result.0 c.turn_away-in-Err.result c.size_of-pass.result.1 c.greet.new.conn.hearing c.in-Err.ensures.greets.0
    link (input_of g.S.Source c.greet.new.input) (output_of g.K.Sink c.greet.new.output) (output_of g.K.Sink c.turn_away-in-Err.new.output) c.in-Err.end c.size_of-pass.ensures.size
    c.size_of-pass.ensures.idle c.size_of-pass.ensures.legal
    (subst (λ (h : Hearing). Greets h c.greet.new.conn.hearing [] c.in-Err.ensures.greets.0 link (outside_of g.S.Source g.K.Sink c.greet.new.input c.greet.new.output) (Err c.in-Err.end))
    (ap (λ (k : ConnOf). k.hearing) c.in-Ok.ensures) c.in-Err.ensures.greets.1)
    (record { nobody = c.turn_away-in-Err.ensures.nobody; none = c.turn_away-in-Err.ensures.none }) c.turn_away-in-Err.ensures.last
