use Rattle.std.proofs.Common.{◌≡◌, [], ◌∷◌, ◌++◌, ap, sym, ◌∙◌, subst, append_assoc, arith}
use Rattle.std.proofs.lemmas.Result.{err_from_is_err_and, on_ok_weaker, on_err_weaker}
use Rattle.std.proofs.lemmas.List.{nil_from_length}
use Rattle.std.proofs.lemmas.Bool.Decides.{nat_tests}
use Rattle.edge_io.specs.Sink.{WritesFront}
use Rattle.line_text.specs.Hexadecimal.{hexadecimal_text}
use Rattle.line_text.proofs.HexadecimalLemmas.{hexadecimal_rest}
use Rattle.script_rules.specs.Capture.{ended}
use Rattle.script_run.specs.Held.{Holds}
use Rattle.script_run.proofs.Held.{held_then, front_then, front_within, parts_of_line, end_of_line}
use Rattle.script_run.proofs.text.hold_frame.Goals as goal

pub returns-in_err-hold_piece-clause-front : goal.returns-in_err-hold_piece-clause-front
returns-in_err-hold_piece-clause-front g c =
    let p = err_from_is_err_and c.from_residual.result c.from_residual.ensures.1 in
    let i = c.loop-rest.invariant in
    let told0 = g.K.Sink.told c.args.output.now in
    let told1 = g.K.Sink.told c.loop-rest.output in
    let told2 = g.K.Sink.told c.hold_piece.new.output in
    let rest = c.loop-rest.rest.now in
    let now = hexadecimal_text c.split_at.result.0.now in
    let later = hexadecimal_text c.split_at.result.1.now in
    let parts : hexadecimal_text rest ≡ now ++ later = rw (c.split_at.ensures.front, c.split_at.ensures.back) (hexadecimal_rest rest c.min.result) in
    rw p.1 (subst (λ t. WritesFront told0 told2 (c.args.page.now ++ t)) (sym (parts_of_line (hexadecimal_text c.args.bytes.now) i.done (hexadecimal_text rest) now later i.whole parts))
    (front_then told0 told1 told2 c.args.page.now c.loop-rest.page i.done (now ++ ended later) i.held
    (front_within told1 told2 c.loop-rest.page now (ended later) c.in_err-hold_piece.ensures.front)))

pub loop-rest-preserved : goal.loop-rest-preserved
loop-rest-preserved g c =
    let i = c.loop-rest.invariant in
    let rest = c.loop-rest.rest.now in
    let now = hexadecimal_text c.split_at.result.0.now in
    let later = hexadecimal_text c.split_at.result.1.now in
    let parts : hexadecimal_text rest ≡ now ++ later = rw (c.split_at.ensures.front, c.split_at.ensures.back) (hexadecimal_rest rest c.min.result) in
    record {
      done = i.done ++ now;
      whole = i.whole ∙ ap (λ t. i.done ++ t) parts ∙ sym (append_assoc i.done now later);
      held = held_then (g.K.Sink.told c.args.output.now) (g.K.Sink.told c.loop-rest.output) (g.K.Sink.told c.hold_piece.new.output)
          c.args.page.now c.loop-rest.page c.hold_piece.new.page i.done now i.held c.in_ok-hold_piece.ensures.held;
      write = c.in_ok-hold_piece.ensures.cause ∙ i.write;
    }

pub returns-clause-held : goal.returns-clause-held
returns-clause-held g c =
    let i = c.loop-rest.invariant in
    let told0 = g.K.Sink.told c.args.output.now in
    let told1 = g.K.Sink.told c.loop-rest.output in
    let told2 = g.K.Sink.told c.hold.new.output in
    let none : c.loop-rest.rest.now ≡ [] = nil_from_length c.loop-rest.rest.now (grind (arith, nat_tests, c.is_empty.ensures, c.loop-rest-test.false)) in
    let whole = end_of_line (hexadecimal_text c.args.bytes.now) i.done (hexadecimal_text c.loop-rest.rest.now) i.whole (ap hexadecimal_text none) in
    on_ok_weaker c.hold.result (λ h. subst (Holds told0 told2 c.args.page.now c.hold.new.page) (sym whole)
    (held_then told0 told1 told2 c.args.page.now c.loop-rest.page c.hold.new.page i.done (10 ∷ []) i.held h)) c.hold.ensures.held

pub returns-clause-front : goal.returns-clause-front
returns-clause-front g c =
    let i = c.loop-rest.invariant in
    let told0 = g.K.Sink.told c.args.output.now in
    let told1 = g.K.Sink.told c.loop-rest.output in
    let told2 = g.K.Sink.told c.hold.new.output in
    let none : c.loop-rest.rest.now ≡ [] = nil_from_length c.loop-rest.rest.now (grind (arith, nat_tests, c.is_empty.ensures, c.loop-rest-test.false)) in
    let whole = end_of_line (hexadecimal_text c.args.bytes.now) i.done (hexadecimal_text c.loop-rest.rest.now) i.whole (ap hexadecimal_text none) in
    on_err_weaker c.hold.result (λ f. subst (λ t. WritesFront told0 told2 (c.args.page.now ++ t)) (sym whole)
    (front_then told0 told1 told2 c.args.page.now c.loop-rest.page i.done (10 ∷ []) i.held f)) c.hold.ensures.front
