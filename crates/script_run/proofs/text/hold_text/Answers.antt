use Rattle.std.proofs.Common.{◌++◌, ap, sym, ◌∙◌, subst}
use Rattle.std.proofs.lemmas.Result.{err_from_is_err_and, on_ok_weaker, on_err_weaker}
use Rattle.edge_io.specs.Sink.{WritesFront}
use Rattle.line_text.specs.Hexadecimal.{hexadecimal_text}
use Rattle.script_rules.specs.Capture.{ended}
use Rattle.script_run.specs.Answers.{frame_end}
use Rattle.script_run.specs.Held.{Holds}
use Rattle.script_run.proofs.Held.{held_then, front_then, front_within}
use Rattle.script_run.proofs.text.hold_text.Goals as goal

pub returns-in_err-hold-clause-front : goal.returns-in_err-hold-clause-front
returns-in_err-hold-clause-front g c =
    let p = err_from_is_err_and c.from_residual.result c.from_residual.ensures.1 in
    let told0 = g.K.Sink.told c.args.output.now in
    let told1 = g.K.Sink.told c.hold.new.output in
    let words = c.args.text.now.words.items in
    rw p.1 (front_within told0 told1 c.args.page.now words (frame_end c.args.text.now.frame)
    (subst (λ t. WritesFront told0 told1 (c.args.page.now ++ t)) c.deref.ensures.value c.in_err-hold.ensures.front))

pub returns-in-Some-clause-held : goal.returns-in-Some-clause-held
returns-in-Some-clause-held g c =
    let told0 = g.K.Sink.told c.args.output.now in
    let told1 = g.K.Sink.told c.hold.new.output in
    let told2 = g.K.Sink.told c.hold_frame.new.output in
    let words = c.args.text.now.words.items in
    let line = ap (λ bytes. ended (hexadecimal_text bytes)) c.deref-in-Some.ensures.value ∙ ap frame_end (sym c.in-Some.is) in
    let first = subst (Holds told0 told1 c.args.page.now c.hold.new.page) c.deref.ensures.value c.in_ok-hold.ensures.held in
    on_ok_weaker c.hold_frame.result (λ h. held_then told0 told1 told2 c.args.page.now c.hold.new.page c.hold_frame.new.page words (frame_end c.args.text.now.frame) first
    (subst (Holds told1 told2 c.hold.new.page c.hold_frame.new.page) line h)) c.hold_frame.ensures.held

pub returns-in-Some-clause-front : goal.returns-in-Some-clause-front
returns-in-Some-clause-front g c =
    let told0 = g.K.Sink.told c.args.output.now in
    let told1 = g.K.Sink.told c.hold.new.output in
    let told2 = g.K.Sink.told c.hold_frame.new.output in
    let words = c.args.text.now.words.items in
    let line = ap (λ bytes. ended (hexadecimal_text bytes)) c.deref-in-Some.ensures.value ∙ ap frame_end (sym c.in-Some.is) in
    let first = subst (Holds told0 told1 c.args.page.now c.hold.new.page) c.deref.ensures.value c.in_ok-hold.ensures.held in
    on_err_weaker c.hold_frame.result (λ f. front_then told0 told1 told2 c.args.page.now c.hold.new.page words (frame_end c.args.text.now.frame) first
    (subst (λ t. WritesFront told1 told2 (c.hold.new.page ++ t)) line f)) c.hold_frame.ensures.front
