use Rattle.std.proofs.Common.{◌≡◌, ◌∙◌, ◌+◌, ◌<◌, List, ℕ, [], ◌∷◌, ◌++◌, ap, sym, subst, arith}
use Rattle.std.specs.Prelude.{IsTrue}
use Rattle.px_core.specs.Picture.{listed}
use Rattle.caps_sets.specs.declared.confirmed.Confirmed.{Confirmed}
use Rattle.session_rules.specs.Journal.{Head}
use Rattle.session_rules.specs.Steps.Step.{JoinStep}
use Rattle.script_rules.specs.Script.{Asked, is_name}
use Rattle.script_rules.specs.CaptureText.{run_at_first, run_after, encoder_frames}
use Rattle.script_run.specs.Runs.{IsRunOf}
use Rattle.demo_run.specs.Scene.{demo_size, demo_head, name_of, preset_of, join_of}
use Rattle.demo_run.specs.Asks.{IsViewer}
use Rattle.demo_run.specs.Standing.{run_of}
use Rattle.demo_run.proofs.Runs.{run_more}
use Rattle.demo_run.proofs.Scenes.{names_are_names, listed_next, all_joined}
use Rattle.demo_run.proofs.seats.join_all.Goals as goal

pub join-requires : goal.join-requires
join-requires c =
    let v = c.loop-i.i + 1 in
    let viewer : IsViewer v = (omega arith, omega (arith, c.loop-i-test.true)) in
    subst (λ n. IsTrue (is_name n)) (sym (c.deref.ensures.value ∙ c.in_ok-name.ensures)) (names_are_names v viewer)

pub loop-i-preserved : goal.loop-i-preserved
loop-i-preserved c =
    let i = c.loop-i.i in
    let now = run_of (listed i 1 join_of) in
    let preset = (preset_of (i + 1)).word ∷ [] in
    let named : List ℕ → Confirmed → Asked = λ n k. record { step = JoinStep n; preset = preset; confirmed = k } in
    let asked : named c.deref.result.now c.preset_of.result ≡ join_of (i + 1) =
    ap (λ n. named n c.preset_of.result) (c.deref.ensures.value ∙ c.in_ok-name.ensures) ∙ ap (named (name_of (i + 1))) c.preset_of.ensures in
    let ran : IsRunOf c.join.new.self (run_after encoder_frames c.loop-i.host.session.head now (named c.deref.result.now c.preset_of.result)) =
    (c.in_ok-join.ensures.done now preset c.loop-i.invariant.run).is_run in
    let here = subst (λ (h : Head). IsRunOf c.join.new.self (run_after encoder_frames h now (named c.deref.result.now c.preset_of.result))) c.loop-i.invariant.head ran in
    let joined = subst (λ (a : Asked). IsRunOf c.join.new.self (run_after encoder_frames demo_head now a)) asked here in
    record {
      head = c.in_ok-join.ensures.head ∙ c.loop-i.invariant.head;
      run = subst (λ xs. IsRunOf c.join.new.self (run_of xs)) (listed_next join_of i)
          (subst (IsRunOf c.join.new.self) (sym (run_more demo_head (run_at_first encoder_frames demo_size) (listed i 1 join_of) (join_of (i + 1)))) joined);
    }

pub returns-clause-run : goal.returns-clause-run
returns-clause-run c =
    let end : c.loop-i.i ≡ 16 = omega arith in
    all_joined c.loop-i.host c.loop-i.i end c.loop-i.invariant.run
