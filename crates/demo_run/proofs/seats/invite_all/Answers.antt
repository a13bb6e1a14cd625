use Rattle.std.proofs.Common.{◌≡◌, ◌∙◌, ◌+◌, ◌<◌, List, ℕ, [], ◌∷◌, ◌++◌, length, ap, sym, subst, arith}
use Rattle.std.specs.Prelude.{IsTrue}
use Rattle.px_core.specs.Picture.{listed}
use Rattle.session_rules.specs.Journal.{Head, Row}
use Rattle.session_rules.specs.declared.entry.Role.{Role}
use Rattle.script_rules.specs.CaptureText.{run_at_first, encoder_frames}
use Rattle.script_rules.specs.Script.{is_name, is_invited}
use Rattle.script_run.specs.Hosts.{with_invited}
use Rattle.demo_run.specs.Scene.{demo_size, name_of, role_of, row_of}
use Rattle.demo_run.specs.Asks.{IsViewer}
use Rattle.demo_run.proofs.Scenes.{names_are_names, names_are_fresh, listed_next, listed_length}
use Rattle.demo_run.proofs.seats.invite_all.Goals as goal

pub invite-requires-clause-name : goal.invite-requires-clause-name
invite-requires-clause-name c =
    let v = c.loop-i.i + 1 in
    let viewer : IsViewer v = (omega arith, omega (arith, c.loop-i-test.true)) in
    subst (λ n. IsTrue (is_name n)) (sym (c.deref.ensures.value ∙ c.in_ok-name.ensures)) (names_are_names v viewer)

pub invite-requires-clause-fresh : goal.invite-requires-clause-fresh
invite-requires-clause-fresh c =
    let i = c.loop-i.i in
    let rows = c.loop-i.host.session.head.rows in
    ap (λ n. is_invited n rows) (c.deref.ensures.value ∙ c.in_ok-name.ensures)
    ∙ (ap (λ (h : Head). is_invited (name_of (i + 1)) h.rows) c.loop-i.invariant.head ∙ names_are_fresh i c.loop-i-test.true)

pub invite-requires-clause-room : goal.invite-requires-clause-room
invite-requires-clause-room c =
    let i = c.loop-i.i in
    let rows : length c.loop-i.host.session.head.rows ≡ i = ap (λ (h : Head). length h.rows) c.loop-i.invariant.head ∙ listed_length row_of i 1 in
    omega (arith, rows, c.loop-i-test.true)

pub loop-i-preserved : goal.loop-i-preserved
loop-i-preserved c =
    let i = c.loop-i.i in
    let old = c.loop-i.host.session.head in
    let named : List ℕ → Role → Row = λ n r. record { name = n; role = r } in
    let sized : List Row → Head = λ rows. record { size = demo_size; rows = rows } in
    record {
      begun = c.in_ok-invite.ensures.begun ∙ c.loop-i.invariant.begun;
      head = c.in_ok-invite.ensures.head
          ∙ (ap (λ n. with_invited old (named n c.role_of.result)) (c.deref.ensures.value ∙ c.in_ok-name.ensures)
          ∙ (ap (λ r. with_invited old (named (name_of (i + 1)) r)) c.role_of.ensures
          ∙ (ap (λ (h : Head). with_invited h (row_of (i + 1))) c.loop-i.invariant.head ∙ ap sized (listed_next row_of i))));
      run = c.in_ok-invite.ensures.run (run_at_first encoder_frames demo_size) c.loop-i.invariant.run;
    }
