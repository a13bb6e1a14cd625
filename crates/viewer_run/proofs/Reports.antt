-- What a report says of its viewer.
use Rattle.std.proofs.Common.{◌≡◌, ℕ, ◌+◌, [], ⊎_elim, arith}
use Rattle.session_rules.specs.Journal.{Head}
use Rattle.serve_rules.specs.Turns.{SessionPass}
use Rattle.serve_rules.specs.declared.noted.ConnReport.{ConnReport}
use Rattle.edge_io.specs.Outside.{Outside}
use Rattle.viewer_run.specs.Links.{IsOutside, IsVisit, ServesViewer, JoinsFirst}

module _ (head : Head) (p q : SessionPass) (report : ConnReport) (link spent : Outside) where
  never_zero : (n : ℕ) → report.viewer ≡ n + 1 → report.viewer ≡ 0 → ⊥
  never_zero n is zero_is = omega (arith, is, zero_is)

  -- that of nobody has no places
  pub nobodys_places : ServesViewer head p q report link spent → report.viewer ≡ 0 → report.places.list ≡ []
  nobodys_places s nobody = ⊎_elim (λ (o : IsOutside head q report link spent s.read). o.none)
      (λ (v : IsVisit head p q report link spent s.read). absurd (never_zero _ v.number nobody)) s.came

  -- that of a viewer begins with its Join's
  pub viewers_first_place : ServesViewer head p q report link spent → (report.viewer ≡ 0 → ⊥) → JoinsFirst report.viewer report.places.list q.seen
  viewers_first_place s some = ⊎_elim (λ (o : IsOutside head q report link spent s.read). absurd (some o.nobody))
      (λ (v : IsVisit head p q report link spent s.read). record { join = v.join; role = v.role; rest = _; first = v.places; entry = v.joins }) s.came
