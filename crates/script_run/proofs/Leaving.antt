-- A run after a viewer left.
use Rattle.std.proofs.Common.{◌≡◌, ℕ, ◌≤◌, ◌<◌, List, [], ◌∷◌, ◌++◌, length, refl, ap, sym, ◌∙◌, subst, arith, length-append}
use Rattle.std.specs.Prelude.{Bool, true, false, ◌==◌, IsTrue, None, option_to_list, if◌then◌else◌, codes}
use Rattle.std.proofs.lemmas.Bool.{eqb-true}
use Rattle.std.proofs.lemmas.Bool.Decides.{nat_tests}
use Rattle.px_core.specs.Rectangle.{is_session_size}
use Rattle.px_core.specs.Tiles.{no_tiles}
use Rattle.session_rules.specs.declared.entry.Entry.TheVariants.{Leave}
use Rattle.session_rules.specs.Journal.{Reached, Viewer, is_present, without_viewer, IsLegalJournal}
use Rattle.session_rules.specs.Steps.{Outcome, replaced_for, entered, outcome}
use Rattle.session_rules.specs.Steps.Step.{LeaveStep}
use Rattle.session_rules.specs.Steps.Answer.{Left}
use Rattle.session_rules.specs.Reaching.{IsSoundReached}
use Rattle.session_rules.proofs.Sound.{sound_reached}
use Rattle.session_core.specs.SessionModel.{reached_by, is_here, asked_by, is_suppressed}
use Rattle.session_core.proofs.Sessions.{reached_at_end}
use Rattle.session_core.proofs.Leaving.{leave_legal, gone}
use Rattle.frame_rules.specs.Encoder.{Encoder}
use Rattle.script_rules.specs.Script.{Asked}
use Rattle.script_rules.specs.Capture.{of_viewer}
use Rattle.script_rules.specs.CaptureText.{Run, run_after, run_by, line_by, line_in_run, encoder_frames}
use Rattle.script_run.specs.Hosts.{HostModel, seat_of}
use Rattle.script_run.specs.Runs.{IsViewerOf, IsRunOf}
use Rattle.script_run.proofs.StepsOn.{session_reached, StaysFor, viewer_stays, later_stays, is_no_later, replaced_other}

-- who is present among those that stay was present
stayed : (u v : ℕ) (xs : List Viewer) → is_present u (without_viewer v xs) ≡ true → is_present u xs ≡ true
stayed u v [] h = h
stayed u v (x ∷ xs) h = by (x.number == v) (x.number == u) refl h (stayed u v xs)
  where
    by : (s t : Bool) → (x.number == u) ≡ t → is_present u (if s then xs else x ∷ without_viewer v xs) ≡ true
        → (is_present u (without_viewer v xs) ≡ true → is_present u xs ≡ true) → is_present u (x ∷ xs) ≡ true
    by true true eq k again = rw eq refl
    by false true eq k again = rw eq refl
    by true false eq k again = rw eq k
    by false false eq k again = rw eq (again (rw eq at k))

-- a viewer that is present may leave
pub leave_told : (host : HostModel) (run : Run Encoder) (v : ℕ) → v < 4294967296 → IsRunOf host run → IsTrue (is_here host.session v)
    → (outcome host.session.head run.play (LeaveStep v)).answer ≡ Left
leave_told host run v small r mine =
    let here : is_present v run.play.reached.viewers ≡ true = ap (λ (x : Reached). is_present v x.viewers) r.reached ∙ mine in
    ap (λ q. (entered host.session.head run.play (Leave v) Left q).answer) (leave_legal host.session.head run.play.reached v small here)

-- a viewer that is present leaves: nothing is asked of it any more, and all is as it was for the others
pub leave_on : (host new : HostModel) (run : Run Encoder) (a : Asked) (v : ℕ) → a.step ≡ LeaveStep v → v < 4294967296 → IsRunOf host run → IsTrue (is_here host.session v)
    → is_session_size host.session.head.size.w host.session.head.size.h ≡ true → IsLegalJournal host.session.head host.session.journal
    → new.session.head ≡ host.session.head → new.session.journal ≡ host.session.journal ++ Leave v ∷ []
    → asked_by new.session ≡ replaced_for v no_tiles (asked_by host.session) → is_suppressed new.session ≡ replaced_for v false (is_suppressed host.session)
    → ((u : ℕ) → (v == u) ≡ false → seat_of u new.seats ≡ seat_of u host.seats)
    → (of_viewer v (codes "left") ≡ line_in_run encoder_frames host.session.head run a) × IsRunOf new (run_after encoder_frames host.session.head run a)
leave_on host new run a v is small r mine size legal head journal asked suppressed seats =
    let hd = host.session.head in
    let b : Asked = record { step = LeaveStep v; preset = a.preset; confirmed = a.confirmed } in
    let here : is_present v run.play.reached.viewers ≡ true = ap (λ (x : Reached). is_present v x.viewers) r.reached ∙ mine in
    let lawful = leave_legal hd run.play.reached v small here in
    let o : Outcome = entered hd run.play (Leave v) Left None in
    let outcome_is : outcome hd run.play (LeaveStep v) ≡ o = ap (entered hd run.play (Leave v) Left) lawful in
    let next = run_by encoder_frames hd.size run b o in
    let made : new.session.journal ≡ host.session.journal ++ option_to_list (outcome hd run.play (LeaveStep v)).entry =
    journal ∙ ap (λ (q : Outcome). host.session.journal ++ option_to_list q.entry) (sym outcome_is) in
    let reached : next.play.reached ≡ reached_by new.session =
    ap (λ (q : Outcome). q.play.reached) (sym outcome_is) ∙ session_reached host.session new.session run.play (LeaveStep v) head made r.reached in
    let sound = subst (λ (x : Reached). IsSoundReached hd.size x) (sym (reached_at_end hd.size host.session.journal) ∙ sym r.reached) (sound_reached hd host.session.journal size legal) in
    let low = is_no_later host run v r mine in
    let count = ap length journal in
    let longer : length host.session.journal ≤ length new.session.journal = omega (arith, count, length-append host.session.journal (Leave v ∷ [])) in
    let stays : (u : ℕ) → (v == u) ≡ false → StaysFor host new run next u = λ u ne. record {
      asked = refl;
      suppressed = refl;
      taken = refl;
      confirmed = refl;
      encoder = refl;
      kept = ap (λ f. f u) asked ∙ replaced_other v u _ (asked_by host.session) ne;
      stopped = ap (λ f. f u) suppressed ∙ replaced_other v u _ (is_suppressed host.session) ne;
      seat = seats u ne;
    } in
    let joins : (reached_by new.session).joins ≡ (reached_by host.session).joins =
    ap (λ (x : Reached). x.joins) (sym reached) ∙ ((omega arith) ∙ ap (λ (x : Reached). x.joins) r.reached) in
    let one : (u : ℕ) (t : Bool) → (v == u) ≡ t → is_present u (without_viewer v run.play.reached.viewers) ≡ true → IsViewerOf new u next = other new v r stays longer (gone v 0 _ _ sound.numbered) in
    let is_run : IsRunOf new next = record {
      journal = ap (λ j. j ++ Leave v ∷ []) r.journal ∙ sym journal;
      reached = reached;
      present = λ u h. one u (v == u) refl (ap (λ (x : Reached). is_present u x.viewers) reached ∙ h);
      later = λ u above. later_stays host new run next u (stays u (grind (arith, nat_tests, above, low, joins))) (r.later u (omega (arith, above, joins)));
    } in
    subst (λ s. (of_viewer v (codes "left") ≡ line_in_run encoder_frames hd run (record { step = s; preset = a.preset; confirmed = a.confirmed }))
    × IsRunOf new (run_after encoder_frames hd run (record { step = s; preset = a.preset; confirmed = a.confirmed }))) (sym is)
    (ap (λ (q : Outcome). line_by encoder_frames hd.size run b q.answer) (sym outcome_is), subst (λ (q : Outcome). IsRunOf new (run_by encoder_frames hd.size run b q)) (sym outcome_is) is_run)
  where
    other : {next : Run Encoder} (new : HostModel) (v : ℕ) → IsRunOf host run → ((u : ℕ) → (v == u) ≡ false → StaysFor host new run next u)
        → length host.session.journal ≤ length new.session.journal → is_present v (without_viewer v run.play.reached.viewers) ≡ false
        → (u : ℕ) (t : Bool) → (v == u) ≡ t → is_present u (without_viewer v run.play.reached.viewers) ≡ true → IsViewerOf new u next
    other {next} new v r stays longer away u true eq k = let same = ap (λ w. is_present w (without_viewer v run.play.reached.viewers)) (eqb-true v u eq) in absurd (cc (same, away, k))
    other {next} new v r stays longer away u false eq k = viewer_stays host new run next u longer (stays u eq)
        (r.present u (sym (ap (λ (x : Reached). is_present u x.viewers) r.reached) ∙ stayed u v run.play.reached.viewers k))
