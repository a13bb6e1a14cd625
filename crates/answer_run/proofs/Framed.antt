-- A session with its one viewer's seat after the viewer's take.
use Rattle.std.proofs.Common.{◌≡◌, ℕ, List, ◌++◌, length, refl, ap, sym, ◌∙◌, subst, arith, append-nil}
use Rattle.std.specs.Prelude.{Bool, true, false, Option}
use Rattle.px_core.specs.Tiles.{no_tiles}
use Rattle.session_rules.specs.declared.entry.Entry.{Entry}
use Rattle.session_rules.specs.Journal.{Head, reached_at_first}
use Rattle.session_rules.specs.Steps.{take_of, take_effect, has_work, outcome_of, replaced_for}
use Rattle.session_rules.proofs.Journals.{length-reached_after}
use Rattle.session_core.specs.SessionModel.{SessionModel, reached_by, asked_by, is_suppressed}
use Rattle.session_core.specs.PerViewer.{kept_for}
use Rattle.session_core.proofs.Sessions.{reached_at_end}
use Rattle.frame_rules.specs.Frame.{frame_of}
use Rattle.frame_rules.specs.FrameBytes.{frame_bytes}
use Rattle.frame_rules.specs.Told.{key_at, bytes_told, pointer_bytes}
use Rattle.frame_rules.specs.Encoder.{Encoder, encoder_after, encoder_after_frame, with_told, pointed_bytes}
use Rattle.frame_plan.specs.Plans.{is_work, take_at, frame_at, asked_if, IsPlayOf}
use Rattle.frame_plan.proofs.TakeSteps.{work_of_steps, take_of_steps}
use Rattle.viewer_sender.specs.Senders.{desk_of}
use Rattle.viewer_sender.specs.Seats.{SeatModel, SeatFollows, key_of, encoder_if, HasSent}
use Rattle.script_rules.specs.CaptureText.{Run, run_by, bytes_of_answer, encoder_frames}
use Rattle.answer_run.specs.Asking.{client, asks_for_frame}
use Rattle.answer_run.specs.Solos.{IsSeated, IsRunOf, Takes}
use Rattle.answer_run.specs.declared.solo.Solo.{Solo}
use Rattle.answer_run.proofs.Seated.{solo_of, same_reached, same_seated}

count_reached : (s : SessionModel) → (reached_by s).length ≡ length s.journal
count_reached s = ap (λ r. r.length) (reached_at_end s.head.size s.journal) ∙ (length-reached_after s.head.size (reached_at_first s.head.size) s.journal ∙ omega arith)

-- the run is, for the client, the session with its sender
play_of_run : (old : SessionModel) (s : SeatModel) (run : Run Encoder) → s.sender.v ≡ client → IsRunOf old.head (solo_of old s) run → IsPlayOf old (desk_of s.sender) run.play
play_of_run old s run is r = record {
  taken = ap run.play.taken is ∙ r.taken;
  reached = ap (λ x. x.length) r.reached ∙ count_reached old;
  asked = ap run.play.asked is ∙ (r.asked ∙ ap (asked_by old) (sym is));
  suppressed = ap run.play.suppressed is ∙ (r.suppressed ∙ ap (is_suppressed old) (sym is));
}

work_is : (old : SessionModel) (s : SeatModel) (run : Run Encoder) → s.sender.v ≡ client → IsRunOf old.head (solo_of old s) run
    → is_work old (desk_of s.sender) ≡ has_work old.head.size run.play client
work_is old s run is r = work_of_steps old (desk_of s.sender) run.play (play_of_run old s run is r) ∙ ap (has_work old.head.size run.play) is

found_is : (old : SessionModel) (s : SeatModel) (run : Run Encoder) → s.sender.v ≡ client → IsRunOf old.head (solo_of old s) run → take_at old (desk_of s.sender) ≡ take_of run.play client
found_is old s run is r = take_of_steps old (desk_of s.sender) run.play (play_of_run old s run is r) ∙ ap (take_of run.play) is

-- what a take comes to
abbrev Comes : Head → List ℕ → Solo → Run Encoder → Bool → Type 0
Comes head bytes new run b =
    IsRunOf head new (run_by encoder_frames head.size run asks_for_frame (outcome_of head run.play (take_effect b client)))
    × (bytes ≡ bytes_of_answer encoder_frames head.size run client (outcome_of head run.play (take_effect b client)).answer)

by_work : (head : Head) (bytes : List ℕ) (new : Solo) (run : Run Encoder) (b : Bool) → b ≡ has_work head.size run.play client → Comes head bytes new run b
    → Comes head bytes new run (has_work head.size run.play client)
by_work head bytes new run b e c = subst (Comes head bytes new run) e c

for_head : (bytes : List ℕ) (old new : Solo)
    → ((run : Run Encoder) → IsRunOf old.session.head old run → Comes old.session.head bytes new run (has_work old.session.head.size run.play client)) → Takes bytes old new
for_head bytes old new all = λ head run r.
    subst (λ h. Comes h bytes new run (has_work h.size run.play client)) r.of_head (all run (subst (λ h. IsRunOf h old run) (sym r.of_head) r))

-- what a take comes to, of a session with these clauses after it
module _ (old new : SessionModel) (s t : SeatModel) (sent : Option (List ℕ)) (is : s.sender.v ≡ client) (head : new.head ≡ old.head) (journal : new.journal ≡ old.journal)
    (suppressed : new.suppressed ≡ old.suppressed) where
  stopped : is_suppressed new client ≡ is_suppressed old client
  stopped = ap (λ kept. kept_for false kept client) suppressed

  -- ---- nothing is due

  idle_comes : (run : Run Encoder) → IsRunOf old.head (solo_of old s) run → asked_by new ≡ asked_by old → HasSent false old s t sent
      → Comes old.head (bytes_told sent) (solo_of new t) run false
  idle_comes run r asked has = (
    record {
      of_head = head;
      journal = append-nil run.journal ∙ (r.journal ∙ sym journal);
      reached = r.reached ∙ sym (same_reached old new head journal);
      asked = r.asked ∙ sym (ap (λ f. f client) asked);
      suppressed = r.suppressed ∙ sym stopped;
      confirmed = has.confirmed ∙ r.confirmed;
      taken = r.taken ∙ sym has.number;
      follows = has.follows (run.encoders client) r.follows;
    },
    ap bytes_told (has.frame (run.encoders client) r.follows),
  )

  -- ---- a frame

  planned : (run : Run Encoder) → IsRunOf old.head (solo_of old s) run
      → frame_at old (desk_of s.sender) ≡ frame_of old.head.size (run.confirmed client) run.journal (run.encoders client).held (take_of run.play client)
  planned run r =
      let size = old.head.size in
      ap (λ t. frame_of size s.sender.confirmed old.journal s.sender.held t) (found_is old s run is r)
      ∙ (ap (λ k. frame_of size k old.journal s.sender.held (take_of run.play client)) r.confirmed
      ∙ (ap (λ j. frame_of size (run.confirmed client) j s.sender.held (take_of run.play client)) (sym r.journal)
      ∙ ap (λ h. frame_of size (run.confirmed client) run.journal h (take_of run.play client)) r.follows.0.1))

  -- the pointer of the session's whole journal is the one after the take's entries
  key_is : (run : Run Encoder) → IsRunOf old.head (solo_of old s) run → key_of old ≡ key_at old.head.size run.journal (take_of run.play client).number
  key_is run r =
      ap (λ (es : List Entry). key_at old.head.size es (length old.journal)) (sym r.journal)
      ∙ ap (key_at old.head.size run.journal) (sym (ap (λ x. x.length) r.reached ∙ count_reached old))

  frame_comes : (run : Run Encoder) → IsRunOf old.head (solo_of old s) run → asked_by new ≡ replaced_for s.sender.v no_tiles (asked_by old) → HasSent true old s t sent
      → Comes old.head (bytes_told sent) (solo_of new t) run true
  frame_comes run r asked has =
      let size = old.head.size in
      let E = run.encoders client in
      let c = run.confirmed client in
      let take = take_of run.play client in
      let made = planned run r in
      let key = key_is run r in
      let due : pointer_bytes s.sender.confirmed E.told (key_of old) ++ frame_bytes size s.sender.confirmed E.registers E.uses (frame_at old (desk_of s.sender))
      ≡ pointed_bytes size c run.journal E take =
      ap (λ k. pointer_bytes k E.told (key_of old) ++ frame_bytes size k E.registers E.uses (frame_at old (desk_of s.sender))) r.confirmed
      ∙ (ap (λ n. pointer_bytes c E.told n ++ frame_bytes size c E.registers E.uses (frame_at old (desk_of s.sender))) key
      ∙ ap (λ f. pointer_bytes c E.told (key_at size run.journal take.number) ++ frame_bytes size c E.registers E.uses f) made) in
      let after : encoder_if true old s.sender E ≡ encoder_after size c run.journal E take =
      ap (λ k. with_told (key_of old) (encoder_after_frame size k E (frame_at old (desk_of s.sender)))) r.confirmed
      ∙ (ap (λ n. with_told n (encoder_after_frame size c E (frame_at old (desk_of s.sender)))) key
      ∙ ap (λ f. with_told (key_at size run.journal take.number) (encoder_after_frame size c E f)) made) in
      let none : asked_by new client ≡ no_tiles = ap (λ f. f client) (asked ∙ ap (λ v. asked_if true v (asked_by old)) is) in (
        record {
          of_head = head;
          journal = append-nil run.journal ∙ (r.journal ∙ sym journal);
          reached = r.reached ∙ sym (same_reached old new head journal);
          asked = sym none;
          suppressed = r.suppressed ∙ sym stopped;
          confirmed = has.confirmed ∙ r.confirmed;
          taken = ap (λ x. x.length) r.reached ∙ (count_reached old ∙ sym has.number);
          follows = subst (λ (k : Encoder). SeatFollows t k) after (has.follows E r.follows);
        },
        ap bytes_told (has.frame E r.follows) ∙ due,
      )

  -- ---- what the call comes to

  pub next_taken : asked_by new ≡ asked_if (is_work old (desk_of s.sender)) s.sender.v (asked_by old) → HasSent (is_work old (desk_of s.sender)) old s t sent
      → Takes (bytes_told sent) (solo_of old s) (solo_of new t)
  next_taken asked has = for_head (bytes_told sent) (solo_of old s) (solo_of new t) (λ run r.
      by run r (is_work old (desk_of s.sender)) (work_is old s run is r) asked has)
    where
      by : (run : Run Encoder) → IsRunOf old.head (solo_of old s) run → (b : Bool) → b ≡ has_work old.head.size run.play client
          → asked_by new ≡ asked_if b s.sender.v (asked_by old) → HasSent b old s t sent
          → Comes old.head (bytes_told sent) (solo_of new t) run (has_work old.head.size run.play client)
      by run r true e asked has = by_work old.head (bytes_told sent) (solo_of new t) run true e (frame_comes run r asked has)
      by run r false e asked has = by_work old.head (bytes_told sent) (solo_of new t) run false e (idle_comes run r asked has)

  pub next_seated : IsSeated (solo_of old s) → HasSent (is_work old (desk_of s.sender)) old s t sent → IsSeated (solo_of new t)
  next_seated h has = by (is_work old (desk_of s.sender)) has
    where
      by : (b : Bool) → HasSent b old s t sent → IsSeated (solo_of new t)
      by true has =
          let count = ap length journal in
          let number = has.number in
          record { here = (same_seated old new s head journal h).here; number = has.viewer ∙ h.number; seen = omega (arith, count, number); idle = has.idle }
      by false has = subst (λ (x : SeatModel). IsSeated (solo_of new x)) (sym (has.left refl)) (same_seated old new s head journal h)
