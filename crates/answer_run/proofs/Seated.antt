-- A solo after what its client asks for.
use Rattle.std.proofs.Common.{◌≡◌, ℕ, List, [], ◌∷◌, ◌++◌, length, refl, ap, sym, ◌∙◌, subst, arith, append-nil, length-append}
use Rattle.std.specs.Prelude.{Bool, true, false, ⊤, Option, Some, None, option_to_list, if◌then◌else◌}
use Rattle.px_core.specs.declared.surface.Size.{Size}
use Rattle.px_core.specs.declared.rectangle.Rect.{Rect}
use Rattle.px_core.specs.Tiles.{either_tiles, tiles_of}
use Rattle.px_core.specs.TileFlags.{tiles}
use Rattle.input_pdu.specs.declared.event.Event.{Event}
use Rattle.session_rules.specs.declared.entry.Entry.{Entry}
use Rattle.session_rules.specs.declared.entry.Entry.TheVariants.{Join, Leave, Give, Input, Draw}
use Rattle.session_rules.specs.Journal.{Head, Reached, Refusal, reached_at, reached_at_first, reached_after, refusal_of, is_f12, is_present}
use Rattle.session_rules.specs.Steps.{Step, Play, Outcome, PerViewer, replaced_for, entered, outcome, outcome_of, is_release, receiver_of}
use Rattle.session_rules.specs.Steps.Step.{InputStep, RefreshStep, SuppressStep}
use Rattle.session_rules.specs.Steps.Effect.{Enters, Answers}
use Rattle.session_rules.specs.Steps.Answer.{Accepted}
use Rattle.session_rules.proofs.Journals.{reached_after-append, reached-session_after}
use Rattle.session_rules.specs.Entering.{play_of, entry_of_step}
use Rattle.session_rules.proofs.Entered.{entry_of_outcome}
use Rattle.session_core.specs.SessionModel.{SessionModel, reached_by, is_here, asked_by, is_suppressed}
use Rattle.session_core.specs.PerViewer.{kept_for}
use Rattle.session_core.specs.Outcomes.{GoesOn}
use Rattle.session_core.specs.Faults.{input_answer}
use Rattle.session_core.specs.declared.faults.InputRefusal.{InputRefusal}
use Rattle.session_core.specs.declared.faults.InputRefusal.TheVariants as refusal
use Rattle.session_core.proofs.Sessions.{reached_at_end}
use Rattle.std.specs.Prelude.{Result, Ok, Err}
use Rattle.frame_rules.specs.Encoder.{Encoder}
use Rattle.viewer_sender.specs.Seats.{SeatModel, SeatFollows}
use Rattle.script_rules.specs.Script.{Asked, without_preset}
use Rattle.script_rules.specs.Capture.{viewer_of}
use Rattle.script_rules.specs.CaptureText.{Run, run_after, confirmed_after, encoders_after, encoder_frames}
use Rattle.answer_run.specs.Asking.{client}
use Rattle.answer_run.specs.Solos.{IsSeated, IsRunOf, Does, IsSettled}
use Rattle.answer_run.specs.declared.solo.Solo.{Solo}

abbrev pub solo_of : SessionModel → SeatModel → Solo
solo_of session seat = record { session = session; seat = seat }

-- ---- what is reached

reached_outcome : (head : Head) (p : Play) (s : Step) → (outcome head p s).play.reached ≡ reached_after head.size p.reached (option_to_list (outcome head p s).entry)
reached_outcome head p s = reached-session_after head p (s ∷ []) ∙ ap (reached_after head.size p.reached) (append-nil (option_to_list (outcome head p s).entry))

-- a journal that has grown
pub reached_grown : (old new : SessionModel) (es : List Entry) → new.head ≡ old.head → new.journal ≡ old.journal ++ es → reached_by new ≡ reached_after old.head.size (reached_by old) es
reached_grown old new es head journal =
    ap (λ (h : Head). reached_at h.size new.journal (length new.journal)) head
    ∙ (ap (λ (j : List Entry). reached_at old.head.size j (length j)) journal
    ∙ (reached_at_end old.head.size (old.journal ++ es)
    ∙ (reached_after-append old.head.size (reached_at_first old.head.size) old.journal es
    ∙ ap (λ r. reached_after old.head.size r es) (sym (reached_at_end old.head.size old.journal)))))

pub same_reached : (old new : SessionModel) → new.head ≡ old.head → new.journal ≡ old.journal → reached_by new ≡ reached_by old
same_reached old new head journal = ap (λ (h : Head). reached_at h.size new.journal (length new.journal)) head ∙ ap (λ (j : List Entry). reached_at old.head.size j (length j)) journal

-- a run goes on as the session does
pub run_reached : (old new : SessionModel) (p : Play) (s : Step) → new.head ≡ old.head → new.journal ≡ old.journal ++ option_to_list (outcome old.head p s).entry
    → p.reached ≡ reached_by old → (outcome old.head p s).play.reached ≡ reached_by new
run_reached old new p s head journal h =
    reached_outcome old.head p s ∙ (ap (λ r. reached_after old.head.size r (option_to_list (outcome old.head p s).entry)) h ∙ sym (reached_grown old new _ head journal))

-- ---- entries after which nobody comes or goes

abbrev pub IsQuiet : Option Entry → Type 0
IsQuiet None = ⊤
IsQuiet (Some (Join v role)) = ⊥
IsQuiet (Some (Leave v)) = ⊥
IsQuiet (Some (Give by to)) = ⊤
IsQuiet (Some (Input by event)) = ⊤
IsQuiet (Some (Draw by d)) = ⊤

same_viewers : (size : Size) (r : Reached) (o : Option Entry) → IsQuiet o → (reached_after size r (option_to_list o)).viewers ≡ r.viewers
same_viewers size r None h = refl
same_viewers size r (Some (Join v role)) h = absurd h
same_viewers size r (Some (Leave v)) h = absurd h
same_viewers size r (Some (Give by to)) h = refl
same_viewers size r (Some (Input by event)) h = refl
same_viewers size r (Some (Draw by d)) h = refl

-- who was present stays
pub stays_here : (old new : SessionModel) (o : Option Entry) (v : ℕ) → new.head ≡ old.head → new.journal ≡ old.journal ++ option_to_list o → IsQuiet o → is_here new v ≡ is_here old v
stays_here old new o v head journal quiet =
    ap (λ (r : Reached). is_present v r.viewers) (reached_grown old new (option_to_list o) head journal) ∙ ap (is_present v) (same_viewers old.head.size (reached_by old) o quiet)

-- what a step leaves as it was
pub record KeepsAll (head : Head) (run : Run Encoder) (a : Asked) (o : Outcome) : Type 0 where
  pub asked : o.play.asked ≡ run.play.asked
  pub suppressed : o.play.suppressed ≡ run.play.suppressed
  pub taken : o.play.taken ≡ run.play.taken
  pub confirmed : confirmed_after run.confirmed a o.answer ≡ run.confirmed
  pub encoders : encoders_after encoder_frames head.size run (viewer_of a.step) o.answer ≡ run.encoders

keeps_entered : (head : Head) (run : Run Encoder) (a : Asked) (e : Entry) (o : Option Refusal) → KeepsAll head run a (entered head run.play e Accepted o)
keeps_entered head run a e None = record { asked = refl; suppressed = refl; taken = refl; confirmed = refl; encoders = refl }
keeps_entered head run a e (Some r) = record { asked = refl; suppressed = refl; taken = refl; confirmed = refl; encoders = refl }

input_keeps : (head : Head) (run : Run Encoder) (a : Asked) (v : ℕ) (e : Event) → KeepsAll head run a (outcome head run.play (InputStep v e))
input_keeps head run a v e = by (is_f12 e) (is_release e)
  where
    by : (t u : Bool) → KeepsAll head run a (outcome_of head run.play
        (if t then (if u then Answers Accepted else Enters (Give v (receiver_of run.play.reached v)) Accepted) else Enters (Input v e) Accepted))
    by true true = record { asked = refl; suppressed = refl; taken = refl; confirmed = refl; encoders = refl }
    by true false = keeps_entered head run a (Give v (receiver_of run.play.reached v)) (refusal_of head run.play.reached (Give v (receiver_of run.play.reached v)))
    by false u = keeps_entered head run a (Input v e) (refusal_of head run.play.reached (Input v e))

quiet_entered : (head : Head) (p : Play) (e : Entry) → IsQuiet (Some e) → (o : Option Refusal) → IsQuiet (entered head p e Accepted o).entry
quiet_entered head p e quiet None = quiet
quiet_entered head p e quiet (Some r) = tt

input_quiet : (head : Head) (p : Play) (v : ℕ) (e : Event) → IsQuiet (outcome head p (InputStep v e)).entry
input_quiet head p v e = by (is_f12 e) (is_release e)
  where
    by : (t u : Bool) → IsQuiet (outcome_of head p
        (if t then (if u then Answers Accepted else Enters (Give v (receiver_of p.reached v)) Accepted) else Enters (Input v e) Accepted)).entry
    by true true = tt
    by true false = quiet_entered head p (Give v (receiver_of p.reached v)) tt (refusal_of head p.reached (Give v (receiver_of p.reached v)))
    by false u = quiet_entered head p (Input v e) tt (refusal_of head p.reached (Input v e))

-- ---- what a call of the session comes to

-- an event that was done, or refused, entered what its step enters
pub settled_journal : (r : Result (Unit {0}) InputRefusal) (entry : Option Entry) (old new : List Entry) → IsSettled r → GoesOn (input_answer r) entry old new
    → new ≡ old ++ option_to_list entry
settled_journal (Ok x) entry old new s g = g
settled_journal (Err (refusal.NotHolder holder)) entry old new s g = g.0 ∙ sym (append-nil old) ∙ ap (λ o. old ++ option_to_list o) (sym g.1)
settled_journal (Err refusal.JournalFull) entry old new s g = g.0 ∙ sym (append-nil old) ∙ ap (λ o. old ++ option_to_list o) (sym g.1)
settled_journal (Err refusal.OutOfMemory) entry old new s g = absurd s

-- of any head that is the session's
for_head : (a : Asked) (old new : Solo) → ((run : Run Encoder) → IsRunOf old.session.head old run → IsRunOf old.session.head new (run_after encoder_frames old.session.head run a)) → Does a old new
for_head a old new all = λ head run r. subst (λ h. IsRunOf h new (run_after encoder_frames h run a)) r.of_head (all run (subst (λ h. IsRunOf h old run) (sym r.of_head) r))

asked_same : (old new : SessionModel) → new.asked ≡ old.asked → asked_by new client ≡ asked_by old client
asked_same old new h = ap (λ kept. tiles (kept_for [] kept client)) h

suppressed_same : (old new : SessionModel) → new.suppressed ≡ old.suppressed → is_suppressed new client ≡ is_suppressed old client
suppressed_same old new h = ap (λ kept. kept_for false kept client) h

module _ (old new : SessionModel) (s : SeatModel) where
  -- ---- an input event

  module _ (e : Event) (head : new.head ≡ old.head)
      (journal : new.journal ≡ old.journal ++ option_to_list (entry_of_step old.head (reached_by old) (InputStep client e))) where
    pub input_seated : IsSeated (solo_of old s) → IsSeated (solo_of new s)
    input_seated h =
        let count = ap length journal in
        let longer = length-append old.journal (option_to_list (entry_of_step old.head (reached_by old) (InputStep client e))) in
        let seen = h.seen in
        record {
          here = stays_here old new (entry_of_step old.head (reached_by old) (InputStep client e)) client head journal (input_quiet old.head (play_of old.head (reached_by old)) client e) ∙ h.here;
          number = h.number;
          seen = omega (arith, count, longer, seen);
          idle = h.idle;
        }

    pub input_done : new.asked ≡ old.asked → new.suppressed ≡ old.suppressed → Does (without_preset (InputStep client e)) (solo_of old s) (solo_of new s)
    input_done asked suppressed = for_head (without_preset (InputStep client e)) (solo_of old s) (solo_of new s) (λ run r.
        let o = outcome old.head run.play (InputStep client e) in
        let k = input_keeps old.head run (without_preset (InputStep client e)) client e in
        let entry : o.entry ≡ entry_of_step old.head (reached_by old) (InputStep client e) =
        entry_of_outcome old.head run.play (InputStep client e) ∙ ap (λ x. entry_of_step old.head x (InputStep client e)) r.reached in
        let grown : new.journal ≡ old.journal ++ option_to_list o.entry = journal ∙ ap (λ x. old.journal ++ option_to_list x) (sym entry) in
        record {
          of_head = head;
          journal = ap (λ j. j ++ option_to_list o.entry) r.journal ∙ sym grown;
          reached = run_reached old new run.play (InputStep client e) head grown r.reached;
          asked = ap (λ f. f client) k.asked ∙ (r.asked ∙ sym (asked_same old new asked));
          suppressed = ap (λ f. f client) k.suppressed ∙ (r.suppressed ∙ sym (suppressed_same old new suppressed));
          confirmed = r.confirmed ∙ sym (ap (λ f. f client) k.confirmed);
          taken = ap (λ f. f client) k.taken ∙ r.taken;
          follows = subst (λ (es : PerViewer Encoder). SeatFollows s (es client)) (sym k.encoders) r.follows;
        })

  -- ---- requests

  pub same_seated : new.head ≡ old.head → new.journal ≡ old.journal → IsSeated (solo_of old s) → IsSeated (solo_of new s)
  same_seated head journal h =
      let count = ap length journal in
      let seen = h.seen in
      record {
        here = ap (λ (r : Reached). is_present client r.viewers) (same_reached old new head journal) ∙ h.here;
        number = h.number;
        seen = omega (arith, count, seen);
        idle = h.idle;
      }

  pub refresh_done : (area : Rect) → new.head ≡ old.head → new.journal ≡ old.journal
      → asked_by new ≡ replaced_for client (either_tiles (asked_by old client) (tiles_of old.head.size area)) (asked_by old)
      → new.suppressed ≡ old.suppressed → Does (without_preset (RefreshStep client area)) (solo_of old s) (solo_of new s)
  refresh_done area head journal asked suppressed = for_head (without_preset (RefreshStep client area)) (solo_of old s) (solo_of new s) (λ run r. record {
    of_head = head;
    journal = append-nil run.journal ∙ (r.journal ∙ sym journal);
    reached = r.reached ∙ sym (same_reached old new head journal);
    asked = ap (λ t. either_tiles t (tiles_of old.head.size area)) r.asked ∙ sym (ap (λ f. f client) asked);
    suppressed = r.suppressed ∙ sym (suppressed_same old new suppressed);
    confirmed = r.confirmed;
    taken = r.taken;
    follows = r.follows;
  })

  pub suppress_done : (stop : Bool) → new.head ≡ old.head → new.journal ≡ old.journal → new.asked ≡ old.asked
      → is_suppressed new ≡ replaced_for client stop (is_suppressed old) → Does (without_preset (SuppressStep client stop)) (solo_of old s) (solo_of new s)
  suppress_done stop head journal asked suppressed = for_head (without_preset (SuppressStep client stop)) (solo_of old s) (solo_of new s) (λ run r. record {
    of_head = head;
    journal = append-nil run.journal ∙ (r.journal ∙ sym journal);
    reached = r.reached ∙ sym (same_reached old new head journal);
    asked = r.asked ∙ sym (asked_same old new asked);
    suppressed = sym (ap (λ f. f client) suppressed);
    confirmed = r.confirmed;
    taken = r.taken;
    follows = r.follows;
  })
