-- The steps of a client, one after the other.
use Rattle.std.proofs.Common.{◌≡◌, ℕ, ◌+◌, ◌<◌, List, [], ◌∷◌, ◌++◌, length, get_or, drop, refl, ap, sym, ◌∙◌, subst, append_assoc, append-nil, add-one}
use Rattle.std.proofs.Math.Seq.{drop-cons}
use Rattle.std.specs.Prelude.{Bool, true, false, Option, Some, None, Result, Ok, Err, if◌then◌else◌}
use Rattle.std.specs.Io.KnownBytes.{Appends}
use Rattle.std.proofs.KnownBytes.{Appends-trans, Appends-nil}
use Rattle.edge_io.specs.Sink.{WritesFront}
use Rattle.caps_sets.specs.declared.confirmed.Confirmed.{Confirmed}
use Rattle.input_pdu.specs.declared.event.Event.{Event}
use Rattle.px_core.specs.declared.rectangle.Rect.{Rect}
use Rattle.session_rules.specs.declared.entry.Entry.{Entry}
use Rattle.session_rules.specs.declared.entry.Entry.TheVariants.{Give, Input}
use Rattle.session_rules.specs.Journal.{Head, Refusal, refusal_of, is_f12}
use Rattle.session_rules.specs.Steps.{Play, entered, outcome, outcome_of, is_release, receiver_of}
use Rattle.session_rules.specs.Steps.Step.{InputStep, RefreshStep, SuppressStep}
use Rattle.session_rules.specs.Steps.Effect.{Enters, Answers}
use Rattle.session_rules.specs.Steps.Answer.{Accepted}
use Rattle.frame_rules.specs.Encoder.{Encoder}
use Rattle.script_rules.specs.Script.{without_preset}
use Rattle.script_rules.specs.CaptureText.{Run, run_at_first, run_after, run_after_all, bytes_of_answer, sent_by, sent_from, encoder_frames}
use Rattle.conn_rules.specs.declared.conn_step.ConnStep.{ConnStep}
use Rattle.conn_rules.specs.declared.conn_step.ConnStep.TheVariants as step
use Rattle.answer_run.specs.Asking.{Guest, client, asks_to_join, asks_for_frame, asked_at_ready, guest_if, asked_from, guest_after, guest_after_all}
use Rattle.answer_run.specs.Asking.Guest.{Coming, Viewing, TurnedAway}
use Rattle.answer_run.specs.Solos.{Does, Takes, Joins}
use Rattle.answer_run.specs.Visits.{IsGuest, frames_by, run_by_steps, DoesSteps, Visits, Comes, Asks}
use Rattle.answer_run.specs.declared.solo.Solo.{Solo}
use Rattle.answer_run.specs.declared.visitor.Visitor.{Visitor}
use Rattle.answer_run.specs.declared.visitor.Visitor.TheVariants as visitor
use Rattle.answer_run.specs.declared.fault.AnswerFault.{AnswerFault}
use Rattle.answer_run.proofs.Streams.{asked_joined, runs_joined, sent_joined, away_stays, away_asks}
use Rattle.answer_run.proofs.Fronts.{front_none, front_extends, front_after}

-- ---- joined

pub frames_joined : (head : Head) (g : Guest) (run : Run Encoder) (xs ys : List ConnStep)
    → frames_by head g run (xs ++ ys) ≡ frames_by head g run xs ++ frames_by head (guest_after_all head g xs) (run_by_steps head g run xs) ys
frames_joined head g run xs ys =
    ap (λ a. sent_from encoder_frames head run a client) (asked_joined head g xs ys)
    ∙ sent_joined head run (asked_from head g xs) (asked_from head (guest_after_all head g xs) ys) client

pub run_joined : (head : Head) (g : Guest) (run : Run Encoder) (xs ys : List ConnStep)
    → run_by_steps head g run (xs ++ ys) ≡ run_by_steps head (guest_after_all head g xs) (run_by_steps head g run xs) ys
run_joined head g run xs ys =
    ap (run_after_all encoder_frames head run) (asked_joined head g xs ys) ∙ runs_joined head run (asked_from head g xs) (asked_from head (guest_after_all head g xs) ys)

-- ---- what a viewer asks for

nothing_entered : (head : Head) (run : Run Encoder) (p : Play) (e : Entry) (o : Option Refusal) → bytes_of_answer encoder_frames head.size run client (entered head p e Accepted o).answer ≡ []
nothing_entered head run p e None = refl
nothing_entered head run p e (Some r) = refl

-- an event sends nothing
event_sends : (head : Head) (run : Run Encoder) (e : Event) → frames_by head Viewing run (step.Event e ∷ []) ≡ []
event_sends head run e = append-nil (bytes_of_answer encoder_frames head.size run client (outcome head run.play (InputStep client e)).answer) ∙ by (is_f12 e) (is_release e)
  where
    by : (t u : Bool) → bytes_of_answer encoder_frames head.size run client (outcome_of head run.play
        (if t then (if u then Answers Accepted else Enters (Give client (receiver_of run.play.reached client)) Accepted) else Enters (Input client e) Accepted)).answer ≡ []
    by true true = refl
    by true false = nothing_entered head run run.play (Give client (receiver_of run.play.reached client)) (refusal_of head run.play.reached (Give client (receiver_of run.play.reached client)))
    by false u = nothing_entered head run run.play (Input client e) (refusal_of head run.play.reached (Input client e))

nothing_written : (told : Option (List ℕ)) (text : List ℕ) → text ≡ [] → Appends told told text
nothing_written told text e = subst (Appends told told) (sym e) (Appends-nil told)

pub event_asked : (e : Event) (old new : Solo) (told : Option (List ℕ)) → Does (without_preset (InputStep client e)) old new → Asks (Ok tt) (step.Event e) old new told told
event_asked e old new told d = λ head run r. (d head run r, nothing_written told (frames_by head Viewing run (step.Event e ∷ [])) (event_sends head run e))

pub area_asked : (area : Rect) (old new : Solo) (told : Option (List ℕ)) → Does (without_preset (RefreshStep client area)) old new → Asks (Ok tt) (step.Refresh area) old new told told
area_asked area old new told d = λ head run r. (d head run r, Appends-nil told)

pub stop_asked : (stop : Bool) (old new : Solo) (told : Option (List ℕ)) → Does (without_preset (SuppressStep client stop)) old new → Asks (Ok tt) (step.Suppress stop) old new told told
stop_asked stop old new told d = λ head run r. (d head run r, Appends-nil told)

pub memory_asked : (why : AnswerFault) (one : ConnStep) (old new : Solo) (told : Option (List ℕ)) → Asks (Err why) one old new told told
memory_asked why one old new told = λ head run r. front_none told (frames_by head Viewing run (one ∷ []))

-- steps that ask for nothing
pub named_asked : (name : List ℕ) (old : Solo) (told : Option (List ℕ)) → Asks (Ok tt) (step.Named name) old old told told
named_asked name old told = λ head run r. (r, Appends-nil told)

pub ready_asked : (c : Confirmed) (old : Solo) (told : Option (List ℕ)) → Asks (Ok tt) (step.Ready c) old old told told
ready_asked c old told = λ head run r. (r, Appends-nil told)

pub shutdown_asked : (old : Solo) (told : Option (List ℕ)) → Asks (Ok tt) step.Shutdown old old told told
shutdown_asked old told = λ head run r. (r, Appends-nil told)

pub bye_asked : (old : Solo) (told : Option (List ℕ)) → Asks (Ok tt) step.Bye old old told told
bye_asked old told = λ head run r. (r, Appends-nil told)

-- a frame
pub frame_asked : (bytes : List ℕ) (old new : Solo) (told telling : Option (List ℕ)) → Takes bytes old new → Appends told telling bytes → Asks (Ok tt) step.Packet old new told telling
frame_asked bytes old new told telling t w = λ head run r.
    let d = t head run r in (d.0, subst (Appends told telling) (d.1 ∙ sym (append-nil (sent_by encoder_frames head run asks_for_frame client))) w)

pub frame_stopped : (why : AnswerFault) (bytes : List ℕ) (old new : Solo) (told telling : Option (List ℕ)) → Takes bytes old new → WritesFront told telling bytes
    → Asks (Err why) step.Packet old new told telling
frame_stopped why bytes old new told telling t w = λ head run r.
    let d = t head run r in subst (WritesFront told telling) (d.1 ∙ sym (append-nil (sent_by encoder_frames head run asks_for_frame client))) w

-- ---- who comes

abbrev first_run : Head → Run Encoder
first_run head = run_at_first encoder_frames head.size

-- a client that is ready, by whether it is let in
abbrev ReadyIn : Head → List ℕ → Confirmed → Solo → (told telling : Option (List ℕ)) → Bool → Type 0
ReadyIn head name c new told telling b =
    IsGuest head (visitor.Viewing new) (guest_if b) (run_after_all encoder_frames head (first_run head) (asked_at_ready b name c ++ []))
    × Appends told telling (sent_from encoder_frames head (first_run head) (asked_at_ready b name c ++ []) client)

pub ready_comes : (head : Head) (name : List ℕ) (c : Confirmed) (solo new : Solo) (told telling : Option (List ℕ)) → Joins head name c (Some solo)
    → Asks (Ok tt) step.Packet solo new told telling → Comes (Ok (Some (visitor.Viewing new))) head name (step.Ready c) told telling
ready_comes head name c solo new told telling j a =
    subst (ReadyIn head name c new told telling) (sym j.0) (a head (run_after encoder_frames head (first_run head) (asks_to_join name c)) j.2)

abbrev ReadyStops : Head → List ℕ → Confirmed → (told telling : Option (List ℕ)) → Bool → Type 0
ReadyStops head name c told telling b = WritesFront told telling (sent_from encoder_frames head (first_run head) (asked_at_ready b name c ++ []) client)

pub ready_stops : (why : AnswerFault) (head : Head) (name : List ℕ) (c : Confirmed) (solo new : Solo) (told telling : Option (List ℕ)) → Joins head name c (Some solo)
    → Asks (Err why) step.Packet solo new told telling → Comes (Err why) head name (step.Ready c) told telling
ready_stops why head name c solo new told telling j a =
    subst (ReadyStops head name c told telling) (sym j.0) (a head (run_after encoder_frames head (first_run head) (asks_to_join name c)) j.2)

abbrev ReadyOut : Head → List ℕ → Confirmed → (told : Option (List ℕ)) → Bool → Type 0
ReadyOut head name c told b = (guest_if b ≡ TurnedAway) × Appends told told (sent_from encoder_frames head (first_run head) (asked_at_ready b name c ++ []) client)

pub ready_turned : (head : Head) (name : List ℕ) (c : Confirmed) (told : Option (List ℕ)) → Joins head name c None → Comes (Ok None) head name (step.Ready c) told told
ready_turned head name c told j = subst (ReadyOut head name c told) (sym j) (refl, Appends-nil told)

pub named_comes : (head : Head) (name other : List ℕ) (told : Option (List ℕ)) → Comes (Ok (Some (visitor.Coming other))) head name (step.Named other) told told
named_comes head name other told = ((refl, refl), Appends-nil told)

pub event_comes : (head : Head) (name : List ℕ) (e : Event) (told : Option (List ℕ)) → Comes (Ok (Some (visitor.Coming name))) head name (step.Event e) told told
event_comes head name e told = ((refl, refl), Appends-nil told)

pub area_comes : (head : Head) (name : List ℕ) (area : Rect) (told : Option (List ℕ)) → Comes (Ok (Some (visitor.Coming name))) head name (step.Refresh area) told told
area_comes head name area told = ((refl, refl), Appends-nil told)

pub stop_comes : (head : Head) (name : List ℕ) (stop : Bool) (told : Option (List ℕ)) → Comes (Ok (Some (visitor.Coming name))) head name (step.Suppress stop) told told
stop_comes head name stop told = ((refl, refl), Appends-nil told)

pub shutdown_comes : (head : Head) (name : List ℕ) (told : Option (List ℕ)) → Comes (Ok (Some (visitor.Coming name))) head name step.Shutdown told told
shutdown_comes head name told = ((refl, refl), Appends-nil told)

pub bye_comes : (head : Head) (name : List ℕ) (told : Option (List ℕ)) → Comes (Ok (Some (visitor.Coming name))) head name step.Bye told told
bye_comes head name told = ((refl, refl), Appends-nil told)

pub packet_comes : (head : Head) (name : List ℕ) (told : Option (List ℕ)) → Comes (Ok (Some (visitor.Coming name))) head name step.Packet told told
packet_comes head name told = ((refl, refl), Appends-nil told)

pub memory_comes : (why : AnswerFault) (head : Head) (name : List ℕ) (one : ConnStep) (told : Option (List ℕ)) → Comes (Err why) head name one told told
memory_comes why head name one told = front_none told (frames_by head (Coming name) (first_run head) (one ∷ []))

-- ---- one step

-- a newcomer, whatever it is
pub newcomer_visits : (result : Result Bool AnswerFault) (head : Head) (name : List ℕ) (steps : List ConnStep) (new : Visitor) (told telling : Option (List ℕ))
    → DoesSteps result head (Coming name) (first_run head) steps new told telling → Visits result head steps (visitor.Coming name) new told telling
newcomer_visits result head name steps new told telling d = by
  where
    by : (g : Guest) (run : Run Encoder) → IsGuest head (visitor.Coming name) g run → DoesSteps result head g run steps new told telling
    by (Coming other) run i = subst (λ n. DoesSteps result head (Coming n) run steps new told telling) i.0
        (subst (λ r. DoesSteps result head (Coming name) r steps new told telling) (sym i.1) d)
    by Viewing run i = absurd i
    by TurnedAway run i = absurd i

pub viewer_visits : (head : Head) (one : ConnStep) (old new : Solo) (told telling : Option (List ℕ)) → Asks (Ok tt) one old new told telling
    → Visits (Ok true) head (one ∷ []) (visitor.Viewing old) (visitor.Viewing new) told telling
viewer_visits head one old new told telling a = by
  where
    by : (g : Guest) (run : Run Encoder) → IsGuest head (visitor.Viewing old) g run → DoesSteps (Ok true) head g run (one ∷ []) (visitor.Viewing new) told telling
    by (Coming other) run i = absurd i
    by Viewing run i = a head run i
    by TurnedAway run i = absurd i

pub viewer_stops : (why : AnswerFault) (head : Head) (one : ConnStep) (old new : Solo) (told telling : Option (List ℕ)) → Asks (Err why) one old new told telling
    → Visits (Err why) head (one ∷ []) (visitor.Viewing old) (visitor.Viewing new) told telling
viewer_stops why head one old new told telling a = by
  where
    by : (g : Guest) (run : Run Encoder) → IsGuest head (visitor.Viewing old) g run → DoesSteps (Err why) head g run (one ∷ []) (visitor.Viewing new) told telling
    by (Coming other) run i = absurd i
    by Viewing run i = a head run i
    by TurnedAway run i = absurd i

-- ---- steps so far

pub record StepsSoFar (head : Head) (g : Guest) (run : Run Encoder) (steps left : List ConnStep) (now : Visitor) (told telling : Option (List ℕ)) : Type 0 where
  pub guest : Guest
  pub at : Run Encoder
  pub is : IsGuest head now guest at
  pub text : List ℕ
  pub written : Appends told telling text
  pub guests : guest_after_all head g steps ≡ guest_after_all head guest left
  pub runs : run_by_steps head g run steps ≡ run_by_steps head guest at left
  pub frames : frames_by head g run steps ≡ text ++ frames_by head guest at left

-- whatever client the code's one was
abbrev pub VisitsSoFar : Head → (steps left : List ConnStep) → (old now : Visitor) → (told telling : Option (List ℕ)) → Type 0
VisitsSoFar head steps left old now told telling = (g : Guest) (run : Run Encoder) → IsGuest head old g run → StepsSoFar head g run steps left now told telling

pub no_steps_yet : (head : Head) (steps : List ConnStep) (old : Visitor) (told : Option (List ℕ)) → VisitsSoFar head steps steps old old told told
no_steps_yet head steps old told = λ g run i. record { guest = g; at = run; is = i; text = []; written = Appends-nil told; guests = refl; runs = refl; frames = refl }

-- the next of the steps that are left
pub next_step : (steps : List ConnStep) (i : ℕ) (d : ConnStep) → i < length steps → drop i steps ≡ get_or steps i d ∷ drop (i + 1) steps
next_step steps i d h = drop-cons steps i d h ∙ ap (λ n. get_or steps i d ∷ drop n steps) (sym (add-one i))

pub step_done : (head : Head) (steps left rest : List ConnStep) (one : ConnStep) (old now new : Visitor) (told mid telling : Option (List ℕ)) → left ≡ one ∷ rest
    → VisitsSoFar head steps left old now told mid → Visits (Ok true) head (one ∷ []) now new mid telling → VisitsSoFar head steps rest old new told telling
step_done head steps left rest one old now new told mid telling e so d = λ g run i.
    let s = so g run i in
    let t = d s.guest s.at s.is in
    record {
      guest = guest_after head s.guest one;
      at = run_by_steps head s.guest s.at (one ∷ []);
      is = t.0;
      text = s.text ++ frames_by head s.guest s.at (one ∷ []);
      written = Appends-trans told mid telling s.text (frames_by head s.guest s.at (one ∷ [])) s.written t.1;
      guests = s.guests ∙ ap (guest_after_all head s.guest) e;
      runs = s.runs ∙ (ap (run_by_steps head s.guest s.at) e ∙ run_joined head s.guest s.at (one ∷ []) rest);
      frames = s.frames ∙ (ap (λ xs. s.text ++ frames_by head s.guest s.at xs) e ∙ (ap (λ xs. s.text ++ xs) (frames_joined head s.guest s.at (one ∷ []) rest)
          ∙ sym (append_assoc s.text (frames_by head s.guest s.at (one ∷ [])) (frames_by head (guest_after head s.guest one) (run_by_steps head s.guest s.at (one ∷ [])) rest))));
    }

pub steps_all_done : (head : Head) (steps left : List ConnStep) (old now : Visitor) (told telling : Option (List ℕ)) → left ≡ [] → VisitsSoFar head steps left old now told telling
    → Visits (Ok true) head steps old now told telling
steps_all_done head steps left old now told telling e so = λ g run i.
    let s = so g run i in
    let guests = s.guests ∙ ap (guest_after_all head s.guest) e in
    let runs = s.runs ∙ ap (run_by_steps head s.guest s.at) e in
    let frames = s.frames ∙ ap (λ xs. s.text ++ frames_by head s.guest s.at xs) e ∙ append-nil s.text in (
      subst (λ k. IsGuest head now k (run_by_steps head g run steps)) (sym guests) (subst (λ r. IsGuest head now s.guest r) (sym runs) s.is),
      subst (Appends told telling) (sym frames) s.written,
    )

pub frames_of_away : (head : Head) (g : Guest) (run : Run Encoder) (xs : List ConnStep) → g ≡ TurnedAway → frames_by head g run xs ≡ []
frames_of_away head g run xs e = ap (λ k. frames_by head k run xs) e ∙ ap (λ a. sent_from encoder_frames head run a client) (away_asks head xs)

-- the client isn't let in
pub steps_turned : (head : Head) (steps left rest : List ConnStep) (one : ConnStep) (old now new last : Visitor) (told mid telling : Option (List ℕ)) → left ≡ one ∷ rest
    → VisitsSoFar head steps left old now told mid → Visits (Ok false) head (one ∷ []) now new mid telling → Visits (Ok false) head steps old last told telling
steps_turned head steps left rest one old now new last told mid telling e so d = λ g run i.
    let s = so g run i in
    let t = d s.guest s.at s.is in
    let own = frames_by head s.guest s.at (one ∷ []) in
    let frames : frames_by head g run steps ≡ s.text ++ own = s.frames ∙ (ap (λ xs. s.text ++ frames_by head s.guest s.at xs) e
    ∙ (ap (λ xs. s.text ++ xs) (frames_joined head s.guest s.at (one ∷ []) rest)
    ∙ (ap (λ xs. s.text ++ (own ++ xs)) (frames_of_away head (guest_after head s.guest one) (run_by_steps head s.guest s.at (one ∷ [])) rest t.0)
    ∙ ap (λ xs. s.text ++ xs) (append-nil own)))) in (
      s.guests ∙ (ap (guest_after_all head s.guest) e ∙ (ap (λ k. guest_after_all head k rest) t.0 ∙ away_stays head rest)),
      subst (Appends told telling) (sym frames) (Appends-trans told mid telling s.text own s.written t.1),
    )

pub steps_stopped : (why : AnswerFault) (head : Head) (steps left rest : List ConnStep) (one : ConnStep) (old now new last : Visitor) (told mid telling : Option (List ℕ))
    → left ≡ one ∷ rest → VisitsSoFar head steps left old now told mid → Visits (Err why) head (one ∷ []) now new mid telling → Visits (Err why) head steps old last told telling
steps_stopped why head steps left rest one old now new last told mid telling e so d = λ g run i.
    let s = so g run i in
    let t = d s.guest s.at s.is in
    let own = frames_by head s.guest s.at (one ∷ []) in
    let others = frames_by head (guest_after head s.guest one) (run_by_steps head s.guest s.at (one ∷ [])) rest in
    front_after told mid telling s.text (own ++ others) (frames_by head g run steps) s.written
    (s.frames ∙ (ap (λ xs. s.text ++ frames_by head s.guest s.at xs) e ∙ ap (λ xs. s.text ++ xs) (frames_joined head s.guest s.at (one ∷ []) rest)))
    (front_extends mid telling own others (own ++ others) refl t)
