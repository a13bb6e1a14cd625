-- What a client's steps ask for is asked by viewers who are present: so the client sees the journal.
use Rattle.std.proofs.Common.{◌≡◌, ℕ, List, [], ◌∷◌, ◌++◌, refl, sym, subst}
use Rattle.std.specs.Prelude.{Bool, true, false, Option, Some, None, is_some, if◌then◌else◌}
use Rattle.px_core.specs.declared.surface.Size.{Size}
use Rattle.line_text.specs.Words.{is_same_word}
use Rattle.caps_sets.specs.declared.confirmed.Confirmed.{Confirmed}
use Rattle.input_pdu.specs.declared.event.Event.{Event}
use Rattle.session_rules.specs.declared.entry.Role.{Role}
use Rattle.session_rules.specs.declared.entry.Role.TheVariants.{Owner}
use Rattle.session_rules.specs.declared.entry.Entry.{Entry}
use Rattle.session_rules.specs.declared.entry.Entry.TheVariants.{Give, Input}
use Rattle.session_rules.specs.Journal.{Head, Refusal, refusal_of, is_f12, is_present}
use Rattle.session_rules.specs.Steps.{Play, play_at_first, entered, outcome, outcome_of, has_work, take_effect, join_effect, is_release, receiver_of}
use Rattle.session_rules.specs.Steps.Step.{JoinStep, InputStep, RefreshStep, SuppressStep, TakeStep}
use Rattle.session_rules.specs.Steps.Effect.{Enters, Answers}
use Rattle.session_rules.specs.Steps.Answer.{Accepted}
use Rattle.script_rules.specs.CaptureText.{run_at_first, sent_from, encoder_frames}
use Rattle.headline.specs.Headline.{AreByPresentFrom, AreByPresentViewers, ConfirmAllCaches, HasSessionSize, EveryViewerSeesTheJournal}
use Rattle.headline.proofs.Interleaved.{every_viewer_sees}
use Rattle.conn_rules.specs.declared.conn_step.ConnStep.{ConnStep}
use Rattle.conn_rules.specs.declared.conn_step.ConnStep.TheVariants as step
use Rattle.answer_run.specs.Asking.{owners_head, client, asked_at_ready, guest_if, asked_from}
use Rattle.answer_run.specs.Asking.Guest.{Coming, Viewing}
use Rattle.answer_run.proofs.Streams.{away_asks}

-- ---- a viewer stays

abbrev IsHere : Play → Type 0
IsHere p = is_present client p.reached.viewers ≡ true

here_entered : (head : Head) (p : Play) (e : Entry) → IsHere p → ((o : Option Refusal) → IsHere (entered head p e Accepted o).play) → IsHere (entered head p e Accepted (refusal_of head p.reached e)).play
here_entered head p e h all = all (refusal_of head p.reached e)

given_here : (head : Head) (p : Play) (by to : ℕ) → IsHere p → (o : Option Refusal) → IsHere (entered head p (Give by to) Accepted o).play
given_here head p by to h None = h
given_here head p by to h (Some r) = h

input_here : (head : Head) (p : Play) (by : ℕ) (e : Event) → IsHere p → (o : Option Refusal) → IsHere (entered head p (Input by e) Accepted o).play
input_here head p by e h None = h
input_here head p by e h (Some r) = h

event_here : (head : Head) (p : Play) (e : Event) → IsHere p → IsHere (outcome head p (InputStep client e)).play
event_here head p e h = by (is_f12 e) (is_release e)
  where
    by : (t u : Bool) → IsHere (outcome_of head p
        (if t then (if u then Answers Accepted else Enters (Give client (receiver_of p.reached client)) Accepted) else Enters (Input client e) Accepted)).play
    by true true = h
    by true false = given_here head p client (receiver_of p.reached client) h (refusal_of head p.reached (Give client (receiver_of p.reached client)))
    by false u = input_here head p client e h (refusal_of head p.reached (Input client e))

take_here : (head : Head) (p : Play) → IsHere p → IsHere (outcome head p (TakeStep client)).play
take_here head p h = by (has_work head.size p client)
  where
    by : (b : Bool) → IsHere (outcome_of head p (take_effect b client)).play
    by true = h
    by false = h

-- what a viewer asks for is asked by it while it is present
viewing_present : (head : Head) (p : Play) (xs : List ConnStep) → IsHere p → AreByPresentFrom head p (asked_from head Viewing xs)
viewing_present head p [] h = tt
viewing_present head p (step.Named name ∷ xs) h = viewing_present head p xs h
viewing_present head p (step.Ready confirmed ∷ xs) h = viewing_present head p xs h
viewing_present head p (step.Event event ∷ xs) h = (h, viewing_present head (outcome head p (InputStep client event)).play xs (event_here head p event h))
viewing_present head p (step.Refresh area ∷ xs) h = (h, viewing_present head (outcome head p (RefreshStep client area)).play xs h)
viewing_present head p (step.Suppress stop ∷ xs) h = (h, viewing_present head (outcome head p (SuppressStep client stop)).play xs h)
viewing_present head p (step.Shutdown ∷ xs) h = viewing_present head p xs h
viewing_present head p (step.Bye ∷ xs) h = viewing_present head p xs h
viewing_present head p (step.Packet ∷ xs) h = (h, viewing_present head (outcome head p (TakeStep client)).play xs (take_here head p h))

-- ---- who comes

-- the role of the owner's name
abbrev role_if : Bool → Option Role
role_if b = if b then Some Owner else None

joined_here : (size : Size) (owner : List ℕ) (b : Bool) → b ≡ true
    → IsHere (outcome_of (owners_head size owner) (play_at_first size) (join_effect (play_at_first size) (role_if b))).play
joined_here size owner true e = refl
joined_here size owner false e = absurd (cc e)

abbrev present_by : Size → List ℕ → List ℕ → Confirmed → List ConnStep → Bool → Type 0
present_by size owner name c xs b =
    AreByPresentFrom (owners_head size owner) (play_at_first size) (asked_at_ready (is_some (role_if b)) name c ++ asked_from (owners_head size owner) (guest_if (is_some (role_if b))) xs)

ready_present : (size : Size) (owner name : List ℕ) (c : Confirmed) (xs : List ConnStep) (b : Bool) → is_same_word name owner ≡ b → present_by size owner name c xs b
ready_present size owner name c xs true e =
    let head = owners_head size owner in
    let p = (outcome head (play_at_first size) (JoinStep name)).play in
    let here : IsHere p = subst (λ t. IsHere (outcome_of head (play_at_first size) (join_effect (play_at_first size) (role_if t))).play) (sym e) (joined_here size owner true refl) in
    (refl, (here, viewing_present head (outcome head p (TakeStep client)).play xs (take_here head p here)))
ready_present size owner name c xs false e =
    let head = owners_head size owner in
    (refl, subst (AreByPresentFrom head (outcome head (play_at_first size) (JoinStep name)).play) (sym (away_asks head xs)) tt)

pub newcomer_present : (size : Size) (owner name : List ℕ) (xs : List ConnStep) → AreByPresentViewers (owners_head size owner) (asked_from (owners_head size owner) (Coming name) xs)
newcomer_present size owner name [] = tt
newcomer_present size owner name (step.Named other ∷ xs) = newcomer_present size owner other xs
newcomer_present size owner name (step.Ready confirmed ∷ xs) = ready_present size owner name confirmed xs (is_same_word name owner) refl
newcomer_present size owner name (step.Event event ∷ xs) = newcomer_present size owner name xs
newcomer_present size owner name (step.Refresh area ∷ xs) = newcomer_present size owner name xs
newcomer_present size owner name (step.Suppress stop ∷ xs) = newcomer_present size owner name xs
newcomer_present size owner name (step.Shutdown ∷ xs) = newcomer_present size owner name xs
newcomer_present size owner name (step.Bye ∷ xs) = newcomer_present size owner name xs
newcomer_present size owner name (step.Packet ∷ xs) = newcomer_present size owner name xs

-- ---- the client sees the journal

pub client_sees : (size : Size) (owner name : List ℕ) (xs : List ConnStep) → HasSessionSize (owners_head size owner)
    → ConfirmAllCaches (asked_from (owners_head size owner) (Coming name) xs)
    → EveryViewerSeesTheJournal (owners_head size owner) (asked_from (owners_head size owner) (Coming name) xs)
    (sent_from encoder_frames (owners_head size owner) (run_at_first encoder_frames size) (asked_from (owners_head size owner) (Coming name) xs))
client_sees size owner name xs sized caches = every_viewer_sees (owners_head size owner) (asked_from (owners_head size owner) (Coming name) xs) sized (newcomer_present size owner name xs) caches
