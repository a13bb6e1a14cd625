-- What bytes of a stream come to, and what follows them.
use Rattle.std.proofs.Common.{◌≡◌, ℕ, List, [], ◌∷◌, ◌++◌, length, refl, ap, sym, ◌∙◌, subst, append_assoc, append-nil}
use Rattle.std.specs.Prelude.{Bool, true, false, Option, Some, None, Result, Ok, Err}
use Rattle.std.specs.Io.KnownBytes.{Appends}
use Rattle.std.proofs.KnownBytes.{Appends-trans}
use Rattle.edge_io.specs.Sink.{WritesFront}
use Rattle.session_rules.specs.Journal.{Head}
use Rattle.frame_rules.specs.Encoder.{Encoder}
use Rattle.script_rules.specs.CaptureText.{Run, sent_from, encoder_frames}
use Rattle.headline.specs.Headline.{ConfirmAllCaches}
use Rattle.conn_rules.specs.declared.conn_step.ConnStep.{ConnStep}
use Rattle.conn_rules.specs.declared.stage.Stage.{Stage}
use Rattle.conn_rules.specs.declared.stage.Stage.TheVariants as stage
use Rattle.conn_rules.specs.Hearing.{Hearing, Heard, is_over, silent, between, then_heard, heard, end_by, end_of}
use Rattle.conn_rules.specs.Hearing.StreamEnd.{Between}
use Rattle.conn_rules.proofs.Pieces.{heard_then}
use Rattle.conn_rules.specs.Progress.{progress_of}
use Rattle.conn_rules.specs.Placed.{AreBytes, ArePlaced}
use Rattle.conn_rules.proofs.Quiet.{end_silence}
use Rattle.conn_rules.proofs.Order.{heard_in_order}
use Rattle.conn_rules.proofs.Near.{heard_near}
use Rattle.conn_core.specs.declared.conn_fault.ConnFault.{ConnFault}
use Rattle.conn_core.specs.declared.conn_fault.ConnFault.TheVariants as conn
use Rattle.conn_core.specs.Kept.{ConnOf, IsUnrefused, Feeds, FeedsAppend}
use Rattle.answer_run.specs.Asking.{Guest, client, asked_from, guest_after_all}
use Rattle.answer_run.specs.Asking.Guest.{Coming, Viewing, TurnedAway}
use Rattle.answer_run.specs.declared.ending.Ending.{Ending}
use Rattle.answer_run.specs.declared.ending.Ending.TheVariants as ending
use Rattle.answer_run.specs.Service.{last_word, ending_at, ending_by, ultimatum_of, Service, heard_of, asked_of, written_of, service_after, ending_of, answer_of}
use Rattle.answer_run.specs.Visits.{IsGuest, frames_by, run_by_steps, DoesSteps, Visits}
use Rattle.answer_run.specs.Serves.{IsAsFar, GoesOn, IsClosed, end_of_piece, end_if, heard_text, end_of_heard, HeardDone, DoesHeard, EndsHeard, IsRefusal}
use Rattle.answer_run.specs.Serves.IsClosed.{Over, Away}
use Rattle.answer_run.specs.Serves.StopsHeard.{Before, AtEnd}
use Rattle.answer_run.specs.declared.visitor.Visitor.{Visitor}
use Rattle.answer_run.specs.declared.visitor.Visitor.TheVariants as visitor
use Rattle.answer_run.specs.declared.fault.AnswerFault.{AnswerFault}
use Rattle.answer_run.proofs.Fronts.{front_extends, front_after}
use Rattle.answer_run.proofs.Streams.{guests_joined, asked_joined, words_joined, viewing_stays, away_stays, newcomer_asks, as_far, word_ends, ended_is_over, is_quiet, viewing_far, caches_joined}
use Rattle.answer_run.proofs.Visiting.{frames_joined, run_joined, frames_of_away}

-- ---- of what was heard

abbrev ending_heard : Head → Guest → Heard → Ending
ending_heard head g x = ending_by (guest_after_all head g x.steps) (end_of x.after) (last_word x.steps)

abbrev text_heard : Head → Guest → Run Encoder → Heard → List ℕ
text_heard head g run x = x.replies ++ frames_by head g run x.steps

abbrev answer_heard : Head → Guest → Run Encoder → Heard → List ℕ
answer_heard head g run x = text_heard head g run x ++ ultimatum_of (ending_heard head g x)

-- either no frame was sent before, or nothing is replied any more
data Apart (frames replies : List ℕ) : Type 0 where
  NoFrames : frames ≡ [] → Apart frames replies
  NoReplies : replies ≡ [] → Apart frames replies

regroup_frames : (a b g u : List ℕ) → ((a ++ b) ++ ([] ++ g)) ++ u ≡ (a ++ []) ++ ((b ++ g) ++ u)
regroup_frames a b g u = ap (λ xs. xs ++ u) (append_assoc a b g) ∙ (append_assoc a (b ++ g) u ∙ ap (λ xs. xs ++ ((b ++ g) ++ u)) (sym (append-nil a)))

regroup_replies : (a f g u : List ℕ) → ((a ++ []) ++ (f ++ g)) ++ u ≡ (a ++ f) ++ (([] ++ g) ++ u)
regroup_replies a f g u = ap (λ xs. (xs ++ (f ++ g)) ++ u) (append-nil a) ∙ (ap (λ xs. xs ++ u) (sym (append_assoc a f g)) ∙ append_assoc (a ++ f) g u)

regroup : (a b f g u : List ℕ) → Apart f b → ((a ++ b) ++ (f ++ g)) ++ u ≡ (a ++ f) ++ ((b ++ g) ++ u)
regroup a b f g u (NoFrames e) = subst (λ xs. ((a ++ b) ++ (xs ++ g)) ++ u ≡ (a ++ xs) ++ ((b ++ g) ++ u)) (sym e) (regroup_frames a b g u)
regroup a b f g u (NoReplies e) = subst (λ xs. ((a ++ xs) ++ (f ++ g)) ++ u ≡ (a ++ f) ++ ((xs ++ g) ++ u)) (sym e) (regroup_replies a f g u)

newcomer_sends : (head : Head) (name m : List ℕ) (run : Run Encoder) (xs : List ConnStep) → guest_after_all head (Coming name) xs ≡ Coming m → frames_by head (Coming name) run xs ≡ []
newcomer_sends head name m run xs e = ap (λ a. sent_from encoder_frames head run a client) (newcomer_asks head name m xs e)

apart_by : (head : Head) (name : List ℕ) (run : Run Encoder) (xs : List ConnStep) (h : Hearing) (more : List ℕ) (k : Guest) → guest_after_all head (Coming name) xs ≡ k
    → IsAsFar k (progress_of h.stage) → Apart (frames_by head (Coming name) run xs) (heard h more).replies
apart_by head name run xs h more (Coming m) e f = NoFrames (newcomer_sends head name m run xs e)
apart_by head name run xs h more Viewing e f = NoReplies (is_quiet h more (viewing_far (progress_of h.stage) f))
apart_by head name run xs h more TurnedAway e f = NoReplies (is_quiet h more f)

are_apart : (head : Head) (g : Guest) (run : Run Encoder) (xs : List ConnStep) (h : Hearing) (more : List ℕ) → IsAsFar (guest_after_all head g xs) (progress_of h.stage)
    → Apart (frames_by head g run xs) (heard h more).replies
are_apart head (Coming name) run xs h more f = apart_by head name run xs h more (guest_after_all head (Coming name) xs) refl f
are_apart head Viewing run xs h more f =
    NoReplies (is_quiet h more (viewing_far (progress_of h.stage) (subst (λ k. IsAsFar k (progress_of h.stage)) (viewing_stays head xs) f)))
are_apart head TurnedAway run xs h more f = NoReplies (is_quiet h more (subst (λ k. IsAsFar k (progress_of h.stage)) (away_stays head xs) f))

-- ---- a service that goes on

module _ (head : Head) (s : Service) (bytes more : List ℕ) where
  first_of : Heard
  first_of = heard s.hearing bytes

  pub goes_on : IsAsFar (service_after head s bytes).guest (progress_of (service_after head s bytes).hearing.stage) → last_word (heard_of s bytes).steps ≡ None
      → ConfirmAllCaches (asked_of head s bytes) → GoesOn head s (bytes ++ more) (written_of head s bytes) (service_after head s bytes) more
  goes_on far unended caches =
      let x = heard s.hearing bytes in
      let y = heard x.after more in
      let e : heard s.hearing (bytes ++ more) ≡ then_heard x y = heard_then s.hearing bytes more in
      let t = service_after head s bytes in
      let ends : ending_heard head s.guest (then_heard x y) ≡ ending_heard head t.guest y =
      ap (λ k. ending_by k (end_of y.after) (last_word (x.steps ++ y.steps))) (guests_joined head s.guest x.steps y.steps)
      ∙ ap (λ w. ending_by (guest_after_all head t.guest y.steps) (end_of y.after) w) (words_joined x.steps y.steps unended) in
      record {
        answer = ap (answer_heard head s.guest s.run) e
            ∙ (ap (λ k. text_heard head s.guest s.run (then_heard x y) ++ ultimatum_of k) ends
            ∙ (ap (λ fs. ((x.replies ++ y.replies) ++ fs) ++ ultimatum_of (ending_heard head t.guest y)) (frames_joined head s.guest s.run x.steps y.steps)
            ∙ regroup x.replies y.replies (frames_by head s.guest s.run x.steps) (frames_by head t.guest t.run y.steps) (ultimatum_of (ending_heard head t.guest y))
            (are_apart head s.guest s.run x.steps x.after more far)));
        ending = ap (ending_heard head s.guest) e ∙ ends;
        caches = λ c. subst (λ (z : Heard). ConfirmAllCaches (asked_from head s.guest z.steps)) (sym e)
            (subst ConfirmAllCaches (sym (asked_joined head s.guest x.steps y.steps)) (caches_joined (asked_from head s.guest x.steps) (asked_from head t.guest y.steps) caches c));
      }

-- ---- one piece after another

abbrev pub service_with : Hearing → Guest → Run Encoder → Service
service_with hearing guest run = record { hearing = hearing; guest = guest; run = run }

abbrev pub service_heard : Head → Service → Heard → Service
service_heard head s x = service_with x.after (guest_after_all head s.guest x.steps) (run_by_steps head s.guest s.run x.steps)

module _ (head : Head) (s : Service) (bytes more : List ℕ) where
  both_heard : heard s.hearing (bytes ++ more) ≡ then_heard (heard s.hearing bytes) (heard (heard s.hearing bytes).after more)
  both_heard = heard_then s.hearing bytes more

  pub service_joined : service_after head s (bytes ++ more) ≡ service_after head (service_after head s bytes) more
  service_joined =
      let x = heard s.hearing bytes in
      let y = heard x.after more in
      let t = service_after head s bytes in
      ap (service_heard head s) both_heard
      ∙ (ap (λ g. service_with y.after g (run_by_steps head s.guest s.run (x.steps ++ y.steps))) (guests_joined head s.guest x.steps y.steps)
      ∙ ap (service_with y.after (guest_after_all head t.guest y.steps)) (run_joined head s.guest s.run x.steps y.steps))

  pub written_joined : IsAsFar (service_after head s bytes).guest (progress_of (service_after head s bytes).hearing.stage)
      → written_of head s (bytes ++ more) ≡ written_of head s bytes ++ written_of head (service_after head s bytes) more
  written_joined far =
      let x = heard s.hearing bytes in
      let y = heard x.after more in
      let t = service_after head s bytes in
      let first = frames_by head s.guest s.run x.steps in
      let then = frames_by head t.guest t.run y.steps in
      ap (text_heard head s.guest s.run) both_heard
      ∙ (ap (λ fs. (x.replies ++ y.replies) ++ fs) (frames_joined head s.guest s.run x.steps y.steps)
      ∙ (sym (append-nil ((x.replies ++ y.replies) ++ (first ++ then)))
      ∙ (regroup x.replies y.replies first then [] (are_apart head s.guest s.run x.steps x.after more far)
      ∙ ap (λ xs. (x.replies ++ first) ++ xs) (append-nil (y.replies ++ then)))))

  pub unended_joined : last_word (heard_of s bytes).steps ≡ None → last_word (heard_of (service_after head s bytes) more).steps ≡ None
      → last_word (heard_of s (bytes ++ more)).steps ≡ None
  unended_joined e f =
      let x = heard s.hearing bytes in
      let y = heard x.after more in
      ap (λ (z : Heard). last_word z.steps) both_heard ∙ (words_joined x.steps y.steps e ∙ f)

  pub all_caches_joined : ConfirmAllCaches (asked_of head s bytes) → ConfirmAllCaches (asked_of head (service_after head s bytes) more) → ConfirmAllCaches (asked_of head s (bytes ++ more))
  all_caches_joined p q =
      let x = heard s.hearing bytes in
      let y = heard x.after more in
      let t = service_after head s bytes in
      subst (λ (z : Heard). ConfirmAllCaches (asked_from head s.guest z.steps)) (sym both_heard)
      (subst ConfirmAllCaches (sym (asked_joined head s.guest x.steps y.steps)) (caches_joined (asked_from head s.guest x.steps) (asked_from head t.guest y.steps) p q))

-- ---- a service that is closed

over_end : (s : Stage) (n : ℕ) → is_over s ≡ true → end_by s 0 ≡ end_by s n
over_end stage.Request n e = absurd (cc e)
over_end (stage.Initial asked) n e = absurd (cc e)
over_end (stage.Erect client) n e = absurd (cc e)
over_end (stage.Attach client) n e = absurd (cc e)
over_end (stage.Joins client user io) n e = absurd (cc e)
over_end (stage.Shares channels here) n e = absurd (cc e)
over_end stage.Over n e = refl
over_end (stage.Refused k at) n e = refl

-- what is heard is the same, whatever follows
pub record IsSame (head : Head) (s : Service) (bytes more : List ℕ) : Type 0 where
  pub answer : answer_of head s (bytes ++ more) ≡ answer_of head s bytes
  pub ending : ending_of head s (bytes ++ more) ≡ ending_of head s bytes
  pub asked : asked_of head s (bytes ++ more) ≡ asked_of head s bytes

same_heard : (head : Head) (s : Service) (bytes more : List ℕ) (x : Heard) → heard s.hearing (bytes ++ more) ≡ x
    → (text_heard head s.guest s.run x ≡ text_heard head s.guest s.run (heard s.hearing bytes)) → (ending_heard head s.guest x ≡ ending_heard head s.guest (heard s.hearing bytes))
    → (asked_from head s.guest x.steps ≡ asked_of head s bytes) → IsSame head s bytes more
same_heard head s bytes more x e text ends asked = record {
  answer = ap (answer_heard head s.guest s.run) e ∙ (ap (λ t. t ++ ultimatum_of (ending_heard head s.guest x)) text
      ∙ ap (λ k. text_heard head s.guest s.run (heard s.hearing bytes) ++ ultimatum_of k) ends);
  ending = ap (ending_heard head s.guest) e ∙ ends;
  asked = ap (λ (z : Heard). asked_from head s.guest z.steps) e ∙ asked;
}

over_same : (head : Head) (s : Service) (bytes more : List ℕ) → is_over (service_after head s bytes).hearing.stage ≡ true → IsSame head s bytes more
over_same head s bytes more over =
    let x = heard s.hearing bytes in
    let e : heard s.hearing (bytes ++ more) ≡ then_heard x (silent (between x.after)) =
    heard_then s.hearing bytes more ∙ ap (then_heard x) (end_silence x.after more over) in
    let steps = append-nil x.steps in
    same_heard head s bytes more (then_heard x (silent (between x.after))) e
    (ap (λ r. r ++ frames_by head s.guest s.run (x.steps ++ [])) (append-nil x.replies) ∙ ap (λ xs. x.replies ++ frames_by head s.guest s.run xs) steps)
    (ap (λ xs. ending_by (guest_after_all head s.guest xs) (end_of (between x.after)) (last_word xs)) steps
    ∙ ap (λ k. ending_by (guest_after_all head s.guest x.steps) k (last_word x.steps)) (over_end x.after.stage (length x.after.part) over))
    (ap (asked_from head s.guest) steps)

away_asked : (head : Head) (g : Guest) (xs : List ConnStep) → g ≡ TurnedAway → asked_from head g xs ≡ []
away_asked head g xs e = ap (λ k. asked_from head k xs) e ∙ away_asks_none head xs
  where
    away_asks_none : (head : Head) (xs : List ConnStep) → asked_from head TurnedAway xs ≡ []
    away_asks_none head [] = refl
    away_asks_none head (x ∷ xs) = away_asks_none head xs

away_same : (head : Head) (s : Service) (bytes more : List ℕ) → (service_after head s bytes).guest ≡ TurnedAway
    → IsAsFar (service_after head s bytes).guest (progress_of (service_after head s bytes).hearing.stage) → IsSame head s bytes more
away_same head s bytes more away far =
    let x = heard s.hearing bytes in
    let y = heard x.after more in
    let t = service_after head s bytes in
    let quiet : y.replies ≡ [] = is_quiet x.after more (subst (λ k. IsAsFar k (progress_of x.after.stage)) away far) in
    let frames : frames_by head s.guest s.run (x.steps ++ y.steps) ≡ frames_by head s.guest s.run x.steps =
    frames_joined head s.guest s.run x.steps y.steps
    ∙ (ap (λ fs. frames_by head s.guest s.run x.steps ++ fs) (frames_of_away head t.guest t.run y.steps away) ∙ append-nil (frames_by head s.guest s.run x.steps)) in
    let last : guest_after_all head s.guest (x.steps ++ y.steps) ≡ TurnedAway =
    guests_joined head s.guest x.steps y.steps ∙ (ap (λ k. guest_after_all head k y.steps) away ∙ away_stays head y.steps) in
    same_heard head s bytes more (then_heard x y) (heard_then s.hearing bytes more)
    (ap (λ r. (x.replies ++ r) ++ frames_by head s.guest s.run (x.steps ++ y.steps)) quiet
    ∙ (ap (λ r. r ++ frames_by head s.guest s.run (x.steps ++ y.steps)) (append-nil x.replies) ∙ ap (λ fs. x.replies ++ fs) frames))
    (ap (λ k. ending_by k (end_of y.after) (last_word (x.steps ++ y.steps))) last ∙ sym (ap (λ k. ending_by k (end_of x.after) (last_word x.steps)) away))
    (asked_joined head s.guest x.steps y.steps ∙ (ap (λ a. asked_from head s.guest x.steps ++ a) (away_asked head t.guest y.steps away) ∙ append-nil (asked_from head s.guest x.steps)))

pub closed_same : (head : Head) (s : Service) (bytes more : List ℕ) → IsClosed head s bytes
    → IsAsFar (service_after head s bytes).guest (progress_of (service_after head s bytes).hearing.stage) → IsSame head s bytes more
closed_same head s bytes more (Over e) far = over_same head s bytes more e
closed_same head s bytes more (Away e) far = away_same head s bytes more e far

-- ---- what was heard is done

not_away : (head : Head) (new : Visitor) (g : Guest) (run : Run Encoder) (refusal word : Option Ending) → IsGuest head new g run → end_of_piece g refusal word ≡ end_if true refusal word
not_away head (visitor.Coming name) (Coming other) run None word i = refl
not_away head (visitor.Coming name) (Coming other) run (Some r) word i = refl
not_away head (visitor.Viewing solo) (Coming other) run refusal word i = absurd i
not_away head (visitor.Coming name) Viewing run refusal word i = absurd i
not_away head (visitor.Viewing solo) Viewing run None word i = refl
not_away head (visitor.Viewing solo) Viewing run (Some r) word i = refl
not_away head (visitor.Coming name) TurnedAway run refusal word i = absurd i
not_away head (visitor.Viewing solo) TurnedAway run refusal word i = absurd i

-- a fault at the replies, and at the frames
pub replies_stop : (why : AnswerFault) (head : Head) (replies : List ℕ) (steps : List ConnStep) (refusal : Option Ending) (old new : Visitor) (told telling : Option (List ℕ))
    → WritesFront told telling replies → DoesHeard (Err why) head replies steps refusal old new told telling
replies_stop why head replies steps refusal old new told telling f = λ g run i.
    Before (front_extends told telling replies (frames_by head g run steps) (heard_text head g run replies steps) refl f)

pub frames_stop : (why other : AnswerFault) (head : Head) (replies : List ℕ) (steps : List ConnStep) (refusal : Option Ending) (old new : Visitor) (told mid telling : Option (List ℕ))
    → Appends told mid replies → Visits (Err why) head steps old new mid telling → DoesHeard (Err other) head replies steps refusal old new told telling
frames_stop why other head replies steps refusal old new told mid telling w v = λ g run i.
    Before (front_after told mid telling replies (frames_by head g run steps) (heard_text head g run replies steps) w refl (v g run i))

-- all was done
record StepsDone (let_in : Bool) (head : Head) (g : Guest) (run : Run Encoder) (steps : List ConnStep) (refusal : Option Ending) (new : Visitor) (mid late : Option (List ℕ)) : Type 0 where
  written : Appends mid late (frames_by head g run steps)
  end : end_of_heard head g steps refusal ≡ end_if let_in refusal (last_word steps)
  visitor_is : end_if let_in refusal (last_word steps) ≡ None → IsGuest head new (guest_after_all head g steps) (run_by_steps head g run steps)

steps_done : (let_in : Bool) (head : Head) (g : Guest) (run : Run Encoder) (steps : List ConnStep) (refusal : Option Ending) (new : Visitor) (mid late : Option (List ℕ))
    → DoesSteps (Ok let_in) head g run steps new mid late → StepsDone let_in head g run steps refusal new mid late
steps_done true head g run steps refusal new mid late d = record {
  written = d.1;
  end = not_away head new (guest_after_all head g steps) (run_by_steps head g run steps) refusal (last_word steps) d.0;
  visitor_is = λ e. d.0;
}
steps_done false head g run steps refusal new mid late d = record {
  written = d.1;
  end = ap (λ k. end_of_piece k refusal (last_word steps)) d.0;
  visitor_is = λ e. absurd (cc e);
}

ends_by : (result : Result (Option Ending) AnswerFault) (let_in : Bool) (head : Head) (g : Guest) (run : Run Encoder) (replies : List ℕ) (steps : List ConnStep) (refusal : Option Ending)
    (new : Visitor) (told mid late telling : Option (List ℕ)) → Appends told mid replies → StepsDone let_in head g run steps refusal new mid late
    → EndsHeard result (end_if let_in refusal (last_word steps)) late telling → HeardDone result head g run replies steps refusal new told telling
ends_by (Ok None) let_in head g run replies steps refusal new told mid late telling w d e =
    let frames = frames_by head g run steps in (
      d.end ∙ e.0,
      d.visitor_is e.0,
      subst (Appends told telling) (append-nil (replies ++ frames)) (Appends-trans told late telling (replies ++ frames) [] (Appends-trans told mid late replies frames w d.written) e.1),
    )
ends_by (Ok (Some how)) let_in head g run replies steps refusal new told mid late telling w d e =
    let frames = frames_by head g run steps in
    (d.end ∙ e.0, Appends-trans told late telling (replies ++ frames) (ultimatum_of how) (Appends-trans told mid late replies frames w d.written) e.1)
ends_by (Err why) let_in head g run replies steps refusal new told mid late telling w d e =
    let frames = frames_by head g run steps in
    AtEnd (record {
      how = e.0;
      is = d.end ∙ e.1;
      front = front_after told late telling (replies ++ frames) (ultimatum_of e.0) ((replies ++ frames) ++ ultimatum_of e.0) (Appends-trans told mid late replies frames w d.written) refl e.2;
    })

pub heard_ends : (result : Result (Option Ending) AnswerFault) (let_in : Bool) (head : Head) (replies : List ℕ) (steps : List ConnStep) (refusal : Option Ending) (old new : Visitor)
    (told mid late telling : Option (List ℕ)) → Appends told mid replies → Visits (Ok let_in) head steps old new mid late
    → EndsHeard result (end_if let_in refusal (last_word steps)) late telling → DoesHeard result head replies steps refusal old new told telling
heard_ends result let_in head replies steps refusal old new told mid late telling w v e = λ g run i.
    ends_by result let_in head g run replies steps refusal new told mid late telling w (steps_done let_in head g run steps refusal new mid late (v g run i)) e

-- ---- a piece

-- where a stream stands that is refused so, or isn't
abbrev pub StandsBy : Option Ending → Stage → Type 0
StandsBy None here = IsUnrefused here
StandsBy (Some how) here = (k : ℕ) × (at : ℕ) × (how ≡ ending.Refused k at) × (here ≡ stage.Refused k at)

-- bytes were fed to the connection
pub record IsFed (x : Heard) (new : ConnOf) (replies : List ℕ) (steps : List ConnStep) (refusal : Option Ending) : Type 0 where
  pub hearing : new.hearing ≡ x.after
  pub sound : new.spent ≡ false
  pub replies_are : replies ≡ x.replies
  pub steps_are : steps ≡ x.steps
  pub stands : StandsBy refusal x.after.stage

pub fed : (answer : Result (Unit {0}) ConnFault) (refusal : Option Ending) (x : Heard) (new : ConnOf) (replies : List ℕ) (steps : List ConnStep) → IsRefusal answer (Ok refusal)
    → Feeds answer x new → FeedsAppend answer x [] replies [] steps → IsFed x new replies steps refusal
fed (Ok done) None x new replies steps r f a = record { hearing = ap (λ (c : ConnOf). c.hearing) f.0; sound = ap (λ (c : ConnOf). c.spent) f.0; replies_are = a.written; steps_are = a.given; stands = f.1 }
fed (Ok done) (Some how) x new replies steps r f a = absurd r
fed (Err (conn.Refused k at)) None x new replies steps r f a = absurd r
fed (Err (conn.Refused k at)) (Some how) x new replies steps r f a = record {
  hearing = ap (λ (c : ConnOf). c.hearing) f.0;
  sound = ap (λ (c : ConnOf). c.spent) f.0;
  replies_are = a.written;
  steps_are = a.given;
  stands = (k, at, r, f.1);
}
fed (Err conn.OutOfMemory) refusal x new replies steps r f a = absurd r

-- how a piece ends
over_unrefused : (s : Stage) (n : ℕ) → is_over s ≡ true → IsUnrefused s → end_by s n ≡ Between
over_unrefused stage.Request n e u = absurd (cc e)
over_unrefused (stage.Initial asked) n e u = absurd (cc e)
over_unrefused (stage.Erect client) n e u = absurd (cc e)
over_unrefused (stage.Attach client) n e u = absurd (cc e)
over_unrefused (stage.Joins client user io) n e u = absurd (cc e)
over_unrefused (stage.Shares channels here) n e u = absurd (cc e)
over_unrefused stage.Over n e u = refl
over_unrefused (stage.Refused k at) n e u = absurd u

-- an end of what was heard is the service's, and closes it
record Ends (g : Guest) (refusal word : Option Ending) (here : Stage) (n : ℕ) (how : Ending) : Type 0 where
  is : ending_by g (end_by here n) word ≡ how
  over : (g ≡ TurnedAway → ⊥) → is_over here ≡ true

word_end : (viewing : Bool) (word : Option Ending) (here : Stage) (n : ℕ) (how : Ending) → word ≡ Some how → (word ≡ Some how → is_over here ≡ true) → IsUnrefused here
    → ending_at (end_by here n) viewing word ≡ how
word_end viewing word here n how e over u =
    ap (λ k. ending_at k viewing word) (over_unrefused here n (over e) u) ∙ ap (λ w. ending_at Between viewing w) e

refused_end : (viewing : Bool) (word : Option Ending) (here : Stage) (n : ℕ) (how given : Ending) → StandsBy (Some given) here → Some given ≡ Some how
    → ending_at (end_by here n) viewing word ≡ how
refused_end viewing word here n how given s e = ap (λ h. ending_at (end_by h n) viewing word) s.3 ∙ (sym s.2 ∙ cc e)

refused_over : (here : Stage) (given : Ending) → StandsBy (Some given) here → is_over here ≡ true
refused_over here given s = ap is_over s.3

piece_end : (g : Guest) (refusal word : Option Ending) (here : Stage) (n : ℕ) (how : Ending) → StandsBy refusal here → (word ≡ Some how → is_over here ≡ true)
    → end_of_piece g refusal word ≡ Some how → Ends g refusal word here n how
piece_end (Coming name) None word here n how s over e = record { is = word_end false word here n how e over s; over = λ no. over e }
piece_end (Coming name) (Some r) word here n how s over e = record { is = refused_end false word here n how r s e; over = λ no. refused_over here r s }
piece_end Viewing None word here n how s over e = record { is = word_end true word here n how e over s; over = λ no. over e }
piece_end Viewing (Some r) word here n how s over e = record { is = refused_end true word here n how r s e; over = λ no. refused_over here r s }
piece_end TurnedAway refusal word here n how s over e = record { is = cc e; over = λ no. absurd (no refl) }

closed_by : (head : Head) (s : Service) (bytes : List ℕ) (k : Guest) → (service_after head s bytes).guest ≡ k
    → ((k ≡ TurnedAway → ⊥) → is_over (service_after head s bytes).hearing.stage ≡ true) → IsClosed head s bytes
closed_by head s bytes (Coming name) e over = Over (over (λ p. cc p))
closed_by head s bytes Viewing e over = Over (over (λ p. cc p))
closed_by head s bytes TurnedAway e over = Away e

-- what the end of a piece comes to
pub record PieceEnd (head : Head) (s : Service) (bytes : List ℕ) (how : Ending) : Type 0 where
  pub is : ending_of head s bytes ≡ how
  pub closed : IsClosed head s bytes

pub ends_piece : (head : Head) (s : Service) (bytes : List ℕ) (refusal : Option Ending) (how : Ending) → StandsBy refusal (heard_of s bytes).after.stage
    → end_of_heard head s.guest (heard_of s bytes).steps refusal ≡ Some how → PieceEnd head s bytes how
ends_piece head s bytes refusal how stands e =
    let x = heard s.hearing bytes in
    let over : last_word x.steps ≡ Some how → is_over x.after.stage ≡ true =
    λ w. ended_is_over x.after.stage (word_ends (progress_of s.hearing.stage) (progress_of x.after.stage) x.steps how (heard_in_order s.hearing bytes) w) in
    let p = piece_end (guest_after_all head s.guest x.steps) refusal (last_word x.steps) x.after.stage (length x.after.part) how stands over e in
    record { is = p.is; closed = closed_by head s bytes (guest_after_all head s.guest x.steps) refl p.over }

-- a piece without an end
pub no_end : (g : Guest) (refusal word : Option Ending) → end_of_piece g refusal word ≡ None → (refusal ≡ None) × (word ≡ None)
no_end (Coming name) None word e = (refl, e)
no_end (Coming name) (Some r) word e = absurd (cc e)
no_end Viewing None word e = (refl, e)
no_end Viewing (Some r) word e = absurd (cc e)
no_end TurnedAway refusal word e = absurd (cc e)

pub far_after : (head : Head) (s : Service) (bytes : List ℕ) → IsAsFar s.guest (progress_of s.hearing.stage)
    → IsAsFar (service_after head s bytes).guest (progress_of (service_after head s bytes).hearing.stage)
far_after head s bytes far =
    as_far head s.guest (progress_of s.hearing.stage) (progress_of (heard s.hearing bytes).after.stage) (heard s.hearing bytes).steps far (heard_in_order s.hearing bytes)

-- all that is due begins with the replies and the frames, whatever follows
begins_by : (head : Head) (s : Service) (bytes more : List ℕ) (refusal o : Option Ending) → IsAsFar s.guest (progress_of s.hearing.stage)
    → StandsBy refusal (heard_of s bytes).after.stage → ConfirmAllCaches (asked_of head s bytes) → end_of_heard head s.guest (heard_of s bytes).steps refusal ≡ o
    → (rest : List ℕ) × (answer_of head s (bytes ++ more) ≡ written_of head s bytes ++ rest)
begins_by head s bytes more refusal None far stands caches e = (
  answer_of head (service_after head s bytes) more,
  (goes_on head s bytes more (far_after head s bytes far) (no_end (guest_after_all head s.guest (heard_of s bytes).steps) refusal (last_word (heard_of s bytes).steps) e).1 caches).answer,
)
begins_by head s bytes more refusal (Some how) far stands caches e =
    (ultimatum_of (ending_of head s bytes), (closed_same head s bytes more (ends_piece head s bytes refusal how stands e).closed (far_after head s bytes far)).answer)

pub begins : (head : Head) (s : Service) (bytes more : List ℕ) (refusal : Option Ending) → IsAsFar s.guest (progress_of s.hearing.stage)
    → StandsBy refusal (heard_of s bytes).after.stage → ConfirmAllCaches (asked_of head s bytes)
    → (rest : List ℕ) × (answer_of head s (bytes ++ more) ≡ written_of head s bytes ++ rest)
begins head s bytes more refusal far stands caches =
    begins_by head s bytes more refusal (end_of_heard head s.guest (heard_of s bytes).steps refusal) far stands caches refl

-- bytes were fed, and what they gave was appended to nothing
pub fed_from : (answer : Result (Unit {0}) ConnFault) (refusal : Option Ending) (x : Heard) (new : ConnOf) (out replies : List ℕ) (before steps : List ConnStep) → out ≡ [] → before ≡ []
    → IsRefusal answer (Ok refusal) → Feeds answer x new → FeedsAppend answer x out replies before steps → IsFed x new replies steps refusal
fed_from answer refusal x new out replies before steps no_replies no_steps r f a =
    fed answer refusal x new replies steps r f
    (subst (λ b. FeedsAppend answer x [] replies b steps) no_steps (subst (λ o. FeedsAppend answer x o replies before steps) no_replies a))

-- the steps that bytes told are placed
pub fed_placed : (h : Hearing) (bytes replies : List ℕ) (steps : List ConnStep) (conn : ConnOf) (refusal : Option Ending) → IsFed (heard h bytes) conn replies steps refusal → AreBytes h.part
    → AreBytes bytes → ArePlaced steps
fed_placed h bytes replies steps conn refusal f p q = subst ArePlaced (sym f.steps_are) (heard_near h bytes p q).0
