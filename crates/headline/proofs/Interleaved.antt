-- Whatever the interleaving: each viewer is sent what its takes come to over the journal of all steps, and sees that journal.
use Rattle.std.proofs.Common.{◌≡◌, ℕ, ◌+◌, ◌<◌, ◌≤◌, List, [], ◌∷◌, ◌++◌, length, map, refl, ap, sym, ◌∙◌, subst, arith, append_assoc, length-append, Some}
use Rattle.std.proofs.Common.{None, ◌⊎◌, inl, inr}
use Rattle.std.specs.Prelude.{Bool, true, false, ◌==◌, Option, option_to_list, if◌then◌else◌}
use Rattle.std.proofs.lemmas.Bool.Decides.{nat_tests}
use Rattle.session_rules.specs.declared.entry.Entry.{Entry}
use Rattle.session_rules.specs.declared.entry.Entry.TheVariants.{Join, Leave, Give, Input, Draw}
use Rattle.session_rules.specs.declared.entry.Role.{Role}
use Rattle.input_pdu.specs.declared.event.Event.{Event}
use Rattle.session_rules.specs.Journal.{Head, Refusal, is_present, reached_after_entry, refusal_of, is_f12}
use Rattle.session_rules.specs.Steps.{Step, Answer, Play, Outcome, play_at_first, entered, outcome_of, effect_of, outcome, join_effect, row_role, input_effect}
use Rattle.session_rules.specs.Steps.{is_release, receiver_of, has_work, take_effect, take_in, entries_from, takes_from, takes_of, session_after}
use Rattle.session_rules.specs.Steps.{journal_of_steps}
use Rattle.session_rules.specs.Steps.Step.{JoinStep, LeaveStep, InputStep, DrawStep, RefreshStep, SuppressStep, TakeStep}
use Rattle.session_rules.specs.Steps.Answer.{Joined, Left, Accepted, Refused, Nothing, Frame}
use Rattle.session_rules.specs.Steps.Effect.{Enters, Answers}
use Rattle.session_rules.proofs.Journals.{IsLegalJournal-journal_of_steps}
use Rattle.session_rules.proofs.Takes.{TakesFollow-takes_of, taken-≤}
use Rattle.session_rules.proofs.Changes.{ChangesAreTheHolders-legal}
use Rattle.order_means.specs.Packets.{without_pointers}
use Rattle.frame_rules.specs.FrameBytes.{joined_bytes}
use Rattle.frame_rules.specs.Encoder.{Encoder, first_encoder, pointed_bytes, pointed_of_takes}
use Rattle.frame_rules.specs.Describes.{HasAllCaches}
use Rattle.frame_laws.proofs.JournalShown.{frame_shows_journal}
use Rattle.script_rules.specs.Script.{Asked}
use Rattle.script_rules.specs.Capture.{viewer_of}
use Rattle.script_rules.specs.CaptureText.{Run, run_at_first, confirmed_after, encoders_after, run_after, run_after_all, sent_from, encoder_frames}
use Rattle.headline.specs.Headline.{SeesJournal, steps_of, confirmed_in, AreByPresentFrom, AreByPresentViewers}
use Rattle.headline.specs.Headline.{ConfirmAllCaches, EveryViewerOfSteps}
use Rattle.headline.specs.Interleaving.{frames_from}
use Rattle.headline.specs.Pointed.{SeesPointers}
use Rattle.headline.proofs.TakesPointed.{takes_see_without, takes_point}
use Rattle.headline.proofs.StepRuns.{NoJoin, IsIn, Fits, Steps, confirmed_stays, steps, sent_are_takes}
use Rattle.headline.proofs.StepRuns.Steps.{Stays, Sends}
use Rattle.headline.proofs.SentByTakes.{sent_are_frames}
use Rattle.headline.proofs.NumberedSteps.{AreNumbered, present_numbered, Joins, step_joins, takes_none, taken_stays}

same_number : (m n : ℕ) → (m == n) ≡ true → m ≡ n
same_number m n h = grind (arith, nat_tests, h)

differs : (m n : ℕ) → (m == n) ≡ false → m ≡ n → ⊥
differs m n h e = grind (arith, nat_tests, h, e)

other_number : (m n : ℕ) → (m ≡ n → ⊥) → (m == n) ≡ false
other_number m n h = grind (arith, nat_tests, h)

-- ---- a viewer that has joined doesn't join again

module _ (head : Head) (v : ℕ) where
  -- an answer that may be a join, but of a later number
  entered_later : (p : Play) (e : Entry) (answer : Answer) → NoJoin v answer → (r : Option Refusal) → NoJoin v (entered head p e answer r).answer
  entered_later p e answer h None = h
  entered_later p e answer h (Some q) = tt

  join_later : (p : Play) → v ≤ p.reached.joins → (o : Option Role) → NoJoin v (outcome_of head p (join_effect p o)).answer
  join_later p low None = tt
  join_later p low (Some role) =
      entered_later p (Join (p.reached.joins + 1) role) (Joined (p.reached.joins + 1)) (other_number (p.reached.joins + 1) v (λ e. omega (arith, low, e)))
      (refusal_of head p.reached (Join (p.reached.joins + 1) role))

  input_later : (p : Play) (u : ℕ) (e : Event) → NoJoin v (outcome_of head p (input_effect p u e)).answer
  input_later p u e = by (is_f12 e) (is_release e)
    where
      by : (b r : Bool) → NoJoin v (outcome_of head p
          (if b then (if r then Answers Accepted else Enters (Give u (receiver_of p.reached u)) Accepted) else Enters (Input u e) Accepted)).answer
      by true true = tt
      by true false = entered_later p (Give u (receiver_of p.reached u)) Accepted tt (refusal_of head p.reached (Give u (receiver_of p.reached u)))
      by false r = entered_later p (Input u e) Accepted tt (refusal_of head p.reached (Input u e))

  take_later : (p : Play) (b : Bool) (u : ℕ) → NoJoin v (outcome_of head p (take_effect b u)).answer
  take_later p true u = tt
  take_later p false u = tt

  -- a step that is no join, or of a session that has counted the viewer
  no_join : (p : Play) (s : Step) → ((name : List ℕ) → s ≡ JoinStep name → v ≤ p.reached.joins) → NoJoin v (outcome head p s).answer
  no_join p (JoinStep name) low = join_later p (low name refl) (row_role name head.rows)
  no_join p (LeaveStep u) low = entered_later p (Leave u) Left tt (refusal_of head p.reached (Leave u))
  no_join p (InputStep u e) low = input_later p u e
  no_join p (DrawStep u d) low = entered_later p (Draw u d) Accepted tt (refusal_of head p.reached (Draw u d))
  no_join p (RefreshStep u r) low = tt
  no_join p (SuppressStep u stop) low = tt
  no_join p (TakeStep u) low = take_later p (has_work head.size p u) u

  -- from the join on
  is_in : (asked : List Asked) (run : Run Encoder) → AreNumbered run.play.reached.joins run.play.reached.viewers → v ≤ run.play.reached.joins
      → IsIn head run v asked
  is_in [] run h low = tt
  is_in (a ∷ more) run h low =
      let j = step_joins head run.play h a.step in
      let up = j.more in
      (no_join run.play a.step (λ name e. low), is_in more (run_after encoder_frames head run a) j.numbered (omega (arith, low, up)))

  confirmed_kept : (asked : List Asked) (run : Run Encoder) → IsIn head run v asked
      → (run_after_all encoder_frames head run asked).confirmed v ≡ run.confirmed v
  confirmed_kept [] run h = refl
  confirmed_kept (a ∷ more) run h = confirmed_kept more (run_after encoder_frames head run a) h.1
      ∙ confirmed_stays head v run a (outcome head run.play a.step).answer h.0

  -- ---- a viewer that hasn't joined yet

  -- a run in which it was sent nothing so far, and is none of those who joined
  record IsNew (run : Run Encoder) : Type 0 where
    counted : run.play.reached.length ≡ length run.journal
    numbered : AreNumbered run.play.reached.joins run.play.reached.viewers
    apart : (u : ℕ) → 0 < u → u ≤ run.play.reached.joins → (u == v) ≡ false
    taken : run.play.taken v ≡ 0
    encoder : run.encoders v ≡ first_encoder

  fits_new : (run : Run Encoder) → IsNew run → Fits run v
  fits_new run n = let t = n.taken in record { counted = n.counted; taken = omega (arith, t) }

  absent : (run : Run Encoder) → IsNew run → (u : ℕ) → is_present u run.play.reached.viewers ≡ true → (u == v) ≡ false
  absent run n u h = let p = present_numbered run.play.reached.joins u run.play.reached.viewers n.numbered h in n.apart u p.0 p.1

  -- what all comes to: the viewer's takes over the final journal, from the first encoder on
  abbrev Comes : Run Encoder → List Asked → Type 0
  Comes run asked = frames_from head run v asked
      ≡ pointed_of_takes head.size ((run_after_all encoder_frames head run asked).confirmed v)
      (run.journal ++ entries_from head run.play (steps_of asked)) first_encoder (takes_from head run.play v (steps_of asked))

  -- a step in which the viewer takes nothing
  on : (run : Run Encoder) (a : Asked) (more : List Asked) → take_in v run.play (effect_of head run.play a.step) ≡ []
      → Comes (run_after encoder_frames head run a) more → Comes run (a ∷ more)
  on run a more none rest =
      let next = run_after encoder_frames head run a in
      let c = (run_after_all encoder_frames head next more).confirmed v in
      let one = option_to_list (outcome head run.play a.step).entry in
      let es = entries_from head (outcome head run.play a.step).play (steps_of more) in
      let ts = takes_from head (outcome head run.play a.step).play v (steps_of more) in
      ap (λ l. map (λ t. pointed_bytes head.size (run.confirmed v) run.journal (run.encoders v) t) l ++ frames_from head next v more) none
      ∙ (rest
      ∙ (ap (λ j. pointed_of_takes head.size c j first_encoder ts) (append_assoc run.journal one es)
      ∙ ap (λ l. pointed_of_takes head.size c (run.journal ++ (one ++ es)) first_encoder (l ++ ts)) (sym none)))

  -- a step that isn't the viewer's join leaves it new
  still_new : (run : Run Encoder) (a : Asked) → IsNew run → NoJoin v (outcome head run.play a.step).answer
      → take_in v run.play (effect_of head run.play a.step) ≡ []
      → ((u : ℕ) → 0 < u → u ≤ (outcome head run.play a.step).play.reached.joins → (u == v) ≡ false) → IsNew (run_after encoder_frames head run a)
  still_new run a n join none apart = by (steps head v run a (fits_new run n) join)
    where
      j : Joins run.play (outcome head run.play a.step)
      j = step_joins head run.play n.numbered a.step

      by : Steps head run v a → IsNew (run_after encoder_frames head run a)
      by (Stays empty conf enc g) = record {
        counted = g.counted;
        numbered = j.numbered;
        apart = apart;
        taken = taken_stays head run.play v
            (effect_of head run.play a.step) none ∙ n.taken;
        encoder = enc ∙ n.encoder;
      }
      by (Sends one entry conf enc g) = absurd (cc (sym none ∙ one))

  -- the viewer's join: from there on it is in
  joins_now : (run : Run Encoder) (a : Asked) (more : List Asked) → IsNew run → take_in v run.play (effect_of head run.play a.step) ≡ []
      → (run_after encoder_frames head run a).encoders v ≡ run.encoders v
      → (run_after encoder_frames head run a).play.reached.length ≡ length (run_after encoder_frames head run a).journal
      → v ≤ (run_after encoder_frames head run a).play.reached.joins → Comes run (a ∷ more)
  joins_now run a more n none enc counted low =
      let next = run_after encoder_frames head run a in
      let j = step_joins head run.play n.numbered a.step in
      let taken : next.play.taken v ≡ 0 = taken_stays head run.play v (effect_of head run.play a.step) none ∙ n.taken in
      let inside = is_in more next j.numbered low in
      let es = entries_from head next.play (steps_of more) in
      let ts = takes_from head next.play v (steps_of more) in
      on run a more none (sent_are_takes head v more next (record { counted = counted; taken = omega (arith, taken) }) inside
      ∙ (ap (λ c. pointed_of_takes head.size c (next.journal ++ es) (next.encoders v) ts) (sym (confirmed_kept more next inside))
      ∙ ap (λ e. pointed_of_takes head.size ((run_after_all encoder_frames head next more).confirmed v) (next.journal ++ es) e ts) (enc ∙ n.encoder)))

  -- ---- which of both a step is

  -- a step that isn't the viewer's join, and its join
  record NotJoined (o : Outcome) : Type 0 where
    join : NoJoin v o.answer
    apart : (u : ℕ) → 0 < u → u ≤ o.play.reached.joins → (u == v) ≡ false

  record JoinedNow (run : Run Encoder) (w : ℕ) (o : Outcome) : Type 0 where
    encoder : encoders_after encoder_frames head.size run w o.answer v ≡ run.encoders v
    counted : o.play.reached.length ≡ length (run.journal ++ option_to_list o.entry)
    low : v ≤ o.play.reached.joins

  abbrev Which : Run Encoder → ℕ → Outcome → Type 0
  Which run w o = NotJoined o ⊎ JoinedNow run w o

  -- the joins stay where no one joins
  stays_apart : (run : Run Encoder) (joins : ℕ) → IsNew run → joins ≡ run.play.reached.joins → (u : ℕ) → 0 < u → u ≤ joins → (u == v) ≡ false
  stays_apart run joins n same u some low = n.apart u some (omega (arith, low, same))

  no_more : (run : Run Encoder) → run.play.reached.joins + 0 ≡ run.play.reached.joins
  no_more run = omega arith

  kept_apart : (run : Run Encoder) (e : Entry) (answer : Answer) → IsNew run → NoJoin v answer
      → (reached_after_entry head.size run.play.reached e).joins ≡ run.play.reached.joins → (r : Option Refusal)
      → NotJoined (entered head run.play e answer r)
  kept_apart run e answer n join count None = record { join = join; apart = stays_apart run (reached_after_entry head.size run.play.reached e).joins n count }
  kept_apart run e answer n join count (Some q) = record { join = tt; apart = n.apart }

  which_input : (run : Run Encoder) (u : ℕ) (e : Event) → IsNew run → NotJoined (outcome_of head run.play (input_effect run.play u e))
  which_input run u e n = by (is_f12 e) (is_release e)
    where
      by : (b r : Bool) → NotJoined (outcome_of head run.play
          (if b then (if r then Answers Accepted else Enters (Give u (receiver_of run.play.reached u)) Accepted) else Enters (Input u e) Accepted))
      by true true = record { join = tt; apart = n.apart }
      by true false = kept_apart run (Give u (receiver_of run.play.reached u)) Accepted n tt (no_more run)
          (refusal_of head run.play.reached (Give u (receiver_of run.play.reached u)))
      by false r = kept_apart run (Input u e) Accepted n tt (no_more run) (refusal_of head run.play.reached (Input u e))

  which_take : (run : Run Encoder) (b : Bool) (u : ℕ) → IsNew run → NotJoined (outcome_of head run.play (take_effect b u))
  which_take run true u n = record { join = tt; apart = n.apart }
  which_take run false u n = record { join = tt; apart = n.apart }

  which_join : (run : Run Encoder) (o : Option Role) → IsNew run → Which run 0 (outcome_of head run.play (join_effect run.play o))
  which_join run None n = inl (record { join = tt; apart = n.apart })
  which_join run (Some role) n = by_refusal (refusal_of head run.play.reached (Join (run.play.reached.joins + 1) role))
    where
      next : ℕ
      next = run.play.reached.joins + 1

      apart_still : (run.play.reached.joins + 1 == v) ≡ false → (u : ℕ) → 0 < u → u ≤ run.play.reached.joins + 1 → (u == v) ≡ false
      apart_still e u some low = by (u == run.play.reached.joins + 1) refl
        where
          by : (b : Bool) → (u == run.play.reached.joins + 1) ≡ b → (u == v) ≡ false
          by true same = let is : u ≡ run.play.reached.joins + 1 = same_number u (run.play.reached.joins + 1) same in ap (λ m. m == v) is ∙ e
          by false differ = let not_same = differs u (run.play.reached.joins + 1) differ in n.apart u some (omega (arith, low, not_same))

      by_test : (b : Bool) → (run.play.reached.joins + 1 == v) ≡ b → Which run 0
          (entered head run.play (Join (run.play.reached.joins + 1) role) (Joined (run.play.reached.joins + 1)) None)
      by_test true e =
          let same = same_number (run.play.reached.joins + 1) v e in
          let counted = n.counted in
          inr (record {
            encoder = refl;
            counted = omega (arith, counted, length-append run.journal (Join (run.play.reached.joins + 1) role ∷ []));
            low = omega
                (arith, same);
          })
      by_test false e = inl (record { join = e; apart = apart_still e })

      by_refusal : (r : Option Refusal) → Which run 0 (entered head run.play (Join (run.play.reached.joins + 1) role) (Joined (run.play.reached.joins + 1)) r)
      by_refusal None = by_test (run.play.reached.joins + 1 == v) refl
      by_refusal (Some q) = inl (record { join = tt; apart = n.apart })

  which : (run : Run Encoder) (s : Step) → IsNew run → Which run (viewer_of s) (outcome head run.play s)
  which run (JoinStep name) n = which_join run (row_role name head.rows) n
  which run (LeaveStep u) n = inl (kept_apart run (Leave u) Left n tt (no_more run) (refusal_of head run.play.reached (Leave u)))
  which run (InputStep u e) n = inl (which_input run u e n)
  which run (DrawStep u d) n = inl (kept_apart run (Draw u d) Accepted n tt (no_more run) (refusal_of head run.play.reached (Draw u d)))
  which run (RefreshStep u r) n = inl (record { join = tt; apart = n.apart })
  which run (SuppressStep u stop) n = inl (record { join = tt; apart = n.apart })
  which run (TakeStep u) n = inl (which_take run (has_work head.size run.play u) u n)

  comes : (asked : List Asked) (run : Run Encoder) → IsNew run → AreByPresentFrom head run.play asked → Comes run asked
  comes [] run n present = refl
  comes (a ∷ more) run n present = by (which run a.step n) (λ m. comes more (run_after encoder_frames head run a) m present.1)
    where
      none : take_in v run.play (effect_of head run.play a.step) ≡ []
      none = takes_none head run.play v a.step (absent run n) present.0

      by : Which run (viewer_of a.step) (outcome head run.play a.step) →
          (IsNew (run_after encoder_frames head run a) → Comes (run_after encoder_frames head run a) more) → Comes run (a ∷ more)
      by (inl f) rest = on run a more none (rest (still_new run a n f.join none f.apart))
      by (inr f) rest = joins_now run a more n none f.encoder f.counted f.low

  -- of a new session
  pub sent_over_the_journal : (asked : List Asked) → AreByPresentViewers head asked
      → frames_from head (run_at_first encoder_frames head.size) v asked
      ≡ pointed_of_takes head.size (confirmed_in head asked v) (journal_of_steps head (steps_of asked)) first_encoder (takes_of head (steps_of asked) v)
  sent_over_the_journal asked present = comes asked (run_at_first encoder_frames head.size)
      (record { counted = refl; numbered = tt; apart = λ u some low. absurd (omega (arith, some, low)); taken = refl; encoder = refl }) present

-- ---- what viewers confirmed has all caches

caches_after : (run : Run Encoder) (a : Asked) (answer : Answer) → ((v : ℕ) → HasAllCaches (run.confirmed v)) → HasAllCaches a.confirmed → (v : ℕ)
    → HasAllCaches (confirmed_after run.confirmed a answer v)
caches_after run a (Joined u) h k v = by (u == v)
  where
    by : (b : Bool) → HasAllCaches (if b then a.confirmed else run.confirmed v)
    by true = k
    by false = h v
caches_after run a Left h k v = h v
caches_after run a Accepted h k v = h v
caches_after run a (Refused refusal) h k v = h v
caches_after run a Nothing h k v = h v
caches_after run a (Frame take) h k v = h v

all_caches : (head : Head) (asked : List Asked) (run : Run Encoder) → ((v : ℕ) → HasAllCaches (run.confirmed v)) → ConfirmAllCaches asked → (v : ℕ)
    → HasAllCaches ((run_after_all encoder_frames head run asked).confirmed v)
all_caches head [] run h k v = h v
all_caches head (a ∷ more) run h k v = all_caches head more (run_after encoder_frames head run a)
    (caches_after run a (outcome head run.play a.step).answer h k.0) k.1 v

-- ---- the headline over steps

pub every_viewer_sees : (head : Head) (asked : List Asked) → EveryViewerOfSteps head asked
every_viewer_sees head asked sized present caches =
    let steps = steps_of asked in
    let j = journal_of_steps head steps in
    let legal = IsLegalJournal-journal_of_steps head steps in
    let taken : ℕ → ℕ = λ v. (session_after head (play_at_first head.size) steps).taken v in
    let all : (v : ℕ) → HasAllCaches (confirmed_in head asked v) = λ v.
    all_caches head asked (run_at_first encoder_frames head.size) (λ u. record { bitmaps = refl; glyphs = refl }) caches v in
    let bytes : (v : ℕ) → sent_from encoder_frames head (run_at_first encoder_frames head.size) asked v
    ≡ joined_bytes (pointed_of_takes head.size (confirmed_in head asked v) j first_encoder (takes_of head steps v)) = λ v.
    sent_are_frames head v asked (run_at_first encoder_frames head.size) ∙ ap joined_bytes (sent_over_the_journal head v asked present) in
    record {
      viewers = λ v.
          let c = confirmed_in head asked v in
          let ts = takes_of head steps v in
          subst (λ written. SeesJournal head.size c j (map (λ t. t.number) ts) (without_pointers written)) (sym (bytes v))
          (takes_see_without head c (frame_shows_journal head c) sized (all v) j legal ts (taken v) (TakesFollow-takes_of head steps v) (taken-≤ head steps v));
      pointers = λ v.
          let c = confirmed_in head asked v in
          let ts = takes_of head steps v in
          subst (SeesPointers head.size c j (map (λ t. t.number) ts)) (sym (bytes v))
          (takes_point head c (frame_shows_journal head c) sized (all v) j legal ts (taken v) (TakesFollow-takes_of head steps v) (taken-≤ head steps v));
      journal_is_legal = legal;
      changes_are_the_holders = ChangesAreTheHolders-legal head j legal;
    }
