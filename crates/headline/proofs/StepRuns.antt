-- What a viewer is sent in a run of several viewers is what its takes come to, whatever the others do in between.
use Rattle.std.proofs.Common.{◌≡◌, ℕ, ◌+◌, ◌≤◌, List, [], ◌∷◌, ◌++◌, length, map, refl, ap, sym, ◌∙◌, subst, arith, append_assoc, append-nil, length-append}
use Rattle.std.proofs.Common.{Some, None}
use Rattle.std.specs.Prelude.{Bool, true, false, ◌==◌, ⊤, Option, option_to_list, if◌then◌else◌}
use Rattle.std.proofs.lemmas.Bool.Decides.{nat_tests}
use Rattle.caps_sets.specs.declared.confirmed.Confirmed.{Confirmed}
use Rattle.session_rules.specs.declared.entry.Entry.{Entry}
use Rattle.session_rules.specs.declared.entry.Entry.TheVariants.{Leave, Give, Input, Draw}
use Rattle.session_rules.specs.declared.entry.Role.{Role}
use Rattle.input_pdu.specs.declared.event.Event.{Event}
use Rattle.session_rules.specs.Journal.{Head, Refusal, refusal_of, is_f12}
use Rattle.session_rules.specs.Steps.{Step, Answer, Outcome, row_role, join_effect, is_release, receiver_of, input_effect, has_work, take_effect, effect_of}
use Rattle.session_rules.specs.Steps.{take_of, entered, outcome_of, outcome, entries_from, take_in, takes_from}
use Rattle.session_rules.specs.Steps.Step.{JoinStep, LeaveStep, InputStep, DrawStep, RefreshStep, SuppressStep, TakeStep}
use Rattle.session_rules.specs.Steps.Answer.{Joined, Left, Accepted, Refused, Nothing, Frame}
use Rattle.session_rules.specs.Steps.Effect.{Enters, Takes, Answers}
use Rattle.frame_rules.specs.Encoder.{Encoder, pointed_bytes, encoder_after, pointed_of_takes}
use Rattle.frame_rules.proofs.FrameLaws.{pointed_bytes-append, encoder_after-append}
use Rattle.script_rules.specs.Script.{Asked}
use Rattle.script_rules.specs.Capture.{viewer_of}
use Rattle.script_rules.specs.CaptureText.{Run, confirmed_after, encoders_after, run_by, run_after, encoder_frames}
use Rattle.headline.specs.Headline.{steps_of}
use Rattle.headline.specs.Interleaving.{frames_in, frames_from}

-- an answer that isn't the viewer's join
abbrev pub NoJoin : ℕ → Answer → Type 0
NoJoin v (Joined u) = (u == v) ≡ false
NoJoin v Left = ⊤
NoJoin v Accepted = ⊤
NoJoin v (Refused refusal) = ⊤
NoJoin v Nothing = ⊤
NoJoin v (Frame take) = ⊤

-- the viewer doesn't join any more
abbrev pub IsIn : Head → Run Encoder → ℕ → List Asked → Type 0
IsIn head run v [] = ⊤
IsIn head run v (a ∷ more) = NoJoin v (outcome head run.play a.step).answer × IsIn head (run_after encoder_frames head run a) v more

-- the play is that of the journal, and no take passed it
pub record Fits (run : Run Encoder) (v : ℕ) : Type 0 where
  pub counted : run.play.reached.length ≡ length run.journal
  pub taken : run.play.taken v ≤ run.play.reached.length

-- what a step leaves of a viewer: nothing is sent and all stays, or a frame goes
pub data Steps (head : Head) (run : Run Encoder) (v : ℕ) (a : Asked) : Type 0 where
  Stays : take_in v run.play (effect_of head run.play a.step) ≡ [] → (run_after encoder_frames head run a).confirmed v ≡ run.confirmed v
      → (run_after encoder_frames head run a).encoders v ≡ run.encoders v
      → Fits (run_after encoder_frames head run a) v → Steps head run v a
  Sends : take_in v run.play (effect_of head run.play a.step) ≡ take_of run.play v ∷ [] → (outcome head run.play a.step).entry ≡ None
      → (run_after encoder_frames head run a).confirmed v ≡ run.confirmed v
      → (run_after encoder_frames head run a).encoders v ≡ encoder_after head.size (run.confirmed v) run.journal (run.encoders v) (take_of run.play v)
      → Fits (run_after encoder_frames head run a) v → Steps head run v a

module _ (head : Head) (v : ℕ) where
  pub confirmed_stays : (run : Run Encoder) (a : Asked) (answer : Answer) → NoJoin v answer → confirmed_after run.confirmed a answer v ≡ run.confirmed v
  confirmed_stays run a (Joined u) h = ap (λ b. if b then a.confirmed else run.confirmed v) h
  confirmed_stays run a Left h = refl
  confirmed_stays run a Accepted h = refl
  confirmed_stays run a (Refused refusal) h = refl
  confirmed_stays run a Nothing h = refl
  confirmed_stays run a (Frame take) h = refl

  -- an answer that is no frame of the viewer
  abbrev IsOther : ℕ → Answer → Type 0
  IsOther u (Joined n) = ⊤
  IsOther u Left = ⊤
  IsOther u Accepted = ⊤
  IsOther u (Refused refusal) = ⊤
  IsOther u Nothing = ⊤
  IsOther u (Frame take) = (u == v) ≡ false

  encoder_stays : (run : Run Encoder) (u : ℕ) (answer : Answer) → IsOther u answer → encoders_after encoder_frames head.size run u answer v ≡ run.encoders v
  encoder_stays run u (Joined n) h = refl
  encoder_stays run u Left h = refl
  encoder_stays run u Accepted h = refl
  encoder_stays run u (Refused refusal) h = refl
  encoder_stays run u Nothing h = refl
  encoder_stays run u (Frame take) h = ap (λ b. if b then encoder_after head.size (run.confirmed u) run.journal (run.encoders u) take else run.encoders v) h

  -- the play of an outcome that takes nothing for the viewer
  record Plays (run : Run Encoder) (o : Outcome) : Type 0 where
    taken : o.play.taken v ≡ run.play.taken v
    length_is : o.play.reached.length ≡ run.play.reached.length + length (option_to_list o.entry)

  fits_on : (run : Run Encoder) (a : Asked) (o : Outcome) → Fits run v → Plays run o → Fits (run_by encoder_frames head.size run a o) v
  fits_on run a o f p =
      let c = f.counted in
      let n = p.length_is in
      let t = p.taken in
      let old = f.taken in
      record { counted = omega (arith, c, n, length-append run.journal (option_to_list o.entry)); taken = omega (arith, t, old, n) }

  stays : (run : Run Encoder) (a : Asked) → take_in v run.play (effect_of head run.play a.step) ≡ [] → NoJoin v (outcome head run.play a.step).answer
      → IsOther (viewer_of a.step) (outcome head run.play a.step).answer
      → Plays run (outcome head run.play a.step) → Fits run v → Steps head run v a
  stays run a none join other plays f = Stays none (confirmed_stays run a (outcome head run.play a.step).answer join)
      (encoder_stays run (viewer_of a.step) (outcome head run.play a.step).answer other) (fits_on run a (outcome head run.play a.step) f plays)

  -- an entry that is made, or refused
  record Enter (run : Run Encoder) (u : ℕ) (o : Outcome) : Type 0 where
    other : IsOther u o.answer
    plays : Plays run o

  entered_plays : (run : Run Encoder) (u : ℕ) (e : Entry) (answer : Answer) → IsOther u answer → (r : Option Refusal)
      → Enter run u (entered head run.play e answer r)
  entered_plays run u e answer h None = record { other = h; plays = record { taken = refl; length_is = refl } }
  entered_plays run u e answer h (Some r) = record { other = tt; plays = record { taken = refl; length_is = omega arith } }

  join_plays : (run : Run Encoder) (u : ℕ) (role : Option Role) → (take_in v run.play (join_effect run.play role) ≡ [])
      × Enter run u (outcome_of head run.play (join_effect run.play role))
  join_plays run u None = (refl, record { other = tt; plays = record { taken = refl; length_is = omega arith } })
  join_plays run u (Some role) = (refl, entered_plays run u _ (Joined (run.play.reached.joins + 1)) tt _)

  input_plays : (run : Run Encoder) (u : ℕ) (e : Event) → (take_in v run.play (input_effect run.play u e) ≡ [])
      × Enter run u (outcome_of head run.play (input_effect run.play u e))
  input_plays run u e = by (is_f12 e) (is_release e)
    where
      by : (b r : Bool) → (take_in v run.play (if b then (if r then Answers Accepted else Enters (Give u (receiver_of run.play.reached u)) Accepted) else Enters
          (Input u e) Accepted) ≡ [])
          × Enter run u (outcome_of head run.play (if b then
          (if r then Answers Accepted else Enters (Give u (receiver_of run.play.reached u)) Accepted) else Enters (Input u e) Accepted))
      by true true = (refl, record { other = tt; plays = record { taken = refl; length_is = omega arith } })
      by true false = (refl, entered_plays run u _ Accepted tt _)
      by false r = (refl, entered_plays run u _ Accepted tt _)

  same_number : (a b : ℕ) → (a == b) ≡ true → a ≡ b
  same_number a b h = grind (arith, nat_tests, h)

  -- what a take leaves, by whether it has work and is the viewer's own
  taking : (run : Run Encoder) (preset : List (List ℕ)) (c : Confirmed) (u : ℕ) → Fits run v → (work : Bool) → has_work head.size run.play u ≡ work
      → (own : Bool) → (u == v) ≡ own
      → Steps head run v (record { step = TakeStep u; preset = preset; confirmed = c })
  taking run preset c u f false w own o =
      let a : Asked = record { step = TakeStep u; preset = preset; confirmed = c } in
      let is : outcome head run.play (TakeStep u) ≡ outcome_of head run.play (Answers Nothing) = ap (λ b. outcome_of head run.play (take_effect b u)) w in
      let plays : Plays run (outcome_of head run.play (Answers Nothing)) = record { taken = refl; length_is = omega arith } in
      stays run a (ap (λ b. take_in v run.play (take_effect b u)) w) (subst (λ q. NoJoin v q.answer) (sym is) tt) (subst (λ q. IsOther u q.answer) (sym is) tt)
      (subst (λ q. Plays run q) (sym is) plays) f
  taking run preset c u f true w false o =
      let a : Asked = record { step = TakeStep u; preset = preset; confirmed = c } in
      let is : outcome head run.play (TakeStep u) ≡ outcome_of head run.play (Takes u) = ap (λ b. outcome_of head run.play (take_effect b u)) w in
      let plays : Plays run (outcome_of head run.play (Takes u)) =
      record { taken = ap (λ b. if b then run.play.reached.length else run.play.taken v) o; length_is = omega arith } in
      stays run a (ap (λ b. take_in v run.play (take_effect b u)) w ∙ ap (λ b. if b then take_of run.play v ∷ [] else []) o)
      (subst (λ q. NoJoin v q.answer) (sym is) tt) (subst (λ q. IsOther u q.answer) (sym is) o) (subst (λ q. Plays run q) (sym is) plays) f
  taking run preset c u f true w true o =
      let a : Asked = record { step = TakeStep u; preset = preset; confirmed = c } in
      let is : outcome head run.play (TakeStep u) ≡ outcome_of head run.play (Takes u) = ap (λ b. outcome_of head run.play (take_effect b u)) w in
      let same = same_number u v o in
      let counted = f.counted in
      Sends (ap (λ b. take_in v run.play (take_effect b u)) w ∙ ap (λ b. if b then take_of run.play v ∷ [] else []) o)
      (ap (λ q. q.entry) is)
      (confirmed_stays run a (outcome head run.play (TakeStep u)).answer (subst (λ q. NoJoin v q.answer) (sym is) tt))
      (ap (λ q. encoders_after encoder_frames head.size run u q.answer v) is
      ∙ (ap (λ b. if b then encoder_after head.size (run.confirmed u) run.journal (run.encoders u) (take_of run.play u) else run.encoders v) o
      ∙ ap (λ n. encoder_after head.size (run.confirmed n) run.journal (run.encoders n) (take_of run.play n)) same))
      (subst (λ q. Fits (run_by encoder_frames head.size run a q) v) (sym is) (record {
        counted = counted ∙ sym (ap length (append-nil run.journal));
        taken = let now : (if u == v then run.play.reached.length else run.play.taken v)
            ≡ run.play.reached.length = ap (λ b. if b then run.play.reached.length else run.play.taken v) o in omega (arith, now);
      }))

  -- a step by its kind; `a` has it
  by_step : (run : Run Encoder) (preset : List (List ℕ)) (c : Confirmed) (s : Step) → Fits run v → NoJoin v (outcome head run.play s).answer
      → Steps head run v (record { step = s; preset = preset; confirmed = c })
  by_step run preset c (JoinStep name) f join = let p = join_plays run 0 (row_role name head.rows) in stays run _ p.0 join p.1.other p.1.plays f
  by_step run preset c (LeaveStep u) f join = let p = entered_plays run u (Leave u) Left tt
      (refusal_of head run.play.reached (Leave u)) in stays run _ refl join p.other p.plays f
  by_step run preset c (InputStep u e) f join = let p = input_plays run u e in stays run _ p.0 join p.1.other p.1.plays f
  by_step run preset c (DrawStep u d) f join = let p = entered_plays run u (Draw u d) Accepted tt
      (refusal_of head run.play.reached (Draw u d)) in stays run _ refl join p.other p.plays f
  by_step run preset c (RefreshStep u r) f join = stays run _ refl tt tt (record { taken = refl; length_is = omega arith }) f
  by_step run preset c (SuppressStep u stop) f join = stays run _ refl tt tt (record { taken = refl; length_is = omega arith }) f
  by_step run preset c (TakeStep u) f join = taking run preset c u f (has_work head.size run.play u) refl (u == v) refl

  pub steps : (run : Run Encoder) (a : Asked) → Fits run v → NoJoin v (outcome head run.play a.step).answer → Steps head run v a
  steps run a f join = by_step run a.preset a.confirmed a.step f join

  -- ---- all steps

  pub sent_are_takes : (asked : List Asked) (run : Run Encoder) → Fits run v → IsIn head run v asked
      → frames_from head run v asked ≡ pointed_of_takes head.size (run.confirmed v) (run.journal ++ entries_from head run.play (steps_of asked)) (run.encoders v)
      (takes_from head run.play v (steps_of asked))
  sent_are_takes [] run f is = refl
  sent_are_takes (a ∷ more) run f is = by (steps run a f is.0) (λ g. sent_are_takes more (run_after encoder_frames head run a) g is.1)
    where
      by : Steps head run v a
          → (Fits (run_after encoder_frames head run a) v → frames_from head (run_after encoder_frames head run a) v more
          ≡ pointed_of_takes head.size ((run_after encoder_frames head run a).confirmed v)
          ((run.journal ++ option_to_list (outcome head run.play a.step).entry) ++ entries_from head (outcome head run.play a.step).play (steps_of more))
          ((run_after encoder_frames head run a).encoders v) (takes_from head (outcome head run.play a.step).play v (steps_of more)))
          → frames_in head run v a ++ frames_from head (run_after encoder_frames head run a) v more
          ≡ pointed_of_takes head.size (run.confirmed v) (run.journal ++ (option_to_list (outcome head run.play a.step).entry
          ++ entries_from head (outcome head run.play a.step).play (steps_of more))) (run.encoders v)
          (take_in v run.play (effect_of head run.play a.step) ++ takes_from head (outcome head run.play a.step).play v (steps_of more))
      by (Stays none conf enc g) rest =
          let c = run.confirmed v in
          let E = run.encoders v in
          let es = entries_from head (outcome head run.play a.step).play (steps_of more) in
          let ts = takes_from head (outcome head run.play a.step).play v (steps_of more) in
          let one = option_to_list (outcome head run.play a.step).entry in
          ap (λ l. map (λ t. pointed_bytes head.size c run.journal E t) l ++ frames_from head (run_after encoder_frames head run a) v more) none
          ∙ (rest g ∙ (ap (λ x. pointed_of_takes head.size x ((run.journal ++ one) ++ es) ((run_after encoder_frames head run a).encoders v) ts) conf
          ∙ (ap (λ x. pointed_of_takes head.size c ((run.journal ++ one) ++ es) x ts) enc
          ∙ (ap (λ j. pointed_of_takes head.size c j E ts) (append_assoc run.journal one es)
          ∙ ap (λ l. pointed_of_takes head.size c (run.journal ++ (one ++ es)) E (l ++ ts)) (sym none)))))
      by (Sends one none conf enc g) rest =
          let c = run.confirmed v in
          let E = run.encoders v in
          let t = take_of run.play v in
          let es = entries_from head (outcome head run.play a.step).play (steps_of more) in
          let ts = takes_from head (outcome head run.play a.step).play v (steps_of more) in
          let made = option_to_list (outcome head run.play a.step).entry in
          let J = run.journal ++ (made ++ es) in
          let counted = f.counted in
          let taken = f.taken in
          let bytes : pointed_bytes head.size c run.journal E t ≡ pointed_bytes head.size c J E t =
          sym (pointed_bytes-append head.size c run.journal (made ++ es) E t taken (omega (arith, counted))) in
          let later : (run_after encoder_frames head run a).encoders v ≡ encoder_after head.size c J E t =
          enc ∙ sym (encoder_after-append head.size c run.journal (made ++ es) E t taken (omega (arith, counted))) in
          ap (λ l. map (λ t. pointed_bytes head.size c run.journal E t) l ++ frames_from head (run_after encoder_frames head run a) v more) one
          ∙ (ap (λ b. b ∷ frames_from head (run_after encoder_frames head run a) v more) bytes
          ∙ (ap (λ l. pointed_bytes head.size c J E t ∷ l)
          (rest g ∙ (ap (λ x. pointed_of_takes head.size x ((run.journal ++ made) ++ es) ((run_after encoder_frames head run a).encoders v) ts) conf
          ∙ (ap (λ x. pointed_of_takes head.size c ((run.journal ++ made) ++ es) x ts) later
          ∙ ap (λ j. pointed_of_takes head.size c j (encoder_after head.size c J E t) ts) (append_assoc run.journal made es))))
          ∙ ap (λ l. pointed_of_takes head.size c J E (l ++ ts)) (sym one)))
