-- What the viewers' watchers make of one step more.
use Rattle.std.proofs.Common.{◌≡◌, ◌≢◌, ℕ, zero, suc, ◌+◌, ◌≤◌, ◌<◌, List, [], ◌∷◌, ◌++◌, length, refl, ap, sym, ◌∙◌, subst, arith, append-nil, length-append, ◌⊎◌, inl, inr}
use Rattle.std.proofs.lemmas.List.{length-map}
use Rattle.std.specs.Prelude.{Bool, true, false, ◌==◌, IsTrue, Some, None, slice_get, slice_set, if◌then◌else◌, Option, Result, Ok, Err, min, ◌^◌, ◌-◌}
use Rattle.std.proofs.lemmas.Bool.Decides.{nat_tests}
use Rattle.wire_num.specs.Field.{bind}
use Rattle.px_core.specs.declared.surface.Size.{Size}
use Rattle.caps_sets.specs.declared.confirmed.Confirmed.{Confirmed}
use Rattle.caps_sets.specs.Confirmed.{pointer_cells}
use Rattle.order_means.specs.FrameMarks.{ClientReading, Refusal, first_reading, read_on, read_stream, pictures_at_marks}
use Rattle.order_means.proofs.Pieces.{read_joined}
use Rattle.client_view.specs.Clients.{IsReading}
use Rattle.session_rules.specs.Steps.{Answer, outcome, play_at_first, take_in, effect_of, takes_from}
use Rattle.session_rules.specs.Steps.Answer.{Joined, Left, Accepted, Refused, Nothing, Frame}
use Rattle.frame_rules.specs.Encoder.{Encoder}
use Rattle.script_rules.specs.Script.{Asked}
use Rattle.script_rules.specs.Capture.{viewer_of}
use Rattle.script_rules.specs.CaptureText.{Run, run_at_first, run_after, bytes_of_answer, sent_by, encoder_frames}
use Rattle.headline.specs.Headline.{steps_of, confirmed_in, AreByPresentViewers, ConfirmAllCaches}
use Rattle.headline.proofs.Interleaved.{every_viewer_sees}
use Rattle.demo_run.specs.Scene.{demo_size, demo_head}
use Rattle.demo_run.specs.Counts.{sent_to, takes_of, read_by, kept}
use Rattle.demo_run.specs.declared.watcher.Watcher.{Watcher}
use Rattle.demo_run.specs.Watching.{read_behind, IsAccepted, ReadsOn}
use Rattle.demo_run.specs.Standing.{run_of, Watches, AreWatching}
use Rattle.demo_run.proofs.Runs.{run_more, sent_more, play_is, takes_more}
use Rattle.demo_run.proofs.Drawn.{Comes, frames_in}
use Rattle.headline.proofs.Pointerless.{all_read}

-- a count that stands still may be raised part by part
pub kept_more : (n m : ℕ) → kept (kept n + m) ≡ kept (n + m)
kept_more n m = omega arith

pub kept_both : (n m : ℕ) → kept (kept n + kept m) ≡ kept (n + m)
kept_both n m = omega arith

-- a member of a list of which one was changed
pub set_get : {A : Type 0} (xs : List A) (i j : ℕ) (y z : A) → slice_get (slice_set xs i y) j ≡ Some z
    → ((j ≡ i) × (z ≡ y)) ⊎ ((j ≢ i) × (slice_get xs j ≡ Some z))
set_get [] i j y z h = absurd (cc h)
set_get (x ∷ xs) zero zero y z h = inl (refl, cc h)
set_get (x ∷ xs) zero (suc j) y z h = inr (λ e. omega (arith, e), h)
set_get (x ∷ xs) (suc i) zero y z h = inr (λ e. omega (arith, e), h)
set_get (x ∷ xs) (suc i) (suc j) y z h = by (set_get xs i j y z h)
  where
    by : ((j ≡ i) × (z ≡ y)) ⊎ ((j ≢ i) × (slice_get xs j ≡ Some z)) → ((suc j ≡ suc i) × (z ≡ y)) ⊎ ((suc j ≢ suc i) × (slice_get xs j ≡ Some z))
    by (inl k) = inl (ap suc k.0, k.1)
    by (inr k) = inr (λ e. k.0 (omega (arith, e)), k.1)

-- a stream with pictures at its marks is read
read_whole : (c : Confirmed) (size : Size) (bytes : List ℕ) (pictures : List (List (Option ℕ))) → pictures_at_marks c size bytes ≡ Ok pictures
    → (r : ClientReading) × (read_stream c size bytes ≡ Ok r) × (r.view.pictures ≡ pictures)
read_whole c size bytes pictures h = by (read_stream c size bytes) refl h
  where
    by : (x : Result ClientReading Refusal) → read_stream c size bytes ≡ x → bind x (λ r. Ok r.view.pictures) ≡ Ok pictures
        → (r : ClientReading) × (read_stream c size bytes ≡ Ok r) × (r.view.pictures ≡ pictures)
    by (Ok r) e k = (r, e, cc k)
    by (Err q) e k = absurd (cc k)

-- ---- one step more

module _ (done : List Asked) (a : Asked) where
  pub run_after_more : run_of (done ++ a ∷ []) ≡ run_after encoder_frames demo_head (run_of done) a
  run_after_more = run_more demo_head (run_at_first encoder_frames demo_size) done a

  sent_now : (v : ℕ) → sent_to (done ++ a ∷ []) v ≡ sent_to done v ++ sent_by encoder_frames demo_head (run_of done) a v
  sent_now v = sent_more demo_head (run_at_first encoder_frames demo_size) done a v

  confirmed_now : Comes demo_head (run_of done).play a.step (outcome demo_head (run_of done).play a.step) → (v : ℕ)
      → confirmed_in demo_head (done ++ a ∷ []) v ≡ confirmed_in demo_head done v
  confirmed_now comes v = ap (λ (r : Run Encoder). r.confirmed v) run_after_more ∙ ap (λ f. f v) (comes.confirmed (run_of done).confirmed a)

  takes_now : Comes demo_head (run_of done).play a.step (outcome demo_head (run_of done).play a.step) → (v : ℕ)
      → takes_of (done ++ a ∷ []) v ≡ takes_of done v + (if viewer_of a.step == v then frames_in (outcome demo_head (run_of done).play a.step).answer else 0)
  takes_now comes v =
      let p = play_at_first demo_size in
      let old : ℕ = length (takes_from demo_head p v (steps_of done)) in
      length-map (takes_from demo_head p v (steps_of (done ++ a ∷ []))) (λ t. t.number)
      ∙ (takes_more demo_head p v done a
      ∙ (ap (λ q. old + length (take_in v q (effect_of demo_head q a.step))) (sym (play_is demo_head (run_at_first encoder_frames demo_size) done))
      ∙ (ap (λ n. old + n) (comes.takes v)
      ∙ ap (λ n. n + (if viewer_of a.step == v then frames_in (outcome demo_head (run_of done).play a.step).answer else 0))
      (sym (length-map (takes_from demo_head p v (steps_of done)) (λ t. t.number))))))

  -- what a viewer's client makes of what it is sent for the step
  read_more : Comes demo_head (run_of done).play a.step (outcome demo_head (run_of done).play a.step) → (v : ℕ) (r : ClientReading) → read_by done v ≡ Ok r
      → read_by (done ++ a ∷ []) v ≡ read_on (confirmed_in demo_head done v) demo_size r (sent_by encoder_frames demo_head (run_of done) a v)
  read_more comes v r e =
      let c = confirmed_in demo_head done v in
      let next = sent_by encoder_frames demo_head (run_of done) a v in
      ap (λ k. read_stream k demo_size (sent_to (done ++ a ∷ []) v)) (confirmed_now comes v)
      ∙ (ap (read_stream c demo_size) (sent_now v)
      ∙ (read_joined c demo_size (first_reading c demo_size) (sent_to done v) next
      ∙ ap (λ (x : Result ClientReading Refusal). bind x (λ s. read_on c demo_size s next)) e))

  -- it isn't refused, where the viewer has no pointer cells
  pub not_refused : AreByPresentViewers demo_head (done ++ a ∷ []) → ConfirmAllCaches (done ++ a ∷ []) → (v : ℕ) → pointer_cells (confirmed_in demo_head (done ++ a ∷ []) v) ≡ 0
      → (s : ClientReading) × (read_by (done ++ a ∷ []) v ≡ Ok s)
  not_refused present caches v none =
      let c = confirmed_in demo_head (done ++ a ∷ []) v in
      let sent = sent_to (done ++ a ∷ []) v in
      let every = every_viewer_sees demo_head (done ++ a ∷ []) refl present caches in
      let same = all_read demo_size c _ _ sent none (every.pointers v) in
      let whole = read_whole c demo_size sent _ (ap (pictures_at_marks c demo_size) (sym same) ∙ (every.viewers v).marks_show_journal) in
      (whole.0, whole.1)

  -- a viewer that is sent nothing
  stays : Comes demo_head (run_of done).play a.step (outcome demo_head (run_of done).play a.step) → (v : ℕ) (w : Watcher)
      → sent_by encoder_frames demo_head (run_of done) a v ≡ []
      → (if viewer_of a.step == v then frames_in (outcome demo_head (run_of done).play a.step).answer else 0) ≡ 0
      → Watches done v w → Watches (done ++ a ∷ []) v w
  stays comes v w none no_frame h =
      let sent : sent_to (done ++ a ∷ []) v ≡ sent_to done v = sent_now v ∙ (ap (λ bs. sent_to done v ++ bs) none ∙ append-nil (sent_to done v)) in
      let takes : takes_of (done ++ a ∷ []) v ≡ takes_of done v = takes_now comes v ∙ (ap (λ n. takes_of done v + n) no_frame ∙ omega arith) in
      record {
        reading = h.reading;
        read = ap (λ k. read_stream k demo_size (sent_to (done ++ a ∷ []) v)) (confirmed_now comes v)
            ∙ (ap (read_stream (confirmed_in demo_head done v) demo_size) sent ∙ h.read);
        client = h.client;
        confirmed = h.confirmed ∙ sym (confirmed_now comes v);
        pointers = ap pointer_cells (confirmed_now comes v) ∙ h.pointers;
        size = h.size;
        takes = h.takes ∙ ap kept (sym takes);
        bytes = h.bytes ∙ ap (λ bs. kept (length bs)) (sym sent);
      }

  -- a viewer whose watcher reads its frame
  shows : Comes demo_head (run_of done).play a.step (outcome demo_head (run_of done).play a.step) → (v : ℕ) (w y : Watcher) (frame : List ℕ)
      → sent_by encoder_frames demo_head (run_of done) a v ≡ frame
      → (if viewer_of a.step == v then frames_in (outcome demo_head (run_of done).play a.step).answer else 0) ≡ 1
      → Watches done v w → ReadsOn w frame y → Watches (done ++ a ∷ []) v y
  shows comes v w y frame is one h reads =
      let c = confirmed_in demo_head done v in
      let next = reads.reads h.reading h.client in
      let same : read_on w.client.viewer.confirmed w.client.viewer.pictures.size h.reading frame ≡ read_on c demo_size h.reading (sent_by encoder_frames demo_head (run_of done) a v) =
      ap (λ k. read_on k w.client.viewer.pictures.size h.reading frame) h.confirmed
      ∙ (ap (λ size. read_on c size h.reading frame) h.size ∙ ap (read_on c demo_size h.reading) (sym is)) in
      let sent = sent_now v ∙ ap (λ bs. sent_to done v ++ bs) is in
      record {
        reading = next.0;
        read = read_more comes v h.reading h.read ∙ (sym same ∙ next.1);
        client = next.2;
        confirmed = reads.same.confirmed ∙ (h.confirmed ∙ sym (confirmed_now comes v));
        pointers = ap pointer_cells (confirmed_now comes v) ∙ h.pointers;
        size = reads.same.size ∙ h.size;
        takes = reads.takes ∙ (ap (λ n. kept (n + 1)) h.takes ∙ (kept_more (takes_of done v) 1
            ∙ ap kept (ap (λ n. takes_of done v + n) (sym one) ∙ sym (takes_now comes v))));
        bytes = reads.bytes ∙ (ap (λ n. kept (n + length frame)) h.bytes ∙ (kept_more (length (sent_to done v)) (length frame)
            ∙ ap kept (sym (length-append (sent_to done v) frame) ∙ ap length (sym sent))));
      }

  -- its frame isn't refused
  pub frame_accepted : Comes demo_head (run_of done).play a.step (outcome demo_head (run_of done).play a.step)
      → AreByPresentViewers demo_head (done ++ a ∷ []) → ConfirmAllCaches (done ++ a ∷ []) → (v : ℕ) (w : Watcher) (frame : List ℕ)
      → sent_by encoder_frames demo_head (run_of done) a v ≡ frame → Watches done v w → IsAccepted w frame
  frame_accepted comes present caches v w frame is h =
      let c = confirmed_in demo_head done v in
      let whole = not_refused present caches v (ap pointer_cells (confirmed_now comes v) ∙ h.pointers) in
      record {
        reading = h.reading;
        stands = h.client;
        next = whole.0;
        accepts = ap (λ k. read_on k w.client.viewer.pictures.size h.reading frame) h.confirmed
            ∙ (ap (λ size. read_on c size h.reading frame) h.size ∙ (ap (read_on c demo_size h.reading) (sym is)
            ∙ (sym (read_more comes v h.reading h.read) ∙ whole.1)));
      }

  -- ---- all watchers

  no_bytes : (own : Bool) (answer : Answer) → frames_in answer ≡ 0 → (if own then bytes_of_answer encoder_frames demo_size (run_of done) (viewer_of a.step) answer else []) ≡ []
  no_bytes false answer h = refl
  no_bytes true (Joined w) h = refl
  no_bytes true Left h = refl
  no_bytes true Accepted h = refl
  no_bytes true (Refused why) h = refl
  no_bytes true Nothing h = refl
  no_bytes true (Frame take) h = absurd (omega (arith, h))

  if_none : (own : Bool) (n : ℕ) → n ≡ 0 → (if own then n else 0) ≡ 0
  if_none true n h = h
  if_none false n h = refl

  pub all_stay : Comes demo_head (run_of done).play a.step (outcome demo_head (run_of done).play a.step) → (ws : List Watcher)
      → frames_in (outcome demo_head (run_of done).play a.step).answer ≡ 0 → AreWatching done ws → AreWatching (done ++ a ∷ []) ws
  all_stay comes ws none h i w at =
      stays comes (i + 1) w (no_bytes (viewer_of a.step == i + 1) (outcome demo_head (run_of done).play a.step).answer none)
      (if_none (viewer_of a.step == i + 1) _ none) (h i w at)

  other_number : (v u : ℕ) → v ≢ u → (v == u) ≡ false
  other_number v u h = grind (arith, nat_tests, h)

  same_number : (v : ℕ) → (v == v) ≡ true
  same_number v = grind (arith, nat_tests)

  pub own_sent : (v : ℕ) → viewer_of a.step ≡ v
      → sent_by encoder_frames demo_head (run_of done) a v ≡ bytes_of_answer encoder_frames demo_size (run_of done) (viewer_of a.step) (outcome demo_head (run_of done).play a.step).answer
  own_sent v is = ap (λ b. if b then bytes_of_answer encoder_frames demo_size (run_of done) (viewer_of a.step) (outcome demo_head (run_of done).play a.step).answer else [])
      (ap (λ u. u == v) is ∙ same_number v)

  -- one of them reads its viewer's frame
  pub one_shows : Comes demo_head (run_of done).play a.step (outcome demo_head (run_of done).play a.step) → (ws : List Watcher) (i : ℕ) (w y : Watcher) (frame : List ℕ)
      → viewer_of a.step ≡ i + 1
      → bytes_of_answer encoder_frames demo_size (run_of done) (viewer_of a.step) (outcome demo_head (run_of done).play a.step).answer ≡ frame
      → frames_in (outcome demo_head (run_of done).play a.step).answer ≡ 1 → slice_get ws i ≡ Some w → ReadsOn w frame y
      → AreWatching done ws → AreWatching (done ++ a ∷ []) (slice_set ws i y)
  one_shows comes ws i w y frame mine bytes one at reads h j z found = by (set_get ws i j y z found)
    where
      by : ((j ≡ i) × (z ≡ y)) ⊎ ((j ≢ i) × (slice_get ws j ≡ Some z)) → Watches (done ++ a ∷ []) (j + 1) z
      by (inl same) =
          let n = frames_in (outcome demo_head (run_of done).play a.step).answer in
          let counted : (if viewer_of a.step == i + 1 then n else 0) ≡ 1 = ap (λ b. if b then n else 0) (ap (λ u. u == i + 1) mine ∙ same_number (i + 1)) ∙ one in
          let read = shows comes (i + 1) w y frame (own_sent (i + 1) mine ∙ bytes) counted (h i w at) reads in
          subst (λ k. Watches (done ++ a ∷ []) (k + 1) z) (sym same.0) (subst (Watches (done ++ a ∷ []) (i + 1)) (sym same.1) read)
      by (inr other) =
          let n = frames_in (outcome demo_head (run_of done).play a.step).answer in
          let ne : (viewer_of a.step == j + 1) ≡ false = ap (λ u. u == j + 1) mine ∙ other_number (i + 1) (j + 1) (λ e. other.0 (omega (arith, e))) in
          stays comes (j + 1) z
          (ap (λ b. if b then bytes_of_answer encoder_frames demo_size (run_of done) (viewer_of a.step) (outcome demo_head (run_of done).play a.step).answer else []) ne)
          (ap (λ b. if b then n else 0) ne) (h j z other.1)
