-- A run that stands for a host goes on as the host does.
use Rattle.std.proofs.Common.{◌≡◌, ℕ, ◌≤◌, List, [], ◌∷◌, ◌++◌, length, refl, ap, sym, ◌∙◌, subst, arith, append-nil, length-append, eq-eqb}
use Rattle.std.specs.Prelude.{Bool, true, false, ⊤, ◌==◌, nat_lt, IsTrue, Option, Some, None, option_to_list, if◌then◌else◌}
use Rattle.std.proofs.lemmas.Bool.{eqb-true}
use Rattle.std.proofs.lemmas.Bool.Decides.{nat_tests}
use Rattle.px_core.specs.declared.surface.Size.{Size}
use Rattle.px_core.specs.declared.rectangle.Rect.{Rect}
use Rattle.px_core.specs.Tiles.{either_tiles, tiles_of}
use Rattle.px_core.specs.TileFlags.{tiles}
use Rattle.input_pdu.specs.declared.event.Event.{Event}
use Rattle.draw_ops.specs.declared.shape.Drawing.{Drawing}
use Rattle.session_rules.specs.declared.entry.Entry.{Entry}
use Rattle.session_rules.specs.declared.entry.Entry.TheVariants.{Join, Leave, Give, Input, Draw}
use Rattle.session_rules.specs.Journal.{Head, Reached, Refusal, reached_at, reached_at_first, reached_after, refusal_of, is_f12, is_present}
use Rattle.session_rules.specs.Steps.{Step, Play, Outcome, PerViewer, replaced_for, entered, outcome, outcome_of, is_release, receiver_of}
use Rattle.session_rules.specs.Steps.Step.{InputStep, DrawStep, RefreshStep, SuppressStep}
use Rattle.session_rules.specs.Steps.Effect.{Enters, Answers}
use Rattle.session_rules.specs.Steps.Answer.{Accepted}
use Rattle.session_rules.proofs.Journals.{reached_after-append, reached-session_after}
use Rattle.session_core.specs.SessionModel.{SessionModel, reached_by, is_here, asked_by, is_suppressed}
use Rattle.session_core.specs.PerViewer.{kept_for}
use Rattle.session_core.proofs.Sessions.{reached_at_end}
use Rattle.frame_rules.specs.Encoder.{Encoder}
use Rattle.script_rules.specs.Script.{Asked}
use Rattle.script_rules.specs.Capture.{viewer_of}
use Rattle.script_rules.specs.CaptureText.{Run, run_after, confirmed_after, encoders_after, encoder_frames}
use Rattle.script_run.specs.Hosts.{HostModel, seat_of}
use Rattle.script_run.specs.Runs.{IsViewerOf, IsYetToCome, IsRunOf}

-- ---- what was reached

reached_outcome : (head : Head) (p : Play) (s : Step) → (outcome head p s).play.reached ≡ reached_after head.size p.reached (option_to_list (outcome head p s).entry)
reached_outcome head p s = reached-session_after head p (s ∷ []) ∙ ap (reached_after head.size p.reached) (append-nil (option_to_list (outcome head p s).entry))

-- what the journal reaches after a step
pub reached_on : (head : Head) (j : List Entry) (p : Play) (s : Step) → p.reached ≡ reached_at head.size j (length j)
    → (outcome head p s).play.reached ≡ reached_at head.size (j ++ option_to_list (outcome head p s).entry) (length (j ++ option_to_list (outcome head p s).entry))
reached_on head j p s h =
    let es = option_to_list (outcome head p s).entry in
    reached_outcome head p s ∙ ap (λ r. reached_after head.size r es) (h ∙ reached_at_end head.size j)
    ∙ sym (reached_after-append head.size (reached_at_first head.size) j es) ∙ sym (reached_at_end head.size (j ++ es))

-- a session with the journal after a step has reached what the run has
pub session_reached : (old new : SessionModel) (p : Play) (s : Step) → new.head ≡ old.head → new.journal ≡ old.journal ++ option_to_list (outcome old.head p s).entry
    → p.reached ≡ reached_by old → (outcome old.head p s).play.reached ≡ reached_by new
session_reached old new p s head journal h =
    reached_on old.head old.journal p s h
    ∙ sym (ap (λ (hd : Head). reached_at hd.size new.journal (length new.journal)) head ∙ ap (λ j. reached_at old.head.size j (length j)) journal)

-- ---- steps after which nobody comes or goes

-- an entry that is none of a viewer who comes or goes
abbrev pub IsQuiet : Option Entry → Type 0
IsQuiet None = ⊤
IsQuiet (Some (Join v role)) = ⊥
IsQuiet (Some (Leave v)) = ⊥
IsQuiet (Some (Give by to)) = ⊤
IsQuiet (Some (Input by event)) = ⊤
IsQuiet (Some (Draw by d)) = ⊤

-- who is present after it, and how many have joined
pub record StayHere (r after : Reached) : Type 0 where
  pub viewers : after.viewers ≡ r.viewers
  pub joins : after.joins ≡ r.joins

stay_here : (size : Size) (r : Reached) (o : Option Entry) → IsQuiet o → StayHere r (reached_after size r (option_to_list o))
stay_here size r None h = record { viewers = refl; joins = refl }
stay_here size r (Some (Join v role)) h = absurd h
stay_here size r (Some (Leave v)) h = absurd h
stay_here size r (Some (Give by to)) h = record { viewers = refl; joins = omega arith }
stay_here size r (Some (Input by event)) h = record { viewers = refl; joins = omega arith }
stay_here size r (Some (Draw by d)) h = record { viewers = refl; joins = omega arith }

-- what a step leaves as it was: all that is kept of viewers, and what they confirmed, and their encoders
pub record KeepsAll (head : Head) (run : Run Encoder) (a : Asked) (o : Outcome) : Type 0 where
  pub asked : o.play.asked ≡ run.play.asked
  pub suppressed : o.play.suppressed ≡ run.play.suppressed
  pub taken : o.play.taken ≡ run.play.taken
  pub confirmed : confirmed_after run.confirmed a o.answer ≡ run.confirmed
  pub encoders : encoders_after encoder_frames head.size run (viewer_of a.step) o.answer ≡ run.encoders
  pub entry : IsQuiet o.entry

keeps_entered : (head : Head) (run : Run Encoder) (a : Asked) (e : Entry) → IsQuiet (Some e) → (o : Option Refusal) → KeepsAll head run a (entered head run.play e Accepted o)
keeps_entered head run a e quiet None = record { asked = refl; suppressed = refl; taken = refl; confirmed = refl; encoders = refl; entry = quiet }
keeps_entered head run a e quiet (Some r) = record { asked = refl; suppressed = refl; taken = refl; confirmed = refl; encoders = refl; entry = tt }

pub input_keeps : (head : Head) (run : Run Encoder) (a : Asked) (v : ℕ) (e : Event) → KeepsAll head run a (outcome head run.play (InputStep v e))
input_keeps head run a v e = by (is_f12 e) (is_release e)
  where
    by : (t u : Bool) → KeepsAll head run a (outcome_of head run.play
        (if t then (if u then Answers Accepted else Enters (Give v (receiver_of run.play.reached v)) Accepted) else Enters (Input v e) Accepted))
    by true true = record { asked = refl; suppressed = refl; taken = refl; confirmed = refl; encoders = refl; entry = tt }
    by true false = keeps_entered head run a (Give v (receiver_of run.play.reached v)) tt (refusal_of head run.play.reached (Give v (receiver_of run.play.reached v)))
    by false u = keeps_entered head run a (Input v e) tt (refusal_of head run.play.reached (Input v e))

pub draw_keeps : (head : Head) (run : Run Encoder) (a : Asked) (v : ℕ) (d : Drawing) → KeepsAll head run a (outcome head run.play (DrawStep v d))
draw_keeps head run a v d = keeps_entered head run a (Draw v d) tt (refusal_of head run.play.reached (Draw v d))

-- ---- one viewer

-- what is said of a viewer stays
pub record StaysFor (host new : HostModel) (run next : Run Encoder) (v : ℕ) : Type 0 where
  pub asked : next.play.asked v ≡ run.play.asked v
  pub suppressed : next.play.suppressed v ≡ run.play.suppressed v
  pub taken : next.play.taken v ≡ run.play.taken v
  pub confirmed : next.confirmed v ≡ run.confirmed v
  pub encoder : next.encoders v ≡ run.encoders v
  pub kept : asked_by new.session v ≡ asked_by host.session v
  pub stopped : is_suppressed new.session v ≡ is_suppressed host.session v
  pub seat : seat_of v new.seats ≡ seat_of v host.seats

module _ (host new : HostModel) (run next : Run Encoder) where
  pub viewer_stays : (v : ℕ) → length host.session.journal ≤ length new.session.journal → StaysFor host new run next v → IsViewerOf host v run → IsViewerOf new v next
  viewer_stays v longer s h = record {
    asked = s.asked ∙ (h.asked ∙ sym s.kept);
    suppressed = s.suppressed ∙ (h.suppressed ∙ sym s.stopped);
    seat = h.seat;
    found = s.seat ∙ h.found;
    number = h.number;
    confirmed = h.confirmed ∙ sym s.confirmed;
    taken = s.taken ∙ h.taken;
    seen = let a = h.seen in omega (arith, a, longer);
    idle = h.idle;
    follows = rw s.encoder h.follows;
  }

  pub later_stays : (v : ℕ) → StaysFor host new run next v → IsYetToCome host v run → IsYetToCome new v next
  later_stays v s h = record {
    asked = s.asked ∙ h.asked;
    suppressed = s.suppressed ∙ h.suppressed;
    taken = s.taken ∙ h.taken;
    encoder = s.encoder ∙ h.encoder;
    nobody = s.seat ∙ h.nobody;
  }

-- ---- a run by what is said of its viewers

-- who is present isn't yet to come
pub is_no_later : (host : HostModel) (run : Run Encoder) (v : ℕ) → IsRunOf host run → IsTrue (is_here host.session v) → v ≤ (reached_by host.session).joins
is_no_later host run v r here = by (nat_lt (reached_by host.session).joins v) refl
  where
    by : (t : Bool) → nat_lt (reached_by host.session).joins v ≡ t → v ≤ (reached_by host.session).joins
    by true eq = let later = r.later v (grind (arith, nat_tests, eq)) in let here = r.present v here in absurd (cc (here.found, later.nobody))
    by false eq = grind (arith, nat_tests, eq)

-- nobody comes or goes, and the journal isn't cut
pub record IsQuietStep (host new : HostModel) : Type 0 where
  pub here : (v : ℕ) → is_here new.session v ≡ is_here host.session v
  pub joins : (reached_by new.session).joins ≡ (reached_by host.session).joins
  pub longer : length host.session.journal ≤ length new.session.journal

module _ (host new : HostModel) (run next : Run Encoder) where
  -- a step that leaves all that is said of each viewer
  pub all_stay : IsRunOf host run → IsQuietStep host new → next.journal ≡ new.session.journal → next.play.reached ≡ reached_by new.session
      → ((u : ℕ) → StaysFor host new run next u) → IsRunOf new next
  all_stay r q journal reached stays = record {
    journal = journal;
    reached = reached;
    present = λ u here. viewer_stays host new run next u q.longer (stays u) (r.present u (sym (q.here u) ∙ here));
    later = λ u above. later_stays host new run next u (stays u) (r.later u (let same = q.joins in omega (arith, above, same)));
  }

  -- a step of a viewer who is present, that leaves all that is said of the others
  pub others_stay : (v : ℕ) → IsRunOf host run → IsTrue (is_here host.session v) → IsQuietStep host new → next.journal ≡ new.session.journal
      → next.play.reached ≡ reached_by new.session → ((u : ℕ) → (v == u) ≡ false → StaysFor host new run next u) → IsViewerOf new v next → IsRunOf new next
  others_stay v r mine q journal reached others own = record {
    journal = journal;
    reached = reached;
    present = λ u here. one u (v == u) refl (sym (q.here u) ∙ here);
    later = λ u above. let low = is_no_later host run v r mine in let same = q.joins in
        later_stays host new run next u (others u (grind (arith, nat_tests, above, low, same))) (r.later u (omega (arith, above, same)));
  }
    where
      one : (u : ℕ) (t : Bool) → (v == u) ≡ t → IsTrue (is_here host.session u) → IsViewerOf new u next
      one u true eq here = subst (λ w. IsViewerOf new w next) (eqb-true v u eq) own
      one u false eq here = viewer_stays host new run next u q.longer (others u eq) (r.present u here)

-- ---- events and drawings

quiet_step : (host new : HostModel) (run : Run Encoder) (a : Asked) → IsRunOf host run → new.session.journal ≡ host.session.journal
    ++ option_to_list (outcome host.session.head run.play a.step).entry
    → (outcome host.session.head run.play a.step).play.reached ≡ reached_by new.session → IsQuiet (outcome host.session.head run.play a.step).entry → IsQuietStep host new
quiet_step host new run a r journal reached quiet =
    let o = outcome host.session.head run.play a.step in
    let stay = stay_here host.session.head.size run.play.reached o.entry quiet in
    let is : reached_after host.session.head.size run.play.reached (option_to_list o.entry) ≡ reached_by new.session =
    sym (reached_outcome host.session.head run.play a.step) ∙ reached in
    let count = ap length journal in
    record {
      here = λ v. ap (λ (x : Reached). is_present v x.viewers) (sym is) ∙ (ap (is_present v) stay.viewers ∙ ap (λ (x : Reached). is_present v x.viewers) r.reached);
      joins = ap (λ (x : Reached). x.joins) (sym is) ∙ (stay.joins ∙ ap (λ (x : Reached). x.joins) r.reached);
      longer = omega (arith, count, length-append host.session.journal (option_to_list o.entry));
    }

-- a step that is accepted or refused, and changes nothing that is kept of viewers
pub verdict_on : (host new : HostModel) (run : Run Encoder) (a : Asked) → IsRunOf host run → new.session.head ≡ host.session.head
    → new.session.journal ≡ host.session.journal ++ option_to_list (outcome host.session.head run.play a.step).entry
    → asked_by new.session ≡ asked_by host.session → is_suppressed new.session ≡ is_suppressed host.session → new.seats ≡ host.seats
    → KeepsAll host.session.head run a (outcome host.session.head run.play a.step) → IsRunOf new (run_after encoder_frames host.session.head run a)
verdict_on host new run a r head journal asked suppressed seats k =
    let o = outcome host.session.head run.play a.step in
    let reached = session_reached host.session new.session run.play a.step head journal r.reached in
    all_stay host new run (run_after encoder_frames host.session.head run a) r (quiet_step host new run a r journal reached k.entry)
    (ap (λ j. j ++ option_to_list o.entry) r.journal ∙ sym journal) reached
    (λ u. record {
      asked = ap (λ f. f u) k.asked;
      suppressed = ap (λ f. f u) k.suppressed;
      taken = ap (λ f. f u) k.taken;
      confirmed = ap (λ f. f u) k.confirmed;
      encoder = ap (λ f. f u) k.encoders;
      kept = ap (λ f. f u) asked;
      stopped = ap (λ f. f u) suppressed;
      seat = ap (seat_of u) seats;
    })

-- ---- what is kept of viewers, by their lists

pub asked_same : (old new : SessionModel) → new.asked ≡ old.asked → asked_by new ≡ asked_by old
asked_same old new h = ap (λ kept v. tiles (kept_for [] kept v)) h

pub suppressed_same : (old new : SessionModel) → new.suppressed ≡ old.suppressed → is_suppressed new ≡ is_suppressed old
suppressed_same old new h = ap (λ kept v. kept_for false kept v) h

-- ---- requests that change what is kept of one viewer

pub replaced_here : {A : Type 0} (v : ℕ) (x : A) (f : PerViewer A) → replaced_for v x f v ≡ x
replaced_here v x f = ap (λ b. if b then x else f v) (eq-eqb v v refl)

pub replaced_other : {A : Type 0} (v u : ℕ) (x : A) (f : PerViewer A) → (v == u) ≡ false → replaced_for v x f u ≡ f u
replaced_other v u x f ne = ap (λ b. if b then x else f u) ne

-- a session that has the same journal
pub same_journal : (old new : SessionModel) → new.head ≡ old.head → new.journal ≡ old.journal → reached_by new ≡ reached_by old
same_journal old new head journal = ap (λ (hd : Head). reached_at hd.size new.journal (length new.journal)) head ∙ ap (λ j. reached_at old.head.size j (length j)) journal

pub quiet_same : (host new : HostModel) → new.session.head ≡ host.session.head → new.session.journal ≡ host.session.journal → IsQuietStep host new
quiet_same host new head journal =
    let is = same_journal host.session new.session head journal in
    let count = ap length journal in
    record {
      here = λ v. ap (λ (x : Reached). is_present v x.viewers) is;
      joins = ap (λ (x : Reached). x.joins) is;
      longer = omega (arith, count);
    }

-- a viewer asks for tiles
pub refresh_on : (host new : HostModel) (run : Run Encoder) (a : Asked) (v : ℕ) (r : Rect) → a.step ≡ RefreshStep v r → IsRunOf host run → IsTrue (is_here host.session v)
    → new.session.head ≡ host.session.head → new.session.journal ≡ host.session.journal
    → asked_by new.session ≡ replaced_for v (either_tiles (asked_by host.session v) (tiles_of host.session.head.size r)) (asked_by host.session)
    → is_suppressed new.session ≡ is_suppressed host.session → new.seats ≡ host.seats → IsRunOf new (run_after encoder_frames host.session.head run a)
refresh_on host new run a v r is h mine head journal asked suppressed seats =
    let b : Asked = record { step = RefreshStep v r; preset = a.preset; confirmed = a.confirmed } in
    let next = run_after encoder_frames host.session.head run b in
    let size = host.session.head.size in
    let w = h.present v mine in
    let now = same_journal host.session new.session head journal in
    subst (λ s. IsRunOf new (run_after encoder_frames host.session.head run (record { step = s; preset = a.preset; confirmed = a.confirmed }))) (sym is)
    (others_stay host new run next v h mine (quiet_same host new head journal) (append-nil run.journal ∙ (h.journal ∙ sym journal)) (h.reached ∙ sym now)
    (λ u ne. record {
      asked = replaced_other v u _ run.play.asked ne;
      suppressed = refl;
      taken = refl;
      confirmed = refl;
      encoder = refl;
      kept = ap (λ f. f u) asked ∙ replaced_other v u _ (asked_by host.session) ne;
      stopped = ap (λ f. f u) suppressed;
      seat = ap (seat_of u) seats;
    })
    (record {
      asked = replaced_here v _ run.play.asked ∙ (ap (λ t. either_tiles t (tiles_of size r)) w.asked
          ∙ (sym (replaced_here v (either_tiles (asked_by host.session v) (tiles_of size r)) (asked_by host.session)) ∙ sym (ap (λ f. f v) asked)));
      suppressed = w.suppressed ∙ sym (ap (λ f. f v) suppressed);
      seat = w.seat;
      found = ap (seat_of v) seats ∙ w.found;
      number = w.number;
      confirmed = w.confirmed;
      taken = w.taken;
      seen = let s = w.seen in let count = ap length journal in omega (arith, s, count);
      idle = w.idle;
      follows = w.follows;
    }))

-- a viewer wants no output, or wants it again
pub suppress_on : (host new : HostModel) (run : Run Encoder) (a : Asked) (v : ℕ) (stop : Bool) → a.step ≡ SuppressStep v stop → IsRunOf host run
    → IsTrue (is_here host.session v)
    → new.session.head ≡ host.session.head → new.session.journal ≡ host.session.journal → asked_by new.session ≡ asked_by host.session
    → is_suppressed new.session ≡ replaced_for v stop (is_suppressed host.session) → new.seats ≡ host.seats
    → IsRunOf new (run_after encoder_frames host.session.head run a)
suppress_on host new run a v stop is h mine head journal asked suppressed seats =
    let b : Asked = record { step = SuppressStep v stop; preset = a.preset; confirmed = a.confirmed } in
    let next = run_after encoder_frames host.session.head run b in
    let w = h.present v mine in
    let now = same_journal host.session new.session head journal in
    subst (λ s. IsRunOf new (run_after encoder_frames host.session.head run (record { step = s; preset = a.preset; confirmed = a.confirmed }))) (sym is)
    (others_stay host new run next v h mine (quiet_same host new head journal) (append-nil run.journal ∙ (h.journal ∙ sym journal)) (h.reached ∙ sym now)
    (λ u ne. record {
      asked = refl;
      suppressed = replaced_other v u _ run.play.suppressed ne;
      taken = refl;
      confirmed = refl;
      encoder = refl;
      kept = ap (λ f. f u) asked;
      stopped = ap (λ f. f u) suppressed ∙ replaced_other v u _ (is_suppressed host.session) ne;
      seat = ap (seat_of u) seats;
    })
    (record {
      asked = w.asked ∙ sym (ap (λ f. f v) asked);
      suppressed = replaced_here v _ run.play.suppressed ∙ (sym (replaced_here v stop (is_suppressed host.session)) ∙ sym (ap (λ f. f v) suppressed));
      seat = w.seat;
      found = ap (seat_of v) seats ∙ w.found;
      number = w.number;
      confirmed = w.confirmed;
      taken = w.taken;
      seen = let s = w.seen in let count = ap length journal in omega (arith, s, count);
      idle = w.idle;
      follows = w.follows;
    }))
