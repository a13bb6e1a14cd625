-- A run after a viewer's take.
use Rattle.std.proofs.Common.{◌≡◌, ℕ, ◌≤◌, List, [], ◌++◌, length, refl, ap, sym, ◌∙◌, subst, arith, append-nil, eq-eqb}
use Rattle.std.specs.Prelude.{Bool, true, false, ◌==◌, IsTrue, Option, Some, is_some, if◌then◌else◌}
use Rattle.px_core.specs.Tiles.{no_tiles}
use Rattle.caps_sets.specs.declared.confirmed.Confirmed.{Confirmed}
use Rattle.session_rules.specs.Journal.{reached_at_first}
use Rattle.session_rules.specs.Steps.{Outcome, TakeOf, take_of, take_effect, has_work, replaced_for, outcome, outcome_of}
use Rattle.session_rules.specs.Steps.Step.{TakeStep}
use Rattle.session_rules.specs.Steps.Effect.{Takes, Answers}
use Rattle.session_rules.specs.Steps.Answer.{Nothing, Frame}
use Rattle.session_rules.proofs.Journals.{length-reached_after}
use Rattle.session_core.specs.SessionModel.{SessionModel, reached_by, is_here, asked_by, is_suppressed}
use Rattle.session_core.proofs.Sessions.{reached_at_end}
use Rattle.frame_rules.specs.Frame.{frame_of}
use Rattle.frame_rules.specs.FrameBytes.{frame_bytes}
use Rattle.frame_rules.specs.Told.{pointer_bytes, key_at}
use Rattle.frame_rules.specs.Encoder.{Encoder, encoder_after, encoder_after_frame, with_told, pointed_bytes}
use Rattle.frame_plan.specs.Plans.{is_work, take_at, frame_at, asked_if, IsPlayOf}
use Rattle.frame_plan.proofs.TakeSteps.{work_of_steps, take_of_steps}
use Rattle.viewer_sender.specs.Senders.{SenderModel, desk_of, IsIdle}
use Rattle.viewer_sender.specs.Seats.{SeatModel, SeatFollows, key_of, encoder_if, HasSent}
use Rattle.script_rules.specs.Script.{Asked}
use Rattle.script_rules.specs.CaptureText.{Run, run_after, run_by, line_by, line_in_run, bytes_of_answer, encoder_frames}
use Rattle.script_run.specs.declared.answer.StepAnswer.{StepAnswer}
use Rattle.script_run.specs.Answers.{answer_text, given_text, Gave, IsGiven, Says, SaysOutcome}
use Rattle.script_run.specs.Hosts.{HostModel, seat_of}
use Rattle.script_run.specs.Runs.{IsViewerOf, IsRunOf, IsInCourse}
use Rattle.script_run.proofs.StepsOn.{others_stay, quiet_same, same_journal, replaced_here, replaced_other}

-- the number of entries that the journal has
pub count_reached : (s : SessionModel) → (reached_by s).length ≡ length s.journal
count_reached s = ap (λ r. r.length) (reached_at_end s.head.size s.journal) ∙ (length-reached_after s.head.size (reached_at_first s.head.size) s.journal ∙ omega arith)

-- the run is, for a viewer that is present, the session with its sender
pub play_of_viewer : (host : HostModel) (run : Run Encoder) (v : ℕ) (s : SenderModel) → IsRunOf host run → IsViewerOf host v run → s.v ≡ v → run.play.taken v ≡ s.number
    → IsPlayOf host.session (desk_of s) run.play
play_of_viewer host run v s r w is taken = record {
  taken = ap run.play.taken is ∙ taken;
  reached = ap (λ x. x.length) r.reached ∙ count_reached host.session;
  asked = ap run.play.asked is ∙ (w.asked ∙ ap (asked_by host.session) (sym is));
  suppressed = ap run.play.suppressed is ∙ (w.suppressed ∙ ap (is_suppressed host.session) (sym is));
}

module _ (host new : HostModel) (run : Run Encoder) (v : ℕ) (s t : SeatModel) (answer : StepAnswer) (sent : Option (List ℕ)) (preset : List (List ℕ)) (c : Confirmed) where
  -- what the take comes to, by whether there is work
  abbrev Comes : Outcome → Type 0
  Comes o = (answer_text host.session.head.size v preset answer ≡ line_by encoder_frames host.session.head.size run (record { step = TakeStep v; preset = []; confirmed = c }) o.answer)
      × IsRunOf new (run_by encoder_frames host.session.head.size run (record { step = TakeStep v; preset = []; confirmed = c }) o)
      × Says answer o.answer (bytes_of_answer encoder_frames host.session.head.size run v o.answer)

  confirmed_is : (w : IsViewerOf host v run) → w.seat ≡ s → s.sender.confirmed ≡ run.confirmed v
  confirmed_is w same = ap (λ (x : SeatModel). x.sender.confirmed) (sym same) ∙ w.confirmed

  frame_is : IsRunOf host run → (w : IsViewerOf host v run) → w.seat ≡ s → take_at host.session (desk_of s.sender) ≡ take_of run.play v
      → frame_at host.session (desk_of s.sender) ≡ frame_of host.session.head.size (run.confirmed v) run.journal (run.encoders v).held (take_of run.play v)
  frame_is r w same found =
      let size = host.session.head.size in
      let held : s.sender.held ≡ (run.encoders v).held = ap (λ (x : SeatModel). x.sender.held) (sym same) ∙ w.follows.0.1 in
      ap (λ t. frame_of size s.sender.confirmed host.session.journal s.sender.held t) found
      ∙ (ap (λ k. frame_of size k host.session.journal s.sender.held (take_of run.play v)) (confirmed_is w same)
      ∙ (ap (λ j. frame_of size (run.confirmed v) j s.sender.held (take_of run.play v)) (sym r.journal)
      ∙ ap (λ h. frame_of size (run.confirmed v) run.journal h (take_of run.play v)) held))

  -- the pointer that the take finds
  key_is : IsRunOf host run → take_at host.session (desk_of s.sender) ≡ take_of run.play v → key_of host.session ≡ key_at host.session.head.size run.journal (take_of run.play v).number
  key_is r found =
      ap (λ j. key_at host.session.head.size j (length host.session.journal)) (sym r.journal)
      ∙ ap (λ (t : TakeOf). key_at host.session.head.size run.journal t.number) found

  idle_now : IsRunOf host run → IsTrue (is_here host.session v) → new.session.head ≡ host.session.head → new.session.journal ≡ host.session.journal
      → asked_by new.session ≡ asked_by host.session → is_suppressed new.session ≡ is_suppressed host.session
      → ((u : ℕ) → seat_of u new.seats ≡ (if v == u then Some t else seat_of u host.seats))
      → (w : IsViewerOf host v run) → w.seat ≡ s → IsGiven sent answer → HasSent false host.session s t sent → Comes (outcome_of host.session.head run.play (Answers Nothing))
  idle_now r mine head journal asked suppressed seats w same given has =
      let next = run_by encoder_frames host.session.head.size run (record { step = TakeStep v; preset = []; confirmed = c }) (outcome_of host.session.head run.play (Answers Nothing)) in
      let follows = subst (λ (x : SeatModel). SeatFollows x (run.encoders v)) same w.follows in
      let none = has.frame (run.encoders v) follows in
      let now = same_journal host.session new.session head journal in
      let viewer : s.sender.v ≡ v = ap (λ (x : SeatModel). x.sender.v) (sym same) ∙ w.number in
      let taken : run.play.taken v ≡ s.sender.number = w.taken ∙ ap (λ (x : SeatModel). x.sender.number) same in (
        given.text host.session.head.size v preset ∙ ap (given_text v) none,
        others_stay host new run next v r mine (quiet_same host new head journal) (append-nil run.journal ∙ (r.journal ∙ sym journal)) (r.reached ∙ sym now)
            (λ u ne. record {
              asked = refl;
              suppressed = refl;
              taken = refl;
              confirmed = refl;
              encoder = refl;
              kept = ap (λ f. f u) asked;
              stopped = ap (λ f. f u) suppressed;
              seat = seats u ∙ ap (λ b. if b then Some t else seat_of u host.seats) ne;
            })
            (record {
              asked = w.asked ∙ sym (ap (λ f. f v) asked);
              suppressed = w.suppressed ∙ sym (ap (λ f. f v) suppressed);
              seat = t;
              found = seats v ∙ ap (λ b. if b then Some t else seat_of v host.seats) (eq-eqb v v refl);
              number = has.viewer ∙ viewer;
              confirmed = has.confirmed ∙ confirmed_is w same;
              taken = taken ∙ sym has.number;
              seen = let n = has.number in let m = w.seen in let k = ap (λ (x : SeatModel). x.sender.number) same in let count = ap length journal in omega (arith, n, m, k, count);
              idle = has.idle;
              follows = has.follows (run.encoders v) follows;
            }),
        given.says Nothing [] (subst (λ o. Gave o Nothing []) (sym none) refl),
      )

  frame_now : IsRunOf host run → IsTrue (is_here host.session v) → new.session.head ≡ host.session.head → new.session.journal ≡ host.session.journal
      → asked_by new.session ≡ replaced_for v no_tiles (asked_by host.session) → is_suppressed new.session ≡ is_suppressed host.session
      → ((u : ℕ) → seat_of u new.seats ≡ (if v == u then Some t else seat_of u host.seats))
      → (w : IsViewerOf host v run) → w.seat ≡ s → take_at host.session (desk_of s.sender) ≡ take_of run.play v → IsGiven sent answer → HasSent true host.session s t sent
      → Comes (outcome_of host.session.head run.play (Takes v))
  frame_now r mine head journal asked suppressed seats w same found given has =
      let size = host.session.head.size in
      let E = run.encoders v in
      let next = run_by encoder_frames size run (record { step = TakeStep v; preset = []; confirmed = c }) (outcome_of host.session.head run.play (Takes v)) in
      let follows = subst (λ (x : SeatModel). SeatFollows x E) same w.follows in
      let now = same_journal host.session new.session head journal in
      let conf = confirmed_is w same in
      let viewer : s.sender.v ≡ v = ap (λ (x : SeatModel). x.sender.v) (sym same) ∙ w.number in
      let frame = frame_is r w same found in
      let key = key_is r found in
      let due = pointed_bytes size (run.confirmed v) run.journal E (take_of run.play v) in
      let bytes : sent ≡ Some due = has.frame E follows ∙ ap Some
      (ap (λ k. pointer_bytes k E.told (key_of host.session) ++ frame_bytes size k E.registers E.uses (frame_at host.session (desk_of s.sender))) conf
      ∙ (ap (λ n. pointer_bytes (run.confirmed v) E.told n ++ frame_bytes size (run.confirmed v) E.registers E.uses (frame_at host.session (desk_of s.sender))) key
      ∙ ap (λ f. pointer_bytes (run.confirmed v) E.told (key_at size run.journal (take_of run.play v).number) ++ frame_bytes size (run.confirmed v) E.registers E.uses f) frame)) in
      let after : encoder_if true host.session s.sender E ≡ encoder_after size (run.confirmed v) run.journal E (take_of run.play v) =
      ap (λ k. with_told (key_of host.session) (encoder_after_frame size k E (frame_at host.session (desk_of s.sender)))) conf
      ∙ (ap (λ n. with_told n (encoder_after_frame size (run.confirmed v) E (frame_at host.session (desk_of s.sender)))) key
      ∙ ap (λ f. with_told (key_at size run.journal (take_of run.play v).number) (encoder_after_frame size (run.confirmed v) E f)) frame) in
      let count = ap length journal in (
        given.text size v preset ∙ ap (given_text v) bytes,
        others_stay host new run next v r mine (quiet_same host new head journal)
            (append-nil run.journal ∙ (r.journal ∙ sym journal)) (r.reached ∙ sym now)
            (λ u ne. record {
              asked = replaced_other v u no_tiles run.play.asked ne;
              suppressed = refl;
              taken = replaced_other v u run.play.reached.length run.play.taken ne;
              confirmed = refl;
              encoder = replaced_other v u _ run.encoders ne;
              kept = ap (λ f. f u) asked ∙ replaced_other v u no_tiles (asked_by host.session) ne;
              stopped = ap (λ f. f u) suppressed;
              seat = seats u ∙ ap (λ b. if b then Some t else seat_of u host.seats) ne;
            })
            (record {
              asked = replaced_here v no_tiles run.play.asked ∙ (sym (replaced_here v no_tiles (asked_by host.session)) ∙ sym (ap (λ f. f v) asked));
              suppressed = w.suppressed ∙ sym (ap (λ f. f v) suppressed);
              seat = t;
              found = seats v ∙ ap (λ b. if b then Some t else seat_of v host.seats) (eq-eqb v v refl);
              number = has.viewer ∙ viewer;
              confirmed = has.confirmed ∙ conf;
              taken = replaced_here v run.play.reached.length run.play.taken ∙ (ap (λ x. x.length) r.reached ∙ (count_reached host.session ∙ sym has.number));
              seen = let n = has.number in omega (arith, n, count);
              idle = has.idle;
              follows = subst (λ e. SeatFollows t e) (after ∙ sym (replaced_here v _ run.encoders)) (has.follows E follows);
            }),
        given.says (Frame (take_of run.play v)) due (subst (λ o. Gave o (Frame (take_of run.play v)) due) (sym bytes) (take_of run.play v, refl, refl)),
      )

  -- a take of a viewer that is present
  pub take_on : IsRunOf host run → IsTrue (is_here host.session v) → new.session.head ≡ host.session.head → new.session.journal ≡ host.session.journal
      → asked_by new.session ≡ asked_if (is_work host.session (desk_of s.sender)) v (asked_by host.session) → is_suppressed new.session ≡ is_suppressed host.session
      → seat_of v host.seats ≡ Some s
      → ((u : ℕ) → seat_of u new.seats ≡ (if v == u then Some t else seat_of u host.seats))
      → IsGiven sent answer → HasSent (is_work host.session (desk_of s.sender)) host.session s t sent
      → (answer_text host.session.head.size v preset answer ≡ line_in_run encoder_frames host.session.head run (record { step = TakeStep v; preset = []; confirmed = c }))
      × IsRunOf new (run_after encoder_frames host.session.head run (record { step = TakeStep v; preset = []; confirmed = c }))
      × SaysOutcome host.session.head run (TakeStep v) answer
  take_on r mine head journal asked suppressed here seats given has =
      let w = r.present v mine in
      let same : w.seat ≡ s = cc (w.found, here) in
      let viewer : s.sender.v ≡ v = ap (λ (x : SeatModel). x.sender.v) (sym same) ∙ w.number in
      let p = play_of_viewer host run v s.sender r w viewer (w.taken ∙ ap (λ (x : SeatModel). x.sender.number) same) in
      let found : take_at host.session (desk_of s.sender) ≡ take_of run.play v = take_of_steps host.session (desk_of s.sender) run.play p ∙ ap (take_of run.play) viewer in
      let work : is_work host.session (desk_of s.sender) ≡ has_work host.session.head.size run.play v =
      work_of_steps host.session (desk_of s.sender) run.play p ∙ ap (has_work host.session.head.size run.play) viewer in
      by (is_work host.session (desk_of s.sender)) (sym work) asked w same found has
    where
      by : (b : Bool) → has_work host.session.head.size run.play v ≡ b → asked_by new.session ≡ asked_if b v (asked_by host.session)
          → (w : IsViewerOf host v run) → w.seat ≡ s → take_at host.session (desk_of s.sender) ≡ take_of run.play v
          → HasSent b host.session s t sent → Comes (outcome host.session.head run.play (TakeStep v))
      by true eq asked w same found has = subst Comes (sym (ap (λ b. outcome_of host.session.head run.play (take_effect b v)) eq))
          (frame_now r mine head journal asked suppressed seats w same found given has)
      by false eq asked w same found has = subst Comes (sym (ap (λ b. outcome_of host.session.head run.play (take_effect b v)) eq))
          (idle_now r mine head journal asked suppressed seats w same given has)

-- a viewer that is present has a seat
pub has_seat : (host : HostModel) (v : ℕ) → IsInCourse host → IsTrue (is_here host.session v) → IsTrue (is_some (seat_of v host.seats))
has_seat host v course mine = let w = course.is_run.present v mine in ap is_some w.found

-- the sender of a viewer that is present may take and encode
pub record IsMine (host : HostModel) (v : ℕ) (s : SeatModel) : Type 0 where
  pub viewer : s.sender.v ≡ v
  pub seen : s.sender.number ≤ length host.session.journal
  pub idle : IsIdle s.sender

pub is_mine : (host : HostModel) (v : ℕ) (s : SeatModel) → IsInCourse host → IsTrue (is_here host.session v) → seat_of v host.seats ≡ Some s → IsMine host v s
is_mine host v s course mine here =
    let w = course.is_run.present v mine in
    let same : w.seat ≡ s = cc (w.found, here) in
    subst (IsMine host v) same (record { viewer = w.number; seen = w.seen; idle = w.idle })
