-- What the turn of a take makes of the tiles that viewers have asked for, and what it finds.
use Rattle.std.proofs.Common.{◌≡◌, ℕ, List, sym, refl, ap, ◌∙◌}
use Rattle.std.specs.Prelude.{Bool, true, false, ◌&&◌, ◌||◌, ◌==◌, not, length, Result, Ok, Err, IfOk, OnOk, OnErr, if◌then◌else◌}
use Rattle.std.proofs.lemmas.Bool.{eq-eqb}
use Rattle.wire_num.specs.declared.out_of_memory.OutOfMemory.{OutOfMemory}
use Rattle.px_core.specs.Tiles.{all_tiles, share_tile}
use Rattle.session_rules.specs.Steps.{PerViewer, replaced_for}
use Rattle.session_core.specs.PerViewer.{kept_for}
use Rattle.session_core.specs.SessionModel.{SessionModel, is_here, asked_by, is_suppressed}
use Rattle.frame_plan.specs.Plans.{is_work, taken_at, taken_if, asked_if}
use Rattle.frame_plan.specs.declared.taken.Taken.{Taken}
use Rattle.frame_plan.specs.declared.taken.Taken.TheVariants.{Frame}
use Rattle.viewer_sender.specs.Senders.{SenderModel, desk_of}
use Rattle.viewer_run.specs.Asking.{suppressed_with, finds_frame, finds_last, finds, allowed_as, suppressed_as}
use Rattle.viewer_run.specs.declared.sends.Due.{Due}
use Rattle.viewer_run.specs.declared.sends.Due.TheVariants.{Next, Last}

pub replaced_here : (v : ℕ) (stop : Bool) (kept : PerViewer Bool) → replaced_for v stop kept v ≡ stop
replaced_here v stop kept = ap (λ (b : Bool). if b then stop else kept v) (eq-eqb v v refl)

-- where a frame isn't the last one, nothing is allowed
pub allowed_here : (due : Due) (v : ℕ) (stopped : PerViewer Bool) → due ≡ Last → allowed_as due v stopped v ≡ false
allowed_here Next v stopped last = absurd (cc last)
allowed_here Last v stopped last = replaced_here v false stopped

module _ (session : SessionModel) (s : SenderModel) (v : ℕ) (same : s.v ≡ v) where
  -- whether the journal has grown since the last frame or a tile is asked for
  abbrev news : SessionModel → Bool
  news m = not (s.number == length m.journal) || share_tile m.head.size (asked_by m s.v) all_tiles

  -- for a viewer who isn't present a take finds nothing
  pub away_finds : (due : Due) → is_here session v ≡ false → finds due session s ≡ false
  away_finds Next away = ap (λ (b : Bool). b && is_work session (desk_of s)) (ap (is_here session) same ∙ away)
  away_finds Last away = ap (λ (b : Bool). b && news session) (ap (is_here session) same ∙ away)

  -- for one who is present it finds the frame that is due where the viewer has work, once output is allowed as it is then, in a session that is else the same
  module _ (mid : SessionModel) (is : mid ≡ record session { suppressed = mid.suppressed }) (here : is_here session v ≡ true) where
    pub finds_due : (due : Due) → is_suppressed mid ≡ allowed_as due v (is_suppressed session) → is_work mid (desk_of s) ≡ finds due session s
    finds_due Next stops =
        ap (λ (kept : PerViewer Bool). not (kept s.v) && news mid) stops
        ∙ (ap (λ (m : SessionModel). not (is_suppressed session s.v) && news m) is
        ∙ sym (ap (λ (b : Bool). b && is_work session (desk_of s)) (ap (is_here session) same ∙ here)))
    finds_due Last stops =
        let free : is_suppressed mid s.v ≡ false
        = ap (λ (kept : PerViewer Bool). kept s.v) stops ∙ (ap (replaced_for v false (is_suppressed session)) same ∙ replaced_here v false (is_suppressed session)) in
        ap (λ (b : Bool). not b && news mid) free ∙ (ap news is ∙ sym (ap (λ (b : Bool). b && news session) (ap (is_here session) same ∙ here)))

    taken_same : (b : Bool) → taken_if b mid (desk_of s) ≡ taken_if b session (desk_of s)
    taken_same true = ap (λ (m : SessionModel). Frame (taken_at m (desk_of s))) is
    taken_same false = refl

    pub took_due : (due : Due) (result : Result Taken OutOfMemory) → is_suppressed mid ≡ allowed_as due v (is_suppressed session)
        → IfOk result (λ taken. taken ≡ taken_if (is_work mid (desk_of s)) mid (desk_of s)) → IfOk result (λ taken. taken ≡ taken_if (finds due session s) session (desk_of s))
    took_due due (Ok taken) stops h = h ∙ (ap (λ (b : Bool). taken_if b mid (desk_of s)) (finds_due due stops) ∙ taken_same (finds due session s))
    took_due due (Err refusal) stops h = tt

    pub served_due : (due : Due) (new : SessionModel) (result : Result Taken OutOfMemory) → is_suppressed mid ≡ allowed_as due v (is_suppressed session)
        → OnOk result (asked_by new ≡ asked_if (is_work mid (desk_of s)) s.v (asked_by mid)) → OnOk result (asked_by new ≡ asked_if (finds due session s) v (asked_by session))
    served_due due new (Ok taken) stops h =
        h ∙ (ap (λ (b : Bool). asked_if b s.v (asked_by mid)) (finds_due due stops)
        ∙ (ap (λ (u : ℕ). asked_if (finds due session s) u (asked_by mid)) same ∙ ap (λ (m : SessionModel). asked_if (finds due session s) v (asked_by m)) is))
    served_due due new (Err refusal) stops h = tt

    pub kept_due : (new : SessionModel) (s' : SenderModel) (result : Result Taken OutOfMemory) → OnErr result ((new ≡ mid) × (s' ≡ s)) → OnErr result (asked_by new ≡ asked_by session)
    kept_due new s' (Ok taken) h = tt
    kept_due new s' (Err refusal) h = ap asked_by h.0 ∙ ap asked_by is

  -- to whom output is stopped then, where the viewer is present
  pub suppressed_here : (due : Due) → is_here session v ≡ true → allowed_as due v (is_suppressed session) ≡ suppressed_as due session v
  suppressed_here Next here = refl
  suppressed_here Last here = ap (λ (b : Bool). suppressed_with b session v false) (sym here)

  -- and where it isn't
  pub suppressed_away : (due : Due) → is_here session v ≡ false → is_suppressed session ≡ suppressed_as due session v
  suppressed_away Next away = refl
  suppressed_away Last away = ap (λ (b : Bool). suppressed_with b session v false) (sym away)

-- the viewers to whom output is stopped are read from what is kept of them
pub stopped_same : (new mid : SessionModel) → new.suppressed ≡ mid.suppressed → is_suppressed new ≡ is_suppressed mid
stopped_same new mid kept = let stopped : List (ℕ × Bool) → PerViewer Bool = λ l u. kept_for false l u in ap stopped kept

-- a take that was refused leaves the session as it was
pub refused_same : (result : Result Taken OutOfMemory) (new mid session : SessionModel) (s s' : SenderModel) → mid ≡ session → OnErr result ((new ≡ mid) × (s' ≡ s)) → OnErr result (new ≡ session)
refused_same (Ok taken) new mid session s s' same h = tt
refused_same (Err refusal) new mid session s s' same h = h.0 ∙ same

-- a session with the same head, journal and asked tiles is the same but for the viewers to whom output is stopped
pub same_but_stopped : (session mid : SessionModel) → mid.head ≡ session.head → mid.journal ≡ session.journal → mid.asked ≡ session.asked → mid ≡ record session { suppressed = mid.suppressed }
same_but_stopped session mid head journal asked = λ i. record { head = head i; journal = journal i; asked = asked i; suppressed = mid.suppressed }
