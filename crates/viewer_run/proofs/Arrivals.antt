-- A client that is ready joins, is attended to, and leaves.
use Rattle.std.proofs.Common.{◌≡◌, ℕ, ◌+◌, ◌-◌, List, [], ◌∷◌, length, sym, ap, ◌∙◌, subst, arith}
use Rattle.std.specs.Prelude.{Option, Result, Ok, Err, MatchResult}
use Rattle.edge_io.specs.Outside.{Outside}
use Rattle.wire_num.specs.declared.out_of_memory.OutOfMemory.{OutOfMemory}
use Rattle.caps_sets.specs.declared.confirmed.Confirmed.{Confirmed}
use Rattle.session_rules.specs.declared.entry.Entry.{Entry}
use Rattle.session_rules.specs.Journal.{Head}
use Rattle.session_core.specs.declared.faults.JoinFault.{JoinFault}
use Rattle.session_core.proofs.AllShown.{length_pushed}
use Rattle.conn_rules.specs.declared.conn_step.ConnStep.{ConnStep}
use Rattle.conn_rules.specs.Hearing.{Hearing}
use Rattle.viewer_sender.specs.Senders.{SenderModel}
use Rattle.pointer_share.specs.Desk.{DeskOf}
use Rattle.serve_rules.specs.Turns.{SessionPass, IsTurn}
use Rattle.serve_rules.specs.Notices.{notice_in}
use Rattle.serve_rules.specs.declared.ends.ConnEnd.{ConnEnd}
use Rattle.serve_rules.specs.declared.noted.Noted.{Noted}
use Rattle.viewer_run.specs.Visiting.{IsFirst, ArrivesIn, IsTurnedAwayIn}
use Rattle.viewer_run.specs.Serving.{Attends, IsShownLast}
use Rattle.viewer_run.specs.Arriving.{Stays}
use Rattle.viewer_run.specs.declared.visits.Arrival.{Arrival}
use Rattle.viewer_run.specs.declared.visits.FirstFrame.{FirstFrame}

-- a turn that gave a viewer is that of its Join
pub arrived : (head : Head) (name : List ℕ) (confirmed : Confirmed) (p q : SessionPass) (came : Result Arrival JoinFault) (arrival : Arrival) → came ≡ Ok arrival
    → MatchResult came (λ a. ArrivesIn head name confirmed p q a) (λ fault. IsTurnedAwayIn head name p q fault) → ArrivesIn head name confirmed p q arrival
arrived head name confirmed p q (Ok other) arrival is h = subst (ArrivesIn head name confirmed p q) (cc is) h
arrived head name confirmed p q (Err fault) arrival is h = absurd (cc is)

-- an entry that a turn appended alone stands at the end of what was found
pub last_place : (p q : SessionPass) (base : List Entry) (entry : Entry) → IsTurn p q base (entry ∷ []) → length q.seen - 1 ≡ length base
last_place p q base entry turn =
    let n : length q.seen ≡ length base + 1 = ap (λ (j : List Entry). length j) turn.seen ∙ length_pushed base entry in
    omega (arith, n)

-- a viewer whose first frame was taken was attended to
pub stays_first : (head : Head) (v : ℕ) (confirmed : Confirmed) (given : Result FirstFrame OutOfMemory) (first : FirstFrame) (rest : List ConnStep) (conn : Hearing)
    (t : SenderModel) (d : Option DeskOf) (p q : SessionPass) (a b : Noted) (before after : Outside) (end : ConnEnd)
    → given ≡ Ok first → IsFirst head p.seen v confirmed given
    → Attends head v first.seat.sender.confirmed rest conn t d p q a b before after end → IsShownLast head v q t end (notice_in b)
    → Stays head v confirmed given rest conn p q a b before after end
stays_first head v confirmed (Ok other) first rest conn t d p q a b before after end is fresh attends whole =
    let same : first ≡ other = sym (cc is) in
    let confirms : first.seat.sender.confirmed ≡ confirmed
    = ap (λ (x : FirstFrame). x.seat.sender.confirmed) same ∙ (ap (λ (s : SenderModel). s.confirmed) fresh.3.sender ∙ fresh.2.confirms) in
    (t, d, subst (λ (x : Confirmed). Attends head v x rest conn t d p q a b before after end) confirms attends, whole)
stays_first head v confirmed (Err refusal) first rest conn t d p q a b before after end is fresh attends whole = absurd (cc is)
