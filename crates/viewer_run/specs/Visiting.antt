-- How a viewer comes and goes.
use Rattle.std.specs.Prelude.{◌≡◌, ℕ, ◌+◌, ⊤, Bool, true, false, List, [], ◌∷◌, ◌++◌, length, Option, Some, None, Result, Ok, Err}
use Rattle.wire_num.specs.declared.out_of_memory.OutOfMemory.{OutOfMemory}
use Rattle.caps_sets.specs.declared.confirmed.Confirmed.{Confirmed}
use Rattle.session_rules.specs.declared.entry.Role.{Role}
use Rattle.session_rules.specs.declared.entry.Entry.{Entry}
use Rattle.session_rules.specs.declared.entry.Entry.TheVariants.{Join, Leave}
use Rattle.session_rules.specs.Journal.{Head, is_present, reached_at}
use Rattle.session_rules.specs.Steps.{row_role}
use Rattle.session_rules.specs.Steps.Step.{JoinStep}
use Rattle.session_rules.specs.Entering.{answer_at}
use Rattle.session_core.specs.Outcomes.{IsAnswered}
use Rattle.session_core.specs.Faults.{join_answer}
use Rattle.session_core.specs.declared.faults.JoinFault.{JoinFault}
use Rattle.frame_rules.specs.Encoder.{first_encoder}
use Rattle.frame_plan.specs.declared.taken.Taken.{Taken}
use Rattle.frame_plan.specs.declared.taken.Taken.TheVariants.{Nothing}
use Rattle.viewer_sender.specs.Senders.{SenderModel, IsIdle}
use Rattle.pointer_share.specs.Desk.{DeskOf}
use Rattle.serve_rules.specs.Turns.{SessionPass, IsTurn}
use Rattle.serve_rules.specs.declared.ends.SideEnd.{SideEnd}
use Rattle.serve_rules.specs.declared.ends.SideEnd.TheVariants.{Stopped}
use Rattle.viewer_run.specs.Sending.{TakesFrame, FollowsWith}
use Rattle.viewer_run.specs.declared.visits.Arrival.{Arrival}
use Rattle.viewer_run.specs.declared.visits.FirstFrame.{FirstFrame}

-- a sender that has given no frame, and a desk at which no pointer was told
pub record IsFresh (s : SenderModel) (d : Option DeskOf) (v : ℕ) (confirmed : Confirmed) : Type 0 where
  pub viewer : s.v ≡ v
  pub confirms : s.confirmed ≡ confirmed
  pub number : s.number ≡ 0
  pub idle : IsIdle s
  pub follows : FollowsWith s d first_encoder

-- a viewer's first frame over a journal, for which that journal's pointer is noted, unless memory was wanted
abbrev pub IsFirst : Head → List Entry → ℕ → Confirmed → Result FirstFrame OutOfMemory → Type 0
IsFirst head j v confirmed (Ok first) = (s : SenderModel) × (d : Option DeskOf) × IsFresh s d v confirmed
    × TakesFrame head j s first.seat.sender d first.seat.desk first.take
IsFirst head j v confirmed (Err refusal) = ⊤

-- a name joined: the next viewer's Join, with the role of the name's row, was appended
pub record Arrives (head : Head) (name : List ℕ) (confirmed : Confirmed) (old new : List Entry) (arrival : Arrival) : Type 0 where
  pub role : Role
  pub row : row_role name head.rows ≡ Some role
  pub number : arrival.v ≡ (reached_at head.size old (length old)).joins + 1
  pub appended : new ≡ old ++ Join arrival.v role ∷ []
  pub first : IsFirst head new arrival.v confirmed arrival.first

-- or it didn't: nothing was appended, and unless memory was wanted that is the step's answer
pub record IsTurnedAway (head : Head) (name : List ℕ) (old new : List Entry) (fault : JoinFault) : Type 0 where
  pub stays : new ≡ old
  pub answer : IsAnswered (join_answer (Err fault)) (answer_at head (reached_at head.size old (length old)) (JoinStep name))

-- likewise in a turn of its own
pub record ArrivesIn (head : Head) (name : List ℕ) (confirmed : Confirmed) (before after : SessionPass) (arrival : Arrival) : Type 0 where
  pub base : List Entry
  pub role : Role
  pub row : row_role name head.rows ≡ Some role
  pub number : arrival.v ≡ (reached_at head.size base (length base)).joins + 1
  pub turn : IsTurn before after base (Join arrival.v role ∷ [])
  pub first : IsFirst head after.seen arrival.v confirmed arrival.first

pub record IsTurnedAwayIn (head : Head) (name : List ℕ) (before after : SessionPass) (fault : JoinFault) : Type 0 where
  pub base : List Entry
  pub turn : IsTurn before after base []
  pub answer : IsAnswered (join_answer (Err fault)) (answer_at head (reached_at head.size base (length base)) (JoinStep name))

-- a take that finds nothing for a viewer who is present leaves it with all of the journal
abbrev pub IsUpToDate : Head → ℕ → List Entry → ℕ → Result Taken OutOfMemory → Type 0
IsUpToDate head v j number result = is_present v (reached_at head.size j (length j)).viewers ≡ true → result ≡ Ok Nothing → number ≡ length j

-- a viewer who is present has a frame with all of the journal, where its last one was sent or none was due
abbrev pub IsShownAll : Head → ℕ → List Entry → ℕ → SideEnd → Type 0
IsShownAll head v j number end = is_present v (reached_at head.size j (length j)).viewers ≡ true → end ≡ Stopped → number ≡ length j

-- the Leave of a viewer, if it is present, and its place behind a journal
abbrev pub leave_if : Bool → ℕ → List Entry
leave_if true v = Leave v ∷ []
leave_if false v = []

abbrev pub leave_place : Bool → List Entry → Option ℕ
leave_place true base = Some (length base)
leave_place false base = None

-- a viewer left, if it was present
abbrev pub LeavesHere : ℕ → Bool → Option ℕ → List Entry → List Entry → Type 0
LeavesHere v here place old new = (new ≡ old ++ leave_if here v) × (place ≡ leave_place here old)

-- likewise in a turn of its own
pub record LeavesIn (head : Head) (v : ℕ) (before after : SessionPass) (place : Option ℕ) : Type 0 where
  pub base : List Entry
  pub turn : IsTurn before after base (leave_if (is_present v (reached_at head.size base (length base)).viewers) v)
  pub place_is : place ≡ leave_place (is_present v (reached_at head.size base (length base)).viewers) base
