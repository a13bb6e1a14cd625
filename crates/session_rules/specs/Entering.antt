-- What a step appends and how it is answered, of what the journal has reached alone.
use Rattle.std.specs.Prelude.{◌≡◌, ℕ, Bool, true, false, List, Option, Some, None}
use Rattle.input_pdu.specs.declared.event.Event.{Event}
use Rattle.session_rules.specs.declared.entry.Entry.{Entry}
use Rattle.session_rules.specs.declared.entry.Entry.TheVariants.{Join, Leave, Give, Input, Draw}
use Rattle.session_rules.specs.Journal.{Head, Reached, is_present}
use Rattle.session_rules.specs.Steps.{Step, Answer, Play, play_at_first, outcome}
use Rattle.session_rules.specs.Steps.Step.{JoinStep, LeaveStep, InputStep, DrawStep, RefreshStep, SuppressStep, TakeStep}

-- a session that has reached so much, and of whose viewers nothing is kept
abbrev pub play_of : Head → Reached → Play
play_of head r = record (play_at_first head.size) { reached = r }

-- the entry that a step appends
abbrev pub entry_of_step : Head → Reached → Step → Option Entry
entry_of_step head r step = (outcome head (play_of head r) step).entry

-- the answer of a step that isn't a take
abbrev pub answer_at : Head → Reached → Step → Answer
answer_at head r step = (outcome head (play_of head r) step).answer

abbrev pub entry_if : Bool → Option Entry → Option Entry
entry_if true entry = entry
entry_if false entry = None

-- the entry that an input event of a viewer appends; that of a viewer who isn't present appends none
abbrev pub entry_of_event : Head → ℕ → Event → Reached → Option Entry
entry_of_event head v event r = entry_if (is_present v r.viewers) (entry_of_step head r (InputStep v event))

abbrev pub is_take : Step → Bool
is_take (JoinStep name) = false
is_take (LeaveStep v) = false
is_take (InputStep v e) = false
is_take (DrawStep v d) = false
is_take (RefreshStep v r) = false
is_take (SuppressStep v stop) = false
is_take (TakeStep v) = true

-- an entry that an input event of a viewer makes: an Input or a Give by it
abbrev pub IsOfEvent : ℕ → Entry → Type 0
IsOfEvent v (Join u role) = ⊥
IsOfEvent v (Leave u) = ⊥
IsOfEvent v (Give by to) = by ≡ v
IsOfEvent v (Input by event) = by ≡ v
IsOfEvent v (Draw by d) = ⊥
