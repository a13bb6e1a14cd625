-- What a client's stream asks of its session, which has one row: the owner's. Where the client is let in it is viewer 1.
use Rattle.std.specs.Prelude.{ℕ, Bool, true, false, List, [], ◌∷◌, ◌++◌}
use Rattle.px_core.specs.declared.surface.Size.{Size}
use Rattle.caps_sets.specs.declared.confirmed.Confirmed.{Confirmed}
use Rattle.session_rules.specs.declared.entry.Role.TheVariants.{Owner}
use Rattle.session_rules.specs.Journal.{Head}
use Rattle.session_rules.specs.Steps.Step.{JoinStep, InputStep, RefreshStep, SuppressStep, TakeStep}
use Rattle.script_rules.specs.Script.{Asked, without_preset, is_invited}
use Rattle.conn_rules.specs.declared.conn_step.ConnStep.{ConnStep}
use Rattle.conn_rules.specs.declared.conn_step.ConnStep.TheVariants as step

-- a session of this size with the owner's row
abbrev pub owners_head : Size → List ℕ → Head
owners_head size owner = record { size = size; rows = record { name = owner; role = Owner } ∷ [] }

-- the client's number
abbrev pub client : ℕ
client = 1

-- a client that isn't ready, with the name that it gave last; one that was let in; one that wasn't
pub data Guest : Type 0 where
  Coming : List ℕ → Guest
  Viewing : Guest
  TurnedAway : Guest

-- before the first byte it has no name, which no row has
abbrev pub first_guest : Guest
first_guest = Coming []

abbrev pub asks_to_join : List ℕ → Confirmed → Asked
asks_to_join name confirmed = record { step = JoinStep name; preset = []; confirmed = confirmed }

abbrev pub asks_for_frame : Asked
asks_for_frame = without_preset (TakeStep client)

-- a client that is ready joins by its name, and takes its first frame where it is let in
abbrev pub asked_at_ready : Bool → List ℕ → Confirmed → List Asked
asked_at_ready true name confirmed = asks_to_join name confirmed ∷ asks_for_frame ∷ []
asked_at_ready false name confirmed = asks_to_join name confirmed ∷ []

abbrev pub guest_if : Bool → Guest
guest_if true = Viewing
guest_if false = TurnedAway

-- what a viewer asks for: its events, its areas and whether its output stops, and a frame at the end of each packet
abbrev pub asked_by_viewer : ConnStep → List Asked
asked_by_viewer (step.Named name) = []
asked_by_viewer (step.Ready confirmed) = []
asked_by_viewer (step.Event event) = without_preset (InputStep client event) ∷ []
asked_by_viewer (step.Refresh area) = without_preset (RefreshStep client area) ∷ []
asked_by_viewer (step.Suppress stop) = without_preset (SuppressStep client stop) ∷ []
asked_by_viewer step.Shutdown = []
asked_by_viewer step.Bye = []
asked_by_viewer step.Packet = asks_for_frame ∷ []

abbrev pub asked_by_newcomer : Head → List ℕ → ConnStep → List Asked
asked_by_newcomer head name (step.Named other) = []
asked_by_newcomer head name (step.Ready confirmed) = asked_at_ready (is_invited name head.rows) name confirmed
asked_by_newcomer head name (step.Event event) = []
asked_by_newcomer head name (step.Refresh area) = []
asked_by_newcomer head name (step.Suppress stop) = []
asked_by_newcomer head name step.Shutdown = []
asked_by_newcomer head name step.Bye = []
asked_by_newcomer head name step.Packet = []

-- what a step asks for; a client that wasn't let in asks for nothing more
abbrev pub asked_by : Head → Guest → ConnStep → List Asked
asked_by head (Coming name) one = asked_by_newcomer head name one
asked_by head Viewing one = asked_by_viewer one
asked_by head TurnedAway one = []

abbrev pub newcomer_after : Head → List ℕ → ConnStep → Guest
newcomer_after head name (step.Named other) = Coming other
newcomer_after head name (step.Ready confirmed) = guest_if (is_invited name head.rows)
newcomer_after head name (step.Event event) = Coming name
newcomer_after head name (step.Refresh area) = Coming name
newcomer_after head name (step.Suppress stop) = Coming name
newcomer_after head name step.Shutdown = Coming name
newcomer_after head name step.Bye = Coming name
newcomer_after head name step.Packet = Coming name

abbrev pub guest_after : Head → Guest → ConnStep → Guest
guest_after head (Coming name) one = newcomer_after head name one
guest_after head Viewing one = Viewing
guest_after head TurnedAway one = TurnedAway

-- what steps ask for, one after the other, and the client after them
abbrev pub asked_from : Head → Guest → List ConnStep → List Asked
asked_from head guest [] = []
asked_from head guest (one ∷ steps) = asked_by head guest one ++ asked_from head (guest_after head guest one) steps

abbrev pub guest_after_all : Head → Guest → List ConnStep → Guest
guest_after_all head guest [] = guest
guest_after_all head guest (one ∷ steps) = guest_after_all head (guest_after head guest one) steps
