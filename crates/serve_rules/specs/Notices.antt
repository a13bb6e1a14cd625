-- What a client's steps ask for and announce.
use Rattle.std.specs.Prelude.{Bool, true, List, [], ◌∷◌, flat_map}
use Rattle.input_pdu.specs.declared.event.Event.{Event}
use Rattle.conn_rules.specs.declared.conn_step.ConnStep.{ConnStep}
use Rattle.conn_rules.specs.declared.conn_step.ConnStep.TheVariants as step
use Rattle.serve_rules.specs.declared.noted.Noted.{Noted}

-- the input event of a step, if it is one
abbrev pub event_in : ConnStep → List Event
event_in (step.Named name) = []
event_in (step.Ready confirmed) = []
event_in (step.Event event) = event ∷ []
event_in (step.Refresh area) = []
event_in (step.Suppress stop) = []
event_in step.Shutdown = []
event_in step.Bye = []
event_in step.Packet = []

-- the input events of steps
abbrev pub events_in : List ConnStep → List Event
events_in steps = flat_map event_in steps

-- whether there was a Bye, whether there was a Shutdown, and whether the last Suppress is a stop
pub record Notice : Type 0 where
  pub bye : Bool
  pub shutdown : Bool
  pub quiet : Bool

-- what a step adds to that
abbrev pub notice_after : Notice → ConnStep → Notice
notice_after n (step.Named name) = n
notice_after n (step.Ready confirmed) = n
notice_after n (step.Event event) = n
notice_after n (step.Refresh area) = n
notice_after n (step.Suppress stop) = record n { quiet = stop }
notice_after n step.Shutdown = record n { shutdown = true }
notice_after n step.Bye = record n { bye = true }
notice_after n step.Packet = n

-- what steps add to it
abbrev pub notice_after_all : Notice → List ConnStep → Notice
notice_after_all n [] = n
notice_after_all n (x ∷ xs) = notice_after_all (notice_after n x) xs

-- what the read side has noted of it
abbrev pub notice_in : Noted → Notice
notice_in t = record { bye = t.bye; shutdown = t.shutdown; quiet = t.quiet }
