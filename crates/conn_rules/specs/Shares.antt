-- The share PDUs of a client in their sequence ([MS-RDPBCGR] 1.3.1.1, capabilities exchange and connection finalization), and after
-- the Font List: what each asks for, if it is expected.
use Rattle.std.specs.Prelude.{ℕ, ◌==◌, List, [], Option, Some, None, Result, Ok, Err, if◌then◌else◌}
use Rattle.std.specs.List.{slice_range}
use Rattle.wire_num.specs.Field.{bind}
use Rattle.caps_sets.specs.declared.confirmed.Confirmed.{Confirmed}
use Rattle.caps_sets.specs.declared.caps_fault.CapsFault.{CapsFault}
use Rattle.caps_sets.specs.declared.caps_fault.CapsFault.TheVariants.{BadCaps}
use Rattle.caps_sets.specs.ConfirmActive.{confirmed_of}
use Rattle.input_pdu.specs.declared.event.Event.{Event}
use Rattle.input_pdu.specs.Events.{events_of}
use Rattle.share_pdu.specs.declared.client_pdu.ClientPdu.{ClientPdu}
use Rattle.share_pdu.specs.declared.client_pdu.ClientPdu.TheVariants as pdu
use Rattle.share_pdu.specs.declared.finals.Final.{Final}
use Rattle.share_pdu.specs.declared.finals.Final.TheVariants as final
use Rattle.share_pdu.specs.declared.share_fault.ShareFault.{ShareFault}
use Rattle.share_pdu.specs.declared.share_fault.ShareFault.TheVariants.{BadShare, Compressed}
use Rattle.conn_rules.specs.declared.deed.Deed.{Deed}
use Rattle.conn_rules.specs.declared.deed.Deed.TheVariants as deed
use Rattle.conn_rules.specs.declared.refusal.Refusal.{Refusal}
use Rattle.conn_rules.specs.declared.stage.SharePhase.{SharePhase}
use Rattle.conn_rules.specs.declared.stage.SharePhase.TheVariants as phase
use Rattle.share_pdu.specs.Bodies.{areas_of}
use Rattle.conn_rules.specs.Answers.{Telling, telling}
use Rattle.conn_rules.specs.Numbers.{place_behind, bad_caps, bad_share, compressed, bad_input}
use Rattle.conn_rules.specs.Told.{event_steps, area_steps}

-- ---- PDUs that aren't read further; None where they aren't expected

-- before the Confirm Active: Input, Refresh Rect and Suppress Output are dropped, and so are PDUs of other kinds
abbrev pub early_deed : ClientPdu → Option Deed
early_deed (pdu.Confirm place) = None
early_deed pdu.Synchronize = None
early_deed pdu.Cooperate = None
early_deed pdu.Request = None
early_deed pdu.FontList = None
early_deed pdu.KeyList = None
early_deed (pdu.Input place) = Some deed.Nothing
early_deed (pdu.Refresh place) = Some deed.Nothing
early_deed (pdu.Suppress stop) = Some deed.Nothing
early_deed pdu.Shutdown = None
early_deed pdu.Other = Some deed.Nothing

-- the order of the finalisation
abbrev pub order_of : Final → ℕ
order_of final.Synchronize = 0
order_of final.Cooperate = 1
order_of final.Granted = 2
order_of final.FontMap = 3

-- an answer that is asked for, where it is the next one
abbrev pub due : Confirmed → Final → Final → Option Deed
due confirmed next which = if order_of which == order_of next then Some (deed.Answer confirmed which) else None

-- in the finalisation: Synchronize, Cooperate, Request, any number of Persistent Key Lists, Font List
abbrev pub finish_deed : Confirmed → Final → ClientPdu → Option Deed
finish_deed confirmed next (pdu.Confirm place) = None
finish_deed confirmed next pdu.Synchronize = due confirmed next final.Synchronize
finish_deed confirmed next pdu.Cooperate = due confirmed next final.Cooperate
finish_deed confirmed next pdu.Request = due confirmed next final.Granted
finish_deed confirmed next pdu.FontList = due confirmed next final.FontMap
finish_deed confirmed next pdu.KeyList = if order_of next == 3 then Some deed.Nothing else None
finish_deed confirmed next (pdu.Input place) = Some deed.Nothing
finish_deed confirmed next (pdu.Refresh place) = Some deed.Nothing
finish_deed confirmed next (pdu.Suppress stop) = Some deed.Nothing
finish_deed confirmed next pdu.Shutdown = None
finish_deed confirmed next pdu.Other = Some deed.Nothing

-- after the Font List: those of the finalisation aren't answered again
abbrev pub ready_deed : ClientPdu → Option Deed
ready_deed (pdu.Confirm place) = Some deed.Nothing
ready_deed pdu.Synchronize = Some deed.Nothing
ready_deed pdu.Cooperate = Some deed.Nothing
ready_deed pdu.Request = Some deed.Nothing
ready_deed pdu.FontList = Some deed.Nothing
ready_deed pdu.KeyList = Some deed.Nothing
ready_deed (pdu.Input place) = Some deed.Tell
ready_deed (pdu.Refresh place) = Some deed.Tell
ready_deed (pdu.Suppress stop) = Some (deed.Suppress stop)
ready_deed pdu.Shutdown = Some deed.Shutdown
ready_deed pdu.Other = Some deed.Nothing

abbrev pub plain_deed : SharePhase → ClientPdu → Option Deed
plain_deed (phase.Confirm depth) p = early_deed p
plain_deed (phase.Finish confirmed next) p = finish_deed confirmed next p
plain_deed phase.Ready p = ready_deed p

-- ---- what PDUs ask for, and what is found in them

-- a PDU in which nothing is found
abbrev pub other_deed : Option Deed → Result (Telling (Option Deed)) Refusal
other_deed wanted = Ok (telling wanted [])

-- the capability sets of a Confirm Active, whose fields begin at a place
abbrev pub sets_read : ℕ → Result Confirmed CapsFault → Result Confirmed Refusal
sets_read place (Ok confirmed) = Ok confirmed
sets_read place (Err (BadCaps at)) = bad_caps (place_behind place at)

-- a Confirm Active of a client of this depth, or of the one that was confirmed before; after the Font List it isn't read
abbrev pub confirm_deed : SharePhase → ℕ → List ℕ → Result (Telling (Option Deed)) Refusal
confirm_deed (phase.Confirm depth) place bytes = bind (sets_read place (confirmed_of depth bytes)) (λ confirmed. other_deed (Some (deed.Confirm confirmed)))
confirm_deed (phase.Finish before next) place bytes = bind (sets_read place (confirmed_of before.depth bytes)) (λ confirmed. other_deed None)
confirm_deed phase.Ready place bytes = other_deed (Some deed.Nothing)

-- an Input PDU, whose body begins at a place: its events are there
abbrev pub input_deed : Option Deed → ℕ → Result (List Event) ℕ → Result (Telling (Option Deed)) Refusal
input_deed wanted place (Ok events) = Ok (telling wanted (event_steps events))
input_deed wanted place (Err at) = bad_input (place_behind place at)

-- what a PDU of a body from a place on asks for
abbrev pub deed_of : SharePhase → ℕ → List ℕ → ClientPdu → Result (Telling (Option Deed)) Refusal
deed_of phase place bytes (pdu.Confirm r) = confirm_deed phase (place_behind place r.from) (slice_range bytes r.from r.to)
deed_of phase place bytes pdu.Synchronize = other_deed (plain_deed phase pdu.Synchronize)
deed_of phase place bytes pdu.Cooperate = other_deed (plain_deed phase pdu.Cooperate)
deed_of phase place bytes pdu.Request = other_deed (plain_deed phase pdu.Request)
deed_of phase place bytes pdu.FontList = other_deed (plain_deed phase pdu.FontList)
deed_of phase place bytes pdu.KeyList = other_deed (plain_deed phase pdu.KeyList)
deed_of phase place bytes (pdu.Input r) =
    input_deed (plain_deed phase (pdu.Input r)) (place_behind place r.from) (events_of (slice_range bytes r.from r.to))
deed_of phase place bytes (pdu.Refresh r) = Ok (telling (plain_deed phase (pdu.Refresh r)) (area_steps (areas_of (slice_range bytes r.from r.to))))
deed_of phase place bytes (pdu.Suppress stop) = other_deed (plain_deed phase (pdu.Suppress stop))
deed_of phase place bytes pdu.Shutdown = other_deed (plain_deed phase pdu.Shutdown)
deed_of phase place bytes pdu.Other = other_deed (plain_deed phase pdu.Other)

-- the same of what was read of a body
abbrev pub read_deed : SharePhase → ℕ → List ℕ → Result ClientPdu ShareFault → Result (Telling (Option Deed)) Refusal
read_deed phase place bytes (Ok p) = deed_of phase place bytes p
read_deed phase place bytes (Err (BadShare at)) = bad_share (place_behind place at)
read_deed phase place bytes (Err (Compressed at)) = compressed (place_behind place at)
