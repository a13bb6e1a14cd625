-- What is done for a client that is ready, from its Join to its Leave.
use Rattle.std.specs.Prelude.{◌≡◌, ◌⊎◌, ℕ, false, ◌++◌, ◌∷◌, List, [], length, Option, option_to_list, Result, Ok, Err}
use Rattle.wire_num.specs.declared.out_of_memory.OutOfMemory.{OutOfMemory}
use Rattle.edge_io.specs.Outside.{Outside}
use Rattle.caps_sets.specs.declared.confirmed.Confirmed.{Confirmed}
use Rattle.session_rules.specs.declared.entry.Entry.{Entry}
use Rattle.session_rules.specs.Journal.{Head}
use Rattle.conn_rules.specs.declared.conn_step.ConnStep.{ConnStep}
use Rattle.conn_rules.specs.Hearing.{Hearing}
use Rattle.viewer_sender.specs.Senders.{SenderModel}
use Rattle.pointer_share.specs.Desk.{DeskOf}
use Rattle.serve_rules.specs.Turns.{SessionPass}
use Rattle.serve_rules.specs.Notices.{Notice, notice_in}
use Rattle.serve_rules.specs.declared.ends.ConnEnd.{ConnEnd}
use Rattle.serve_rules.specs.declared.ends.ConnEnd.TheVariants as ends
use Rattle.session_core.specs.declared.faults.JoinFault.{JoinFault}
use Rattle.session_core.specs.declared.faults.JoinFault.TheVariants as join
use Rattle.viewer_run.specs.declared.guest.Guest.{Guest}
use Rattle.serve_rules.specs.declared.noted.Noted.{Noted}
use Rattle.viewer_run.specs.Visiting.{IsFirst, ArrivesIn, IsTurnedAwayIn, LeavesIn}
use Rattle.viewer_run.specs.Serving.{Attends, IsShownLast}
use Rattle.viewer_run.specs.declared.arriving.Visit.{Visit}
use Rattle.viewer_run.specs.declared.visits.Arrival.{Arrival}
use Rattle.viewer_run.specs.declared.visits.FirstFrame.{FirstFrame}

-- a viewer's first frame over a journal for whatever its client confirmed, unless memory was wanted
abbrev pub IsFirstOfSome : Head → List Entry → ℕ → Result FirstFrame OutOfMemory → Type 0
IsFirstOfSome head j v first = (confirmed : Confirmed) × IsFirst head j v confirmed first

-- a viewer who joined was attended to until its connection ended; where memory was wanted for its first frame nothing was read, written, noted or handled
abbrev pub Stays : Head → ℕ → Confirmed → Result FirstFrame OutOfMemory → List ConnStep → Hearing → (joined viewed : SessionPass)
    → (noted_old noted_new : Noted)
    → (before now : Outside) → ConnEnd → Type 0
Stays head v confirmed (Ok first) rest conn joined viewed noted_old noted_new before now end = (sender : SenderModel) × (desk : Option DeskOf)
    × Attends head v confirmed rest conn sender desk joined viewed noted_old noted_new before now end
    × IsShownLast head v viewed sender end (notice_in noted_new)
Stays head v confirmed (Err refusal) rest conn joined viewed noted_old noted_new before now end =
    (viewed ≡ joined) × (noted_new ≡ noted_old) × (now ≡ before) × (end ≡ ends.OutOfMemory)

-- a viewer left in a turn of its own, and the place of its Leave, if it was present, joined a list of places
abbrev pub LeavesNoted : Head → ℕ → SessionPass → SessionPass → List ℕ → List ℕ → Type 0
LeavesNoted head v before after places places' = (place : Option ℕ) × LeavesIn head v before after place × (places' ≡ places ++ option_to_list place)

-- a client joined by its name, was attended to until its connection ended, and left: the states of its pass at its Join and at its connection's end, and what
-- was noted there; the places noted are its Join's, its events', and its Leave's
pub record ServesArrival (head : Head) (name : List ℕ) (confirmed : Confirmed) (rest : List ConnStep) (conn : Hearing) (before after : SessionPass)
    (noted_old noted_new : Noted)
    (outside_old outside_new : Outside) (visit : Visit) : Type 0 where
  pub joined : SessionPass
  pub arrival : Arrival
  pub viewer : visit.v ≡ arrival.v
  pub arrives : ArrivesIn head name confirmed before joined arrival
  pub noted_joined : Noted
  pub joined_places : noted_joined.places.list ≡ noted_old.places.list ++ length arrives.base ∷ []
  pub joined_notice : notice_in noted_joined ≡ notice_in noted_old
  pub viewed : SessionPass
  pub noted_viewed : Noted
  pub stays : Stays head arrival.v confirmed arrival.first rest conn joined viewed noted_joined noted_viewed outside_old outside_new visit.end
  pub leaves : LeavesNoted head arrival.v viewed after noted_viewed.places.list noted_new.places.list
  pub notice : notice_in noted_new ≡ notice_in noted_viewed

-- nothing was announced
abbrev pub no_notice : Notice
no_notice = record { bye = false; shutdown = false; quiet = false }

-- nothing was noted
abbrev pub IsUnnoted : Noted → Type 0
IsUnnoted noted = (noted.places.list ≡ []) × (notice_in noted ≡ no_notice)

-- how the connection of a client ends that didn't join
abbrev pub end_of_join : JoinFault → ConnEnd
end_of_join join.NotInvited = ends.NotInvited
end_of_join join.RoomFull = ends.RoomFull
end_of_join join.JoinsSpent = ends.JoinsSpent
end_of_join join.OutOfMemory = ends.OutOfMemory

-- a client didn't join: it was turned away in a turn, or memory was wanted before
abbrev pub DoesNotJoin : Head → List ℕ → SessionPass → SessionPass → ConnEnd → Type 0
DoesNotJoin head name before after end =
    ((fault : JoinFault) × IsTurnedAwayIn head name before after fault × (end ≡ end_of_join fault)) ⊎ ((after ≡ before) × (end ≡ ends.OutOfMemory))

-- a client that is ready was served, or it didn't join and nothing was read or written
abbrev pub GuestServed : Head → Guest → Hearing → (before after : SessionPass) → (outside_old outside_new : Outside) → Result (Visit × Noted) ConnEnd → Type 0
GuestServed head guest conn before after outside_old outside_new (Ok (visit, noted)) = (nothing : Noted) × IsUnnoted nothing
    × ServesArrival head guest.name guest.confirmed guest.rest.items conn before after nothing noted outside_old outside_new visit
GuestServed head guest conn before after outside_old outside_new (Err end) = DoesNotJoin head guest.name before after end × (outside_new ≡ outside_old)
