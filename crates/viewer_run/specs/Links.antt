-- A client's connection, served from its first byte to its last.
use Rattle.std.specs.Prelude.{◌≡◌, ◌⊎◌, ℕ, suc, ◌+◌, ◌≤◌, ◌<◌, ⊤, true, false, List, [], ◌∷◌, ◌++◌, length, map, drop, All, Contains, slice_get, Some, Err}
use Rattle.std.specs.Io.KnownBytes.{Consumes, Appends}
use Rattle.edge_io.specs.Faults.{Rose}
use Rattle.input_pdu.specs.declared.event.Event.{Event}
use Rattle.caps_sets.specs.declared.confirmed.Confirmed.{Confirmed}
use Rattle.conn_rules.specs.declared.conn_step.ConnStep.{ConnStep}
use Rattle.conn_rules.specs.Hearing.{Hearing, host_handshake, end_of}
use Rattle.conn_rules.specs.Hearing.StreamEnd.{RefusedAt}
use Rattle.order_means.specs.Packets.{without_pointers}
use Rattle.session_rules.specs.declared.entry.Role.{Role}
use Rattle.session_rules.specs.declared.entry.Entry.{Entry}
use Rattle.session_rules.specs.declared.entry.Entry.TheVariants.{Join, Leave}
use Rattle.session_rules.specs.Journal.{Head, IsLegalJournal, reached_at}
use Rattle.session_rules.specs.Steps.{TakeOf, TakesFollow, row_role}
use Rattle.session_rules.specs.Steps.Step.{JoinStep}
use Rattle.session_rules.specs.Entering.{answer_at}
use Rattle.session_core.specs.Outcomes.{IsAnswered}
use Rattle.session_core.specs.Faults.{join_answer}
use Rattle.session_core.specs.declared.faults.JoinFault.{JoinFault}
use Rattle.session_core.specs.declared.faults.JoinFault.TheVariants as join
use Rattle.frame_rules.specs.FrameBytes.{joined_bytes}
use Rattle.frame_rules.specs.Encoder.{first_encoder, pointed_of_takes}
use Rattle.headline.specs.Headline.{SeesJournal}
use Rattle.headline.specs.Pointed.{SeesPointers}
use Rattle.headline.specs.Fronts.{IsFront, SeesFirst}
use Rattle.grow_lock.specs.Journal.{StartsWith}
use Rattle.serve_rules.specs.Turns.{SessionPass, KeepsShare}
use Rattle.serve_rules.specs.Events.{Act, HappenFrom, places_of, Ascend, AreOfEvents, IsWithin}
use Rattle.serve_rules.specs.Notices.{events_in, notice_after_all}
use Rattle.serve_rules.specs.Reading.{IsWhole, IsNoRefusal}
use Rattle.serve_rules.specs.declared.ends.ConnEnd.{ConnEnd}
use Rattle.serve_rules.specs.declared.ends.ConnEnd.TheVariants.{Left, Refused, Truncated, NotInvited, RoomFull, JoinsSpent, ReadFault, WriteFault, NotStored, OutOfMemory}
use Rattle.serve_rules.specs.declared.noted.ConnReport.{ConnReport}
use Rattle.viewer_run.specs.Greeting.{Greeting, greeting, StillConnects, OutsideFaults}
use Rattle.viewer_run.specs.Greeting.Greeting.{IsReady, HasLeft}
use Rattle.viewer_run.specs.Sending.{AtLeast, HaveWork, IsPresentAtEach}
use Rattle.viewer_run.specs.Serving.{ViewEnd, ViewFaults, wants_last}
use Rattle.viewer_run.specs.Arriving.{no_notice}
use Rattle.edge_io.specs.Outside.{Outside}
use Rattle.viewer_run.specs.LastWords.{is_cut, IsLastWord, Writes}

-- ---- a client that didn't join

-- a client that is ready wasn't let in: that is the answer to its join where the pass had its last turn
pub record IsTurnedAwayAs (head : Head) (after : SessionPass) (g : Greeting) (fault : JoinFault) : Type 0 where
  pub name : List ℕ
  pub confirmed : Confirmed
  pub steps : List ConnStep
  pub ready : g ≡ IsReady name confirmed steps
  pub answer : IsAnswered (join_answer (Err fault)) (answer_at head (reached_at head.size after.seen (length after.seen)) (JoinStep name))
  pub in_found : IsWithin (length after.seen ∷ []) after.found

-- when the connection of a client ends so that didn't join: by what its steps came to, where its stream stands, which is cut only where it isn't refused, and
-- what of it was read
abbrev pub OutsideEnd : Head → SessionPass → Greeting → Hearing → List ℕ → Outside → Outside → ConnEnd → Type 0
OutsideEnd head after g h read link spent Left = g ≡ HasLeft
OutsideEnd head after g h read link spent (Refused k at) = StillConnects g × (end_of h ≡ RefusedAt k at)
OutsideEnd head after g h read link spent Truncated = StillConnects g × IsWhole link.input.left read × IsNoRefusal (end_of h)
OutsideEnd head after g h read link spent NotInvited = IsTurnedAwayAs head after g join.NotInvited
OutsideEnd head after g h read link spent RoomFull = IsTurnedAwayAs head after g join.RoomFull
OutsideEnd head after g h read link spent JoinsSpent = IsTurnedAwayAs head after g join.JoinsSpent
OutsideEnd head after g h read link spent ReadFault = Rose link.input.faults spent.input.faults
OutsideEnd head after g h read link spent WriteFault = Rose link.output.faults spent.output.faults
OutsideEnd head after g h read link spent NotStored = Rose link.output.faults spent.output.faults
OutsideEnd head after g h read link spent OutOfMemory = ⊤

-- a client didn't join: the replies to what it sent were written, and the last word
pub record IsOutside (head : Head) (after : SessionPass) (report : ConnReport) (link spent : Outside) (read : List ℕ) : Type 0 where
  pub nobody : report.viewer ≡ 0
  pub none : report.places.list ≡ []
  pub word : List ℕ
  pub last : IsLastWord report.end false word
  pub writes : Writes report.end ((host_handshake head.size read).replies ++ word) link spent
  pub ends : OutsideEnd head after (greeting [] (host_handshake head.size read).steps) (host_handshake head.size read).after read link spent report.end
  pub faults : OutsideFaults (greeting [] (host_handshake head.size read).steps) (host_handshake head.size read).after link spent report.end

-- ---- a viewer

-- somebody else entered a viewer's Leave: it stands at a place that isn't among these
abbrev pub HasLeftElsewhere : ℕ → List Entry → List ℕ → Type 0
HasLeftElsewhere v j places = (place : ℕ) × (slice_get j place ≡ Some (Leave v)) × (Contains places place → ⊥)

-- a viewer's Leave stands at this place, or else elsewhere
abbrev pub IsLeave : ℕ → List Entry → List ℕ → List ℕ → Type 0
IsLeave v j places [] = HasLeftElsewhere v j places
IsLeave v j places (place ∷ []) = slice_get j place ≡ Some (Leave v)
IsLeave v j places (place ∷ other ∷ more) = ⊥

-- the first take found a number of entries; without a take memory was wanted
abbrev pub BeginsWith : ℕ → ConnEnd → List TakeOf → Type 0
BeginsWith n end [] = end ≡ OutOfMemory
BeginsWith n end (t ∷ takes) = t.number ≡ n

-- a take found this number in the last turn but one
abbrev pub IsTakenLast : ℕ → List ℕ → Type 0
IsTakenLast last found = (earlier : List ℕ) × (leave : ℕ) × (found ≡ earlier ++ last ∷ leave ∷ [])

-- a client joined as a viewer and was served until its connection ended
pub record IsVisit (head : Head) (before after : SessionPass) (report : ConnReport) (link spent : Outside) (read : List ℕ) : Type 0 where
  -- what the client's stream comes to: it is ready by a name, and these steps follow
  pub name : List ℕ
  pub confirmed : Confirmed
  pub steps : List ConnStep
  pub ready : greeting [] (host_handshake head.size read).steps ≡ IsReady name confirmed steps
  -- its Join, with the role of its name's row
  pub join : ℕ
  pub role : Role
  pub row : row_role name head.rows ≡ Some role
  pub joins : slice_get after.seen join ≡ Some (Join report.viewer role)
  pub number : report.viewer ≡ (reached_at head.size after.seen join).joins + 1
  pub later : length before.seen ≤ join
  -- its events, each in a turn of its own, and where their entries stand
  pub acts : List Act
  pub high : ℕ
  pub happen : HappenFrom head report.viewer after.seen (suc join) acts high
  pub within_seen : high ≤ length after.seen
  pub undone : List Event
  pub events : events_in steps ≡ map (λ (a : Act). a.event) acts ++ undone
  pub all : is_cut report.end ≡ false → undone ≡ []
  -- its Leave, behind the turns of its events, and the places of all of its entries
  pub leave : List ℕ
  pub leaves : IsLeave report.viewer after.seen (join ∷ places_of head report.viewer after.seen acts) leave
  pub in_time : All (λ k. high ≤ k) leave
  pub places : report.places.list ≡ join ∷ places_of head report.viewer after.seen acts ++ leave
  pub ascend : Ascend join report.places.list (length after.seen)
  pub of_events : AreOfEvents report.viewer after.seen (places_of head report.viewer after.seen acts)
  -- its takes, the first right behind its Join, each at a number where it is present, and the later ones at or above all that the pass had seen at the Join
  pub takes : List TakeOf
  pub last : ℕ
  pub follow : TakesFollow 0 takes last
  pub within_takes : last ≤ length after.seen
  pub begins : BeginsWith (suc join) report.end takes
  pub up_to_date : AtLeast (suc join) (drop 1 takes)
  pub present : IsPresentAtEach head report.viewer after.seen takes
  pub work : HaveWork head.size (drop 1 takes)
  -- the lengths that the pass found in its turns: the Join's, those of the events, those of the later takes
  pub more_found : List ℕ
  pub found : after.found ≡ before.found ++ more_found
  pub acts_found : IsWithin (join ∷ map (λ (a : Act). a.at) acts) more_found
  pub takes_found : IsWithin (map (λ (t : TakeOf). t.number) (drop 1 takes)) more_found
  -- what was written: the replies, the frames of the takes with the pointers before them, and the last word
  pub word : List ℕ
  pub word_is : IsLastWord report.end (notice_after_all no_notice steps).shutdown word
  pub writes : Writes report.end
      ((host_handshake head.size read).replies ++ (joined_bytes (pointed_of_takes head.size confirmed after.seen first_encoder takes) ++ word)) link spent
  pub sees : SeesJournal head.size confirmed after.seen (map (λ (t : TakeOf). t.number) takes)
      (without_pointers (joined_bytes (pointed_of_takes head.size confirmed after.seen first_encoder takes)))
  pub points : SeesPointers head.size confirmed after.seen (map (λ (t : TakeOf). t.number) takes)
      (joined_bytes (pointed_of_takes head.size confirmed after.seen first_encoder takes))
  -- of the frames with their pointers this was written, behind the replies and before a front of the last word: wherever it was cut it isn't refused, and its
  -- marks show the first of these pictures and pointers
  pub viewed : List ℕ
  pub viewed_front : IsFront viewed (joined_bytes (pointed_of_takes head.size confirmed after.seen first_encoder takes))
  pub said : List ℕ
  pub said_front : IsFront said word
  pub in_order : (viewed ≡ joined_bytes (pointed_of_takes head.size confirmed after.seen first_encoder takes)) ⊎ (said ≡ [])
  pub told : Appends link.output.told spent.output.told ((host_handshake head.size read).replies ++ (viewed ++ said))
  pub sees_first : SeesFirst head.size confirmed after.seen (map (λ (t : TakeOf). t.number) takes) viewed
  -- the connection's end, and the last mark at it, which has all that the pass's last turn before that of the Leave found
  pub ends : ViewEnd read (host_handshake head.size read).after (notice_after_all no_notice steps) link spent report.end
  pub faults : ViewFaults (host_handshake head.size read).after (notice_after_all no_notice steps) link spent report.end
  pub shown : wants_last report.end (notice_after_all no_notice steps) ≡ true
      → (All (λ place. place < last) (join ∷ places_of head report.viewer after.seen acts) × IsTakenLast last after.found)
      ⊎ HasLeftElsewhere report.viewer after.seen report.places.list

-- ---- a connection

-- a client's connection was served over the session behind a lock: what was read of it is its stream, and the entries of its pass are those that the report
-- has; the pass still has all of the lock that it had, so each pass that was split off from it has come back
pub record ServesViewer (head : Head) (before after : SessionPass) (report : ConnReport) (link spent : Outside) : Type 0 where
  pub read : List ℕ
  pub taken : Consumes link.input.left spent.input.left read
  pub grows : StartsWith after.seen before.seen
  pub legal : IsLegalJournal head after.seen
  pub mine : after.mine ≡ before.mine ++ report.places.list
  pub share : KeepsShare before after
  pub came : IsOutside head after report link spent read ⊎ IsVisit head before after report link spent read

-- the first of a viewer's places is that of its Join
pub record JoinsFirst (v : ℕ) (places : List ℕ) (j : List Entry) : Type 0 where
  pub join : ℕ
  pub role : Role
  pub rest : List ℕ
  pub first : places ≡ join ∷ rest
  pub entry : slice_get j join ≡ Some (Join v role)
