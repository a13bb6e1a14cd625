-- What calls say that go through a host's bytes.
use Rattle.std.specs.Prelude.{◌≡◌, ◌⊎◌, ℕ, Bool, true, false, List, [], ◌++◌, take, Option, Some, None, Result, Ok, Err}
use Rattle.px_core.specs.declared.surface.Size.{Size}
use Rattle.caps_sets.specs.declared.confirmed.Confirmed.{Confirmed}
use Rattle.client_view.specs.Clients.{ClientOf}
use Rattle.viewer_rules.specs.declared.stage.Stage.{Stage}
use Rattle.viewer_rules.specs.declared.stage.Stage.TheVariants as stage
use Rattle.viewer_rules.specs.ViewerHandshake.{Standing, Told, Watching, Watched, watched}
use Rattle.viewer_rules.specs.Shown.{shown_read, shown_refusal, look_refusal}
use Rattle.look_net.specs.declared.look_fault.LookFault.{LookFault}
use Rattle.look_net.specs.declared.look_fault.LookFault.TheVariants.{Refused, OutOfMemory}
use Rattle.look_net.specs.declared.watcher.Watcher.{Watcher}
use Rattle.look_net.specs.Looks.{Shows, HasClient, Follows, Keeps}

-- updates are awaited
abbrev pub is_shown : Stage → Bool
is_shown stage.Confirm = false
is_shown stage.Response = false
is_shown stage.Attach = false
is_shown (stage.Joins user which) = false
is_shown (stage.Licence user) = false
is_shown (stage.Demand user) = false
is_shown (stage.Finish user which) = false
is_shown stage.Shown = true
is_shown stage.Over = false
is_shown (stage.Refused at) = false

-- a client that has read the bytes, or refuses them
abbrev pub FeedsMore : Result (Unit {0}) LookFault → Confirmed → Size → ℕ → List ℕ → ClientOf → Type 0
FeedsMore (Ok done) c size start shown client = Shows c size shown client
FeedsMore (Err (Refused at)) c size start shown client = shown_refusal start (shown_read c (Some size) shown) ≡ Some at
FeedsMore (Err OutOfMemory) c size start shown client = Unit {0}

abbrev pub ShowsMore : Result (Unit {0}) LookFault → Confirmed → Option Size → ℕ → List ℕ → Option ClientOf → Type 0
ShowsMore (Ok done) c size start shown client = HasClient c size shown client
ShowsMore (Err (Refused at)) c size start shown client = shown_refusal start (shown_read c size shown) ≡ Some at
ShowsMore (Err OutOfMemory) c size start shown client = Unit {0}

abbrev pub Stays : Standing → Confirmed → Watcher → Type 0
Stays s c m = Follows s c m.stage m.place m.start m.client

-- a packet is refused: one of its fields, or, behind the Font Map, what it shows
abbrev pub RefusesPacket : Confirmed → Standing → ℕ → Type 0
RefusesPacket c s at = ((s.stage ≡ stage.Refused at) × (shown_refusal s.start (shown_read c s.size s.shown) ≡ None))
    ⊎ ((s.stage ≡ stage.Shown) × (shown_refusal s.start (shown_read c s.size s.shown) ≡ Some at))

-- a packet leads there, and its text was appended; or it is refused
abbrev pub WatchesPacket : Result (Unit {0}) LookFault → Told → Confirmed → Watcher → List ℕ → List ℕ → Type 0
WatchesPacket (Ok done) told c new out new_out = Stays told.after c new × (new_out ≡ out ++ told.text)
WatchesPacket (Err (Refused at)) told c new out new_out = RefusesPacket c told.after at × (told.text ≡ []) × (new_out ≡ out)
WatchesPacket (Err OutOfMemory) told c new out new_out = new_out ≡ out

-- refused, whatever comes: no text is due any more
abbrev pub IsRefusedFrom : List ℕ → Confirmed → Watching → ℕ → Type 0
IsRefusedFrom name c w at = (bytes : List ℕ) → ((watched name c w bytes).text ≡ []) × (look_refusal c (watched name c w bytes).after ≡ Some at)

-- bytes lead there, and their texts were appended
pub record Goes (x : Watched) (c : Confirmed) (new : Watcher) (part out new_out : List ℕ) : Type 0 where
  pub follows : Stays x.after.at c new
  pub keeps : Keeps c x.after part
  pub written : new_out ≡ out ++ x.text

-- bytes up to the end of a packet, or a part of one, from a place between two packets on
abbrev pub GoesOn : Result (Unit {0}) LookFault → List ℕ → Confirmed → Watched → Watcher → List ℕ → List ℕ → List ℕ → Type 0
GoesOn (Ok done) name c x new part out new_out = Goes x c new part out new_out
GoesOn (Err (Refused at)) name c x new part out new_out = IsRefusedFrom name c x.after at × (new_out ≡ out ++ x.text)
GoesOn (Err OutOfMemory) name c x new part out new_out = new_out ≡ out

abbrev pub StopsBy : LookFault → List ℕ → Confirmed → Watching → Type 0
StopsBy (Refused at) name c w = IsRefusedFrom name c w at
StopsBy OutOfMemory name c w = Unit {0}

-- a front of the bytes was gone through and its texts appended, and there it stopped
pub record Stops (fault : LookFault) (name : List ℕ) (c : Confirmed) (w : Watching) (bytes out new_out : List ℕ) : Type 0 where
  pub front : List ℕ
  pub more : List ℕ
  pub whole : bytes ≡ front ++ more
  pub written : new_out ≡ out ++ (watched name c w front).text
  pub stopped : StopsBy fault name c (watched name c w front).after

-- so many of the bytes were gone through; or it stopped
abbrev pub GoesSome : Result ℕ LookFault → List ℕ → Confirmed → Watching → List ℕ → Watcher → List ℕ → List ℕ → List ℕ → Type 0
GoesSome (Ok n) name c w bytes new part out new_out = Goes (watched name c w (take n bytes)) c new part out new_out
GoesSome (Err fault) name c w bytes new part out new_out = Stops fault name c w bytes out new_out

-- all of them were; or it stopped
abbrev pub GoesAll : Result (Unit {0}) LookFault → List ℕ → Confirmed → Watching → List ℕ → Watcher → List ℕ → List ℕ → List ℕ → Type 0
GoesAll (Ok done) name c w bytes new part out new_out = Goes (watched name c w bytes) c new part out new_out
GoesAll (Err fault) name c w bytes new part out new_out = Stops fault name c w bytes out new_out

-- bytes were kept behind others; or no memory was left, and none were
abbrev pub IsKept : Result (Unit {0}) LookFault → List ℕ → List ℕ → List ℕ → Type 0
IsKept (Ok done) old bytes new = new ≡ old ++ bytes
IsKept (Err fault) old bytes new = (fault ≡ OutOfMemory) × (new ≡ old)
