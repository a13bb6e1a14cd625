-- One turn of a pass at the session's lock.
use Rattle.std.specs.Prelude.{◌≡◌, ℕ, List, [], ◌∷◌, ◌++◌, length, Option, Some, None, option_to_list}
use Rattle.std.specs.List.{range_with_len}
use Rattle.input_pdu.specs.declared.event.Event.{Event}
use Rattle.session_rules.specs.declared.entry.Entry.{Entry}
use Rattle.session_rules.specs.Journal.{Head, reached_at}
use Rattle.session_rules.specs.Entering.{entry_of_event}
use Rattle.grow_lock.specs.Journal.{StartsWith}
use Rattle.grow_lock.specs.Passes.{PassModel}
use Rattle.grow_lock.specs.Shares.{HoldsShare}

-- a pass of a lock round a session
abbrev pub SessionPass : Type 0
SessionPass = PassModel Head Entry

-- a pass that has still all of the lock that it had before: each pass that was split off from it has come back
abbrev pub KeepsShare : SessionPass → SessionPass → Type 0
KeepsShare before after = HoldsShare after.share before.share

-- a pass had a turn: it found this journal, and these entries were appended
pub record IsTurn (before after : SessionPass) (base added : List Entry) : Type 0 where
  pub goes_on : StartsWith base before.seen
  pub seen : after.seen ≡ base ++ added
  pub found : after.found ≡ before.found ++ length base ∷ []
  pub mine : after.mine ≡ before.mine ++ range_with_len (length base) (length added)
  pub share : after.share ≡ before.share

-- a pass had a turn in which nothing was appended
abbrev pub Idles : SessionPass → SessionPass → Type 0
Idles before after = (base : List Entry) × IsTurn before after base []

-- what a pass has seen is what its last turn found
abbrev pub FoundAll : SessionPass → Type 0
FoundAll pass = (earlier : List ℕ) × (pass.found ≡ earlier ++ length pass.seen ∷ [])

-- the place of an entry, if there is one, that is appended to a journal
abbrev pub place_after : List Entry → Option Entry → Option ℕ
place_after base None = None
place_after base (Some entry) = Some (length base)

-- an event of a viewer was handled in a turn of its own: what was appended is its entry, if it has one, and that stands at this place
pub record IsHandled (head : Head) (v : ℕ) (event : Event) (before after : SessionPass) (place : Option ℕ) : Type 0 where
  pub base : List Entry
  pub turn : IsTurn before after base (option_to_list (entry_of_event head v event (reached_at head.size base (length base))))
  pub place_is : place ≡ place_after base (entry_of_event head v event (reached_at head.size base (length base)))
