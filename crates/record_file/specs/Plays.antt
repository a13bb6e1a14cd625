-- What becomes of an entry that is put through a session's calls.
use Rattle.std.specs.Prelude.{◌≡◌, ◌≢◌, ⊤, ℕ, Bool, true, false, List, [], ◌∷◌, ◌++◌, Option, Some, None, if◌then◌else◌}
use Rattle.session_rules.specs.declared.entry.Role.{Role}
use Rattle.session_rules.specs.declared.entry.Entry.{Entry}
use Rattle.session_rules.specs.Journal.{Row, refusal_of, is_same_role}
use Rattle.session_rules.specs.Steps.{Answer}
use Rattle.session_rules.specs.Steps.Answer.{Joined, Left, Accepted, Refused, Nothing, Frame}
use Rattle.session_core.specs.SessionModel.{SessionModel, reached_by}

-- the entry is legal, and the journal has it at its end; or it isn't legal, and what the session then is isn't said
abbrev pub IsPlayed : Bool → Entry → SessionModel → SessionModel → Type 0
IsPlayed true e old new = new.journal ≡ old.journal ++ e ∷ []
IsPlayed false e old new = refusal_of old.head (reached_by old) e ≢ None

-- the name of the first row that has a role, where one has it
abbrev pub first_name : Role → List Row → Option (List ℕ)
first_name role [] = None
first_name role (row ∷ rows) = if is_same_role role row.role then Some row.name else first_name role rows

-- a call is answered by a refusal
abbrev pub IsRefusal : Option Answer → Type 0
IsRefusal None = ⊥
IsRefusal (Some (Joined v)) = ⊥
IsRefusal (Some Left) = ⊥
IsRefusal (Some Accepted) = ⊥
IsRefusal (Some (Refused why)) = ⊤
IsRefusal (Some Nothing) = ⊥
IsRefusal (Some (Frame t)) = ⊥
