-- A session that goes on where its record's bytes end.
use Rattle.std.specs.Prelude.{◌≡◌, ◌≤◌, ℕ, Bool, true, false, List, length, Option, Some, None}
use Rattle.session_rules.specs.Journal.{IsLegalJournal}
use Rattle.record_rules.specs.Records.{journal_of_record}
use Rattle.record_rules.specs.Records.End.{Unfinished}
use Rattle.record_file.specs.declared.resumed.Resumed.{Resumed}
use Rattle.record_file.specs.Replaying.{replayed}

-- where nothing stands behind a place it is the end
abbrev pub EndsAt : Bool → ℕ → List ℕ → Type 0
EndsAt true place stream = place ≤ length stream
EndsAt false place stream = place ≡ length stream

-- a session has the head and the whole entries of these bytes, which are legal, and they end at its place
pub record GoesOnFrom (stream : List ℕ) (r : Resumed) : Type 0 where
  pub read : journal_of_record stream ≡ record { head = Some r.session.head; entries = r.session.journal; end = Unfinished r.place }
  pub legal : IsLegalJournal r.session.head r.session.journal
  pub ends : EndsAt r.more r.place stream

-- none exactly where the head isn't whole, or a fault was found
abbrev pub IsResumed : Option Resumed → List ℕ → Type 0
IsResumed None stream = (replayed stream).fault ≡ None → (replayed stream).head ≡ None
IsResumed (Some r) stream = GoesOnFrom stream r
