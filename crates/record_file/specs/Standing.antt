-- How far the reading of a record has come, and what calls say that read on.
use Rattle.std.specs.Prelude.{◌≡◌, ◌≢◌, ◌≤◌, ⊤, ℕ, ◌+◌, ◌*◌, ◌^◌, List, [], ◌∷◌, ◌++◌, length, drop, Option, Some, None, Result, Ok, Err}
use Rattle.session_rules.specs.declared.entry.Entry.{Entry}
use Rattle.session_rules.specs.Journal.{Head, refusal_of, IsLegalJournal}
use Rattle.session_core.specs.Heads.{rows_of}
use Rattle.session_core.specs.SessionModel.{reached_by}
use Rattle.record_rules.specs.Reading.{head_at, framed_at}
use Rattle.record_rules.specs.Reading.Lack.{Missing}
use Rattle.record_rules.specs.Records.{entries_of}
use Rattle.record_file.specs.declared.told.Told.{Told}
use Rattle.record_file.specs.declared.playing.Playing.{Playing}
use Rattle.record_file.specs.declared.course.Course.{Course}
use Rattle.record_file.specs.declared.replay_fault.ReplayFault.{ReplayFault}
use Rattle.record_file.specs.declared.replay_fault.ReplayFault.TheVariants.{BadRecord, Illegal, OutOfMemory}
use Rattle.record_file.specs.Replaying.{replayed, picture_of}
use Rattle.record_file.specs.Replaying.Fault.{BadForm, BadEntry}
use Rattle.record_file.specs.Told.{Tells, IsFirstTold, told_picture}

-- ---- a session that is replayed

-- the rows are the session's, and no entry has more bytes than its length can count
pub record IsSound (p : Playing) : Type 0 where
  pub rows : rows_of p.rows.items ≡ p.session.head.rows
  pub place : p.place ≤ 2 ^ 63 + 65537 * length p.session.journal

abbrev pub IsSoundIfAny : Option Playing → Type 0
IsSoundIfAny None = ⊤
IsSoundIfAny (Some p) = IsSound p

-- the journal is legal, and what is told is of it
pub record IsKept (p : Playing) (t : Told) : Type 0 where
  pub legal : IsLegalJournal p.session.head p.session.journal
  pub size : t.size ≡ Some p.session.head.size
  pub length : t.length ≡ length p.session.journal
  pub picture : told_picture t ≡ picture_of (Some p.session.head) p.session.journal t.stop

-- a session of a head before the first entry
pub record HasBegun (head : Head) (place : ℕ) (p : Playing) : Type 0 where
  pub head_is : p.session.head ≡ head
  pub journal : p.session.journal ≡ []
  pub place_is : p.place ≡ place

-- one more entry was replayed
pub record GoesOn (e : Entry) (used : ℕ) (old new : Playing) : Type 0 where
  pub head : new.session.head ≡ old.session.head
  pub journal : new.session.journal ≡ old.session.journal ++ e ∷ []
  pub place : new.place ≡ old.place + used

-- an entry was replayed; or it isn't legal, and what is told stays
abbrev pub ReplaysOne : Result (Unit {0}) ReplayFault → Entry → ℕ → Playing → Told → Playing → Told → Type 0
ReplaysOne (Ok done) e used old told new now = GoesOn e used old new × IsKept new now
ReplaysOne (Err (Illegal k)) e used old told new now = (refusal_of old.session.head (reached_by old.session) e ≢ None) × (k ≡ told.length) × (now ≡ told)
ReplaysOne (Err (BadRecord at)) e used old told new now = ⊥
ReplaysOne (Err OutOfMemory) e used old told new now = ⊤

-- ---- a session within a record's bytes

-- the session has the head and the first entries of the bytes, and these are left
pub record StandsAt (stream left : List ℕ) (p : Playing) : Type 0 where
  pub rest : List ℕ
  pub head : head_at stream ≡ Ok (p.session.head, rest)
  pub read : entries_of rest ≡ record (entries_of left) { entries = p.session.journal ++ (entries_of left).entries }
  pub place : p.place + length left ≡ length stream

-- it has all whole entries, and what is left is a part of one
pub record StandsFor (stream part : List ℕ) (p : Playing) : Type 0 where
  pub stands : StandsAt stream part p
  pub partial : framed_at part ≡ Err (Missing, part)

-- the bytes have this fault, and what is told is what they stand for; or no memory was left
abbrev pub IsFaultTold : ReplayFault → List ℕ → Told → Type 0
IsFaultTold (BadRecord at) stream t = ((replayed stream).fault ≡ Some (BadForm at)) × Tells (replayed stream) t
IsFaultTold (Illegal k) stream t = ((replayed stream).fault ≡ Some (BadEntry k)) × Tells (replayed stream) t
IsFaultTold OutOfMemory stream t = ⊤

-- the entry at the front of what is left was replayed; or not all of it is there
abbrev pub ReplaysNext : Result (Option ℕ) ReplayFault → List ℕ → List ℕ → Playing → Told → Type 0
ReplaysNext (Ok (Some used)) stream left p t = StandsAt stream (drop used left) p × IsKept p t
ReplaysNext (Ok None) stream left p t = StandsFor stream left p × IsKept p t
ReplaysNext (Err fault) stream left p t = IsFaultTold fault stream t

-- all whole entries were replayed
abbrev pub Replays : Result ℕ ReplayFault → List ℕ → List ℕ → Playing → Told → Type 0
Replays (Ok used) stream left p t = StandsFor stream (drop used left) p × IsKept p t
Replays (Err fault) stream left p t = IsFaultTold fault stream t

-- ---- the reading

-- the head isn't whole: the field at this place isn't all there
pub record IsInHead (stream part : List ℕ) (missing : ℕ) (t : Told) : Type 0 where
  pub part_is : part ≡ stream
  pub within : missing ≤ length stream
  pub head : head_at stream ≡ Err (Missing, drop missing stream)
  pub told : IsFirstTold t

-- the reading has come to the end of these bytes
abbrev pub IsReadingBy : Option Playing → List ℕ → List ℕ → ℕ → Told → Type 0
IsReadingBy None stream part missing t = IsInHead stream part missing t
IsReadingBy (Some p) stream part missing t = StandsFor stream part p × IsKept p t

abbrev pub IsReading : List ℕ → Course → Told → Type 0
IsReading stream c t = IsReadingBy c.playing stream c.part.items c.missing t

-- more bytes came: they are all of the head that is to be read, or stand behind the replayed entries
abbrev pub IsBeforeBy : Option Playing → List ℕ → List ℕ → Told → Type 0
IsBeforeBy None stream part t = (part ≡ stream) × IsFirstTold t
IsBeforeBy (Some p) stream part t = StandsAt stream part p × IsKept p t

abbrev pub IsBefore : List ℕ → Course → Told → Type 0
IsBefore stream c t = IsBeforeBy c.playing stream c.part.items t

-- the head was read, or isn't whole; behind it there may be whole entries
abbrev pub IsBehindHeadBy : Option Playing → List ℕ → List ℕ → ℕ → Told → Type 0
IsBehindHeadBy None stream part missing t = IsInHead stream part missing t
IsBehindHeadBy (Some p) stream part missing t = StandsAt stream part p × IsKept p t

abbrev pub IsBehindHead : List ℕ → Course → Told → Type 0
IsBehindHead stream c t = IsBehindHeadBy c.playing stream c.part.items c.missing t

abbrev pub ReadsHead : Result (Unit {0}) ReplayFault → List ℕ → Course → Told → Type 0
ReadsHead (Ok done) stream c t = IsBehindHead stream c t
ReadsHead (Err fault) stream c t = IsFaultTold fault stream t

abbrev pub ReadsOn : Result (Unit {0}) ReplayFault → List ℕ → Course → Told → Type 0
ReadsOn (Ok done) stream c t = IsReading stream c t
ReadsOn (Err fault) stream c t = IsFaultTold fault stream t
