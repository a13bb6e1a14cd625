-- What a replay tells, and what it answers.
use Rattle.std.proofs.Common.{◌≡◌, ℕ, List, [], ◌++◌, drop, refl, ap, sym, subst, ◌∙◌, arith, Ok, Err, Some, None}
use Rattle.std.specs.Prelude.{Option, Result, OnOk, is_some, true, false}
use Rattle.std.proofs.lemmas.List.{length-drop}
use Rattle.wire_num.specs.Field.{place_in}
use Rattle.wire_num.specs.Caused.{Caused}
use Rattle.session_rules.specs.declared.entry.Entry.{Entry}
use Rattle.session_rules.specs.Journal.{Head, IsLegalJournal}
use Rattle.record_rules.specs.Reading.{Lack, head_at}
use Rattle.record_rules.specs.Reading.Lack.{Missing}
use Rattle.record_rules.specs.Tables.{record_bytes, is_recordable_head}
use Rattle.record_rules.specs.Records.{recorded, journal_of_record}
use Rattle.record_rules.specs.Records.End.{Unfinished}
use Rattle.record_file.specs.declared.told.Told.{Told}
use Rattle.record_file.specs.declared.course.Course.{Course}
use Rattle.record_file.specs.declared.playing.Playing.{Playing}
use Rattle.record_file.specs.declared.replay_fault.ReplayFault.{ReplayFault}
use Rattle.record_file.specs.declared.replay_fault.ReplayFault.TheVariants.{BadRecord, Illegal, OutOfMemory}
use Rattle.record_file.specs.Replaying.{Fault, Replayed, replayed}
use Rattle.record_file.specs.Replaying.Fault.{BadForm, BadEntry}
use Rattle.record_file.specs.Told.{Tells, IsFirstTold}
use Rattle.record_file.specs.Standing.{IsReading, IsReadingBy, ReadsOn, IsInHead, IsFaultTold, StandsFor, IsKept}
use Rattle.record_file.specs.Replays.{ReplayOf, HasRead, HasReadBy, end_of, IsAnswered, UnlessMemory, IsNeverRefused, TellsFrontIfWhole, IsMissing}
use Rattle.record_file.proofs.Stands.{in_head_is, whole_is, first_tells, kept_tells}
use Rattle.record_file.proofs.Fronts.{fault_stays, front_faultless, front_told}

-- a reading that goes on has found no fault
pub reading_is : (stream : List ℕ) (c : Course) (t : Told) → IsReading stream c t → ((replayed stream).fault ≡ None) × Tells (replayed stream) t
reading_is stream c t h = by c.playing h
  where
    by : (o : Option Playing) → IsReadingBy o stream c.part.items c.missing t → ((replayed stream).fault ≡ None) × Tells (replayed stream) t
    by None k =
        let e = in_head_is stream c.missing k.within k.head in
        (ap (λ r. r.fault) e, first_tells (replayed stream) t None e k.told)
    by (Some p) k =
        let e = whole_is stream c.part.items p k.0 k.1.legal in
        (ap (λ r. r.fault) e, kept_tells (replayed stream) p t None e k.1)

pub fault_answer : (f : ReplayFault) (stream : List ℕ) (t : Told) → IsFaultTold f stream t → IsAnswered (Err f) (replayed stream).fault
fault_answer (BadRecord at) stream t h = h.0
fault_answer (Illegal k) stream t h = h.0
fault_answer OutOfMemory stream t h = tt

pub fault_read : (f : ReplayFault) (stream : List ℕ) (c : Course) (t : Told) → IsFaultTold f stream t → UnlessMemory (Err f) (HasReadBy (Some f) stream c t)
fault_read (BadRecord at) stream c t h = h
fault_read (Illegal k) stream c t h = h
fault_read OutOfMemory stream c t h = tt

-- a fault stays, whatever comes
pub ended_fault : (f : ReplayFault) (stream more : List ℕ) (c : Course) (t : Told) → HasReadBy (Some f) stream c t → IsFaultTold f (stream ++ more) t
ended_fault (BadRecord at) stream more c t h =
    let e = fault_stays stream more (BadForm at) h.0 in
    (ap (λ r. r.fault) e ∙ h.0, subst (λ (r : Replayed). Tells r t) (sym e) h.1)
ended_fault (Illegal k) stream more c t h =
    let e = fault_stays stream more (BadEntry k) h.0 in
    (ap (λ r. r.fault) e ∙ h.0, subst (λ (r : Replayed). Tells r t) (sym e) h.1)
ended_fault OutOfMemory stream more c t h = absurd h

pub never : (result : Result (Unit {0}) ReplayFault) (o : Option Fault) → IsAnswered result o → o ≡ None → IsNeverRefused result
never (Ok done) o h k = tt
never (Err (BadRecord at)) o h k = absurd (cc (h, k))
never (Err (Illegal n)) o h k = absurd (cc (h, k))
never (Err OutOfMemory) o h k = tt

pub has_told : (end : Option ReplayFault) (stream : List ℕ) (c : Course) (t : Told) → HasReadBy end stream c t → Tells (replayed stream) t
has_told None stream c t h = (reading_is stream c t h).1
has_told (Some (BadRecord at)) stream c t h = h.1
has_told (Some (Illegal k)) stream c t h = h.1
has_told (Some OutOfMemory) stream c t h = absurd h

-- of a front of a legal record
pub legal_never : (result : Result (Unit {0}) ReplayFault) (stream rest : List ℕ) (head : Head) (j : List Entry) → IsAnswered result (replayed stream).fault → is_recordable_head head ≡ true → IsLegalJournal head j
    → record_bytes head j ≡ stream ++ rest → IsNeverRefused result
legal_never result stream rest head j answer h legal e = never result (replayed stream).fault answer (front_faultless head j stream rest h legal e)

pub legal_told : (stream rest : List ℕ) (head : Head) (j : List Entry) (c : Course) (t : Told) → IsReading stream c t → is_recordable_head head ≡ true → IsLegalJournal head j
    → record_bytes head j ≡ stream ++ rest → TellsFrontIfWhole head j stream t
legal_told stream rest head j c t reading h legal e = λ long. front_told head j stream rest t h legal e (reading_is stream c t reading).1 long

-- ---- the field of the head that isn't all there

recorded_is : (stream : List ℕ) (q : Caused Lack Head) → head_at stream ≡ q → journal_of_record stream ≡ recorded stream q
unfolding journal_of_record
recorded_is stream q e = ap (recorded stream) e

pub missing_is : (stream part : List ℕ) (missing : ℕ) (t : Told) → IsInHead stream part missing t → IsMissing (Some missing) (replayed stream) (journal_of_record stream).end
missing_is stream part missing t h =
    let l = length-drop missing stream in
    let place : place_in stream (drop missing stream) ≡ missing = omega (arith, l, h.within) in (
      ap (λ r. r.head) (in_head_is stream missing h.within h.head),
      ap (λ r. r.end) (recorded_is stream (Err (Missing, drop missing stream)) h.head) ∙ ap Unfinished place,
    )

none_or_some : {A : Type 0} (o : Option A) (x : A) → o ≡ None → o ≡ Some x → ⊥
none_or_some o x h k = absurd (cc (h, k))

pub none_missing : (stream part : List ℕ) (p : Playing) (t : Told) → StandsFor stream part p → IsKept p t → IsMissing None (replayed stream) (journal_of_record stream).end
none_missing stream part p t s k = λ head fault. none_or_some (replayed stream).head p.session.head head (ap (λ r. r.head) (whole_is stream part p s k.legal))

pub ended_missing : (f : ReplayFault) (stream : List ℕ) (c : Course) (t : Told) → HasReadBy (Some f) stream c t → IsMissing None (replayed stream) (journal_of_record stream).end
ended_missing (BadRecord at) stream c t h = λ head fault. none_or_some (replayed stream).fault (BadForm at) fault h.0
ended_missing (Illegal k) stream c t h = λ head fault. none_or_some (replayed stream).fault (BadEntry k) fault h.0
ended_missing OutOfMemory stream c t h = absurd h

-- ---- a replay

-- one that has ended
pub ended_by : (r : ReplayOf) (f : ReplayFault) (stream more : List ℕ) → r.end ≡ Some f → HasRead stream r → IsFaultTold f (stream ++ more) r.told
ended_by r f stream more e h = ended_fault f stream more r.course r.told (subst (λ (o : Option ReplayFault). HasReadBy o stream r.course r.told) e h)

-- one that goes on
pub goes_by : (r : ReplayOf) (stream : List ℕ) → r.end ≡ None → HasRead stream r → IsReading stream r.course r.told
goes_by r stream e h = subst (λ (o : Option ReplayFault). HasReadBy o stream r.course r.told) e h

-- the answer of one that goes on
pub on_answer : (result : Result (Unit {0}) ReplayFault) (stream : List ℕ) (c : Course) (t : Told) → ReadsOn result stream c t → IsAnswered result (replayed stream).fault
on_answer (Ok done) stream c t h = (reading_is stream c t h).0
on_answer (Err f) stream c t h = fault_answer f stream t h

pub on_read : (result : Result (Unit {0}) ReplayFault) (stream : List ℕ) (r : ReplayOf) → r.end ≡ end_of result → ReadsOn result stream r.course r.told → UnlessMemory result (HasRead stream r)
on_read (Ok done) stream r e h = subst (λ (o : Option ReplayFault). HasReadBy o stream r.course r.told) (sym e) h
on_read (Err (BadRecord at)) stream r e h = subst (λ (o : Option ReplayFault). HasReadBy o stream r.course r.told) (sym e) h
on_read (Err (Illegal k)) stream r e h = subst (λ (o : Option ReplayFault). HasReadBy o stream r.course r.told) (sym e) h
on_read (Err OutOfMemory) stream r e h = tt

pub on_legal : (result : Result (Unit {0}) ReplayFault) (stream rest : List ℕ) (head : Head) (j : List Entry) (c : Course) (t : Told) → ReadsOn result stream c t → is_recordable_head head ≡ true → IsLegalJournal head j
    → record_bytes head j ≡ stream ++ rest → IsNeverRefused result × OnOk result (TellsFrontIfWhole head j stream t)
on_legal (Ok done) stream rest head j c t h held legal e = (tt, legal_told stream rest head j c t h held legal e)
on_legal (Err f) stream rest head j c t h held legal e = (legal_never (Err f) stream rest head j (fault_answer f stream t h) held legal e, tt)

-- the answers of one that has ended
pub ended_read : (f : ReplayFault) (stream : List ℕ) (r : ReplayOf) → r.end ≡ Some f → IsFaultTold f stream r.told → UnlessMemory (Err f) (HasRead stream r)
ended_read (BadRecord at) stream r e h = subst (λ (o : Option ReplayFault). HasReadBy o stream r.course r.told) (sym e) h
ended_read (Illegal k) stream r e h = subst (λ (o : Option ReplayFault). HasReadBy o stream r.course r.told) (sym e) h
ended_read OutOfMemory stream r e h = tt

abbrev refused_by : ReplayFault → Result (Unit {0}) ReplayFault
refused_by f = Err f

pub ended_legal : (f : ReplayFault) (stream rest : List ℕ) (head : Head) (j : List Entry) (t u : Told) → IsFaultTold f stream t → is_recordable_head head ≡ true → IsLegalJournal head j
    → record_bytes head j ≡ stream ++ rest → IsNeverRefused (Err f) × OnOk (refused_by f) (TellsFrontIfWhole head j stream u)
ended_legal f stream rest head j t u h held legal e = (legal_never (Err f) stream rest head j (fault_answer f stream t h) held legal e, tt)

-- what it tells
pub read_tells : (r : ReplayOf) (stream : List ℕ) → HasRead stream r → Tells (replayed stream) r.told
read_tells r stream h = has_told r.end stream r.course r.told h

-- ---- before the first byte

pub first_read : (part : List ℕ) (t : Told) → part ≡ [] → IsFirstTold t → IsInHead [] part 0 t
unfolding head_at
first_read part t e f = record { part_is = e; within = omega arith; head = refl; told = f }

-- ---- whether the head is missing

none_of : {A : Type 0} (o : Option A) → is_some o ≡ false → o ≡ None
none_of None h = refl
none_of (Some x) h = absurd (cc h)

pub missing_known : (r : ReplayOf) (stream : List ℕ) → is_some r.end ≡ false → is_some r.course.playing ≡ true → HasRead stream r → IsMissing None (replayed stream) (journal_of_record stream).end
missing_known r stream e p h = by r.course.playing p (goes_by r stream (none_of r.end e) h)
  where
    by : (o : Option Playing) → is_some o ≡ true → IsReadingBy o stream r.course.part.items r.course.missing r.told → IsMissing None (replayed stream) (journal_of_record stream).end
    by None f k = absurd (cc f)
    by (Some q) f k = none_missing stream r.course.part.items q r.told k.0 k.1

pub missing_unknown : (r : ReplayOf) (stream : List ℕ) → is_some r.end ≡ false → is_some r.course.playing ≡ false → HasRead stream r
    → IsMissing (Some r.course.missing) (replayed stream) (journal_of_record stream).end
missing_unknown r stream e p h = by r.course.playing p (goes_by r stream (none_of r.end e) h)
  where
    by : (o : Option Playing) → is_some o ≡ false → IsReadingBy o stream r.course.part.items r.course.missing r.told → IsMissing (Some r.course.missing) (replayed stream) (journal_of_record stream).end
    by None f k = missing_is stream r.course.part.items r.course.missing r.told k
    by (Some q) f k = absurd (cc f)
