-- A session that goes on where its record's bytes end.
use Rattle.std.proofs.Common.{◌≡◌, ℕ, ◌+◌, ◌≤◌, List, [], ◌∷◌, ◌++◌, length, refl, ap, sym, ◌∙◌, arith, Ok, Some, None, append-nil}
use Rattle.std.specs.Prelude.{Bool, true, false, not, ◌==◌, Option}
use Rattle.std.proofs.lemmas.Bool.{eqb-true}
use Rattle.wire_num.specs.Field.{place_in}
use Rattle.session_rules.specs.declared.entry.Entry.{Entry}
use Rattle.wire_num.specs.Caused.{Caused}
use Rattle.session_rules.specs.Journal.{Head}
use Rattle.record_rules.specs.Reading.{Lack, head_at}
use Rattle.record_rules.specs.Reading.Lack.{Missing}
use Rattle.record_rules.specs.Records.{recorded, recorded_entries, journal_of_record}
use Rattle.record_rules.specs.Records.End.{Unfinished}
use Rattle.record_rules.proofs.Extends.{behind}
use Rattle.record_file.specs.declared.told.Told.{Told}
use Rattle.record_file.specs.declared.course.Course.{Course}
use Rattle.record_file.specs.declared.playing.Playing.{Playing}
use Rattle.record_file.specs.declared.replay_fault.ReplayFault.{ReplayFault}
use Rattle.record_file.specs.declared.replay_fault.ReplayFault.TheVariants.{BadRecord, Illegal, OutOfMemory}
use Rattle.record_file.specs.declared.resumed.Resumed.{Resumed}
use Rattle.record_file.specs.Replaying.{replayed}
use Rattle.record_file.specs.Replaying.Fault.{BadForm, BadEntry}
use Rattle.record_file.specs.Standing.{StandsFor, IsInHead, IsKept, IsReading, IsReadingBy}
use Rattle.record_file.specs.Replays.{ReplayOf, HasRead, HasReadBy}
use Rattle.record_file.specs.Resuming.{EndsAt, GoesOnFrom, IsResumed}
use Rattle.record_file.proofs.Stands.{ends, in_head_is}

recorded_is : (stream : List ℕ) (q : Caused Lack Head) → head_at stream ≡ q → journal_of_record stream ≡ recorded stream q
unfolding journal_of_record
recorded_is stream q e = ap (recorded stream) e

-- what was read up to the end
record_is : (stream part : List ℕ) (p : Playing) → StandsFor stream part p → journal_of_record stream ≡ record { head = Some p.session.head; entries = p.session.journal; end = Unfinished p.place }
record_is stream part p s =
    let at = s.stands.place in
    let place : place_in stream part ≡ p.place = omega (arith, at) in
    recorded_is stream (Ok (p.session.head, s.stands.rest)) s.stands.head
    ∙ ap (recorded_entries stream p.session.head) (s.stands.read ∙ ap (behind p.session.journal) (ends part Missing part s.partial))
    ∙ ap (λ (es : List Entry). record { head = Some p.session.head; entries = es; end = Unfinished (place_in stream part) }) (append-nil p.session.journal)
    ∙ ap (λ n. record { head = Some p.session.head; entries = p.session.journal; end = Unfinished n }) place

-- no bytes are left where none are said to be
pub none_left : (n l : ℕ) (empty more : Bool) → n ≡ l → empty ≡ (n == 0) → more ≡ not empty → more ≡ false → l ≡ 0
none_left n l true more same is e f = let zero_is = eqb-true n 0 (sym is) in omega (arith, zero_is, same)
none_left n l false more same is e f = absurd (cc (e, f))

ends_at : (more : Bool) (place : ℕ) (part stream : List ℕ) → (more ≡ false → length part ≡ 0) → place + length part ≡ length stream → EndsAt more place stream
ends_at true place part stream none at = omega (arith, at)
ends_at false place part stream none at = omega (arith, at, none refl)

pub some_resumed : (stream part : List ℕ) (p : Playing) (t : Told) (r : Resumed) → r.session ≡ p.session → r.place ≡ p.place → (r.more ≡ false → length part ≡ 0) → StandsFor stream part p → IsKept p t
    → GoesOnFrom stream r
some_resumed stream part p t r session place none s k =
    let at : r.place + length part ≡ length stream = omega (arith, place, s.stands.place) in
    record {
      read = rw (session, place) (record_is stream part p s);
      legal = rw session k.legal;
      ends = ends_at r.more r.place part stream none at;
    }

pub none_resumed : (stream part : List ℕ) (missing : ℕ) (t : Told) → IsInHead stream part missing t → IsResumed None stream
none_resumed stream part missing t h = λ fault. ap (λ r. r.head) (in_head_is stream missing h.within h.head)

-- of one that has ended
pub ended_resumed : (f : ReplayFault) (stream : List ℕ) (r : ReplayOf) → r.end ≡ Some f → HasRead stream r → IsResumed None stream
ended_resumed f stream r e h = by f (rw e at h)
  where
    by : (f : ReplayFault) → HasReadBy (Some f) stream r.course r.told → IsResumed None stream
    by (BadRecord at) k = λ fault. absurd (cc (fault, k.0))
    by (Illegal n) k = λ fault. absurd (cc (fault, k.0))
    by OutOfMemory k = absurd k
