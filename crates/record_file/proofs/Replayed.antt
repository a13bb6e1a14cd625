-- An entry that isn't legal is the first fault, and whole entries are replayed one after the other.
use Rattle.std.proofs.Common.{◌≡◌, ℕ, ◌+◌, ◌≤◌, List, ◌++◌, length, drop, refl, ap, sym, subst, ◌∙◌, Ok, Err, Some, None}
use Rattle.std.specs.Prelude.{Option, is_some, true, false}
use Rattle.std.proofs.lemmas.List.{drop-drop, drop_all}
use Rattle.session_rules.specs.declared.entry.Entry.{Entry}
use Rattle.record_rules.specs.Reading.{framed_at}
use Rattle.record_file.specs.declared.told.Told.{Told}
use Rattle.record_file.specs.declared.playing.Playing.{Playing}
use Rattle.record_file.specs.declared.replay_fault.ReplayFault.{ReplayFault}
use Rattle.record_file.specs.declared.replay_fault.ReplayFault.TheVariants.{BadRecord, Illegal, OutOfMemory}
use Rattle.record_file.specs.Replaying.{replayed}
use Rattle.record_file.specs.Replaying.Fault.{BadEntry}
use Rattle.record_file.specs.Told.{Tells, IsFirstTold}
use Rattle.record_file.specs.Standing.{IsKept, StandsAt, StandsFor, ReplaysOne, ReplaysNext, Replays, IsFaultTold, IsReadingBy, IsBeforeBy, IsBehindHeadBy}
use Rattle.record_file.proofs.Stands.{illegal_is, kept_tells, nothing_left, more_bytes}

pub next_refused : (f : ReplayFault) (stream left rest : List ℕ) (e : Entry) (used : ℕ) (p q : Playing) (t u : Told) → StandsAt stream left p → IsKept p t → framed_at left ≡ Ok (e, rest)
    → ReplaysOne (Err f) e used p t q u → IsFaultTold f stream u
next_refused (BadRecord at) stream left rest e used p q t u s k is h = absurd h
next_refused (Illegal n) stream left rest e used p q t u s k is h =
    let i = illegal_is stream left rest p e s k.legal is h.0 in (
      ap (λ r. r.fault) i ∙ ap (λ m. Some (BadEntry m)) (sym (h.1 ∙ k.length)),
      subst (λ (x : Told). Tells (replayed stream) x) (sym h.2) (kept_tells (replayed stream) p t (Some (BadEntry (length p.session.journal))) i k),
    )
next_refused OutOfMemory stream left rest e used p q t u s k is h = tt

-- from a place on
pub further : (stream bytes : List ℕ) (at used : ℕ) (p : Playing) → StandsAt stream (drop used (drop at bytes)) p → StandsAt stream (drop (at + used) bytes) p
further stream bytes at used p s = subst (λ (left : List ℕ). StandsAt stream left p) (drop-drop used at bytes) s

-- all was replayed
pub all_replayed : (stream bytes : List ℕ) (at : ℕ) (p : Playing) → StandsAt stream (drop at bytes) p → length bytes ≤ at → StandsFor stream (drop at bytes) p
all_replayed stream bytes at p s h = nothing_left stream (drop at bytes) p s (drop_all at bytes h)

-- what comes of the next entry, from a place on
pub next_faulty : (f : ReplayFault) (stream left : List ℕ) (p : Playing) (t : Told) → ReplaysNext (Err f) stream left p t → Replays (Err f) stream left p t
next_faulty f stream left p t h = h

-- ---- more bytes came

pub more_came : (o : Option Playing) (stream more part next : List ℕ) (missing : ℕ) (t : Told) → next ≡ part ++ more → IsReadingBy o stream part missing t → IsBeforeBy o (stream ++ more) next t
more_came None stream more part next missing t is h = (is ∙ ap (λ xs. xs ++ more) h.part_is, h.told)
more_came (Some p) stream more part next missing t is h = (subst (λ (xs : List ℕ). StandsAt (stream ++ more) xs p) (sym is) (more_bytes stream part more p h.0), h.1)

-- the head was read before
pub head_known : (o : Option Playing) (stream part : List ℕ) (missing : ℕ) (t : Told) → is_some o ≡ true → IsBeforeBy o stream part t → IsBehindHeadBy o stream part missing t
head_known None stream part missing t e h = absurd (cc e)
head_known (Some p) stream part missing t e h = h

-- it is to be read
pub head_unknown : (o : Option Playing) (stream part : List ℕ) (t : Told) → o ≡ None → IsBeforeBy o stream part t → (part ≡ stream) × IsFirstTold t
head_unknown None stream part t e h = h
head_unknown (Some p) stream part t e h = absurd (cc e)

pub unknown : (o : Option Playing) → is_some o ≡ false → o ≡ None
unknown None h = refl
unknown (Some p) h = absurd (cc h)

-- ---- the entries behind the head

pub behind_some : (o : Option Playing) (p : Playing) (stream part : List ℕ) (missing : ℕ) (t : Told) → o ≡ Some p → IsBehindHeadBy o stream part missing t → StandsAt stream part p × IsKept p t
behind_some o p stream part missing t e h = subst (λ (x : Option Playing). IsBehindHeadBy x stream part missing t) e h

pub rest_done : (stream part bytes rest : List ℕ) (used : ℕ) (p q : Playing) (t u : Told) → bytes ≡ part → rest ≡ drop used part
    → (StandsAt stream bytes p → IsKept p t → StandsFor stream (drop used bytes) q × IsKept q u) → StandsAt stream part p → IsKept p t → StandsFor stream rest q × IsKept q u
rest_done stream part bytes rest used p q t u e f go s k =
    let done = go (subst (λ (xs : List ℕ). StandsAt stream xs p) (sym e) s) k in
    (subst (λ (xs : List ℕ). StandsFor stream xs q) (ap (drop used) e ∙ sym f) done.0, done.1)
