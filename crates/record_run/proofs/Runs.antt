-- A record that was read, and what is then written.
use Rattle.std.proofs.Common.{◌≡◌, ◌∙◌, ℕ, List, [], ◌++◌, Bool, refl, subst, sym, ap, append_assoc, append-nil}
use Rattle.std.specs.Prelude.{Result, Ok, Err, IfErr}
use Rattle.std.specs.declared.option.Option.{Option}
use Rattle.std.specs.declared.option.Option.TheVariants.{Some, None}
use Rattle.std.specs.Io.KnownBytes.{Consumes, Keeps, IsAtEnd}
use Rattle.std.proofs.KnownBytes.{Keeps-refl}
use Rattle.edge_io.specs.Sink.{WritesFront}
use Rattle.script_run.specs.declared.fault.ScriptFault.{ScriptFault}
use Rattle.script_run.specs.declared.fault.ScriptFault.TheVariants as fault
use Rattle.script_run.specs.Run.{Tells, ReadsCause, WritesCause}
use Rattle.script_run.specs.Steps.{IsWriteFault}
use Rattle.record_file.specs.Replays.{ReplayOf, HasRead}
use Rattle.record_run.specs.Shown.{shown, text_of}
use Rattle.record_run.specs.Replays.{HasFed, HasFedAll, IsReadFault, WritesShown, WritesReplayFront, ReplaysRecord}
use Rattle.record_run.proofs.Written.{nothing}
use Rattle.record_run.proofs.Shows.{shows_journal, by_holders}

-- ---- reading

pub fed_none : (r : ReplayOf) (left : Option (List ℕ)) → HasRead [] r → HasFed r left left
fed_none r None h = tt
fed_none r (Some bytes) h = ([], refl, h)

-- more was read
pub fed_more : (r s : ReplayOf) (left mid rest : Option (List ℕ)) (piece : List ℕ) → HasFed r left mid → Consumes mid rest piece
    → ((stream : List ℕ) → HasRead stream r → HasRead (stream ++ piece) s) → HasFed s left rest
fed_more r s None mid rest piece h c feeds = tt
fed_more r s (Some bytes) None rest piece h c feeds = absurd h
fed_more r s (Some bytes) (Some m) None piece h c feeds = absurd c
fed_more r s (Some bytes) (Some m) (Some x) piece h c feeds =
    (h.0 ++ piece, h.1 ∙ ap (λ y. h.0 ++ y) c ∙ sym (append_assoc h.0 piece x), feeds h.0 h.2)

-- nothing is left
pub fed_all : (r : ReplayOf) (left mid rest : Option (List ℕ)) → HasFed r left mid → IsAtEnd mid → Keeps mid rest → HasFedAll r left rest
fed_all r None mid rest h end same = tt
fed_all r (Some bytes) None rest h end same = absurd h
fed_all r (Some bytes) (Some m) None h end same = absurd same
fed_all r (Some bytes) (Some m) (Some x) h end same =
    let is : bytes ≡ h.0 = h.1 ∙ ap (λ y. h.0 ++ y) end ∙ append-nil h.0 in
    (subst (λ (bs : List ℕ). HasRead bs r) (sym is) h.2, same ∙ end)

-- ---- the run

front_of : (stop : ℕ) (bytes : List ℕ) (told telling : Option (List ℕ)) → WritesFront told telling (text_of stop (shown stop bytes)) → WritesReplayFront stop bytes told telling
front_of stop bytes told telling w = record { written = w; shows_journal = shows_journal stop bytes; by_holders = by_holders bytes }

no_text : (left told : Option (List ℕ)) (stop : ℕ) → Tells left (λ bytes. WritesReplayFront stop bytes told told)
no_text None told stop = tt
no_text (Some bytes) told stop = front_of stop bytes told told (nothing told (text_of stop (shown stop bytes)))

-- a reading failed
pub stops_reading : (f : ScriptFault) (stop : ℕ) (left rest told : Option (List ℕ)) → IsReadFault f → ReplaysRecord (Err f) stop left rest told told
stops_reading (fault.Line k rule) stop left rest told is = absurd is
stops_reading fault.ReadFault stop left rest told is = Keeps-refl told
stops_reading fault.WriteFault stop left rest told is = absurd is
stops_reading fault.OutOfMemory stop left rest told is = no_text left told stop

pub stops_cause : (f : ScriptFault) (n : ℕ) → IsReadFault f → WritesCause {T = Bool} (Err f) n n
stops_cause (fault.Line k rule) n is = absurd is
stops_cause fault.ReadFault n is = refl
stops_cause fault.WriteFault n is = absurd is
stops_cause fault.OutOfMemory n is = refl

pub same_reads_cause : (T U : Type 0) (f : ScriptFault) (n m : ℕ) → ReadsCause {T = T} (Err f) n m → ReadsCause {T = U} (Err f) n m
same_reads_cause T U (fault.Line k rule) n m is = is
same_reads_cause T U fault.ReadFault n m is = is
same_reads_cause T U fault.WriteFault n m is = is
same_reads_cause T U fault.OutOfMemory n m is = is

-- what is shown was written
pub shown_whole : (answer : Result Bool ScriptFault) (r : ReplayOf) (stop : ℕ) (left rest told telling : Option (List ℕ)) → IfErr answer IsWriteFault
    → ((stream : List ℕ) → HasRead stream r → WritesShown answer stop (shown stop stream) told telling) → HasFedAll r left rest → ReplaysRecord answer stop left rest told telling
shown_whole (Ok pictured) r stop None rest told telling is writes all = tt
shown_whole (Ok pictured) r stop (Some bytes) rest told telling is writes all =
    let w = writes bytes all.0 in
    record { written = w.0; pictured_is = w.1; at_end = all.1; shows_journal = shows_journal stop bytes; by_holders = by_holders bytes }
shown_whole (Err (fault.Line k rule)) r stop left rest told telling is writes all = absurd is
shown_whole (Err fault.ReadFault) r stop left rest told telling is writes all = absurd is
shown_whole (Err fault.WriteFault) r stop None rest told telling is writes all = tt
shown_whole (Err fault.WriteFault) r stop (Some bytes) rest told telling is writes all = front_of stop bytes told telling (writes bytes all.0)
shown_whole (Err fault.OutOfMemory) r stop None rest told telling is writes all = tt
shown_whole (Err fault.OutOfMemory) r stop (Some bytes) rest told telling is writes all = front_of stop bytes told telling (writes bytes all.0)

pub reads_same : (answer : Result Bool ScriptFault) (n m : ℕ) → IfErr answer IsWriteFault → m ≡ n → ReadsCause answer n m
reads_same (Ok pictured) n m f is = is
reads_same (Err (fault.Line k rule)) n m f is = absurd f
reads_same (Err fault.ReadFault) n m f is = absurd f
reads_same (Err fault.WriteFault) n m f is = is
reads_same (Err fault.OutOfMemory) n m f is = is
