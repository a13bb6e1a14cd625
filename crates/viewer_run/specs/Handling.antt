-- What an event does to a session.
use Rattle.std.specs.Prelude.{◌≡◌, ℕ, nat_lt, List, ◌++◌, Option, Some, None, option_to_list, Result, Ok, Err, if◌then◌else◌}
use Rattle.wire_num.specs.declared.out_of_memory.OutOfMemory.{OutOfMemory as OutOfMemoryAnswer}
use Rattle.session_rules.specs.declared.entry.Entry.{Entry}
use Rattle.session_core.specs.declared.faults.InputRefusal.{InputRefusal}
use Rattle.session_core.specs.declared.faults.InputRefusal.TheVariants.{NotHolder, JournalFull, OutOfMemory}
use Rattle.serve_rules.specs.Turns.{place_after}

-- its entry, if it has one, was appended, and its place was given; where memory was wanted nothing was
abbrev pub HandledHere : Result (Option ℕ) OutOfMemoryAnswer → Option Entry → List Entry → List Entry → Type 0
HandledHere (Ok place) entry old new = (new ≡ old ++ option_to_list entry) × (place ≡ place_after old entry)
HandledHere (Err refusal) entry old new = new ≡ old

-- the place of what was appended to a list of this length, if anything was
abbrev pub place_between : ℕ → ℕ → Option ℕ
place_between before after = if nat_lt before after then Some before else None

-- an event that was done has the place of what was appended, one that was refused has none
abbrev pub SettledAs : Result (Unit {0}) InputRefusal → ℕ → ℕ → Result (Option ℕ) OutOfMemoryAnswer → Type 0
SettledAs (Ok done) before after result = result ≡ Ok (place_between before after)
SettledAs (Err (NotHolder holder)) before after result = result ≡ Ok None
SettledAs (Err JournalFull) before after result = result ≡ Ok None
SettledAs (Err OutOfMemory) before after result = (refusal : OutOfMemoryAnswer) × (result ≡ Err refusal)
