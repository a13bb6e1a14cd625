-- A store in memory that fails at listed calls, and which may crash within an append.
use Rattle.std.specs.Prelude.{◌≡◌, ◌⊎◌, ℕ, ◌+◌, ◌==◌, min, Bool, true, false, ◌||◌, List, [], ◌∷◌, ◌++◌, length, take, drop, if◌then◌else◌, IsSome, ⊤}
use mathlib.Core.Logic.{inl, inr}
use Rattle.std.specs.declared.option.Option.{Option}
use Rattle.std.specs.declared.option.Option.TheVariants.{Some, None}
use Rattle.edge_io.specs.declared.crash.Crash.{Crash}
use Rattle.edge_io.specs.declared.source.Got.{Got}
use Rattle.edge_io.specs.declared.source.Got.TheVariants as got
use Rattle.edge_io.specs.declared.sink.Wrote.{Wrote}
use Rattle.edge_io.specs.declared.sink.Wrote.TheVariants as wrote
use Rattle.edge_io.specs.declared.store.Opened.{Opened}
use Rattle.edge_io.specs.declared.store.Opened.TheVariants as opened
use Rattle.edge_io.specs.Faults.{raised}
use Rattle.edge_io.specs.Plan.{CallPlan, new_plan, next_fails}
use Rattle.edge_io.specs.Supply.{answer_of_count}

-- the bytes that stand in it, how many were read, the name of the last opening, the plan, the crash, how many appends were whole, whether it has crashed, and what stood in it before
pub record PlannedStore : Type 0 where
  pub kept : List ℕ
  pub read : ℕ
  pub name : Option (List ℕ)
  pub plan : CallPlan
  pub crash : Option Crash
  pub appends : ℕ
  pub crashed : Bool
  pub past : List (List ℕ)

-- a store before any call
abbrev pub new_store : List ℕ → List ℕ → Option Crash → PlannedStore
new_store bytes fails crash = record { kept = bytes; read = 0; name = None; plan = new_plan fails; crash = crash; appends = 0; crashed = false; past = [] }

-- the bytes that weren't read yet
abbrev pub bytes_left : PlannedStore → List ℕ
bytes_left store = drop store.read store.kept

-- ---- what fails

-- whether the next call is to fail: each one behind the crash is
abbrev pub call_fails : PlannedStore → Bool
call_fails store = store.crashed || next_fails store.plan

-- how many bytes a crash keeps of an append with this number
abbrev pub kept_at : ℕ → Option Crash → Option ℕ
kept_at append None = None
kept_at append (Some crash) = if crash.append == append then Some crash.bytes else None

-- how many the crash keeps of the next append, where it comes there
abbrev pub crash_now : PlannedStore → Option ℕ
crash_now store = kept_at (raised store.appends) store.crash

-- after one more call, which fails or doesn't
abbrev pub store_counted : Bool → PlannedStore → PlannedStore
store_counted fails store = record store {
  plan = record {
    fails = store.plan.fails;
    calls = raised store.plan.calls;
    faults = if fails then raised store.plan.faults else store.plan.faults;
  };
}

-- other bytes stand in it
abbrev pub store_changed : List ℕ → PlannedStore → PlannedStore
store_changed bytes store = record store { kept = bytes; past = store.past ++ store.kept ∷ [] }

-- ---- the calls

-- it fails where it is to; want of memory for the name is a failure too
abbrev pub OpensAsPlanned : Bool → Opened → Type 0
OpensAsPlanned fails opened.Open = fails ≡ false
OpensAsPlanned fails opened.Failed = ⊤

abbrev pub store_after_open : PlannedStore → Opened → List ℕ → PlannedStore
store_after_open store opened.Open name = record (store_counted false store) { read = 0; name = Some name }
store_after_open store opened.Failed name = store_counted true store

-- how many bytes a read into so much room gives
abbrev pub count_read : PlannedStore → ℕ → ℕ
count_read store room = min room (length (bytes_left store))

abbrev pub read_answer : PlannedStore → ℕ → Got
read_answer store room = if call_fails store then got.Failed else answer_of_count (count_read store room)

-- the bytes stand at the front of the buffer
abbrev pub buffer_after : PlannedStore → Got → List ℕ → List ℕ
buffer_after store (got.Bytes count) buf = take count (bytes_left store) ++ drop count buf
buffer_after store got.End buf = buf
buffer_after store got.Failed buf = buf

abbrev pub store_after_read : PlannedStore → Got → PlannedStore
store_after_read store (got.Bytes count) = record (store_counted false store) { read = store.read + count }
store_after_read store got.End = store_counted false store
store_after_read store got.Failed = store_counted true store

-- it fails where it is to; so does want of memory
abbrev pub CutsAsPlanned : Bool → Bool → Type 0
CutsAsPlanned fails true = fails ≡ false
CutsAsPlanned fails false = ⊤

abbrev pub store_after_cut : PlannedStore → Bool → ℕ → PlannedStore
store_after_cut store true length = store_changed (take length store.kept) (store_counted false store)
store_after_cut store false length = store_counted true store

-- it fails exactly where it is to, or where the crash comes; memory is wanted of no call that is to fail
abbrev pub AppendsAsPlanned : PlannedStore → Wrote → Type 0
AppendsAsPlanned store wrote.All = (call_fails store ≡ false) × (crash_now store ≡ None)
AppendsAsPlanned store wrote.Failed = (call_fails store ≡ true) ⊎ IsSome (crash_now store)
AppendsAsPlanned store wrote.OutOfMemory = call_fails store ≡ false

-- all of these bytes are kept
abbrev pub store_appended : List ℕ → PlannedStore → PlannedStore
store_appended bytes store = record (store_changed (store.kept ++ bytes) store) { appends = raised store.appends }

-- the crash comes, and so many of them are
abbrev pub store_down : ℕ → List ℕ → PlannedStore → PlannedStore
store_down count bytes store = record (store_changed (store.kept ++ take count bytes) store) { crashed = true; plan = record store.plan { faults = raised store.plan.faults } }

-- how an append ends that fails: the crash comes, or nothing does
abbrev pub store_failed : Bool → Option ℕ → List ℕ → PlannedStore → PlannedStore
store_failed true crash bytes store = store_counted true store
store_failed false None bytes store = store_counted true store
store_failed false (Some count) bytes store = store_down count bytes (store_counted false store)

abbrev pub store_after_append : PlannedStore → Wrote → List ℕ → PlannedStore
store_after_append store wrote.All bytes = store_appended bytes (store_counted false store)
store_after_append store wrote.Failed bytes = store_failed (call_fails store) (crash_now store) bytes store
store_after_append store wrote.OutOfMemory bytes = store_counted false store

-- ---- what a crash might have left

-- one of these contents is this
abbrev pub HadBeen : List (List ℕ) → List ℕ → Type 0
HadBeen [] bytes = ⊥
HadBeen (content ∷ past) bytes = (bytes ≡ content) ⊎ HadBeen past bytes

-- it stands there, or stood there at this moment or later
abbrev pub StoodSince : PlannedStore → ℕ → List ℕ → Type 0
StoodSince store moment bytes = (bytes ≡ store.kept) ⊎ HadBeen (drop moment store.past) bytes

none_stood : (past : List (List ℕ)) (bytes : List ℕ) → HadBeen (drop (length past) past) bytes → ⊥
none_stood [] bytes had = had
none_stood (content ∷ past) bytes had = none_stood past bytes had

-- since this moment there is what is there now
pub only_kept : (store : PlannedStore) (bytes : List ℕ) → StoodSince store (length store.past) bytes → bytes ≡ store.kept
only_kept store bytes (inl now) = now
only_kept store bytes (inr had) = absurd (none_stood store.past bytes had)
