-- A worked store, of which the second call fails, and which crashes in its second append.
use Rattle.std.proofs.Common.{◌≡◌, [], ◌∷◌, Some, None, refl, true, codes}
use Rattle.edge_io.specs.declared.source.Got.TheVariants.{Bytes, End}
use Rattle.edge_io.specs.declared.source.Got.TheVariants as got
use Rattle.edge_io.specs.declared.sink.Wrote.TheVariants as wrote
use Rattle.edge_io.specs.declared.store.Opened.TheVariants as opened
use Rattle.edge_io.specs.PlannedStore.{PlannedStore, new_store, bytes_left, call_fails, crash_now, read_answer, buffer_after, store_after_open, store_after_read, store_after_cut, store_after_append}

abbrev start : PlannedStore
start = store_after_open (new_store (codes "ab") (2 ∷ []) (Some (record { append = 2; bytes = 2 }))) opened.Open (codes "room")

named : start.name ≡ Some (codes "room")
named = refl

second_fails : read_answer start 8 ≡ got.Failed
second_fails = refl

abbrev heard : PlannedStore
heard = store_after_read start got.Failed

a_failed_read_takes_nothing : bytes_left heard ≡ codes "ab"
a_failed_read_takes_nothing = refl

third_gives : read_answer heard 8 ≡ Bytes 2
third_gives = refl

gives_at_the_front : buffer_after heard (Bytes 2) (codes "....") ≡ codes "ab.."
gives_at_the_front = refl

abbrev empty : PlannedStore
empty = store_after_read heard (Bytes 2)

at_its_end : read_answer empty 8 ≡ End
at_its_end = refl

no_crash_yet : crash_now empty ≡ None
no_crash_yet = refl

abbrev longer : PlannedStore
longer = store_after_append empty wrote.All (codes "c")

-- want of memory doesn't put the crash off
crash_comes : crash_now (store_after_append longer wrote.OutOfMemory (codes "def")) ≡ Some 2
crash_comes = refl

abbrev down : PlannedStore
down = store_after_append longer wrote.Failed (codes "def")

a_front_is_kept : down.kept ≡ codes "abcde"
a_front_is_kept = refl

two_faults : down.plan.faults ≡ 2
two_faults = refl

what_stood : down.past ≡ codes "ab" ∷ codes "abc" ∷ []
what_stood = refl

behind_the_crash : call_fails down ≡ true
behind_the_crash = refl

nothing_is_added : (store_after_append down wrote.Failed (codes "x")).kept ≡ codes "abcde"
nothing_is_added = refl

a_cut : (store_after_cut longer true 1).kept ≡ codes "a"
a_cut = refl

no_longer_by_a_cut : (store_after_cut longer true 9).kept ≡ codes "abc"
no_longer_by_a_cut = refl
