use Rattle.std.proofs.Common.{◌<◌, ◌+◌, ℕ, Fits, w8, slice_index_or, ap, Some, arith}
use Rattle.std.proofs.lemmas.Result.{err_from_is_err_and}
use Rattle.record_file.specs.Replaying.{replayed}
use Rattle.record_file.specs.Replaying.Fault.{BadForm}
use Rattle.record_file.proofs.Stands.{entry_few, fault_few, entry_some, one_more, no_more, broken_is, kept_tells}
use Rattle.record_file.proofs.Counting.{place_within}
use Rattle.record_file.proofs.Replayed.{next_refused}
use Rattle.record_file.proofs.reading.replay_next.Goals as goal

pub replay_entry-requires-clause-used : goal.replay_entry-requires-clause-used
replay_entry-requires-clause-used c =
    let small = λ (k : ℕ). let fits : Fits w8 (slice_index_or c.args.bytes.now k 0) = c.type_inv.bytes k in let below : slice_index_or c.args.bytes.now k 0 < 256 = omega (arith, fits) in below in
    entry_few c.args.bytes.now c.in-Ok.used c.in-Ok.entry (small 0) (small 1) c.in-Ok.ensures.read.0 c.in-Ok.ensures.read.1

pub returns-in_err-replay_entry-in-Ok-clause-replayed : goal.returns-in_err-replay_entry-in-Ok-clause-replayed
returns-in_err-replay_entry-in-Ok-clause-replayed c = λ stream stands kept.
    let p = err_from_is_err_and c.from_residual.result c.from_residual.ensures.1 in
    rw (p.1, p.2) (next_refused c.in_err-replay_entry-in-Ok.field-0.0 stream c.args.bytes.now _ c.in-Ok.entry c.in-Ok.used c.args.playing.now c.replay_entry.new.playing c.args.told.now c.replay_entry.new.told
    stands kept c.in-Ok.ensures.read.1 (c.in_err-replay_entry-in-Ok.ensures.replayed kept))

pub overflow_add-at : goal.overflow_add-at
overflow_add-at c =
    let small = λ (k : ℕ). let fits : Fits w8 (slice_index_or c.args.bytes.now k 0) = c.type_inv.bytes k in let below : slice_index_or c.args.bytes.now k 0 < 256 = omega (arith, fits) in below in
    let h = rw c.in-Err-Broken.field-0-is at c.in-Err-Broken.ensures.read in
    let few = fault_few c.args.bytes.now c.in-Err-Broken.at (small 0) (small 1) h.0 h.1 in
    let p = c.args.playing.now in
    let fits = place_within p.session.head p.session.journal p.place c.in-Err-Broken.at c.recall_legal.ensures.size c.recall_legal.ensures.journal c.requires.sound.place few in
    omega (arith, fits)

pub returns-in_ok-replay_entry-in-Ok-clause-used : goal.returns-in_ok-replay_entry-in-Ok-clause-used
returns-in_ok-replay_entry-in-Ok-clause-used c =
    (entry_some c.args.bytes.now c.in-Ok.used c.in-Ok.entry c.in-Ok.ensures.read.0 c.in-Ok.ensures.read.1, c.in-Ok.ensures.read.0)

pub returns-in_ok-replay_entry-in-Ok-clause-replayed : goal.returns-in_ok-replay_entry-in-Ok-clause-replayed
returns-in_ok-replay_entry-in-Ok-clause-replayed c = λ stream stands kept.
    let g = c.in_ok-replay_entry-in-Ok.ensures.replayed kept in
    (one_more stream c.args.bytes.now c.in-Ok.used c.in-Ok.entry c.args.playing.now c.replay_entry.new.playing c.in-Ok.ensures.read.0 c.in-Ok.ensures.read.1 stands g.0, g.1)

pub returns-in-Err-Missing-clause-replayed : goal.returns-in-Err-Missing-clause-replayed
returns-in-Err-Missing-clause-replayed c = λ stream stands kept.
    let h = rw c.in-Err-Missing.field-0-is at c.in-Err-Missing.ensures.read in
    (no_more stream c.args.bytes.now _ c.args.playing.now stands h.1, kept)

pub returns-in-Err-Broken-clause-replayed : goal.returns-in-Err-Broken-clause-replayed
returns-in-Err-Broken-clause-replayed c = λ stream stands kept.
    let h = rw c.in-Err-Broken.field-0-is at c.in-Err-Broken.ensures.read in
    let p = c.args.playing.now in
    let e = broken_is stream c.args.bytes.now p c.in-Err-Broken.at stands kept.legal h.0 h.1 in
    (ap (λ r. r.fault) e, kept_tells (replayed stream) p c.args.told.now (Some (BadForm (p.place + c.in-Err-Broken.at))) e kept)
