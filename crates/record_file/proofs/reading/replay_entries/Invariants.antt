use Rattle.std.proofs.Common.{◌≡◌, ℕ, List, drop, length, ◌≤◌, ◌-◌}
use Rattle.record_file.specs.Standing.{IsSound, IsKept, StandsAt}
use Rattle.record_file.proofs.reading.replay_entries.Given as goal

-- what stands at the start stands behind the entries that were replayed
abbrev pub invariant-loop-at : goal.invariant-loop-at
invariant-loop-at l = record {
  sound : IsSound l.playing;
  stop : l.told.stop ≡ l.fn.told.stop;
  within : l.at ≤ length l.bytes;
  replayed : (stream : List ℕ) → StandsAt stream l.bytes l.fn.playing → IsKept l.fn.playing l.fn.told → StandsAt stream (drop l.at l.bytes) l.playing × IsKept l.playing l.told;
}

abbrev pub decreases-loop-at : goal.decreases-loop-at
decreases-loop-at l = length l.bytes - l.at
