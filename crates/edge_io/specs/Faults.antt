-- Counts of faults.
use Rattle.std.specs.Prelude.{ℕ, ◌+◌, ◌-◌, ◌^◌, ◌≤◌, min}

-- the last value of a counter of 64 bits, at which it stands still
abbrev pub last_count : ℕ
last_count = 2 ^ 64 - 1

-- a counter that is raised by one
abbrev pub raised : ℕ → ℕ
raised count = min (count + 1) last_count

-- a count of faults rose: it fell nowhere, and is greater now, or stands at a counter's last value
abbrev pub Rose : ℕ → ℕ → Type 0
Rose before now = (before ≤ now) × (raised before ≤ now)
