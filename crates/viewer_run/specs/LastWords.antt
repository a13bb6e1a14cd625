-- The last word to a client, and what of all that was due to it was written.
use Rattle.std.specs.Prelude.{◌≡◌, ◌⊎◌, ℕ, Bool, true, false, List, [], ◌++◌, Result, Ok, Err, IsOk}
use Rattle.std.specs.Io.KnownBytes.{Appends}
use Rattle.mcs_dom.specs.Ultimatum.{ultimatum_packet}
use Rattle.serve_rules.specs.declared.ends.ConnEnd.{ConnEnd}
use Rattle.serve_rules.specs.declared.ends.ConnEnd.TheVariants.{Left, Refused, Truncated, NotInvited, RoomFull, JoinsSpent, ReadFault, WriteFault, NotStored, OutOfMemory}
use Rattle.viewer_run.specs.Greeting.{Replies}
use Rattle.viewer_run.specs.Ending.{ultimatum_at}
use Rattle.edge_io.specs.Outside.{Output, Outside}

-- whether a write failed or memory was wanted, so that what was written may have been cut
abbrev pub is_cut : ConnEnd → Bool
is_cut Left = false
is_cut (Refused k at) = false
is_cut Truncated = false
is_cut NotInvited = false
is_cut RoomFull = false
is_cut JoinsSpent = false
is_cut ReadFault = false
is_cut WriteFault = true
is_cut NotStored = true
is_cut OutOfMemory = true

-- an ultimatum, or none
abbrev pub IsAtMostOne : List ℕ → Type 0
IsAtMostOne word = (word ≡ []) ⊎ ((word ≡ ultimatum_packet 1) ⊎ (word ≡ ultimatum_packet 3))

-- the last word at an end, of a client that has asked for the end or not: the ultimatum that is due, if one is; where what was written may have been cut, an
-- ultimatum or none
abbrev pub IsWordAt : Bool → ConnEnd → Bool → List ℕ → Type 0
IsWordAt false end asked word = word ≡ ultimatum_at end asked
IsWordAt true end asked word = IsAtMostOne word

abbrev pub IsLastWord : ConnEnd → Bool → List ℕ → Type 0
IsLastWord end asked word = IsWordAt (is_cut end) end asked word

-- these bytes were written, or a front of them where that may have been cut
pub record Writes (end : ConnEnd) (bytes : List ℕ) (link spent : Outside) : Type 0 where
  pub written : List ℕ
  pub unwritten : List ℕ
  pub whole : bytes ≡ written ++ unwritten
  pub told : Appends link.output.told spent.output.told written
  pub all : is_cut end ≡ false → unwritten ≡ []

-- an end stays, unless its last word met another one
abbrev pub end_after : ConnEnd → Result (Unit {0}) ConnEnd → ConnEnd
end_after end (Ok done) = end
end_after end (Err other) = other

-- the last word that is due at an end was said, or a front of it, which is another end
abbrev pub SaysLast : ConnEnd → Bool → ConnEnd → (before now : Output) → Type 0
SaysLast end asked said before now = (result : Result (Unit {0}) ConnEnd)
    × Replies (ultimatum_at end asked) before now result × (ultimatum_at end asked ≡ [] → IsOk result) × (said ≡ end_after end result)
