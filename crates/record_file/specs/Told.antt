-- What a replay tells.
use Rattle.std.specs.Prelude.{◌≡◌, ℕ, ◌==◌, List, length, Option, Some, None, option_map, Vec, if◌then◌else◌}
use Rattle.session_rules.specs.Journal.{picture_after_entries}
use Rattle.session_core.specs.SessionModel.{SessionModel}
use Rattle.record_file.specs.declared.told.Told.{Told}
use Rattle.record_file.specs.Replaying.{Replayed, picture_at}

-- pixels that may be kept
abbrev pub pixels_in : {Z : Type 0} → Option (Vec ℕ Z) → Option (List ℕ)
pixels_in None = None
pixels_in (Some pixels) = Some pixels.items

abbrev pub told_picture : Told → Option (List ℕ)
told_picture t = pixels_in t.picture

-- what bytes stand for is told
pub record Tells (r : Replayed) (t : Told) : Type 0 where
  pub size : t.size ≡ option_map (λ h. h.size) r.head
  pub length : t.length ≡ length r.entries
  pub picture : told_picture t ≡ picture_at t.stop r

-- nothing is told yet
pub record IsFirstTold (t : Told) : Type 0 where
  pub size : t.size ≡ None
  pub length : t.length ≡ 0
  pub picture : told_picture t ≡ None

abbrev pub picture_counted : SessionModel → ℕ → Option (List ℕ) → Option (List ℕ)
picture_counted s stop other = if length s.journal == stop then Some (picture_after_entries s.head.size s.journal (length s.journal)) else other

-- the entries of a session's journal are counted, and the picture after them is kept where it is to be kept there
pub record HasCounted (s : SessionModel) (old new : Told) : Type 0 where
  pub size : new.size ≡ old.size
  pub length : new.length ≡ length s.journal
  pub picture : told_picture new ≡ picture_counted s old.stop (told_picture old)
