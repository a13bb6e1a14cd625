-- Worked rows: the bytes of two viewers in a capture and in a front of it, and preset words.
use Rattle.std.proofs.Common.{◌≡◌, ℕ, List, [], ◌∷◌, ◌++◌, refl}
use Rattle.std.specs.Prelude.{codes}
use Rattle.caps_sets.specs.Confirmed.{full}
use Rattle.session_rules.specs.Steps.Step.{JoinStep}
use Rattle.script_rules.specs.Capture.{ended, written_bytes}
use Rattle.headline.specs.Sent.{PresetConfirms}
use Rattle.headline.specs.Fronts.{IsFront}

abbrev first_lines : List ℕ
first_lines = ended (codes "1 joined 64 64 plain") ++ ended (codes "2 joined 64 64 full bc0=1,2") ++ ended (codes "1 0300") ++ ended
    (codes "2 nothing") ++ ended (codes "2 ff")

abbrev last_lines : List ℕ
last_lines = ended (codes "0 refused room-full") ++ ended (codes "2 refused not-holder 1") ++ ended (codes "1 01") ++ ended (codes "2 left") ++ ended
    (codes "line 9 rule 3")

bytes_of_the_first : written_bytes 1 (first_lines ++ last_lines) ≡ 3 ∷ 0 ∷ 1 ∷ []
bytes_of_the_first = refl

bytes_of_the_second : written_bytes 2 (first_lines ++ last_lines) ≡ 255 ∷ []
bytes_of_the_second = refl

-- a line that isn't ended has no bytes
bytes_in_a_front : written_bytes 1 (first_lines ++ codes "1 01") ≡ 3 ∷ 0 ∷ []
bytes_in_a_front = refl

front_of_the_first : IsFront (written_bytes 1 (first_lines ++ codes "1 0")) (written_bytes 1 (first_lines ++ last_lines))
front_of_the_first = record { rest = 1 ∷ []; joined = refl }

full_confirms : (name : List ℕ) → PresetConfirms (JoinStep name) (codes "full" ∷ []) full
full_confirms name = refl
