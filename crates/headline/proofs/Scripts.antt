-- Every viewer of every script is sent the journal, so captures, their fronts and captures that were cut show it.
use Rattle.std.proofs.Common.{◌≡◌, ℕ, List, [], ◌∷◌, ◌++◌, subst}
use Rattle.script_rules.specs.Script.{Asked, Script, Opening, opening_of}
use Rattle.script_rules.specs.Script.Opening.{NoSize, Unended, Opened}
use Rattle.script_rules.specs.CaptureText.{capture_of, encoder_frames}
use Rattle.headline.specs.Headline.{IfOpened, ConfirmAllCaches, EveryViewerOfCapture}
use Rattle.headline.proofs.StepsOfScripts.{HasPremises, scripts_have}
use Rattle.headline.specs.Sent.{EveryViewerIsSentTheJournal}
use Rattle.headline.specs.Fronts.{IsSentWhatIsWritten, EveryViewerOfOpeningFront}
use Rattle.headline.proofs.CapturesOfScripts.{captures_show}
use Rattle.headline.proofs.CaptureFronts.{fronts_show}
use Rattle.headline.proofs.CutCaptures.{cut_shows}
use Rattle.headline.proofs.Interleaved.{every_viewer_sees}
use Rattle.headline.specs.Cuts.{IsCutCaptureOf}
use Rattle.headline.proofs.SendsBytes.{steps_send_bytes}

script_is_sent : (s : Script) → HasPremises s → EveryViewerIsSentTheJournal s
script_is_sent s has = (every_viewer_sees s.head s.asked, steps_send_bytes s.head s.asked has.size has.caches)

is_sent : (o : Opening) → IfOpened o HasPremises → IfOpened o EveryViewerIsSentTheJournal
is_sent NoSize has = tt
is_sent Unended has = tt
is_sent (Opened s) has = script_is_sent s has

journal_is_sent : (bytes : List ℕ) → IfOpened (opening_of bytes) EveryViewerIsSentTheJournal
journal_is_sent bytes = is_sent (opening_of bytes) (scripts_have bytes)

-- ---- captures

pub capture_sees : (bytes : List ℕ) → EveryViewerOfCapture bytes (capture_of encoder_frames bytes)
capture_sees bytes = captures_show bytes (journal_is_sent bytes)

-- ---- fronts

pub capture_front_sees : (bytes front rest : List ℕ) → capture_of encoder_frames bytes ≡ front ++ rest → EveryViewerOfOpeningFront (opening_of bytes) front
capture_front_sees bytes front rest e = fronts_show bytes front rest (journal_is_sent bytes) e

-- ---- captures that were cut

caches_front : (xs ys : List Asked) → ConfirmAllCaches (xs ++ ys) → ConfirmAllCaches xs
caches_front [] ys h = tt
caches_front (a ∷ xs) ys h = (h.0, caches_front xs ys h.1)

cut_is_sent : (s : Script) (front : List ℕ) → HasPremises s → IsCutCaptureOf s front → IsSentWhatIsWritten s front
cut_is_sent s front has cut = (
  every_viewer_sees s.head s.asked,
  record {
    steps = cut.steps;
    later = cut.later;
    refusal = cut.refusal;
    rest = cut.rest;
    are_first = cut.are_first;
    written = cut.written;
    sends_bytes = steps_send_bytes s.head cut.steps has.size
        (caches_front cut.steps cut.later (subst ConfirmAllCaches cut.are_first has.caches));
  },
)

is_cut_sent : (o : Opening) (front : List ℕ) → IfOpened o HasPremises → IfOpened o (λ s. IsCutCaptureOf s front) → IfOpened o (λ s. IsSentWhatIsWritten s front)
is_cut_sent NoSize front has cut = tt
is_cut_sent Unended front has cut = tt
is_cut_sent (Opened s) front has cut = cut_is_sent s front has cut

pub cut_sees : (bytes front : List ℕ) → IfOpened (opening_of bytes) (λ s. IsCutCaptureOf s front) → EveryViewerOfOpeningFront (opening_of bytes) front
cut_sees bytes front cut = cut_shows bytes front (is_cut_sent (opening_of bytes) front (scripts_have bytes) cut)
