-- A front of a script's capture shows each viewer its first takes.
use Rattle.std.proofs.Common.{◌≡◌, ℕ, List, ◌++◌, sym, subst}
use Rattle.script_rules.specs.Script.{Script, Opening, opening_of}
use Rattle.script_rules.specs.Script.Opening.{NoSize, Unended, Opened}
use Rattle.script_rules.specs.Capture.{written_bytes}
use Rattle.script_rules.specs.CaptureText.{capture_of, encoder_frames}
use Rattle.headline.specs.Headline.{IfOpened, EveryViewerOfScript, EveryViewerOfOpening}
use Rattle.headline.specs.Sent.{EveryViewerIsSentTheJournal}
use Rattle.headline.specs.Fronts.{IsFront, EveryViewerOfFront, EveryViewerOfOpeningFront}
use Rattle.headline.proofs.CapturesOfScripts.{captures_show}
use Rattle.headline.proofs.PointedFronts.{fronts_see}
pub use Rattle.headline.proofs.PointedFronts.{front_sees}
use Rattle.headline.proofs.TextFronts.{bytes_in_front}

script_front_sees : (s : Script) (capture front rest : List ℕ) → EveryViewerOfScript s capture → capture ≡ front ++ rest → EveryViewerOfFront s front
script_front_sees s capture front rest sees e =
    fronts_see s.head s.asked (λ v. written_bytes v capture) (λ v. written_bytes v front) sees
    (λ v. subst (λ text. IsFront (written_bytes v front) (written_bytes v text)) (sym e) (bytes_in_front v front rest))

opening_front_sees : (o : Opening) (capture front rest : List ℕ) → EveryViewerOfOpening o capture → capture ≡ front ++ rest → EveryViewerOfOpeningFront o front
opening_front_sees NoSize capture front rest sees e = tt
opening_front_sees Unended capture front rest sees e = tt
opening_front_sees (Opened s) capture front rest sees e = script_front_sees s capture front rest sees e

pub fronts_show : (bytes front rest : List ℕ) → IfOpened (opening_of bytes) EveryViewerIsSentTheJournal
    → capture_of encoder_frames bytes ≡ front ++ rest → EveryViewerOfOpeningFront (opening_of bytes) front
fronts_show bytes front rest sends e =
    opening_front_sees (opening_of bytes) (capture_of encoder_frames bytes) front rest (captures_show bytes sends) e
