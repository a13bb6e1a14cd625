-- Texts of what is shown.
use Rattle.std.proofs.Common.{◌≡◌, ◌∙◌, ℕ, ◌+◌, ◌<◌, List, [], ◌∷◌, ◌++◌, length, codes, refl, sym, ap, append_assoc, add-one, arith}
use Rattle.std.specs.Prelude.{decimal}
use Rattle.std.specs.declared.option.Option.{Option}
use Rattle.px_core.specs.declared.surface.Size.{Size}
use Rattle.order_means.specs.FrameMarks.{View}
use Rattle.client_picture.specs.Pictures.{unknown_picture}
use Rattle.client_view.specs.Views.{capped, last_picture}
use Rattle.client_view.specs.Clients.{ClientOf}
use Rattle.client_view.specs.Widened.{widened_picture}
use Rattle.client_view.proofs.WidePixels.{last_widened}
use Rattle.capture_show.specs.declared.stage.Stage.TheVariants as stage
use Rattle.capture_show.specs.Stages.{Shows, ShowsReading}
use Rattle.capture_show.specs.Shown.{Shown, line_of, pixel_text, row_text, picture_text, marked_shown, text_of}

-- one pixel more of a row
pub row_grows : (pixel : ℕ → Option ℕ) (x : ℕ) (first old new bytes : List ℕ) → old ≡ first ++ row_text pixel x → new ≡ old ++ bytes → bytes ≡ pixel_text (pixel x) →
    new ≡ first ++ row_text pixel (x + 1)
row_grows pixel x first old new bytes so grown are = grown ∙ ap (λ o. o ++ bytes) so ∙ append_assoc first (row_text pixel x) bytes
    ∙ ap (λ b. first ++ (row_text pixel x ++ b)) are ∙ ap (λ n. first ++ row_text pixel n) (sym (add-one x))

-- there was no mark
by_pictures : (size : Size) (view : View) (ps : List (List (Option ℕ))) → 0 ≡ capped (length ps) → codes "no mark" ++ 10 ∷ [] ≡ text_of (marked_shown size view ps)
by_pictures size view [] none = refl
by_pictures size view (p ∷ ps) none = absurd (omega (arith, none))

pub unmarked : (client : ClientOf) (s : Shown) → ShowsReading client s → 0 ≡ client.viewer.marks → codes "no mark" ++ 10 ∷ [] ≡ text_of s
unmarked client s h none = by_pictures client.viewer.pictures.size h.r.view h.r.view.pictures (none ∙ h.reading.stand.view.marks) ∙ ap text_of (sym h.is)

-- the picture of the last mark
with_pictures : (size : Size) (view : View) (ps : List (List (Option ℕ))) (marks orders tiles : ℕ) (other marked : List (Option ℕ)) → view.pictures ≡ ps → 0 < marks →
    marks ≡ capped (length view.pictures) → orders ≡ capped view.orders → tiles ≡ capped view.tiles → marked ≡ widened_picture view.client.depth (last_picture other view.pictures) →
    picture_text size marks orders tiles marked ≡ text_of (marked_shown size view ps)
with_pictures size view [] marks orders tiles other marked e some m o t k = let none : marks ≡ 0 = m ∙ ap (λ qs. capped (length qs)) e in absurd (omega (arith, some, none))
with_pictures size view (p ∷ ps) marks orders tiles other marked e some m o t k = ap (λ x. picture_text size x orders tiles marked) m
    ∙ ap (λ x. picture_text size (capped (length view.pictures)) x tiles marked) o
    ∙ ap (λ x. picture_text size (capped (length view.pictures)) (capped view.orders) x marked) t
    ∙ ap (λ x. picture_text size (capped (length view.pictures)) (capped view.orders) (capped view.tiles) x) (k ∙ ap (λ qs. widened_picture view.client.depth (last_picture other qs)) e)

pub marked_text : (client : ClientOf) (s : Shown) → ShowsReading client s → 0 < client.viewer.marks →
    picture_text client.viewer.pictures.size client.viewer.marks client.viewer.orders client.viewer.tiles (widened_picture client.viewer.pictures.depth client.viewer.pictures.marked) ≡ text_of s
marked_text client s h some = with_pictures client.viewer.pictures.size h.r.view h.r.view.pictures client.viewer.marks client.viewer.orders client.viewer.tiles
    (unknown_picture client.viewer.pictures.size) (widened_picture client.viewer.pictures.depth client.viewer.pictures.marked) refl some h.reading.stand.view.marks h.reading.stand.view.orders h.reading.stand.view.tiles
    (last_widened h.r.view client.viewer h.reading.stand.view) ∙ ap text_of (sym h.is)

-- a line with a number
pub refused_text : (s : Shown) (at : ℕ) → Shows (stage.Refused at) s → line_of (codes "refused " ++ decimal at) ≡ text_of s
refused_text s at h = ap (λ n. line_of (codes "refused " ++ decimal n)) h.2 ∙ ap text_of (sym h.1)

pub broken_text : (s : Shown) (line : ℕ) → Shows (stage.Broken line) s → line_of (codes "line " ++ decimal line) ≡ text_of s
broken_text s line h = ap (λ n. line_of (codes "line " ++ decimal n)) h.2 ∙ ap text_of (sym h.1)
