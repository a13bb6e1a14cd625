-- What becomes of a picture that gets a saved block back.
use Rattle.std.proofs.Common.{◌≡◌, ℕ, Bool, true, List, ap, ap₂, sym, ◌∙◌, Some, None}
use Rattle.std.specs.Prelude.{Option, Ok, pos}
use Rattle.px_core.specs.declared.surface.Size.{Size}
use Rattle.px_core.specs.declared.rectangle.Rect.{Rect}
use Rattle.px_core.specs.Picture.{rows_of}
use Rattle.px_core.specs.Rectangle.{is_inside}
use Rattle.wire_num.specs.Field.{bind}
use Rattle.draw_ops.specs.Formulas.{replaced, shifted, over_rect}
use Rattle.caps_sets.specs.declared.confirmed.Confirmed.{Confirmed}
use Rattle.order_fields.specs.NamedDrawing.NamedDrawing.{RestoreBlock}
use Rattle.order_means.specs.ClientState.{ClientState, Block, needs, found, block_at, restoring}
use Rattle.order_means.specs.ClientState.Fault.{Broken}
use Rattle.client_view.specs.Told.{clipped_painting, client_after_clipped}

restored_by : (confirmed : Confirmed) (size : Size) (clip : Option Rect) (position : ℕ) (r : Rect) (c : ClientState) (b : Block) → is_inside size r ≡ true → block_at position r.w r.h c.blocks ≡ Some b
    → client_after_clipped confirmed size clip c (RestoreBlock position r) ≡ Ok (clipped_painting size clip (restoring b r) c)
restored_by confirmed size clip position r c b t e =
    ap (λ (s : Bool). needs s Broken (bind (found (block_at position r.w r.h c.blocks) Broken) (λ d. Ok (clipped_painting size clip (restoring d r) c)))) t
    ∙ ap (λ (o : Option Block). bind (found o Broken) (λ d. Ok (clipped_painting size clip (restoring d r) c))) e

pub restored : (confirmed : Confirmed) (size : Size) (clip : Option Rect) (position : ℕ) (r : Rect) (c : ClientState) (b : Block) (pixels : List (Option ℕ)) → is_inside size r ≡ true → block_at position r.w r.h c.blocks ≡ Some b
    → b.w ≡ r.w → b.h ≡ r.h → pixels ≡ b.pixels
    → client_after_clipped confirmed size clip c (RestoreBlock position r) ≡ Ok (clipped_painting size clip (over_rect r (replaced (shifted (rows_of r.w r.h pixels) None r (pos 0) (pos 0)))) c)
restored confirmed size clip position r c b pixels t e w h p =
    let rows : rows_of b.w b.h b.pixels ≡ rows_of r.w r.h pixels = ap (λ (n : ℕ). rows_of n b.h b.pixels) w ∙ ap₂ (λ (n : ℕ) (xs : List (Option ℕ)). rows_of r.w n xs) h (sym p) in
    restored_by confirmed size clip position r c b t e ∙ ap (λ (rs : List (List (Option ℕ))). Ok (clipped_painting size clip (over_rect r (replaced (shifted rs None r (pos 0) (pos 0)))) c)) rows
