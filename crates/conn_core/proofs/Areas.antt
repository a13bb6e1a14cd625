-- The areas of a Refresh Rect, appended one by one.
use Rattle.std.proofs.Common.{◌≡◌, ℕ, ◌+◌, ◌<◌, ◌-◌, List, ◌++◌, ap, sym, ◌∙◌, append_assoc, append-nil, arith}
use Rattle.std.specs.Prelude.{Option, option_to_list, Ok, IsOk}
use Rattle.px_core.specs.declared.rectangle.Rect.{Rect}
use Rattle.share_pdu.specs.Bodies.{area_at, areas_at, areas_by}
use Rattle.share_pdu.proofs.Areas.{areas_listed}

-- an area that is there was appended, or skipped
pub area_pushed : (now new whole : List Rect) (n k : ℕ) (bs more : List ℕ) (area : Option Rect) → k < n → area_at bs ≡ Ok (area, more) → IsOk (areas_at (n - k) bs)
    → now ++ areas_by (areas_at (n - k) bs) ≡ whole → new ≡ now ++ option_to_list area → new ++ areas_by (areas_at (n - (k + 1)) more) ≡ whole
area_pushed now new whole n k bs more area h e ok so w =
    let left : List Rect = areas_by (areas_at (n - (k + 1)) more) in
    ap (λ xs. xs ++ left) w ∙ append_assoc now (option_to_list area) left ∙ ap (λ xs. now ++ xs) (sym (areas_listed n k bs more area h e ok)) ∙ so

-- none is left
pub all_pushed : (now whole : List Rect) (n k : ℕ) (bs : List ℕ) → now ++ areas_by (areas_at (n - k) bs) ≡ whole → k ≡ n → now ≡ whole
all_pushed now whole n k bs so e =
    let none : n - k ≡ 0 = omega (arith, e) in
    sym (append-nil now) ∙ ap (λ m. now ++ areas_by (areas_at m bs)) (sym none) ∙ so
