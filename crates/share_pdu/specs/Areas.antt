-- The areas of a Refresh Rect ([MS-RDPBCGR] 2.2.11.2), apart from reading.
use Rattle.std.specs.Prelude.{◌≡◌, ℕ, ◌+◌, ◌-◌, ◌||◌, nat_lt, pos, List, [], ◌∷◌, length, flat_map, Option, Some, None, option_to_list, if◌then◌else◌}
use Rattle.wire_num.specs.Grammar.{IsText}
use Rattle.px_core.specs.declared.rectangle.Rect.{Rect}
use Rattle.share_pdu.specs.Bodies.{refresh_header, inclusive_area}

-- an area: its corners, both inclusive
pub record Area : Type 0 where
  pub left : ℕ
  pub top : ℕ
  pub right : ℕ
  pub bottom : ℕ

-- its rectangle; one that ends before it begins has none
abbrev pub rect_of_area : Area → Option Rect
rect_of_area area =
    if nat_lt area.right area.left || nat_lt area.bottom area.top then None
    else Some (record { x = pos area.left; y = pos area.top; w = area.right - area.left + 1; h = area.bottom - area.top + 1 })

abbrev pub rects_of : List Area → List Rect
rects_of areas = flat_map (λ area. option_to_list (rect_of_area area)) areas

-- the bytes begin with these areas, one after the other, and others follow
abbrev pub AreAreas : List ℕ → List Area → List ℕ → Type 0
AreAreas bytes [] after = bytes ≡ after
AreAreas bytes (area ∷ areas) after =
    (more : List ℕ) × IsText inclusive_area bytes (area.left ∷ area.top ∷ area.right ∷ area.bottom ∷ []) more × AreAreas more areas after

-- the body of a Refresh Rect: the number of areas, and so many; any bytes may follow
pub record IsRefreshRect (body : List ℕ) (areas : List Area) : Type 0 where
  pub counted : List ℕ
  pub after : List ℕ
  pub header : IsText refresh_header body (length areas ∷ []) counted
  pub each : AreAreas counted areas after
