-- Shares of a lock. The first pass has the whole; a split cuts a pass's share in two halves, and a meeting pass has what both had.
-- A share may be cut again and again, so the number of passes has no bound.
use Rattle.std.specs.Prelude.{◌≡◌, List, [], ◌∷◌, Bool, true, false, if◌then◌else◌}
use mathlib.Core.Path.{refl, sym, ◌∙◌, ap}
use base.Stored.{Gv, gnil, gnum, gcons, Coded}

-- what part of the whole: nothing, all of it, or a share of its left half and one of its right half
pub data Share : Type 0 where
  nothing : Share
  whole : Share
  halves : Share → Share → Share

-- a path leads into ever smaller halves, by its items to the left (`false`) or to the right; behind its last item it goes left
abbrev pub goes_right : List Bool → Bool
goes_right [] = false
goes_right (right ∷ path) = right

abbrev pub onward : List Bool → List Bool
onward [] = []
onward (right ∷ path) = path

-- whether the path leads into the share
abbrev pub covers : Share → List Bool → Bool
covers nothing path = false
covers whole path = true
covers (halves left right) path = if goes_right path then covers right (onward path) else covers left (onward path)

-- a share's own left half and right half
abbrev pub left_half : Share → Share
left_half nothing = nothing
left_half whole = halves whole nothing
left_half (halves left right) = halves (left_half left) (left_half right)

abbrev pub right_half : Share → Share
right_half nothing = nothing
right_half whole = halves nothing whole
right_half (halves left right) = halves (right_half left) (right_half right)

-- what is in one of two shares, or in both
abbrev pub both : Share → Share → Share
both nothing other = other
both whole other = whole
both (halves left right) nothing = halves left right
both (halves left right) whole = whole
both (halves left right) (halves left' right') = halves (both left left') (both right right')

-- the share is the whole
abbrev pub IsWhole : Share → Type 0
IsWhole share = (path : List Bool) → covers share path ≡ true

-- the share is something
abbrev pub IsHeld : Share → Type 0
IsHeld share = (path : List Bool) × (covers share path ≡ true)

-- the first share has all of the second
abbrev pub HoldsShare : Share → Share → Type 0
HoldsShare share part = (path : List Bool) → covers part path ≡ true → covers share path ≡ true

-- no part of the whole is in both
abbrev pub AreSharesApart : Share → Share → Type 0
AreSharesApart share other = (path : List Bool) → covers share path ≡ true → covers other path ≡ true → ⊥

-- how a share is kept as a ghost value
abbrev pub tree_of : Share → Gv
tree_of nothing = gnil
tree_of whole = gnum 0
tree_of (halves left right) = gcons (tree_of left) (tree_of right)

abbrev pub share_of : Gv → Share
share_of gnil = nothing
share_of (gnum n) = whole
share_of (gcons left right) = halves (share_of left) (share_of right)

abbrev pub share_of_tree : (s : Share) → share_of (tree_of s) ≡ s
share_of_tree nothing = refl
share_of_tree whole = refl
share_of_tree (halves left right) = λ i. halves (share_of_tree left i) (share_of_tree right i)

abbrev pub share_coded : Coded Share
share_coded = record { code = tree_of; inj = λ x y e. sym (share_of_tree x) ∙ (ap share_of e ∙ share_of_tree y) }
