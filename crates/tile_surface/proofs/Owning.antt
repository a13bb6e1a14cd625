-- What stays the surface's own, and what a drawing leaves.
use Rattle.std.proofs.Common.{◌≡◌, ℕ, ◌+◌, ◌<◌, ◌≤◌, List, length, get_or, map, set, refl, sym, subst, ◌∙◌, arith, inl, inr, true}
use Rattle.std.specs.Prelude.{pos}
use Rattle.std.proofs.lemmas.List.{length-set, get_or-set_other, get_or_default, set_past}
use Rattle.std.proofs.lemmas.Grind.{get_or-set_at}
use Rattle.std.proofs.lemmas.Bool.{cases_eq, cases_lt}
use Rattle.std.proofs.lemmas.Bool.Decides.{nat_tests}
use Rattle.px_core.specs.declared.surface.Size.{Size}
use Rattle.px_core.specs.Picture.{Area}
use Rattle.px_core.specs.Tiles.{tile_number}
use Rattle.surface_parts.specs.declared.part.Part.{Part}
use Rattle.surface_parts.specs.Parts.{in_part, part_at, IsInside}
use Rattle.tile_surface.specs.declared.cell.Cell.{Cell}
use Rattle.tile_surface.specs.declared.cell.Cell.TheVariants.{Blank}
use Rattle.tile_surface.specs.Cells.{cell_at, cell_pixels, IsTiled}
use Rattle.tile_surface.specs.Ownership.{IsBlackPast, IsOwn, KeepsRest, OwnsArea, OwnsPart, StaysOwn}
use Rattle.tile_surface.proofs.Tiled.{same_pixel}

pub stays_self : (cells : List Cell) → StaysOwn cells cells
stays_self cells = record { sized = refl; own = λ tile own. own }

pub stays_twice : (old cur new : List Cell) → StaysOwn old cur → StaysOwn cur new → StaysOwn old new
stays_twice old cur new first second = record { sized = second.sized ∙ first.sized; own = λ tile own. second.own tile (first.own tile own) }

-- a cell that was changed
pub stays_but : (cells : List Cell) (tile : ℕ) (cell : Cell) → (IsOwn (cell_at cells tile) → IsOwn cell) → StaysOwn cells (set cells tile cell)
stays_but cells tile cell stays = record {
  sized = length-set cells tile cell;
  own = λ k own. elim (cases_eq k tile) [
    | inl same ↦ elim (cases_lt tile (length cells)) [
      | inl below ↦ subst IsOwn (sym (get_or-set_at cells tile k cell Blank same below)) (stays (subst (λ (j : ℕ). IsOwn (cell_at cells j)) same own))
      | inr past ↦ subst (λ (xs : List Cell). IsOwn (cell_at xs k)) (sym (set_past cells tile cell past)) own
    ]
    | inr other ↦ subst IsOwn (sym (get_or-set_other cells tile k cell Blank other)) own
  ];
}

pub keeps_self : (size : Size) (cells : List Cell) → KeepsRest size cells cells
keeps_self size cells = record { own = stays_self cells; past = λ x y wide high is. refl }

pub keeps_twice : (size : Size) (old cur new : List Cell) → KeepsRest size old cur → KeepsRest size cur new → KeepsRest size old new
keeps_twice size old cur new first second = record {
  own = stays_twice old cur new first.own second.own;
  past = λ x y wide high is. second.past x y wide high is ∙ first.past x y wide high is;
}

pub tiled_still : (size : Size) (old new : List Cell) → KeepsRest size old new → IsTiled size old → IsTiled size new
tiled_still size old new kept is = record { small = is.small; sized = kept.own.sized ∙ is.sized }

pub owns_still : (old new : List Cell) (part : Part) → StaysOwn old new → OwnsPart old part → OwnsPart new part
owns_still old new part stays owns = record { own = λ x y is. stays.own _ (owns.own x y is) }

pub owns_area_still : (size : Size) (old new : List Cell) (area : Area) → StaysOwn old new → OwnsArea size old area → OwnsArea size new area
owns_area_still size old new area stays owns = record { own = λ x y left above is. stays.own _ (owns.own x y left above is) }

-- a part of an area that the surface owns
pub owns_part : (size : Size) (cells : List Cell) (area : Area) (part : Part) → IsInside size part → OwnsArea size cells area
    → ((x y : ℕ) → x < size.w → y < size.h → in_part part x y ≡ area (pos x) (pos y)) → OwnsPart cells part
owns_part size cells area part inside owns same = record {
  own = λ x y is.
      let left : x < size.w = omega (arith, in_columns x y is, inside.columns) in
      let above : y < size.h = omega (arith, in_rows x y is, inside.rows) in
      owns.own x y left above (sym (same x y left above) ∙ is);
}
  where
    in_columns : (x y : ℕ) → in_part part x y ≡ true → x < part.x + part.w
    in_columns x y is = grind (arith, nat_tests, is)

    in_rows : (x y : ℕ) → in_part part x y ≡ true → y < part.y + part.h
    in_rows x y is = grind (arith, nat_tests, is)

-- a row of a part that the surface owns
pub owns_row : (cells : List Cell) (part : Part) (y : ℕ) → part.y ≤ y → y < part.y + part.h → OwnsPart cells part → OwnsPart cells (part_at part.x y part.w 1)
owns_row cells part y low high owns = record { own = λ u v is. owns.own u v (inside u v is) }
  where
    inside : (u v : ℕ) → in_part (part_at part.x y part.w 1) u v ≡ true → in_part part u v ≡ true
    inside u v is = grind (arith, nat_tests, is, low, high)

-- the tile of a pixel of such a part, as it was read from the cells
pub owns_there : (old cur : List Cell) (other : Cell) (part : Part) (x y tile : ℕ) → StaysOwn old cur → OwnsPart old part → tile ≡ tile_number x y → tile < length cur → in_part part x y ≡ true → IsOwn (get_or cur tile other)
owns_there old cur other part x y tile stays owns is below inside =
    subst IsOwn (sym (get_or_default cur tile other Blank below)) (subst (λ (t : ℕ). IsOwn (cell_at cur t)) (sym is) (stays.own (tile_number x y) (owns.own x y inside)))

-- the pixels past the picture stay black
pub black_still : (size : Size) (old new : List Cell) → KeepsRest size old new → IsBlackPast size old → IsBlackPast size new
black_still size old new keeps is = record { black = λ x y wide high past. keeps.past x y wide high past ∙ is.black x y wide high past }

pub black_same : (size : Size) (old new : List Cell) → map cell_pixels new ≡ map cell_pixels old → IsBlackPast size old → IsBlackPast size new
black_same size old new same is = record { black = λ x y wide high past. same_pixel old new x y same ∙ is.black x y wide high past }
