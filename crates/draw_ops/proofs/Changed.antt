-- Changes of colours: of a pixel, of a picture; and the two changes that showing is.
use Rattle.std.proofs.Common.{◌≡◌, ℕ, ◌+◌, ◌/◌, ◌%◌, List, [], ◌∷◌, refl, sym, ap, ◌∙◌, map}
use Rattle.std.specs.Prelude.{Bool, true, false, ℤ, pos, Option, Some, None, option_map}
use Rattle.px_core.specs.declared.surface.Size.{Size}
use Rattle.px_core.specs.Picture.{Area, Formula, where_chosen, painted_from, painted}
use Rattle.rop3_core.specs.Rop3.{is_pattern_needed, is_source_needed, is_destination_needed}
use Rattle.rop3_core.specs.Palette.{Palette, session_colors, client_colors, over_operand, unless_needed, maybe_raster}
use Rattle.px_core.specs.declared.depth.Depth.{Depth}
use Rattle.px_core.specs.Depth.{shown}
use Rattle.draw_ops.specs.Depths.{maybe_raster_at, client_colors_at, cut_colors_at}
use Rattle.draw_ops.specs.Forms.{Form, formula_of, Changes, changed_form, Follows}
use Rattle.draw_ops.specs.Forms.Form.{Named, Copied, Mixed, Kept}
use Rattle.px_core.proofs.Cut.{shown_black}
use Rattle.draw_ops.proofs.ShownRaster.{shown_raster}

-- ---- the second law: one pixel, over its forms

pub form_follows : {A B : Type 0} (P : Palette A) (Q : Palette B) (colour : ℕ → ℕ) (change : A → B) (form : Form A) → Changes P Q colour change
    → Follows change (formula_of P form) (formula_of Q (changed_form colour change form))
form_follows P Q colour change Kept h x y old = refl
form_follows P Q colour change (Named color) h x y old = sym (h.known color)
form_follows P Q colour change (Copied source) h x y old = refl
form_follows P Q colour change (Mixed code pattern source) h x y old = sym (h.mixed code (pattern x y) (source x y) old)

-- ---- a picture

chosen_follows : {A B : Type 0} (change : A → B) (b : Bool) (f : Formula A) (g : Formula B) → Follows change f g → (x y : ℤ) (old : A)
    → where_chosen b g x y (change old) ≡ change (where_chosen b f x y old)
chosen_follows change true f g h x y old = h x y old
chosen_follows change false f g h x y old = refl

painted_follows : {A B : Type 0} (change : A → B) (w i : ℕ) (area : Area) (f : Formula A) (g : Formula B) (old : List A) → Follows change f g
    → painted_from w i area g (map change old) ≡ map change (painted_from w i area f old)
painted_follows change w i area f g [] h = refl
painted_follows change w i area f g (p ∷ ps) h =
    ap (λ q. q ∷ painted_from w (i + 1) area g (map change ps)) (chosen_follows change (area (pos (i % w)) (pos (i / w))) f g h (pos (i % w)) (pos (i / w)) p)
    ∙ ap (λ qs. change (where_chosen (area (pos (i % w)) (pos (i / w))) f (pos (i % w)) (pos (i / w)) p) ∷ qs) (painted_follows change w (i + 1) area f g ps h)

pub picture_follows : {A B : Type 0} (change : A → B) (size : Size) (area : Area) (f : Formula A) (g : Formula B) (old : List A) → Follows change f g
    → painted size area g (map change old) ≡ map change (painted size area f old)
picture_follows change size area f g old h = painted_follows change size.w 0 area f g old h

-- ---- showing is a change of colours

-- an operand that may be unknown, shown
over_shown : (d : Depth) (is_needed : ℕ → Bool) (code : ℕ) (operand : Option ℕ) (f g : ℕ → Option ℕ) → ((n : ℕ) → option_map (shown d) (f n) ≡ g (shown d n))
    → option_map (shown d) (over_operand is_needed code operand f) ≡ over_operand is_needed code (option_map (shown d) operand) g
over_shown d is_needed code (Some n) f g h = h n
over_shown d is_needed code None f g h = unneeded (is_needed code)
  where
    unneeded : (b : Bool) → option_map (shown d) (unless_needed b f) ≡ unless_needed b g
    unneeded true = refl
    unneeded false = h 0 ∙ ap g (shown_black d)

maybe_shown : (d : Depth) (code : ℕ) (p s o : Option ℕ) → option_map (shown d) (maybe_raster code p s o) ≡ maybe_raster_at d code (option_map (shown d) p) (option_map (shown d) s) (option_map (shown d) o)
maybe_shown d code p s o =
    over_shown d is_pattern_needed code p _ _ (λ m. over_shown d is_source_needed code s _ _ (λ n. over_shown d is_destination_needed code o _ _ (λ k. ap Some (shown_raster d code m n k))))

pub session_changes : (d : Depth) → Changes session_colors (cut_colors_at d) (shown d) (shown d)
session_changes d = record { known = λ c. refl; mixed = shown_raster d }

pub client_changes : (d : Depth) → Changes client_colors (client_colors_at d) (shown d) (option_map (shown d))
client_changes d = record { known = λ c. refl; mixed = maybe_shown d }

pub seen_changes : (d : Depth) → Changes session_colors (client_colors_at d) (shown d) (λ c. Some (shown d c))
seen_changes d = record { known = λ c. refl; mixed = λ code p s o. ap Some (shown_raster d code p s o) }
