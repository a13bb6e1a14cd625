-- The client's raster operation gives the session's colour wherever each operand is that colour's or isn't needed.
use Rattle.std.proofs.Common.{◌≡◌, ℕ, ◌⊎◌, ⊎_elim, Bool, false, Option, Some, None, ap, ◌∙◌}
use Rattle.rop3_core.specs.Rop3.{ternary_raster, is_pattern_needed, is_source_needed, is_destination_needed}
use Rattle.rop3_core.specs.Palette.{unless_needed, over_operand, maybe_raster}
use Rattle.rop3_core.proofs.NeedLaws.{unneeded_pattern, unneeded_source, unneeded_destination}

-- an operand is known to be this colour, or the code doesn't need it
abbrev pub IsGiven : (ℕ → Bool) → ℕ → Option ℕ → ℕ → Type 0
IsGiven is_needed code operand color = (operand ≡ Some color) ⊎ (is_needed code ≡ false)

over_given : (is_needed : ℕ → Bool) (code : ℕ) (operand : Option ℕ) (color : ℕ) (result : ℕ → Option ℕ)
    → (is_needed code ≡ false → (other : ℕ) → result other ≡ result color)
    → IsGiven is_needed code operand color → over_operand is_needed code operand result ≡ result color
over_given is_needed code operand color result same given = ⊎_elim
    (λ (known : operand ≡ Some color). ap (λ o. over_operand is_needed code o result) known)
    (λ (unneeded : is_needed code ≡ false). any operand unneeded) given
  where
    any : (o : Option ℕ) → is_needed code ≡ false → over_operand is_needed code o result ≡ result color
    any None unneeded = ap (λ b. unless_needed b result) unneeded ∙ same unneeded 0
    any (Some other) unneeded = same unneeded other

pub raster_of_given : (code : ℕ) (po so to : Option ℕ) (p s d : ℕ)
    → IsGiven is_pattern_needed code po p → IsGiven is_source_needed code so s → IsGiven is_destination_needed code to d
    → maybe_raster code po so to ≡ Some (ternary_raster code p s d)
unfolding ternary_raster
raster_of_given code po so to p s d pg sg dg =
    over_given is_pattern_needed code po p
    (λ m. over_operand is_source_needed code so (λ n. over_operand is_destination_needed code to (λ k. Some (ternary_raster code m n k))))
    (λ unneeded m i. over_operand is_source_needed code so (λ n. over_operand is_destination_needed code to (λ k. Some (unneeded_pattern 24 code m p n k unneeded i)))) pg
    ∙ over_given is_source_needed code so s
    (λ n. over_operand is_destination_needed code to (λ k. Some (ternary_raster code p n k)))
    (λ unneeded n i. over_operand is_destination_needed code to (λ k. Some (unneeded_source 24 code p n s k unneeded i))) sg
    ∙ over_given is_destination_needed code to d (λ k. Some (ternary_raster code p s k))
    (λ unneeded k i. Some (unneeded_destination 24 code p s k d unneeded i)) dg
