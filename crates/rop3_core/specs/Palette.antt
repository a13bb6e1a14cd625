-- Colours as a session has them and as a client has them, so that one set of formulas serves both pictures.
use Rattle.std.specs.Prelude.{ℕ, Bool, true, false, Option, Some, None}
use Rattle.rop3_core.specs.Rop3.{ternary_raster, is_pattern_needed, is_source_needed, is_destination_needed}

-- a kind of colours: how a known one stands there, and the raster operation of a code over pattern, source and destination
pub record Palette (A : Type 0) : Type 0 where
  pub known : ℕ → A
  pub mixed : ℕ → A → A → A → A

-- the colours of the session: each is known
abbrev pub session_colors : Palette ℕ
session_colors = record { known = λ color. color; mixed = ternary_raster }

-- a result that stands for an unknown operand: unknown where that is needed, else that of any operand, such as 0
abbrev pub unless_needed : Bool → (ℕ → Option ℕ) → Option ℕ
unless_needed true result = None
unless_needed false result = result 0

-- the result over an operand that may be unknown, with the test that says whether the code needs it
abbrev pub over_operand : (ℕ → Bool) → ℕ → Option ℕ → (ℕ → Option ℕ) → Option ℕ
over_operand is_needed code (Some color) result = result color
over_operand is_needed code None result = unless_needed (is_needed code) result

-- the raster operation over colours that may be unknown: unknown where the code depends on an operand that is unknown
abbrev pub maybe_raster : ℕ → Option ℕ → Option ℕ → Option ℕ → Option ℕ
maybe_raster code p s d =
    over_operand is_pattern_needed code p (λ m. over_operand is_source_needed code s
    (λ n. over_operand is_destination_needed code d (λ k. Some (ternary_raster code m n k))))

-- the colours of a client, unknown ones as None
abbrev pub client_colors : Palette (Option ℕ)
client_colors = record { known = Some; mixed = maybe_raster }
