-- What is kept of viewers, by their numbers.
use Rattle.std.specs.Prelude.{ℕ, ◌==◌, List, [], ◌∷◌, if◌then◌else◌}

-- what is kept for a viewer, or what stands for it where nothing is
abbrev pub kept_for : {A : Type 0} → A → List (ℕ × A) → ℕ → A
kept_for other [] v = other
kept_for other (k ∷ kept) v = if k.0 == v then k.1 else kept_for other kept v
