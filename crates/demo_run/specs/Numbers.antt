-- The numbers that the demonstration draws, one after the other, from its seed (profile).
use Rattle.std.specs.Prelude.{ℕ, ◌%◌}
use Rattle.rand_pcg.specs.Lcg.{Lcg, started, increment_of}
use Rattle.rand_pcg.specs.Pcg.{multiplier_64, pcg32}

-- the generator of a seed: PCG (XSH RR 64/32) from that state, on stream 1
abbrev pub generator_of : ℕ → Lcg
generator_of seed = started 64 multiplier_64 seed (increment_of 64 1)

-- the next word modulo k
unfoldable pub number_below : ℕ → Lcg → ℕ
number_below k g = (pcg32 g).0 % k

-- the generator after its next word
unfoldable pub after_word : Lcg → Lcg
after_word g = (pcg32 g).1

-- what was drawn, and the generator after it
pub record Drawn (A : Type 0) : Type 0 where
  pub value : A
  pub after : Lcg

abbrev pub drawn : {A : Type 0} → A → Lcg → Drawn A
drawn x g = record { value = x; after = g }

-- the next number below k
abbrev pub below : ℕ → Lcg → Drawn ℕ
below k g = drawn (number_below k g) (after_word g)

-- what is drawn next, by what was drawn
abbrev pub and_then : {A B : Type 0} → Drawn A → (A → Lcg → Drawn B) → Drawn B
and_then d next = next d.value d.after
