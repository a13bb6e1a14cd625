-- The words that say what a script's viewer confirmed: a preset, and then overrides (profile).
use Rattle.std.specs.Prelude.{ℕ, ◌-◌, ◌==◌, nat_eq, nat_le, ◌&&◌, Bool, true, List, [], ◌∷◌, drop, if◌then◌else◌, codes}
use Rattle.std.specs.declared.option.Option.{Option}
use Rattle.std.specs.declared.option.Option.TheVariants.{Some, None}
use Rattle.std.specs.Option.{option_map, option_and_then}
use Rattle.std.specs.List.{starts_with}
use Rattle.std.specs.Char.{is_ascii_digit}
use Rattle.px_core.specs.declared.depth.Depth.TheVariants.{Bits16}
use Rattle.caps_sets.specs.declared.cache_size.CacheSize.{CacheSize}
use Rattle.caps_sets.specs.declared.confirmed.Confirmed.{Confirmed}
use Rattle.caps_sets.specs.Confirmed.{most_pointers, sized, plain, full, marked, bare, with_bitmap_cache, with_glyph_cache}
use Rattle.line_text.specs.Words.{parts_at, is_same_word}
use Rattle.line_text.specs.Numbers.{number_up_to}

-- a preset's name, and what it confirms
pub record Preset : Type 0 where
  pub word : List ℕ
  pub confirmed : Confirmed

abbrev pub preset : List ℕ → Confirmed → Preset
preset word c = record { word = word; confirmed = c }

abbrev pub presets : List Preset
presets = preset (codes "plain") plain ∷ preset (codes "full") full ∷ preset (codes "marked") marked ∷ preset (codes "bare") bare ∷ []

abbrev pub preset_named : List Preset → List ℕ → Option Confirmed
preset_named [] word = None
preset_named (p ∷ ps) word = if is_same_word word p.word then Some p.confirmed else preset_named ps word

-- the greatest number of entries, and the greatest cell in bytes
abbrev pub cache_limit : ℕ
cache_limit = 65535

-- entries and cell, with a comma between
abbrev pub size_by : List (List ℕ) → Option CacheSize
size_by (entries ∷ cell ∷ []) = option_and_then (λ e. option_map (sized e) (number_up_to cache_limit cell)) (number_up_to cache_limit entries)
size_by parts = None

-- the same but for one cache, by its kind's two letters and its number
abbrev pub with_cache : Confirmed → List ℕ → ℕ → CacheSize → Option Confirmed
with_cache c kind cache size =
    if is_same_word kind (codes "bc") && nat_le cache 2 then Some (with_bitmap_cache cache size c)
    else (if is_same_word kind (codes "gc") && nat_le cache 9 then Some (with_glyph_cache cache size c) else None)

-- `bcK=E,C` and `gcK=E,C`
abbrev pub overridden : Confirmed → List ℕ → Option Confirmed
overridden c (a ∷ b ∷ k ∷ sign ∷ rest) = if is_ascii_digit k && (sign == 61)
    then option_and_then (with_cache c (a ∷ b ∷ []) (k - 48)) (size_by (parts_at 44 rest)) else None
overridden c word = None

-- a word that begins as `pointer=N` does, whatever stands behind that
abbrev pub is_pointer_word : List ℕ → Bool
is_pointer_word word = starts_with nat_eq word (codes "pointer=")

-- the same with another number of pointers, by its digits
abbrev pub with_pointers : Confirmed → List ℕ → Option Confirmed
with_pointers c digits = option_map (λ n. record c { pointers = n }) (number_up_to most_pointers digits)

-- `cautious`, `fast`, `bpp=16`, `pointer=N`, or a cache of another size; a preset's own depth, 24 bits, has no word
abbrev pub overridden_word : Confirmed → List ℕ → Option Confirmed
overridden_word c word =
    if is_same_word word (codes "cautious") then Some (record c { cautious = true })
    else (if is_same_word word (codes "fast") then Some (record c { fast = true })
    else (if is_same_word word (codes "bpp=16") then Some (record c { depth = Bits16 })
    else (if is_pointer_word word then with_pointers c (drop 8 word) else overridden c word)))

-- the overrides one after the other; later ones count
abbrev pub overridden_by : Confirmed → List (List ℕ) → Option Confirmed
overridden_by c [] = Some c
overridden_by c (word ∷ words) = option_and_then (λ d. overridden_by d words) (overridden_word c word)

-- what preset words confirm
abbrev pub confirmed_by : List Preset → List (List ℕ) → Option Confirmed
confirmed_by ps [] = None
confirmed_by ps (word ∷ words) = option_and_then (λ c. overridden_by c words) (preset_named ps word)
