-- The definitions on the sample client's Client Info PDU, and on others.
use Rattle.std.proofs.Common.{◌≡◌, ℕ, List, [], ◌∷◌, ◌++◌, replicate, refl, codes}
use Rattle.std.specs.Prelude.{Result, Ok, Err}
use Rattle.wire_num.specs.FieldValue.{passing_at}
use Rattle.info_lic.specs.declared.info_fault.InfoFault.{InfoFault}
use Rattle.info_lic.specs.declared.info_fault.InfoFault.TheVariants.{BadInfo}
use Rattle.info_lic.specs.ClientInfo.{info_start, other_texts, info_texts, info_at, name_of}
use Rattle.info_lic.specs.Licence.{licence}

-- what stands before the texts: security flags, the lowest byte of flags, and the counts of bytes
abbrev start : ℕ → ℕ → ℕ → ℕ → ℕ → ℕ → ℕ → List ℕ
start security flags domain user password shell directory =
    security ∷ 0 ∷ 0 ∷ 0 ∷ replicate 4 0 ++ (flags ∷ 0 ∷ 0 ∷ 0 ∷ domain ∷ 0 ∷ user ∷ 0 ∷ password ∷ 0 ∷ shell ∷ 0 ∷ directory ∷ 0 ∷ [])

abbrev answer : List ℕ → Result (List ℕ) InfoFault
answer name = Ok name

-- "ann" in UTF-16
abbrev wide_ann : List ℕ
wide_ann = 97 ∷ 0 ∷ 110 ∷ 0 ∷ 110 ∷ 0 ∷ []

sample : name_of (start 64 16 0 6 0 0 0 ++ (0 ∷ 0 ∷ wide_ann ++ replicate 8 0)) ≡ answer (codes "ann")
unfolding info_at info_start info_texts other_texts passing_at
sample = refl

-- single bytes, each text with some, and bytes behind them
single_bytes : name_of (start 72 0 2 3 1 1 2 ++ (codes "ws" ++ (0 ∷ codes "ann" ++ (0 ∷ 120 ∷ 0 ∷ 121 ∷ 0 ∷ 122 ∷ 122 ∷ 0 ∷ 9 ∷ [])))) ≡ answer (codes "ann")
unfolding info_at info_start info_texts other_texts passing_at
single_bytes = refl

-- a name of 64 characters, and one of 65
longest : name_of (start 64 16 0 128 0 0 0 ++ (0 ∷ 0 ∷ 97 ∷ replicate 1 0 ++ (replicate 126 0 ++ replicate 8 0))) ≡ answer (97 ∷ replicate 63 0)
unfolding info_at info_start info_texts other_texts passing_at
longest = refl

too_long : name_of (start 64 0 0 65 0 0 0 ++ (0 ∷ replicate 65 97 ++ replicate 4 0)) ≡ answer []
unfolding info_at info_start info_texts other_texts passing_at
too_long = refl

too_long_wide : name_of (start 64 16 0 130 0 0 0 ++ (0 ∷ 0 ∷ replicate 130 0 ++ replicate 8 0)) ≡ answer []
unfolding info_at info_start info_texts other_texts passing_at
too_long_wide = refl

-- a character that isn't ASCII, by its low and by its high byte; an odd count
other_low : name_of (start 64 16 0 4 0 0 0 ++ (0 ∷ 0 ∷ 97 ∷ 0 ∷ 228 ∷ 0 ∷ replicate 8 0)) ≡ answer []
unfolding info_at info_start info_texts other_texts passing_at
other_low = refl

other_high : name_of (start 64 16 0 4 0 0 0 ++ (0 ∷ 0 ∷ 97 ∷ 1 ∷ 97 ∷ 0 ∷ replicate 8 0)) ≡ answer []
unfolding info_at info_start info_texts other_texts passing_at
other_high = refl

other_single : name_of (start 64 0 0 2 0 0 0 ++ (0 ∷ 97 ∷ 128 ∷ replicate 4 0)) ≡ answer []
unfolding info_at info_start info_texts other_texts passing_at
other_single = refl

odd_user : name_of (start 64 16 0 5 0 0 0 ++ (0 ∷ 0 ∷ 97 ∷ 0 ∷ 97 ∷ 0 ∷ 97 ∷ replicate 8 0)) ≡ answer []
unfolding info_at info_start info_texts other_texts passing_at
odd_user = refl

odd_domain : name_of (start 64 16 1 6 0 0 0 ++ (119 ∷ 0 ∷ 0 ∷ wide_ann ++ replicate 8 0)) ≡ answer (codes "ann")
unfolding info_at info_start info_texts other_texts passing_at
odd_domain = refl

-- ---- refused

-- security flags without SEC_INFO_PKT, and none
another_header : name_of (start 128 16 0 6 0 0 0 ++ (0 ∷ 0 ∷ wide_ann ++ replicate 8 0)) ≡ Err (BadInfo 0)
unfolding info_at info_start passing_at
another_header = refl

no_flags_hi : name_of (64 ∷ 0 ∷ 0 ∷ []) ≡ Err (BadInfo 2)
unfolding info_at info_start passing_at
no_flags_hi = refl

short_count : name_of (64 ∷ 0 ∷ replicate 19 0) ≡ Err (BadInfo 20)
unfolding info_at info_start passing_at
short_count = refl

-- a text that doesn't fit, and terminators that aren't zero, or aren't there
short_user : name_of (start 64 16 0 7 0 0 0 ++ (0 ∷ 0 ∷ wide_ann)) ≡ Err (BadInfo 24)
unfolding info_at info_start info_texts passing_at
short_user = refl

another_terminator : name_of (start 64 16 0 6 0 0 0 ++ (0 ∷ 0 ∷ wide_ann ++ (0 ∷ 1 ∷ replicate 6 0))) ≡ Err (BadInfo 30)
unfolding info_at info_start info_texts passing_at
another_terminator = refl

last_terminator : name_of (start 64 16 0 6 0 0 0 ++ (0 ∷ 0 ∷ wide_ann ++ (replicate 6 0 ++ (1 ∷ 0 ∷ [])))) ≡ Err (BadInfo 36)
unfolding info_at info_start info_texts other_texts passing_at
last_terminator = refl

half_terminator : name_of (start 64 16 0 6 0 0 0 ++ (0 ∷ 0 ∷ wide_ann ++ replicate 7 0)) ≡ Err (BadInfo 36)
unfolding info_at info_start info_texts other_texts passing_at
half_terminator = refl

single_terminator : name_of (start 64 0 1 1 0 0 0 ++ (120 ∷ 0 ∷ 97 ∷ 7 ∷ replicate 3 0)) ≡ Err (BadInfo 25)
unfolding info_at info_start info_texts passing_at
single_terminator = refl

-- ---- the license error message

valid_client : licence ≡ 128 ∷ 0 ∷ 0 ∷ 0 ∷ 255 ∷ 3 ∷ 16 ∷ 0 ∷ 7 ∷ 0 ∷ 0 ∷ 0 ∷ 2 ∷ 0 ∷ 0 ∷ 0 ∷ 4 ∷ 0 ∷ 0 ∷ 0 ∷ []
valid_client = refl
