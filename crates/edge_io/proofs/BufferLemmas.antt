-- Parts of a buffer.
use Rattle.std.proofs.Common.{◌≡◌, ℕ, ◌+◌, ◌-◌, ◌<◌, ◌≤◌, Bool, true, false, List, [], ◌∷◌, ◌++◌, length, take, drop, Some, None, sym, ap, ◌∙◌, refl, arith, append_assoc, length-append}
use Rattle.std.specs.Prelude.{slice_range, nat_lt, if◌then◌else◌}
use Rattle.std.specs.declared.option.Option.{Option}
use Rattle.std.specs.Io.KnownBytes.{Keeps, Consumes, prepend_known}
use Rattle.std.proofs.Math.Seq.{take-add}
use Rattle.std.proofs.lemmas.Bool.Decides.{nat_tests}
use Rattle.std.proofs.lemmas.List.{take_at, drop-take, drop-drop, length-take, length-drop}
use Rattle.line_text.specs.Lines.{line_bytes, is_past_limits}

-- the front of a front
take_of_take : (xs : List ℕ) (n m : ℕ) → n ≤ length xs → take n (take (n + m) xs) ≡ take n xs
take_of_take xs n m le =
    let len : length (take n xs) ≡ n = omega (arith, length-take n xs) in
    ap (take n) (take-add n m xs) ∙ take_at (take n xs) (take m (drop n xs)) n len

-- the front of a part
pub part_front : (xs : List ℕ) (from to count : ℕ) → from + count ≤ to → to ≤ length xs →
    slice_range xs from (from + count) ≡ take count (slice_range xs from to)
part_front xs from to count le inside =
    let rest = to - from - count in
    let whole : to - from ≡ count + rest = omega arith in
    let short : (from + count) - from ≡ count = omega arith in
    let room : count ≤ length (drop from xs) = omega (arith, length-drop from xs) in
    rw (short, whole) (sym (take_of_take (drop from xs) count rest room))

-- the rest of a part
pub part_rest : (xs : List ℕ) (from to count : ℕ) → from + count ≤ to → slice_range xs (from + count) to ≡ drop count (slice_range xs from to)
part_rest xs from to count le =
    let rest = to - from - count in
    let whole : to - from ≡ count + rest = omega arith in
    let left : to - (from + count) ≡ rest = omega arith in
    rw (whole, left) (ap (take rest) (sym (drop-drop count from xs)) ∙ sym (drop-take count rest (drop from xs)))

-- the length of a part
pub length-part : (xs : List ℕ) (from to : ℕ) → from ≤ to → to ≤ length xs → length (slice_range xs from to) ≡ to - from
length-part xs from to le inside = omega (arith, length-take (to - from) (drop from xs), length-drop from xs)

-- a part that was moved to the front, with what was read behind it
pub part_and_read : (xs moved read : List ℕ) (from to n : ℕ) → take (to - from) moved ≡ slice_range xs from to → take (to - from) read ≡ take (to - from) moved →
    slice_range read 0 (to - from + n) ≡ slice_range xs from to ++ take n (drop (to - from) read)
part_and_read xs moved read from to n is kept = let all : (to - from + n) - 0 ≡ to - from + n = omega arith in ap (λ count. take count read) all ∙ take-add (to - from) n read ∙ ap (λ front. front ++ take n (drop (to - from) read)) (kept ∙ is)

-- bytes that were read and are held are still ahead
pub keeps_read : (held piece : List ℕ) (old new : Option (List ℕ)) → Consumes old new piece → Keeps (prepend_known held old) (prepend_known (held ++ piece) new)
keeps_read held piece None new taken = tt
keeps_read held piece (Some xs) None taken = absurd taken
keeps_read held piece (Some xs) (Some ys) taken = append_assoc held piece ys ∙ ap (λ rest. held ++ rest) (sym taken)

pub keeps_held : (held : List ℕ) (old new : Option (List ℕ)) → Keeps old new → Keeps (prepend_known held old) (prepend_known held new)
keeps_held held None new kept = tt
keeps_held held (Some xs) None kept = absurd kept
keeps_held held (Some xs) (Some ys) kept = ap (λ rest. held ++ rest) kept

pub keeps_trans : (a b c : Option (List ℕ)) → Keeps a b → Keeps b c → Keeps a c
keeps_trans None b c p q = tt
keeps_trans (Some x) None c p q = absurd p
keeps_trans (Some x) (Some y) None p q = absurd q
keeps_trans (Some x) (Some y) (Some z) p q = q ∙ p

-- how long a line is, with its line feed
pub length-line_bytes : (text : List ℕ) (ended : Bool) → length (line_bytes (record { text = text; ended = ended })) ≡ length text + (if ended then 1 else 0)
length-line_bytes text true = length-append text (10 ∷ [])
length-line_bytes text false = length-append text []

-- a line is within the limits
pub is_within : (at count whole : ℕ) (text : List ℕ) (ended : Bool) → length text ≡ count → whole ≡ count + (if ended then 1 else 0) → count ≤ 32768 → at + whole ≤ 268435456 →
    is_past_limits at (record { text = text; ended = ended }) ≡ false
is_within at count whole text ended len size short inside =
    let first : nat_lt 32768 (length text) ≡ false = grind (arith, nat_tests) in
    let bytes : length (line_bytes (record { text = text; ended = ended })) ≡ whole = length-line_bytes text ended ∙ ap (λ n. n + (if ended then 1 else 0)) len ∙ sym size in
    let second : nat_lt 268435456 (at + whole) ≡ false = grind (arith, nat_tests) in
    rw (first, bytes, second) refl

-- a line is too long
pub is_too_long : (at : ℕ) (text : List ℕ) (ended : Bool) → 32768 < length text → is_past_limits at (record { text = text; ended = ended }) ≡ true
is_too_long at text ended long = let first : nat_lt 32768 (length text) ≡ true = grind (arith, nat_tests) in rw first refl
