-- Lines at the front of bytes.
use Rattle.std.proofs.Common.{◌≡◌, ℕ, suc, ◌+◌, ◌<◌, Bool, true, false, cond, List, [], ◌∷◌, ◌++◌, length, take, drop, Some, None, ap, ◌∙◌, refl, arith, position, length-append}
use Rattle.std.specs.Prelude.{◌==◌, ⊤}
use Rattle.std.proofs.lemmas.List.Elements.{All-nil, All-cons}
use Rattle.std.specs.List.{position_from, slice_split, onto_first, All}
use Rattle.std.proofs.lemmas.Bool.Decides.{nat_tests}
use Rattle.std.proofs.lemmas.Iterator.Adapters.{position_from-zero}
use Rattle.std.proofs.lemmas.List.Splits.{slice_split_at, slice_split_none, slice_split-cons_no, length-slice_split}
use Rattle.line_text.specs.Lines.{lines_of, lines_of_parts, last_line}
use Rattle.edge_io.specs.Reading.{first_is_past}
use Rattle.edge_io.proofs.BufferLemmas.{is_too_long}

abbrev pub is_feed : ℕ → Bool
is_feed b = b == 10

-- no byte is a line feed
abbrev pub IsPlain : List ℕ → Type 0
IsPlain [] = ⊤
IsPlain (b ∷ bytes) = (is_feed b ≡ false) × IsPlain bytes

all_plain : (bytes : List ℕ) → IsPlain bytes → All (λ b. is_feed b ≡ false) bytes
all_plain [] plain = All-nil (λ b. is_feed b ≡ false)
all_plain (b ∷ bytes) plain = All-cons (λ b. is_feed b ≡ false) b bytes plain.0 (all_plain bytes plain.1)

-- a line feed stands at this place, and none before it
pub record FeedAt (bytes : List ℕ) (i n : ℕ) : Type 0 where
  pub place : ℕ
  pub is_place : n ≡ i + place
  pub plain : IsPlain (take place bytes)
  pub cut : bytes ≡ take place bytes ++ 10 ∷ drop (suc place) bytes

feed_first : (b : ℕ) (bytes : List ℕ) (i n : ℕ) (test : Bool) → is_feed b ≡ test → Some n ≡ cond test (Some i) (position_from is_feed (i + 1) bytes) →
    (Some n ≡ position_from is_feed (i + 1) bytes → FeedAt bytes (i + 1) n) → FeedAt (b ∷ bytes) i n
feed_first b bytes i n true is e next =
    let same : n ≡ i = cc in
    let feed : b ≡ 10 = grind (arith, nat_tests) in
    record { place = 0; is_place = omega arith; plain = tt; cut = ap (λ c. c ∷ bytes) feed }
feed_first b bytes i n false is e next =
    let rest : FeedAt bytes (i + 1) n = next e in
    record { place = suc rest.place; is_place = omega (arith, rest.is_place); plain = (is, rest.plain); cut = ap (λ bs. b ∷ bs) rest.cut }

feed_from : (bytes : List ℕ) (i n : ℕ) → Some n ≡ position_from is_feed i bytes → FeedAt bytes i n
feed_from [] i n e = cc
feed_from (b ∷ bytes) i n e = feed_first b bytes i n (is_feed b) refl e (λ h. feed_from bytes (i + 1) n h)

-- where a search found one
pub feed_found : (bytes : List ℕ) (n : ℕ) → Some n ≡ position is_feed bytes → FeedAt bytes 0 n
feed_found bytes n e = feed_from bytes 0 n (e ∙ position_from-zero is_feed bytes)

plain_first : (b : ℕ) (bytes : List ℕ) (i : ℕ) (test : Bool) → is_feed b ≡ test → None ≡ cond test (Some i) (position_from is_feed (i + 1) bytes) →
    (None ≡ position_from is_feed (i + 1) bytes → IsPlain bytes) → IsPlain (b ∷ bytes)
plain_first b bytes i true is e next = cc
plain_first b bytes i false is e next = (is, next e)

plain_from : (bytes : List ℕ) (i : ℕ) → None ≡ position_from is_feed i bytes → IsPlain bytes
plain_from [] i e = tt
plain_from (b ∷ bytes) i e = plain_first b bytes i (is_feed b) refl e (λ h. plain_from bytes (i + 1) h)

-- where a search found none
pub feed_missing : (bytes : List ℕ) → None ≡ position is_feed bytes → IsPlain bytes
feed_missing bytes e = plain_from bytes 0 (e ∙ position_from-zero is_feed bytes)

part_ended : (part : List ℕ) (parts : List (List ℕ)) → 0 < length parts → lines_of_parts (part ∷ parts) ≡ record { text = part; ended = true } ∷ lines_of_parts parts
part_ended part [] some = absurd (omega arith)
part_ended part (next ∷ parts) some = refl

-- a line that is ended
pub line_ended : (text rest : List ℕ) → IsPlain text → lines_of (text ++ 10 ∷ rest) ≡ record { text = text; ended = true } ∷ lines_of rest
line_ended text rest plain =
    let some : 0 < length (slice_split is_feed rest) = omega (arith, length-slice_split is_feed rest) in
    ap lines_of_parts (slice_split_at is_feed text 10 rest (all_plain text plain) refl) ∙ part_ended text (slice_split is_feed rest) some

-- a last line that isn't
pub line_unended : (text : List ℕ) → 0 < length text → IsPlain text → lines_of text ≡ record { text = text; ended = false } ∷ []
line_unended text some plain = ap lines_of_parts (slice_split_none is_feed text (all_plain text plain)) ∙ last text some where
  last : (text : List ℕ) → 0 < length text → last_line text ≡ record { text = text; ended = false } ∷ []
  last [] some = absurd (omega arith)
  last (b ∷ bs) some = refl

-- the first part begins with plain bytes at the front
record BeginsWith (text : List ℕ) (parts : List (List ℕ)) : Type 0 where
  rest : List ℕ
  others : List (List ℕ)
  is : parts ≡ (text ++ rest) ∷ others

some_first : (parts : List (List ℕ)) → 0 < length parts → BeginsWith [] parts
some_first [] some = absurd (omega arith)
some_first (part ∷ parts) some = record { rest = part; others = parts; is = refl }

begins_with : (text bytes : List ℕ) → IsPlain text → BeginsWith text (slice_split is_feed (text ++ bytes))
begins_with [] bytes plain = some_first (slice_split is_feed bytes) (omega (arith, length-slice_split is_feed bytes))
begins_with (b ∷ text) bytes plain = let h : BeginsWith text (slice_split is_feed (text ++ bytes)) = begins_with text bytes plain.1 in
    record { rest = h.rest; others = h.others; is = slice_split-cons_no is_feed b (text ++ bytes) plain.0 ∙ ap (onto_first b) h.is }

long_first : (at : ℕ) (part : List ℕ) (parts : List (List ℕ)) → 32768 < length part → first_is_past at (lines_of_parts (part ∷ parts)) ≡ true
long_first at [] parts long = absurd (omega arith)
long_first at (b ∷ bs) [] long = is_too_long at (b ∷ bs) false long
long_first at (b ∷ bs) (next ∷ parts) long = is_too_long at (b ∷ bs) true long

-- plain bytes that are too many for a line make the first line too long
pub line_too_long : (at : ℕ) (text bytes : List ℕ) → IsPlain text → 32768 < length text → first_is_past at (lines_of (text ++ bytes)) ≡ true
line_too_long at text bytes plain long =
    let h : BeginsWith text (slice_split is_feed (text ++ bytes)) = begins_with text bytes plain in
    let longer : 32768 < length (text ++ h.rest) = omega (arith, length-append text h.rest) in
    rw h.is (long_first at (text ++ h.rest) h.others longer)
