-- Where a text is refused, apart from reading: the fields before that place stand there, and the next one doesn't.
use Rattle.std.specs.Prelude.{◌≡◌, ◌<◌, ◌≤◌, ◌⊎◌, ℕ, Bool, true, List, [], ◌∷◌, ◌++◌, length}
use Rattle.byteorder.specs.Endian.{big_number, little_number}
use Rattle.wire_num.specs.Layout.{Layout, Open, End, Rest, Body, Content, Exactly, Bytes, Any, Big, Little, CountsRest, AtLeast, Length, Counted, Within, Count}
use Rattle.wire_num.specs.Grammar.{IsCount, IsText}

-- No text of a field is at the front of the bytes, and the place is their first byte. Which texts a field has is told with
-- the bytes after them.
abbrev pub Missing : (List ℕ → List ℕ → Type 0) → List ℕ → List ℕ → Type 0
Missing IsField bytes left = ((text : List ℕ) (more : List ℕ) → bytes ≡ text ++ more → IsField text more → ⊥) × (left ≡ bytes)

-- a count stands there, and then fewer bytes than it counts: the place is the first of these
abbrev pub TooFew : (List ℕ → ℕ → Type 0) → List ℕ → List ℕ → Type 0
TooFew IsCountOf bytes left = (count : List ℕ) × (n : ℕ) × IsCountOf count n × (bytes ≡ count ++ left) × (length left < n)

-- a count of some number, and one that passes a test
abbrev pub IsSomeCount : Count → List ℕ → List ℕ → Type 0
IsSomeCount form text more = (n : ℕ) × IsCount form text n

abbrev pub IsPassingCount : Count → (ℕ → Bool) → List ℕ → ℕ → Type 0
IsPassingCount form test text n = IsCount form text n × (test n ≡ true)

-- a count stands there, and then another number of bytes to the end: the place is the first of these
abbrev pub OtherCount : Count → List ℕ → List ℕ → Type 0
OtherCount form bytes left = (count : List ℕ) × (n : ℕ) × IsCount form count n × (bytes ≡ count ++ left) × (length left ≡ n → ⊥)

-- These bytes are no text of the layout. Left are those from the place on at which its first field that isn't there should
-- stand: from this field's first byte, from the end where so many bytes aren't there, and for a count with what it counts
--   from the count, where none stands there or it fails its test;
--   from the first byte behind it, where too few are there, or more where it counts all to the end;
--   within it from the first byte of the field there that isn't there, or that is left over.
abbrev pub IsRefusedAt : Layout → List ℕ → List ℕ → Type 0
IsRefusedAt Open bytes left = ⊥
IsRefusedAt End bytes left = (0 < length bytes) × (left ≡ bytes)
IsRefusedAt Rest bytes left = ⊥
IsRefusedAt (Body form) bytes left =
    Missing (IsSomeCount form) bytes left
    ⊎ OtherCount form bytes left
IsRefusedAt (Content form) bytes left =
    Missing (IsSomeCount form) bytes left
    ⊎ (TooFew (IsCount form) bytes left
    ⊎ ((count : List ℕ) × (content : List ℕ) × IsCount form count (length content) × (bytes ≡ count ++ (content ++ left)) × (0 < length left)))
IsRefusedAt (Exactly form next) bytes left =
    Missing (IsSomeCount form) bytes left
    ⊎ (OtherCount form bytes left
    ⊎ ((count : List ℕ) × (content : List ℕ) × IsCount form count (length content) × (bytes ≡ count ++ content) × IsRefusedAt next content left))
IsRefusedAt (Bytes ws next) bytes left =
    Missing (λ text more. text ≡ ws) bytes left
    ⊎ ((more : List ℕ) × (bytes ≡ ws ++ more) × IsRefusedAt next more left)
IsRefusedAt (Any n next) bytes left =
    Missing (λ text more. length text ≡ n) bytes left
    ⊎ ((skipped : List ℕ) × (more : List ℕ) × (length skipped ≡ n) × (bytes ≡ skipped ++ more) × IsRefusedAt next more left)
IsRefusedAt (Big n test next) bytes left =
    Missing (λ text more. (length text ≡ n) × (test (big_number n text) ≡ true)) bytes left
    ⊎ ((text : List ℕ) × (more : List ℕ) × (length text ≡ n) × (test (big_number n text) ≡ true) × (bytes ≡ text ++ more)
    × IsRefusedAt next more left)
IsRefusedAt (Little n test next) bytes left =
    Missing (λ text more. (length text ≡ n) × (test (little_number n text) ≡ true)) bytes left
    ⊎ ((text : List ℕ) × (more : List ℕ) × (length text ≡ n) × (test (little_number n text) ≡ true) × (bytes ≡ text ++ more)
    × IsRefusedAt next more left)
IsRefusedAt (CountsRest next) bytes left =
    Missing (λ text more. text ≡ length more ∷ []) bytes left
    ⊎ ((more : List ℕ) × (bytes ≡ length more ∷ more) × IsRefusedAt next more left)
IsRefusedAt (AtLeast n next) bytes left = ((length bytes < n) × (left ≡ [])) ⊎ ((n ≤ length bytes) × IsRefusedAt next bytes left)
IsRefusedAt (Length form next) bytes left =
    Missing (IsSomeCount form) bytes left
    ⊎ ((count : List ℕ) × (n : ℕ) × (more : List ℕ) × IsCount form count n × (bytes ≡ count ++ more) × IsRefusedAt next more left)
IsRefusedAt (Counted form test next) bytes left =
    Missing (λ text more. (n : ℕ) × IsPassingCount form test text n) bytes left
    ⊎ (TooFew (IsPassingCount form test) bytes left
    ⊎ ((count : List ℕ) × (content : List ℕ) × (more : List ℕ) × IsPassingCount form test count (length content)
    × (bytes ≡ count ++ (content ++ more)) × IsRefusedAt next more left))
IsRefusedAt (Within form inner next) bytes left =
    Missing (IsSomeCount form) bytes left
    ⊎ (TooFew (IsCount form) bytes left
    ⊎ ((count : List ℕ) × (content : List ℕ) × (more : List ℕ) × IsCount form count (length content) × (bytes ≡ count ++ (content ++ more))
    × (((place : List ℕ) × IsRefusedAt inner content place × (left ≡ place ++ more))
    ⊎ (((own : List ℕ) × (over : List ℕ) × IsText inner content own over × (0 < length over) × (left ≡ over ++ more))
    ⊎ ((own : List ℕ) × IsText inner content own [] × IsRefusedAt next more left)))))
