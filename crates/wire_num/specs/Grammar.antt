-- What the texts of a layout are, apart from reading: field by field, which bytes stand there and which value they have.
use Rattle.std.specs.Prelude.{◌≡◌, ◌≤◌, ◌<◌, ℕ, ◌+◌, ◌-◌, ◌*◌, true, List, [], ◌∷◌, ◌++◌, length}
use Rattle.byteorder.specs.Endian.{big_number, little_number}
use Rattle.wire_num.specs.Layout.{Layout, Open, End, Rest, Body, Content, Exactly, Bytes, Any, Big, Little, CountsRest, AtLeast, Length, Counted}
use Rattle.wire_num.specs.Layout.{Within, Count, OneByte, Packed, Basic}

-- these bytes are a packed length of n (X.691, 10.9.3.6 and 10.9.3.7)
abbrev pub IsPacked : List ℕ → ℕ → Type 0
IsPacked [] n = ⊥
IsPacked (b ∷ []) n = (b < 128) × (n ≡ b)
IsPacked (b ∷ c ∷ []) n = (128 ≤ b) × (b < 192) × (n ≡ 256 * (b - 128) + c)
IsPacked (b ∷ c ∷ d ∷ bs) n = ⊥

-- these bytes are a basic length of n (X.690, 8.1.3.4 and 8.1.3.5)
abbrev pub IsBasic : List ℕ → ℕ → Type 0
IsBasic [] n = ⊥
IsBasic (b ∷ []) n = (b < 128) × (n ≡ b)
IsBasic (b ∷ c ∷ []) n = (b ≡ 129) × (n ≡ c)
IsBasic (b ∷ c ∷ d ∷ []) n = (b ≡ 130) × (n ≡ 256 * c + d)
IsBasic (b ∷ c ∷ d ∷ e ∷ bs) n = ⊥

abbrev pub IsOneByte : List ℕ → ℕ → Type 0
IsOneByte [] n = ⊥
IsOneByte (b ∷ []) n = n ≡ b
IsOneByte (b ∷ c ∷ bs) n = ⊥

abbrev pub IsCount : Count → List ℕ → ℕ → Type 0
IsCount OneByte text n = IsOneByte text n
IsCount Packed text n = IsPacked text n
IsCount Basic text n = IsBasic text n

-- the bytes are a text of the layout with these values, and then what is left
abbrev pub IsText : Layout → List ℕ → List ℕ → List ℕ → Type 0
IsText Open bytes values left = (values ≡ []) × (bytes ≡ left)
IsText End bytes values left = (values ≡ []) × (bytes ≡ []) × (left ≡ [])
IsText Rest bytes values left = (values ≡ []) × (left ≡ [])
IsText (Body form) bytes values left =
    (count : List ℕ) × (body : List ℕ) × IsCount form count (length body)
    × (bytes ≡ count ++ body) × (values ≡ length body ∷ []) × (left ≡ [])
IsText (Content form) bytes values left =
    (count : List ℕ) × (content : List ℕ) × IsCount form count (length content)
    × (bytes ≡ count ++ content) × (values ≡ length content ∷ []) × (left ≡ [])
IsText (Exactly form next) bytes values left =
    (count : List ℕ) × (content : List ℕ) × IsCount form count (length content) × (bytes ≡ count ++ content) × IsText next content values left
IsText (Bytes ws next) bytes values left =
    (more : List ℕ) × (bytes ≡ ws ++ more) × IsText next more values left
IsText (Any n next) bytes values left =
    (skipped : List ℕ) × (more : List ℕ) × (length skipped ≡ n) × (bytes ≡ skipped ++ more) × IsText next more values left
IsText (Big n test next) bytes values left =
    (text : List ℕ) × (more : List ℕ) × (others : List ℕ) × (length text ≡ n) × (test (big_number n text) ≡ true)
    × (bytes ≡ text ++ more) × (values ≡ big_number n text ∷ others) × IsText next more others left
IsText (Little n test next) bytes values left =
    (text : List ℕ) × (more : List ℕ) × (others : List ℕ) × (length text ≡ n) × (test (little_number n text) ≡ true)
    × (bytes ≡ text ++ more) × (values ≡ little_number n text ∷ others) × IsText next more others left
IsText (CountsRest next) bytes values left =
    (more : List ℕ) × (bytes ≡ length more ∷ more) × IsText next more values left
IsText (AtLeast n next) bytes values left = (n ≤ length bytes) × IsText next bytes values left
IsText (Length form next) bytes values left =
    (count : List ℕ) × (n : ℕ) × (more : List ℕ) × IsCount form count n × (bytes ≡ count ++ more) × IsText next more values left
IsText (Counted form test next) bytes values left =
    (count : List ℕ) × (content : List ℕ) × (more : List ℕ) × IsCount form count (length content) × (test (length content) ≡ true)
    × (bytes ≡ count ++ (content ++ more)) × IsText next more values left
IsText (Within form inner next) bytes values left =
    (count : List ℕ) × (content : List ℕ) × (more : List ℕ) × (own : List ℕ) × (others : List ℕ)
    × IsCount form count (length content) × IsText inner content own [] × (bytes ≡ count ++ (content ++ more))
    × (values ≡ own ++ others) × IsText next more others left
