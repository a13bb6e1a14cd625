-- A grammar as a table: the fields of a text, in their order.
use Rattle.std.specs.Prelude.{ℕ, ◌==◌, Bool, List, [], ◌∷◌, ◌++◌, length, Ok, Err, if◌then◌else◌}
use Rattle.wire_num.specs.Field.{Read, then_read, map_read, bytes_at, wanted}
use Rattle.wire_num.specs.Number.{big_at, little_at}
use Rattle.wire_num.specs.FieldValue.{passing_at, end_at, at_least, rest_count_at}
use Rattle.wire_num.specs.Length.{per_len_at, ber_len_at}

infixr 4 ◌▸◌
-- how a count of bytes is written before them: in one byte, packed, or basic
pub data Count : Type 0 where
  OneByte : Count
  Packed : Count
  Basic : Count

pub data Layout : Type 0 where
  -- what follows is read by others
  Open : Layout
  -- nothing follows
  End : Layout
  -- bytes of any value, to the end
  Rest : Layout
  -- a count of the bytes to the end; another count is refused at their first byte
  Body : Count → Layout
  -- a count of the bytes to the end; fewer are refused at their first byte, more at the first one left over
  Content : Count → Layout
  -- a count of the bytes to the end, and fields in them; another count is refused at their first byte
  Exactly : Count → Layout → Layout
  -- exactly these bytes
  Bytes : List ℕ → Layout → Layout
  -- so many bytes of any value
  Any : ℕ → Layout → Layout
  -- a number of so many bytes that passes the test, the highest or the lowest byte first
  Big : ℕ → (ℕ → Bool) → Layout → Layout
  Little : ℕ → (ℕ → Bool) → Layout → Layout
  -- one byte: how many follow it to the end
  CountsRest : Layout → Layout
  -- so many bytes are there; else the refusal is at the end
  AtLeast : ℕ → Layout → Layout
  -- a count, whose value isn't compared
  Length : Count → Layout → Layout
  -- a count that passes the test, and so many bytes of any value
  Counted : Count → (ℕ → Bool) → Layout → Layout
  -- a count, and fields in exactly so many bytes; too few are refused at their first byte
  Within : Count → Layout → Layout → Layout

-- a row of the table above the others
abbrev pub ◌▸◌ : (Layout → Layout) → Layout → Layout
field ▸ next = field next

abbrev pub count_at : Count → List ℕ → Read ℕ
count_at OneByte bs = big_at 1 bs
count_at Packed bs = per_len_at bs
count_at Basic bs = ber_len_at bs

-- n bytes of any value, and nothing after them
unfoldable pub exactly_at : ℕ → List ℕ → Read (List ℕ)
exactly_at n bs = if length bs == n then Ok (bs, []) else Err bs

-- what fields in the first bytes give, with the bytes after them
abbrev pub before : {A : Type 0} → List ℕ → Read A → Read A
before after (Ok v) = Ok (v.0, after)
before after (Err left) = Err (left ++ after)

-- the values of a text, in their order, and the bytes after it; or the bytes from its first field that breaks its rule
abbrev pub fields_at : Layout → List ℕ → Read (List ℕ)
fields_at Open bs = Ok ([], bs)
fields_at End bs = end_at bs
fields_at Rest bs = Ok ([], [])
fields_at (Body form) bs =
    then_read (count_at form bs) (λ n rest. map_read (λ _. n ∷ []) (exactly_at n rest))
fields_at (Content form) bs =
    then_read (count_at form bs) (λ n rest. then_read (bytes_at n rest) (λ _ after. map_read (λ _. n ∷ []) (end_at after)))
fields_at (Exactly form next) bs =
    then_read (count_at form bs) (λ n rest. then_read (exactly_at n rest) (λ content _. fields_at next content))
fields_at (Bytes ws next) bs = then_read (wanted ws bs) (λ _ rest. fields_at next rest)
fields_at (Any n next) bs = then_read (bytes_at n bs) (λ _ rest. fields_at next rest)
fields_at (Big n test next) bs =
    then_read (passing_at test (big_at n) bs) (λ v rest. map_read (λ vs. v ∷ vs) (fields_at next rest))
fields_at (Little n test next) bs =
    then_read (passing_at test (little_at n) bs) (λ v rest. map_read (λ vs. v ∷ vs) (fields_at next rest))
fields_at (CountsRest next) bs = then_read (rest_count_at bs) (λ _ rest. fields_at next rest)
fields_at (AtLeast n next) bs = then_read (at_least n bs) (λ _ rest. fields_at next rest)
fields_at (Length form next) bs = then_read (count_at form bs) (λ _ rest. fields_at next rest)
fields_at (Counted form test next) bs =
    then_read (passing_at test (count_at form) bs) (λ n rest. then_read (bytes_at n rest) (λ _ after. fields_at next after))
fields_at (Within form inner next) bs =
    then_read (count_at form bs) (λ n rest.
    then_read (bytes_at n rest) (λ content after.
    then_read (before after (then_read (fields_at inner content) (λ vs left. map_read (λ _. vs) (end_at left)))) (λ vs after.
    map_read (λ more. vs ++ more) (fields_at next after))))
