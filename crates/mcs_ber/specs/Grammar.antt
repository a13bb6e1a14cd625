-- What a Connect-Initial is, apart from reading: which bytes stand there, and where its user data are.
use Rattle.std.specs.Prelude.{◌≡◌, ◌≤◌, ℕ, List, [], ◌∷◌, ◌++◌, length, flat_map}
use Rattle.std.specs.List.{AllByRecursion}
use Rattle.wire_num.specs.declared.range.Range.{Range}
use Rattle.wire_num.specs.Grammar.{IsBasic}

-- a tag, a basic length of the content, and the content (X.690, 8.1.1)
pub record IsTagged (tag content text : List ℕ) : Type 0 where
  pub count : List ℕ
  pub counted : IsBasic count (length content)
  pub whole : text ≡ tag ++ (count ++ content)

-- an octet string of any bytes
pub record IsSelector (text : List ℕ) : Type 0 where
  pub content : List ℕ
  pub tagged : IsTagged (4 ∷ []) content text

-- an integer of one to four bytes, of any value
pub record IsInteger (text : List ℕ) : Type 0 where
  pub content : List ℕ
  pub tagged : IsTagged (2 ∷ []) content text
  pub some : 1 ≤ length content
  pub few : length content ≤ 4

-- a sequence of eight integers
pub record AreParameters (text : List ℕ) : Type 0 where
  pub integers : List (List ℕ)
  pub eight : length integers ≡ 8
  pub each : AllByRecursion IsInteger integers
  pub tagged : IsTagged (48 ∷ []) (flat_map (λ integer. integer) integers) text

-- bytes that end with so many ones have them from one place on to another
pub record IsEndOf (bytes part : List ℕ) (place : Range) : Type 0 where
  pub before : List ℕ
  pub whole : bytes ≡ before ++ part
  pub from : place.from ≡ length before
  pub to : place.to ≡ length bytes

-- The bytes are a Connect-Initial whose user data are there: callingDomainSelector, calledDomainSelector, upwardFlag,
-- targetParameters, minimumParameters, maximumParameters, userData (T.125, 7).
pub record IsInitial (bytes : List ℕ) (place : Range) : Type 0 where
  pub calling : List ℕ
  pub called : List ℕ
  pub flag : ℕ
  pub target : List ℕ
  pub minimum : List ℕ
  pub maximum : List ℕ
  pub last : List ℕ
  pub user : List ℕ
  pub whole : IsTagged (127 ∷ 101 ∷ []) (calling ++ (called ++ (1 ∷ 1 ∷ flag ∷ (target ++ (minimum ++ (maximum ++ last)))))) bytes
  pub by : IsSelector calling
  pub to : IsSelector called
  pub wanted : AreParameters target
  pub least : AreParameters minimum
  pub most : AreParameters maximum
  pub user_data : IsTagged (4 ∷ []) user last
  pub there : IsEndOf bytes user place
