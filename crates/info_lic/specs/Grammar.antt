-- What a Client Info PDU is, apart from reading: which bytes stand there, and which name they have.
use Rattle.std.specs.Prelude.{◌≡◌, ◌⊎◌, ℕ, ◌+◌, Bool, true, false, List, [], ◌∷◌, ◌++◌, length}
use Rattle.byteorder.specs.Endian.{little_number}
use Rattle.wire_num.specs.Grammar.{IsText}
use Rattle.info_lic.specs.declared.client_info.Counts.{Counts}
use Rattle.info_lic.specs.Name.{IsName}
use Rattle.info_lic.specs.ClientInfo.{info_start, counts_of, terminator, info_texts}

-- these bytes are code units of UTF-16, the low byte of each first
abbrev pub AreUnits : List ℕ → List ℕ → Type 0
AreUnits bytes [] = bytes ≡ []
AreUnits bytes (c ∷ cs) =
    (unit : List ℕ) × (more : List ℕ) × (length unit ≡ 2) × (little_number 2 unit ≡ c) × (bytes ≡ unit ++ more) × AreUnits more cs

-- a text's bytes write these characters: as code units of UTF-16, or one by each byte
abbrev pub Writes : Bool → List ℕ → List ℕ → Type 0
Writes true bytes cs = AreUnits bytes cs
Writes false bytes cs = bytes ≡ cs

-- the name of a text: its characters, where they are a name; else the empty one
abbrev pub IsNameOf : Bool → List ℕ → List ℕ → Type 0
IsNameOf unicode bytes name =
    (Writes unicode bytes name × IsName name) ⊎ (((cs : List ℕ) → Writes unicode bytes cs → IsName cs → ⊥) × (name ≡ []))

-- the bytes are a Client Info PDU: the fields before the texts, with these counts, and the texts; any bytes may follow
pub record IsClientInfo (bytes name : List ℕ) : Type 0 where
  pub values : List ℕ
  pub counts : Counts
  pub texts : List ℕ
  pub before : List ℕ
  pub user : List ℕ
  pub behind : List ℕ
  pub after : List ℕ
  pub start : IsText info_start bytes values texts
  pub counted : counts_of values ≡ counts
  pub all : IsText (info_texts counts) texts [] after
  pub whole : texts ≡ before ++ (user ++ behind)
  pub place : length before ≡ counts.domain + length (terminator counts.unicode)
  pub size : length user ≡ counts.user
  pub is : IsNameOf counts.unicode user name
