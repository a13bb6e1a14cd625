-- What packets are, apart from reading: which bytes stand there, and what they say.
use Rattle.std.specs.Prelude.{◌≡◌, ℕ, ◌⊎◌, List, [], ◌∷◌, ◌++◌, length, Option, Some, None}
use Rattle.byteorder.specs.Endian.{big_number, little_number}
use Rattle.wire_num.specs.Layout.{Layout}
use Rattle.wire_num.specs.Refusal.{IsRefusedAt}
use Rattle.tpkt_x224.specs.declared.request.Request.{Request}
use Rattle.tpkt_x224.specs.Data.{data_header}

-- a carriage return and a line feed stand in the text, and these bytes behind them
abbrev pub HasLineEnd : List ℕ → List ℕ → Type 0
HasLineEnd text behind = (line : List ℕ) × (text ≡ line ++ (13 ∷ 10 ∷ behind))

-- a cookie ends with a carriage return and a line feed, which stand nowhere else in it
pub record IsCookie (text : List ℕ) : Type 0 where
  pub ended : HasLineEnd text []
  pub first : (behind : List ℕ) → HasLineEnd text behind → behind ≡ []

-- the first byte is the type of a negotiation request
abbrev pub HasNegotiationType : List ℕ → Type 0
HasNegotiationType [] = ⊥
HasNegotiationType (b ∷ bs) = b ≡ 1

-- a cookie, and the bytes behind it
pub record HasCookie (bytes after : List ℕ) : Type 0 where
  pub cookie : List ℕ
  pub is : IsCookie cookie
  pub whole : bytes ≡ cookie ++ after

-- no line ends, so all is the cookie, which may be empty, and nothing is behind it
pub record IsAllCookie (bytes after : List ℕ) : Type 0 where
  pub endless : (behind : List ℕ) → HasLineEnd bytes behind → ⊥
  pub none : after ≡ []

-- there is no cookie where a negotiation request's type stands first; else there is one, and these bytes are behind it
abbrev pub IsAfterCookie : List ℕ → List ℕ → Type 0
IsAfterCookie bytes after =
    (HasNegotiationType bytes × (after ≡ bytes)) ⊎ ((HasNegotiationType bytes → ⊥) × (HasCookie bytes after ⊎ IsAllCookie bytes after))

-- a negotiation request of these protocols: type, flags, length, requestedProtocols; any bytes may follow (MS-RDPBCGR, 2.2.1.1.1)
pub record IsNegotiation (bytes : List ℕ) (asked : ℕ) : Type 0 where
  pub flags : ℕ
  pub size : List ℕ
  pub protocols : List ℕ
  pub more : List ℕ
  pub two : length size ≡ 2
  pub four : length protocols ≡ 4
  pub whole : bytes ≡ 1 ∷ flags ∷ (size ++ (protocols ++ more))
  pub says : asked ≡ little_number 4 protocols

-- what is asked for by the bytes behind the cookie: the protocols of a negotiation request, or nothing where there is none
abbrev pub Asks : List ℕ → Option ℕ → Type 0
Asks bytes (Some asked) = IsNegotiation bytes asked
Asks bytes None = (asked : ℕ) → IsNegotiation bytes asked → ⊥

-- A packet is a Connection Request: a TPKT header of any four bytes; the length indicator, which counts all behind it; the
-- code; destination reference, source reference, class; a cookie; a negotiation request (X.224, 13.3; MS-RDPBCGR, 2.2.1.1).
pub record IsRequest (packet : List ℕ) (request : Request) : Type 0 where
  pub header : List ℕ
  pub destination : List ℕ
  pub source : List ℕ
  pub class : List ℕ
  pub variable : List ℕ
  pub after : List ℕ
  pub four : length header ≡ 4
  pub two : length destination ≡ 2
  pub also_two : length source ≡ 2
  pub one : length class ≡ 1
  pub whole : packet ≡ header ++ (length (224 ∷ (destination ++ (source ++ (class ++ variable)))) ∷ 224 ∷ (destination ++ (source ++ (class ++ variable))))
  pub reference : request.reference ≡ big_number 2 source
  pub cookie : IsAfterCookie variable after
  pub asked : Asks after request.asked

-- a packet carries data of MCS: a TPKT header of any four bytes, the Data header, and the data
pub record CarriesData (packet : List ℕ) : Type 0 where
  pub header : List ℕ
  pub carried : List ℕ
  pub four : length header ≡ 4
  pub whole : packet ≡ header ++ (data_header ++ carried)

-- the bytes are no text of the table, and its first field that isn't there should begin at this offset
pub record IsBrokenAt (layout : Layout) (bytes : List ℕ) (at : ℕ) : Type 0 where
  pub front : List ℕ
  pub left : List ℕ
  pub whole : bytes ≡ front ++ left
  pub place : at ≡ length front
  pub refused : IsRefusedAt layout bytes left
