-- The headers of a share PDU: what stands behind them is read next, and where one is refused so is the PDU.
use Rattle.std.proofs.Common.{◌≡◌, inl, inr, ℕ, ◌+◌, ◌%◌, Bool, true, false, cond, List, [], ◌∷◌, ◌++◌, length, ap, sym, ◌∙◌, arith, length-append}
use Rattle.std.specs.Prelude.{slice_index, Ok, Err, if◌then◌else◌}
use Rattle.std.proofs.lemmas.Bool.Decides.{nat_tests}
use Rattle.byteorder.specs.Endian.{big_number, little_number}
use Rattle.wire_num.specs.Field.{bytes_at}
use Rattle.wire_num.specs.Number.{big_value, big_at}
use Rattle.wire_num.specs.Caused.{Caused, caused, then_caused}
use Rattle.wire_num.proofs.Caused.{go_on_caused, stop_caused}
use Rattle.wire_num.specs.FieldValue.{has_bits}
use Rattle.wire_num.specs.Layout.{fields_at}
use Rattle.wire_num.specs.Grammar.{IsText}
use Rattle.wire_num.proofs.TextIsRead.{bytes_there, text_is_read}
use Rattle.wire_num.proofs.Missing.{bytes_short}
use Rattle.share_pdu.specs.declared.client_pdu.ClientPdu.{ClientPdu}
use Rattle.share_pdu.specs.declared.client_pdu.ClientPdu.TheVariants.{Confirm}
use Rattle.share_pdu.specs.declared.share_fault.Cause.{Cause}
use Rattle.share_pdu.specs.declared.share_fault.Cause.TheVariants.{Broken, Packed}
use Rattle.share_pdu.specs.ClientPdu.{is_confirm, is_client_type, control_header, data_header, compressed_type_at, last_bytes, data_body_at, data_pdu_at, client_pdu_at}
use Rattle.share_pdu.specs.Grammar.{HasType, IsNamed, IsData}
use Rattle.share_pdu.specs.Faults.{LacksLength, IsPacked}

abbrev pub Reading : Type 0
Reading = Caused Cause ClientPdu

-- ---- what each step goes on with

abbrev pub by_type : ℕ → List ℕ → List ℕ → Reading
by_type total values more = if is_confirm (slice_index values 0) then Ok (Confirm (last_bytes total more), more) else data_pdu_at total more

abbrev pub behind_length : ℕ → ℕ → List ℕ → List ℕ → Reading
behind_length kind total counted body = caused Broken (data_body_at kind total body)

abbrev pub behind_type : ℕ → ℕ → ℕ → List ℕ → Reading
behind_type kind total type more = then_caused (caused Broken (bytes_at 2 more)) (behind_length kind total)

abbrev pub by_kind : ℕ → List ℕ → List ℕ → Reading
by_kind total values more = then_caused (compressed_type_at more) (behind_type (slice_index values 0) total)

-- ---- types

pub confirm_of : (type : ℕ) → is_confirm type ≡ true → type % 16 ≡ 3
confirm_of type e = grind (arith, nat_tests, e)

pub data_of : (type : ℕ) → is_client_type type ≡ true → is_confirm type ≡ false → type % 16 ≡ 7
data_of type e f = grind (arith, nat_tests, e, f)

is_active : (type : ℕ) → type % 16 ≡ 3 → is_confirm type ≡ true
is_active type e = grind (arith, nat_tests, e)

is_data : (type : ℕ) → type % 16 ≡ 7 → is_confirm type ≡ false
is_data type e = grind (arith, nat_tests, e)

pub record TypeRead (pdu values fields : List ℕ) : Type 0 where
  pub type : ℕ
  pub are : values ≡ type ∷ []
  pub of_client : is_client_type type ≡ true

pub type_read : (pdu values fields : List ℕ) → IsText control_header pdu values fields → TypeRead pdu values fields
unfolding control_header
type_read pdu values fields t =
    let here = t.4 in
    record {
      type = little_number 2 here.0;
      are = here.6 ∙ ap (λ xs. little_number 2 here.0 ∷ xs) here.7.4.0;
      of_client = here.4;
    }

pub kind_read : (fields values described : List ℕ) → IsText data_header fields values described → (kind : ℕ) × (values ≡ kind ∷ [])
unfolding data_header
kind_read fields values described t =
    let here = t.4.4.4.4 in
    (big_number 1 here.0, here.6 ∙ ap (λ xs. big_number 1 here.0 ∷ xs) here.7.0)

-- ---- how long the headers are

pub control_size : (pdu values fields : List ℕ) → IsText control_header pdu values fields → length pdu ≡ 6 + length fields
unfolding control_header
control_size pdu values fields t =
    let total = t in
    let type = t.4 in
    let source = type.7 in
    omega (
      arith,
      total.2,
      ap length total.3,
      length-append total.0 total.1,
      type.3,
      ap length type.5,
      length-append type.0 type.1,
      source.2,
      ap length source.3,
      length-append source.0 source.1,
      ap length source.4.1,
    )

pub data_size : (fields values described : List ℕ) → IsText data_header fields values described → length fields ≡ 9 + length described
unfolding data_header
data_size fields values described t =
    let pad = t.4 in
    let stream = pad.4 in
    let size = stream.4 in
    let kind = size.4 in
    omega (
      arith,
      t.2,
      ap length t.3,
      length-append t.0 t.1,
      pad.2,
      ap length pad.3,
      length-append pad.0 pad.1,
      stream.2,
      ap length stream.3,
      length-append stream.0 stream.1,
      size.2,
      ap length size.3,
      length-append size.0 size.1,
      kind.3,
      ap length kind.5,
      length-append kind.0 kind.1,
      ap length kind.7.1,
    )

pub body_size : (pdu : List ℕ) (kind : ℕ) (body : List ℕ) → IsData pdu kind body → length pdu ≡ 18 + length body
body_size pdu kind body d =
    let n = d.named in
    omega (
      arith,
      control_size pdu (n.type ∷ []) n.fields n.header,
      data_size n.fields (kind ∷ []) (d.compressed_type ∷ (d.compressed_length ++ body)) n.named,
      length-append d.compressed_length body,
      d.two,
    )

-- ---- what stands behind headers that are there

pub confirm_there : (pdu : List ℕ) (type total : ℕ) (fields : List ℕ) → HasType pdu type fields → type % 16 ≡ 3
    → client_pdu_at total pdu ≡ Ok (Confirm (last_bytes total fields), fields)
unfolding client_pdu_at
confirm_there pdu type total fields t e =
    go_on_caused Broken (fields_at control_header pdu) (by_type total) (type ∷ []) fields (text_is_read control_header pdu (type ∷ []) fields t)
    ∙ ap (λ b. cond b (Ok (Confirm (last_bytes total fields), fields)) (data_pdu_at total fields)) (is_active type e)

data_there : (pdu : List ℕ) (type total : ℕ) (fields : List ℕ) → HasType pdu type fields → type % 16 ≡ 7
    → client_pdu_at total pdu ≡ data_pdu_at total fields
unfolding client_pdu_at
data_there pdu type total fields t e =
    go_on_caused Broken (fields_at control_header pdu) (by_type total) (type ∷ []) fields (text_is_read control_header pdu (type ∷ []) fields t)
    ∙ ap (λ b. cond b (Ok (Confirm (last_bytes total fields), fields)) (data_pdu_at total fields)) (is_data type e)

pub named_there : (pdu : List ℕ) (kind total : ℕ) (described : List ℕ) → IsNamed pdu kind described
    → client_pdu_at total pdu ≡ by_kind total (kind ∷ []) described
unfolding data_pdu_at
named_there pdu kind total described n =
    data_there pdu n.type total n.fields n.header n.is_data
    ∙ go_on_caused Broken (fields_at data_header n.fields) (by_kind total) (kind ∷ []) described (text_is_read data_header n.fields (kind ∷ []) described n.named)

first_byte : (b : ℕ) (bs : List ℕ) → big_at 1 (b ∷ bs) ≡ Ok (b, bs)
first_byte b bs = let value : big_value (b ∷ []) ≡ b = omega arith in ap (λ n. Ok (n, bs)) value

abbrev by_bit : ℕ → List ℕ → Bool → Caused Cause ℕ
by_bit type more b = if b then Err (Packed, type ∷ more) else Ok (type, more)

pub type_is : (type : ℕ) (more : List ℕ) → compressed_type_at (type ∷ more) ≡ by_bit type more (has_bits 0x20 type)
unfolding compressed_type_at
type_is type more =
    go_on_caused Broken (big_at 1 (type ∷ more)) (λ t rest. if has_bits 0x20 t then Err (Packed, type ∷ more) else Ok (t, rest)) type more (first_byte type more)

pub data_is_there : (pdu : List ℕ) (kind total : ℕ) (body : List ℕ) → IsData pdu kind body
    → client_pdu_at total pdu ≡ caused Broken (data_body_at kind total body)
data_is_there pdu kind total body d =
    let more : List ℕ = d.compressed_length ++ body in
    named_there pdu kind total (d.compressed_type ∷ more) d.named
    ∙ ap (λ r. then_caused r (behind_type kind total)) (type_is d.compressed_type more ∙ ap (by_bit d.compressed_type more) d.plain)
    ∙ go_on_caused Broken (bytes_at 2 more) (behind_length kind total) d.compressed_length body (bytes_there 2 d.compressed_length body d.two)

-- ---- where a header is refused

pub packed_there : (pdu : List ℕ) (kind total : ℕ) (described left : List ℕ) → IsNamed pdu kind described → IsPacked described left
    → client_pdu_at total pdu ≡ Err (Packed, left)
packed_there pdu kind total described left n p =
    let type : ℕ = p.0 in
    let more : List ℕ = p.1 in
    named_there pdu kind total described n
    ∙ ap (λ xs. then_caused (compressed_type_at xs) (behind_type kind total)) p.2
    ∙ ap (λ r. then_caused r (behind_type kind total)) (type_is type more ∙ ap (by_bit type more) p.3)
    ∙ ap (λ xs. Err (Packed, xs)) (sym p.2 ∙ sym p.4)

abbrev pub broken_at : List ℕ → Reading
broken_at left = Err (Broken, left)

pub lacking_there : (pdu : List ℕ) (kind total : ℕ) (described left : List ℕ) → IsNamed pdu kind described → LacksLength described left
    → client_pdu_at total pdu ≡ broken_at left
unfolding compressed_type_at
lacking_there pdu kind total described left n lacks =
    named_there pdu kind total described n ∙ elim lacks [
      | inl p ↦ ap (λ xs. then_caused (compressed_type_at xs) (behind_type kind total)) p.0 ∙ ap broken_at (sym p.1)
      | inr p ↦
          ap (λ xs. then_caused (compressed_type_at xs) (behind_type kind total)) p.1
          ∙ ap (λ r. then_caused r (behind_type kind total)) (type_is p.0 left ∙ ap (by_bit p.0 left) p.2)
          ∙ stop_caused Broken (bytes_at 2 left) (behind_length kind total) left (bytes_short 2 left p.3)
    ]

pub control_refused : (pdu : List ℕ) (total : ℕ) (left : List ℕ) → fields_at control_header pdu ≡ Err left → client_pdu_at total pdu ≡ broken_at left
unfolding client_pdu_at
control_refused pdu total left e = stop_caused Broken (fields_at control_header pdu) (by_type total) left e

pub data_refused : (pdu : List ℕ) (type total : ℕ) (fields left : List ℕ) → HasType pdu type fields → type % 16 ≡ 7 → fields_at data_header fields ≡ Err left
    → client_pdu_at total pdu ≡ broken_at left
unfolding data_pdu_at
data_refused pdu type total fields left t e f =
    data_there pdu type total fields t e ∙ stop_caused Broken (fields_at data_header fields) (by_kind total) left f
