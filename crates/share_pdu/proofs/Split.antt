-- What a PDU that was read, or refused, has for headers.
use Rattle.std.proofs.Common.{◌≡◌, inl, inr, ℕ, ◌%◌, ◌<◌, Bool, true, false, cond, List, [], ◌∷◌, ◌++◌, length, take, refl, ap, sym, ◌∙◌, subst, arith}
use Rattle.std.proofs.lemmas.List.{length-take-le}
use Rattle.std.specs.Prelude.{Ok, Err, if◌then◌else◌}
use Rattle.wire_num.specs.Field.{bytes_at}
use Rattle.wire_num.specs.Caused.{Caused, caused}
use Rattle.wire_num.proofs.Caused.{then_ok, caused_ok, then_err, caused_err, caused_step}
use Rattle.wire_num.specs.FieldValue.{has_bits}
use Rattle.wire_num.specs.Layout.{fields_at}
use Rattle.wire_num.specs.Grammar.{IsText}
use Rattle.wire_num.proofs.ReadIsText.{bytes_ok, regroup, read_is_text}
use Rattle.wire_num.proofs.Missing.{bytes_err}
use Rattle.share_pdu.specs.declared.client_pdu.ClientPdu.{ClientPdu}
use Rattle.share_pdu.specs.declared.client_pdu.ClientPdu.TheVariants.{Confirm}
use Rattle.share_pdu.specs.declared.share_fault.Cause.{Cause}
use Rattle.share_pdu.specs.declared.share_fault.Cause.TheVariants.{Broken, Packed}
use Rattle.share_pdu.specs.ClientPdu.{is_confirm, control_header, data_header, compressed_type_at, last_bytes, data_body_at, data_pdu_at, client_pdu_at}
use Rattle.share_pdu.specs.Grammar.{HasType, IsNamed, IsData}
use Rattle.share_pdu.specs.Faults.{LacksLength, IsPacked}
use Rattle.share_pdu.proofs.HeadersRead.{Reading, by_type, by_kind, behind_type, behind_length, confirm_of, data_of, type_read, kind_read, type_is}

-- ---- a PDU that was read

-- a Confirm Active, or data with a body that was read
pub data PduRead (total : ℕ) (pdu : List ℕ) (y : ClientPdu × List ℕ) : Type 0 where
  ReadConfirm : (type : ℕ) (fields : List ℕ) → HasType pdu type fields → type % 16 ≡ 3 → y.0 ≡ Confirm (last_bytes total fields) → PduRead total pdu y
  ReadData : (kind : ℕ) (body : List ℕ) → IsData pdu kind body → data_body_at kind total body ≡ Ok y → PduRead total pdu y

abbrev by_bits : ℕ → List ℕ → Bool → Caused Cause ℕ
by_bits type more b = if b then Err (Packed, type ∷ more) else Ok (type, more)

plain_ok : (type : ℕ) (more : List ℕ) (b : Bool) (v : ℕ × List ℕ) → by_bits type more b ≡ Ok v → (b ≡ false) × ((type, more) ≡ v)
plain_ok type more true v e = absurd (let h : ⊥ = cc in h)
plain_ok type more false v e = (refl, cc)

record TypeOk (described : List ℕ) (v : ℕ × List ℕ) : Type 0 where
  type : ℕ
  more : List ℕ
  is : described ≡ type ∷ more
  plain : has_bits 0x20 type ≡ false
  rest : more ≡ v.1

type_ok : (described : List ℕ) (v : ℕ × List ℕ) → compressed_type_at described ≡ Ok v → TypeOk described v
unfolding compressed_type_at
type_ok [] v e = absurd (let h : ⊥ = cc in h)
type_ok (type ∷ more) v e =
    let p = plain_ok type more (has_bits 0x20 type) v (sym (type_is type more) ∙ e) in
    record { type = type; more = more; is = refl; plain = p.0; rest = ap (λ q. q.1) p.1 }

to_data : (pdu : List ℕ) (kind : ℕ) (described : List ℕ) (v : ℕ × List ℕ) (w : List ℕ × List ℕ) → IsNamed pdu kind described → TypeOk described v
    → bytes_at 2 v.1 ≡ Ok w → IsData pdu kind w.1
to_data pdu kind described v w n t e =
    let b = bytes_ok 2 v.1 w e in
    let front : List ℕ = take 2 v.1 in
    let whole : t.more ≡ front ++ w.1 = t.rest ∙ regroup 2 v.1 w.1 b.2 in
    record {
      compressed_type = t.type;
      compressed_length = front;
      named = subst (λ xs. IsNamed pdu kind xs) (t.is ∙ ap (λ xs. t.type ∷ xs) whole) n;
      plain = t.plain;
      two = omega (arith, length-take-le 2 v.1 b.0);
    }

to_named : (pdu values fields values2 described : List ℕ) (type kind : ℕ) → IsText control_header pdu values fields → values ≡ type ∷ [] → type % 16 ≡ 7
    → IsText data_header fields values2 described → values2 ≡ kind ∷ [] → IsNamed pdu kind described
to_named pdu values fields values2 described type kind c e d f g = record {
  type = type;
  fields = fields;
  header = subst (λ vs. IsText control_header pdu vs fields) e c;
  is_data = d;
  named = subst (λ vs. IsText data_header fields vs described) g f;
}

data_read : (total : ℕ) (pdu values fields : List ℕ) (type : ℕ) (y : ClientPdu × List ℕ) → IsText control_header pdu values fields → values ≡ type ∷ []
    → type % 16 ≡ 7 → data_pdu_at total fields ≡ Ok y → PduRead total pdu y
unfolding data_pdu_at
data_read total pdu values fields type y c e d r =
    let a = then_ok (caused Broken (fields_at data_header fields)) (by_kind total) y r in
    let t = read_is_text data_header fields a.0.0 a.0.1 (caused_ok Broken (fields_at data_header fields) a.0 a.1) in
    let k = kind_read fields a.0.0 a.0.1 t in
    let named = to_named pdu values fields a.0.0 a.0.1 type k.0 c e d t k.1 in
    let b = then_ok (compressed_type_at a.0.1) (behind_type k.0 total) y (sym (ap (λ vs. by_kind total vs a.0.1) k.1) ∙ a.2) in
    let w = then_ok (caused Broken (bytes_at 2 b.0.1)) (behind_length k.0 total) y b.2 in
    let body = w.0.1 in
    ReadData k.0 body (to_data pdu k.0 a.0.1 b.0 w.0 named (type_ok a.0.1 b.0 b.1) (caused_ok Broken (bytes_at 2 b.0.1) w.0 w.1))
    (caused_ok Broken (data_body_at k.0 total body) y w.2)

read_by : (total : ℕ) (pdu values fields : List ℕ) (type : ℕ) (b : Bool) (y : ClientPdu × List ℕ) → is_confirm type ≡ b → IsText control_header pdu values fields
    → values ≡ type ∷ [] → (is_confirm type ≡ false → type % 16 ≡ 7)
    → cond b (Ok (Confirm (last_bytes total fields), fields)) (data_pdu_at total fields) ≡ Ok y → PduRead total pdu y
read_by total pdu values fields type true y s c e d r =
    let same : (Confirm (last_bytes total fields), fields) ≡ y = cc in
    ReadConfirm type fields (subst (λ vs. IsText control_header pdu vs fields) e c) (confirm_of type s) (sym (ap (λ p. p.0) same))
read_by total pdu values fields type false y s c e d r = data_read total pdu values fields type y c e (d s) r

pub pdu_read : (total : ℕ) (pdu : List ℕ) (y : ClientPdu × List ℕ) → client_pdu_at total pdu ≡ Ok y → PduRead total pdu y
unfolding client_pdu_at
pdu_read total pdu y e =
    let a = then_ok (caused Broken (fields_at control_header pdu)) (by_type total) y e in
    let t = read_is_text control_header pdu a.0.0 a.0.1 (caused_ok Broken (fields_at control_header pdu) a.0 a.1) in
    let k = type_read pdu a.0.0 a.0.1 t in
    read_by total pdu a.0.0 a.0.1 k.type (is_confirm k.type) y refl t k.are (data_of k.type k.of_client) (sym (ap (λ vs. by_type total vs a.0.1) k.are) ∙ a.2)

-- ---- a PDU that is refused

-- in its headers, or in its body
pub data PduRefused (total : ℕ) (pdu : List ℕ) (cause : Cause) (left : List ℕ) : Type 0 where
  NoControl : cause ≡ Broken → fields_at control_header pdu ≡ Err left → PduRefused total pdu cause left
  NoData : cause ≡ Broken → (type : ℕ) (fields : List ℕ) → HasType pdu type fields → type % 16 ≡ 7 → fields_at data_header fields ≡ Err left → PduRefused total pdu cause left
  NoLength : cause ≡ Broken → (kind : ℕ) (described : List ℕ) → IsNamed pdu kind described → LacksLength described left → PduRefused total pdu cause left
  Compresses : cause ≡ Packed → (kind : ℕ) (described : List ℕ) → IsNamed pdu kind described → IsPacked described left → PduRefused total pdu cause left
  BadBody : cause ≡ Broken → (kind : ℕ) (body : List ℕ) → IsData pdu kind body → data_body_at kind total body ≡ Err left → PduRefused total pdu cause left

abbrev Same : Cause × List ℕ → Cause × List ℕ → Type 0
Same d e = d ≡ e

-- what compressedType is refused for
packed_err : (type : ℕ) (more : List ℕ) (b : Bool) (cause : Cause) (left : List ℕ) → by_bits type more b ≡ Err (cause, left)
    → (b ≡ true) × (cause ≡ Packed) × (left ≡ type ∷ more)
packed_err type more true cause left e =
    let k : Same (Packed, type ∷ more) (cause, left) = cc in (refl, sym (ap (λ p. p.0) k), sym (ap (λ p. p.1) k))
packed_err type more false cause left e = absurd (let h : ⊥ = cc in h)

type_err : (total : ℕ) (pdu : List ℕ) (kind : ℕ) (described : List ℕ) (cause : Cause) (left : List ℕ) → IsNamed pdu kind described
    → compressed_type_at described ≡ Err (cause, left) → PduRefused total pdu cause left
unfolding compressed_type_at
type_err total pdu kind [] cause left n e =
    let k : Same (Broken, []) (cause, left) = cc in
    NoLength (sym (ap (λ p. p.0) k)) kind [] n (inl (refl, sym (ap (λ p. p.1) k)))
type_err total pdu kind (type ∷ more) cause left n e =
    let p = packed_err type more (has_bits 0x20 type) cause left (sym (type_is type more) ∙ e) in
    Compresses p.1 kind (type ∷ more) n (type, more, refl, p.0, p.2)

length_err : (total : ℕ) (pdu : List ℕ) (kind : ℕ) (described : List ℕ) (v : ℕ × List ℕ) (left : List ℕ) (cause : Cause) → cause ≡ Broken → IsNamed pdu kind described
    → TypeOk described v → bytes_at 2 v.1 ≡ Err left → PduRefused total pdu cause left
length_err total pdu kind described v left cause b n t e =
    let s = bytes_err 2 v.1 left e in
    let same : t.more ≡ left = t.rest ∙ s.1 in
    NoLength b kind described n (inr (t.type, t.is ∙ ap (λ xs. t.type ∷ xs) same, t.plain, subst (λ xs. length xs < 2) s.1 s.0))

data_err : (total : ℕ) (pdu values fields : List ℕ) (type : ℕ) (cause : Cause) (left : List ℕ) → IsText control_header pdu values fields → values ≡ type ∷ []
    → type % 16 ≡ 7 → data_pdu_at total fields ≡ Err (cause, left) → PduRefused total pdu cause left
unfolding data_pdu_at
data_err total pdu values fields type cause left c e d r =
    elim (caused_step Broken (fields_at data_header fields) (by_kind total) cause left r) [
      | inl h ↦ NoData h.0 type fields (subst (λ vs. IsText control_header pdu vs fields) e c) d h.1
      | inr a ↦
          let described = a.0.1 in
          let t = read_is_text data_header fields a.0.0 described a.1 in
          let k = kind_read fields a.0.0 described t in
          let kind = k.0 in
          let named = to_named pdu values fields a.0.0 described type kind c e d t k.1 in
          elim (then_err (compressed_type_at described) (behind_type kind total) (cause, left) (sym (ap (λ vs. by_kind total vs described) k.1) ∙ a.2)) [
            | inl h ↦ type_err total pdu kind described cause left named h
            | inr b ↦
                let typed = type_ok described b.0 b.1 in
                elim (caused_step Broken (bytes_at 2 b.0.1) (behind_length kind total) cause left b.2) [
                  | inl h ↦ length_err total pdu kind described b.0 left cause h.0 named typed h.1
                  | inr w ↦
                      let h = caused_err Broken (data_body_at kind total w.0.1) cause left w.2 in
                      BadBody h.0 kind w.0.1 (to_data pdu kind described b.0 w.0 named typed w.1) h.1
                ]
          ]
    ]

abbrev no_reading : Cause → List ℕ → Reading
no_reading cause left = Err (cause, left)

err_by : (total : ℕ) (pdu values fields : List ℕ) (type : ℕ) (b : Bool) (cause : Cause) (left : List ℕ) → is_confirm type ≡ b → IsText control_header pdu values fields
    → values ≡ type ∷ [] → (is_confirm type ≡ false → type % 16 ≡ 7)
    → cond b (Ok (Confirm (last_bytes total fields), fields)) (data_pdu_at total fields) ≡ no_reading cause left → PduRefused total pdu cause left
err_by total pdu values fields type true cause left s c e d r = absurd (let h : ⊥ = cc in h)
err_by total pdu values fields type false cause left s c e d r = data_err total pdu values fields type cause left c e (d s) r

pub pdu_refused : (total : ℕ) (pdu : List ℕ) (cause : Cause) (left : List ℕ) → client_pdu_at total pdu ≡ Err (cause, left) → PduRefused total pdu cause left
unfolding client_pdu_at
pdu_refused total pdu cause left e =
    elim (caused_step Broken (fields_at control_header pdu) (by_type total) cause left e) [
      | inl h ↦ NoControl h.0 h.1
      | inr a ↦
          let fields = a.0.1 in
          let t = read_is_text control_header pdu a.0.0 fields a.1 in
          let k = type_read pdu a.0.0 fields t in
          err_by total pdu a.0.0 fields k.type (is_confirm k.type) cause left refl t k.are (data_of k.type k.of_client) (sym (ap (λ vs. by_type total vs fields) k.are) ∙ a.2)
    ]
