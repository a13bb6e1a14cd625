-- A share PDU is read just where one stands.
use Rattle.std.proofs.Common.{◌≡◌, ℕ, ◌+◌, ◌-◌, ◌≤◌, true, List, [], ◌∷◌, ◌++◌, length, take, drop, refl, ap, sym, ◌∙◌, subst, arith}
use Rattle.std.specs.Prelude.{◌↔◌, slice_index, Result, Ok, Err, IsErr}
use Rattle.std.proofs.lemmas.Bool.Decides.{nat_tests}
use Rattle.std.proofs.lemmas.List.{take-append-drop, length-take-le}
use Rattle.byteorder.specs.Endian.{little_number}
use Rattle.wire_num.specs.Field.{Read, map_read}
use Rattle.wire_num.specs.Caused.{caused, placed_caused}
use Rattle.wire_num.specs.declared.range.Range.{Range}
use Rattle.wire_num.specs.Layout.{fields_at}
use Rattle.wire_num.specs.Grammar.{IsText}
use Rattle.wire_num.proofs.ReadIsText.{read_is_text}
use Rattle.wire_num.proofs.TextIsRead.{text_is_read}
use Rattle.share_pdu.specs.declared.client_pdu.ClientPdu.{ClientPdu}
use Rattle.share_pdu.specs.declared.client_pdu.ClientPdu.TheVariants.{Confirm, Synchronize, Cooperate, Request, FontList, KeyList, Input, Refresh, Suppress, Shutdown, Other}
use Rattle.share_pdu.specs.declared.share_fault.ShareFault.{ShareFault}
use Rattle.share_pdu.specs.declared.share_fault.Cause.TheVariants.{Broken}
use Rattle.share_pdu.specs.Bodies.{synchronize_body, control_body, pdu_of_action, suppress_body, is_stop}
use Rattle.share_pdu.specs.ClientPdu.{is_total, total_length, last_bytes, client_pdu_at, share_fault_of, counted_pdu_of, share_pdu_by, share_pdu_of}
use Rattle.share_pdu.specs.Grammar.{Kind, ControlKind, InputKind, SynchronizeKind, RefreshKind, SuppressKind, ShutdownKind, FontListKind, KeyListKind, OtherKind, kind_of, IsCounted, LiesBehind, HasBody, Says, IsSharePdu}
use Rattle.share_pdu.proofs.HeadersRead.{Reading, control_size, body_size, confirm_there, data_is_there}
use Rattle.share_pdu.proofs.BodiesRead.{body_by, by_its_kind, body_says}
use Rattle.share_pdu.proofs.Rects.{passed_again}
use Rattle.share_pdu.proofs.Split.{PduRead, ReadConfirm, ReadData, pdu_read}

-- ---- a PDU in its own bytes

says_by : (pdu : List ℕ) (y : ClientPdu × List ℕ) → PduRead (length pdu) pdu y → Says pdu y.0
says_by pdu y (ReadConfirm type fields t e is) =
    subst (Says pdu) (sym is) (record {
      type = type;
      fields = fields;
      header = t;
      active = e;
      fills = (omega (arith, control_size pdu (type ∷ []) fields t), refl);
    })
says_by pdu y (ReadData number body d e) =
    body_says (kind_of number) pdu body y (record { number = number; stands = d; is = refl }) (body_size pdu number body d) (sym (by_its_kind number (length pdu) body) ∙ e)

-- a body of a kind that stands there is read
has_read : (kind : Kind) (pdu body : List ℕ) → HasBody pdu kind body → client_pdu_at (length pdu) pdu ≡ caused Broken (body_by kind (length pdu) body)
has_read kind pdu body h =
    data_is_there pdu h.number (length pdu) body h.stands
    ∙ ap (caused Broken) (by_its_kind h.number (length pdu) body ∙ ap (λ k. body_by k (length pdu) body) h.is)

same_place : (pdu body : List ℕ) (offset : ℕ) (place : Range) → length pdu ≡ offset + length body → LiesBehind offset pdu place → last_bytes (length pdu) body ≡ place
same_place pdu body offset place n h =
    let from : length pdu - length body ≡ place.from = omega (arith, n, h.0) in
    ap (λ k. let r : Range = record { from = k; to = length pdu } in r) from ∙ ap (λ k. let r : Range = record { from = place.from; to = k } in r) (sym h.1)

abbrev Again : List ℕ → ClientPdu → Type 0
Again pdu said = (left : List ℕ) × (client_pdu_at (length pdu) pdu ≡ Ok (said, left))

abbrev said_of : Read ClientPdu → Reading
said_of r = caused Broken r

abbrev got : ClientPdu → List ℕ → Read ClientPdu
got said left = Ok (said, left)

body_length : (kind : Kind) (pdu body : List ℕ) → HasBody pdu kind body → length pdu ≡ 18 + length body
body_length kind pdu body h = body_size pdu h.number body h.stands

says_again : (said : ClientPdu) (pdu : List ℕ) → Says pdu said → Again pdu said
says_again (Confirm place) pdu s = (
  s.fields,
  confirm_there pdu s.type (length pdu) s.fields s.header s.active
      ∙ ap (λ r. Ok (Confirm r, s.fields)) (same_place pdu s.fields 6 place (control_size pdu (s.type ∷ []) s.fields s.header) s.fills),
)
says_again Synchronize pdu s =
    (s.more, has_read SynchronizeKind pdu s.body s.has ∙ ap (λ r. said_of (map_read (λ _. Synchronize) r)) (text_is_read synchronize_body s.body [] s.more s.fields))
says_again Cooperate pdu s = (
  s.more,
  has_read ControlKind pdu s.body s.has
      ∙ ap (λ r. said_of (map_read (λ values. pdu_of_action (slice_index values 0)) r)) (text_is_read control_body s.body (4 ∷ []) s.more s.fields),
)
says_again Request pdu s = (
  s.more,
  has_read ControlKind pdu s.body s.has
      ∙ ap (λ r. said_of (map_read (λ values. pdu_of_action (slice_index values 0)) r)) (text_is_read control_body s.body (1 ∷ []) s.more s.fields),
)
says_again FontList pdu s = (s.0, has_read FontListKind pdu s.0 s.1)
says_again KeyList pdu s = (s.0, has_read KeyListKind pdu s.0 s.1)
says_again (Input place) pdu s =
    let body : List ℕ = s.0.0 in (
      body,
      has_read InputKind pdu body s.0.1
          ∙ ap (λ r. said_of (got (Input r) body)) (same_place pdu body 18 place (body_length InputKind pdu body s.0.1) s.1),
    )
says_again (Refresh place) pdu s = (
  s.fields.after,
  has_read RefreshKind pdu s.body s.has
      ∙ ap (λ r. said_of (map_read (λ _. Refresh (last_bytes (length pdu) s.body)) r)) (passed_again s.body s.areas s.fields)
      ∙ ap (λ r. said_of (got (Refresh r) s.fields.after)) (same_place pdu s.body 18 place (body_length RefreshKind pdu s.body s.has) s.fills),
)
says_again (Suppress stop) pdu s = (
  s.more,
  has_read SuppressKind pdu s.body s.has
      ∙ ap (λ r. said_of (map_read (λ values. Suppress (is_stop values)) r)) (text_is_read suppress_body s.body (s.allow ∷ []) s.more s.fields)
      ∙ ap (λ b. said_of (got (Suppress b) s.more)) (sym s.says),
)
says_again Shutdown pdu s = (s.0, has_read ShutdownKind pdu s.0 s.1)
says_again Other pdu s = (s.0, has_read OtherKind pdu s.0 s.1)

-- ---- the total before it

total_read : (size : ℕ) (bytes values more : List ℕ) → IsText (total_length size) bytes values more → (n : ℕ) × (values ≡ n ∷ []) × (is_total size n ≡ true)
unfolding total_length
total_read size bytes values more t = (little_number 2 t.0, t.6 ∙ ap (λ xs. little_number 2 t.0 ∷ xs) t.7.0, t.4)

fits : (size n : ℕ) → is_total size n ≡ true → n ≤ size
fits size n e = grind (arith, nat_tests, e)

pub total_ok : (bytes values more : List ℕ) → IsText (total_length (length bytes)) bytes values more → (pdu : List ℕ) × IsCounted bytes pdu × (take (slice_index values 0) bytes ≡ pdu)
total_ok bytes values more t =
    let n = total_read (length bytes) bytes values more t in
    let pdu : List ℕ = take n.0 bytes in
    let size : length pdu ≡ n.0 = length-take-le n.0 bytes (fits (length bytes) n.0 n.2) in (
      pdu,
      record {
        carried = more;
        behind = drop n.0 bytes;
        whole = sym (take-append-drop n.0 bytes);
        total = subst (λ vs. IsText (total_length (length bytes)) bytes vs more) (n.1 ∙ ap (λ k. k ∷ []) (sym size)) t;
      },
      ap (λ vs. take (slice_index vs 0) bytes) n.1,
    )

take_front : (pdu behind : List ℕ) → take (length pdu) (pdu ++ behind) ≡ pdu
take_front [] behind = refl
take_front (b ∷ pdu) behind = ap (λ xs. b ∷ xs) (take_front pdu behind)

pub counted_there : (bytes pdu : List ℕ) → IsCounted bytes pdu → share_pdu_of bytes ≡ counted_pdu_of pdu
counted_there bytes pdu c =
    ap (share_pdu_by bytes) (text_is_read (total_length (length bytes)) bytes (length pdu ∷ []) c.carried c.total)
    ∙ ap counted_pdu_of (ap (take (length pdu)) c.whole ∙ take_front pdu c.behind)

-- ---- as it is answered

placed_ok : (pdu : List ℕ) (r : Reading) (said : ClientPdu) → placed_caused share_fault_of pdu r ≡ Ok said → (left : List ℕ) × (r ≡ Ok (said, left))
placed_ok pdu (Ok v) said e = let same : v.0 ≡ said = cc in (v.1, ap (λ s. Ok (s, v.1)) same)
placed_ok pdu (Err f) said e = absurd (let h : ⊥ = cc in h)

counted_says : (pdu : List ℕ) (said : ClientPdu) → counted_pdu_of pdu ≡ Ok said → Says pdu said
counted_says pdu said e =
    let p = placed_ok pdu (client_pdu_at (length pdu) pdu) said e in
    says_by pdu (said, p.0) (pdu_read (length pdu) pdu (said, p.0) p.1)

abbrev answer : ClientPdu → Result ClientPdu ShareFault
answer said = Ok said

is_pdu : (bytes : List ℕ) (r : Read (List ℕ)) (said : ClientPdu) → fields_at (total_length (length bytes)) bytes ≡ r → share_pdu_by bytes r ≡ answer said → IsSharePdu bytes said
is_pdu bytes (Ok v) said f e =
    let t = total_ok bytes v.0 v.1 (read_is_text (total_length (length bytes)) bytes v.0 v.1 f) in
    record { pdu = t.0; counted = t.1; says = counted_says t.0 said (sym (ap counted_pdu_of t.2) ∙ e) }
is_pdu bytes (Err left) said f e = absurd (let h : ⊥ = cc in h)

pub pdu_ok : (bytes : List ℕ) (said : ClientPdu) → share_pdu_of bytes ≡ Ok said → IsSharePdu bytes said
pdu_ok bytes said e = is_pdu bytes (fields_at (total_length (length bytes)) bytes) said refl e

pub pdu_again : (bytes : List ℕ) (said : ClientPdu) → IsSharePdu bytes said → share_pdu_of bytes ≡ Ok said
pdu_again bytes said is =
    counted_there bytes is.pdu is.counted ∙ ap (placed_caused share_fault_of is.pdu) (says_again said is.pdu is.says).1

-- ---- where none stands

refused_by : (r : Result ClientPdu ShareFault) (bytes : List ℕ) → share_pdu_of bytes ≡ r → IsErr r → (said : ClientPdu) → IsSharePdu bytes said → ⊥
refused_by (Ok v) bytes e err said i = let h : ⊥ = cc in h
refused_by (Err fault) bytes e err said i =
    let f = pdu_again bytes said i in
    let h : ⊥ = cc in h

absent_by : (r : Result ClientPdu ShareFault) (bytes : List ℕ) → share_pdu_of bytes ≡ r → ((said : ClientPdu) → IsSharePdu bytes said → ⊥) → IsErr r
absent_by (Ok v) bytes e none = absurd (none v (pdu_ok bytes v e))
absent_by (Err fault) bytes e none = refl

pub none_stands : (bytes : List ℕ) → IsErr (share_pdu_of bytes) ↔ ((said : ClientPdu) → IsSharePdu bytes said → ⊥)
none_stands bytes = (refused_by (share_pdu_of bytes) bytes refl, absent_by (share_pdu_of bytes) bytes refl)
