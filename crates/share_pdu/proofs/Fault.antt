-- A share PDU is refused just for its first fault.
use Rattle.std.proofs.Common.{◌≡◌, inl, inr, ℕ, List, [], ◌∷◌, ◌++◌, length, refl, ap, sym, ◌∙◌, subst, arith, length-append}
use Rattle.std.specs.Prelude.{Result, Ok, Err}
use Rattle.wire_num.specs.Field.{Read, place_in}
use Rattle.wire_num.specs.Caused.{caused, placed_caused}
use Rattle.wire_num.specs.Layout.{fields_at}
use Rattle.wire_num.proofs.ReadIsText.{read_is_text}
use Rattle.wire_num.proofs.Refused.{refused}
use Rattle.wire_num.proofs.RefusalIsRead.{refusal_is_read}
use Rattle.wire_num.proofs.Place.{Ends, at_once, moved, text_end}
use Rattle.wire_num.proofs.Place as places
use Rattle.share_pdu.specs.declared.client_pdu.ClientPdu.{ClientPdu}
use Rattle.share_pdu.specs.declared.share_fault.ShareFault.{ShareFault}
use Rattle.share_pdu.specs.declared.share_fault.ShareFault.TheVariants.{BadShare, Compressed}
use Rattle.share_pdu.specs.declared.share_fault.Cause.{Cause}
use Rattle.share_pdu.specs.declared.share_fault.Cause.TheVariants.{Broken, Packed}
use Rattle.share_pdu.specs.Bodies.{synchronize_body, control_body, suppress_body, refresh_header, inclusive_area}
use Rattle.share_pdu.specs.ClientPdu.{total_length, control_header, data_header, client_pdu_at, share_fault_of, counted_pdu_of, share_pdu_by, share_pdu_of}
use Rattle.share_pdu.specs.Areas.{Area, AreAreas}
use Rattle.share_pdu.specs.Grammar.{Kind, ControlKind, InputKind, SynchronizeKind, RefreshKind, SuppressKind, ShutdownKind, FontListKind, KeyListKind, OtherKind, kind_of, IsCounted, IsNamed}
use Rattle.share_pdu.specs.Faults.{HasBadAreas, HasBadBody, LacksLength, HasBadData, HasFault, FaultStandsAt, IsFirstFault}
use Rattle.share_pdu.proofs.HeadersRead.{Reading, control_refused, data_refused, lacking_there, packed_there, data_is_there}
use Rattle.share_pdu.proofs.BodiesRead.{by_its_kind, body_bad, bad_body}
use Rattle.share_pdu.proofs.Split.{PduRefused, NoControl, NoData, NoLength, Compresses, BadBody, pdu_refused}
use Rattle.share_pdu.proofs.Text.{total_ok, counted_there}

-- ---- a fault that was found

fault_by : (pdu : List ℕ) (cause : Cause) (left : List ℕ) → PduRefused (length pdu) pdu cause left → HasFault cause pdu left
fault_by pdu cause left (NoControl c e) = subst (λ k. HasFault k pdu left) (sym c) (inl (refused control_header pdu left e))
fault_by pdu cause left (NoData c type fields t d e) =
    subst (λ k. HasFault k pdu left) (sym c) (inr (inl (type, fields, t, d, refused data_header fields left e)))
fault_by pdu cause left (NoLength c kind described n l) = subst (λ k. HasFault k pdu left) (sym c) (inr (inr (inl (kind, described, n, l))))
fault_by pdu cause left (Compresses c kind described n p) = subst (λ k. HasFault k pdu left) (sym c) (kind, described, n, p)
fault_by pdu cause left (BadBody c kind body d e) =
    subst (λ k. HasFault k pdu left) (sym c)
    (inr (inr (inr (kind, body, d, body_bad (kind_of kind) (length pdu) body left (sym (by_its_kind kind (length pdu) body) ∙ e)))))

-- ---- a fault that stands there

abbrev refusal : Cause → List ℕ → Reading
refusal cause left = Err (cause, left)

data_told : (pdu left : List ℕ) → HasBadData pdu left → client_pdu_at (length pdu) pdu ≡ refusal Broken left
data_told pdu left bad =
    elim bad [
      | inl p ↦ data_refused pdu p.0 (length pdu) p.1 left p.2 p.3 (refusal_is_read data_header p.1 left p.4)
      | inr f ↦ elim f [
        | inl p ↦ lacking_there pdu p.0 (length pdu) p.1 left p.2 p.3
        | inr p ↦
            data_is_there pdu p.0 (length pdu) p.1 p.2
            ∙ ap (caused Broken) (by_its_kind p.0 (length pdu) p.1 ∙ bad_body (kind_of p.0) (length pdu) p.1 left p.3)
      ]
    ]

told : (cause : Cause) (pdu left : List ℕ) → HasFault cause pdu left → client_pdu_at (length pdu) pdu ≡ refusal cause left
told Broken pdu left fault =
    elim fault [
      | inl h ↦ control_refused pdu (length pdu) left (refusal_is_read control_header pdu left h)
      | inr bad ↦ data_told pdu left bad
    ]
told Packed pdu left p = packed_there pdu p.0 (length pdu) p.1 left p.2 p.3

-- ---- the place is in the bytes

areas_end : (areas : List Area) (bs rest left : List ℕ) → AreAreas bs areas rest → Ends rest left → Ends bs left
areas_end [] bs rest left stand h = subst (λ xs. Ends xs left) (sym stand) h
areas_end (area ∷ areas) bs rest left stand h =
    let t = text_end inclusive_area bs (area.left ∷ area.top ∷ area.right ∷ area.bottom ∷ []) stand.0 stand.1 in
    moved bs t.0 stand.0 left t.1 (areas_end areas stand.0 rest left stand.2 h)

bad_areas_end : (body left : List ℕ) → HasBadAreas body left → Ends body left
bad_areas_end body left bad =
    elim bad [
      | inl h ↦ places.place refresh_header body left h
      | inr p ↦
          let t = text_end refresh_header body (p.0 ∷ []) p.1 p.4 in
          moved body t.0 p.1 left t.1 (areas_end p.2 p.1 p.3 left p.5 (places.place inclusive_area p.3 left p.7))
    ]

body_end : (kind : Kind) (body left : List ℕ) → HasBadBody kind body left → Ends body left
body_end ControlKind body left bad = places.place control_body body left bad
body_end InputKind body left bad = absurd bad
body_end SynchronizeKind body left bad = places.place synchronize_body body left bad
body_end RefreshKind body left bad = bad_areas_end body left bad
body_end SuppressKind body left bad = places.place suppress_body body left bad
body_end ShutdownKind body left bad = absurd bad
body_end FontListKind body left bad = absurd bad
body_end KeyListKind body left bad = absurd bad
body_end OtherKind body left bad = absurd bad

named_end : (pdu : List ℕ) (kind : ℕ) (described left : List ℕ) → IsNamed pdu kind described → Ends described left → Ends pdu left
named_end pdu kind described left n h =
    let t = text_end control_header pdu (n.type ∷ []) n.fields n.header in
    let u = text_end data_header n.fields (kind ∷ []) described n.named in
    moved pdu t.0 n.fields left t.1 (moved n.fields u.0 described left u.1 h)

lacks_end : (described left : List ℕ) → LacksLength described left → Ends described left
lacks_end described left lacks = elim lacks [ inl p ↦ ([], p.0 ∙ sym p.1) | inr p ↦ (p.0 ∷ [], p.1) ]

data_end : (pdu left : List ℕ) → HasBadData pdu left → Ends pdu left
data_end pdu left bad =
    elim bad [
      | inl p ↦
          let t = text_end control_header pdu (p.0 ∷ []) p.1 p.2 in
          moved pdu t.0 p.1 left t.1 (places.place data_header p.1 left p.4)
      | inr f ↦ elim f [
        | inl p ↦ named_end pdu p.0 p.1 left p.2 (lacks_end p.1 left p.3)
        | inr p ↦
            let d = p.2 in
            let counted : List ℕ = d.compressed_length ++ p.1 in
            named_end pdu p.0 (d.compressed_type ∷ counted) left d.named
            (moved (d.compressed_type ∷ counted) (d.compressed_type ∷ []) counted left refl
            (moved counted d.compressed_length p.1 left refl (body_end (kind_of p.0) p.1 left p.3)))
      ]
    ]

fault_end : (cause : Cause) (pdu left : List ℕ) → HasFault cause pdu left → Ends pdu left
fault_end Broken pdu left fault = elim fault [ inl h ↦ places.place control_header pdu left h | inr bad ↦ data_end pdu left bad ]
fault_end Packed pdu left p = named_end pdu p.0 p.1 left p.2 (at_once p.1 left p.3.4)

-- ---- as it is answered

abbrev SameFault : ShareFault → ShareFault → Type 0
SameFault f g = f ≡ g

stands_at : (cause : Cause) (pdu left : List ℕ) (at : ℕ) → HasFault cause pdu left → place_in pdu left ≡ at → FaultStandsAt cause pdu at
stands_at cause pdu left at fault e =
    let h = fault_end cause pdu left fault in
    record { front = h.0; left = left; whole = h.1; place = omega (arith, ap length h.1, length-append h.0 left, e); fault = fault }

pub is_fault : (pdu : List ℕ) (cause : Cause) (left : List ℕ) (at : ℕ) → client_pdu_at (length pdu) pdu ≡ refusal cause left → place_in pdu left ≡ at → FaultStandsAt cause pdu at
is_fault pdu cause left at e p = stands_at cause pdu left at (fault_by pdu cause left (pdu_refused (length pdu) pdu cause left e)) p

found_broken : (pdu : List ℕ) (r : Reading) (at : ℕ) → client_pdu_at (length pdu) pdu ≡ r → placed_caused share_fault_of pdu r ≡ Err (BadShare at) → FaultStandsAt Broken pdu at
found_broken pdu (Ok v) at f e = absurd (let h : ⊥ = cc in h)
found_broken pdu (Err (Broken, left)) at f e =
    let same : SameFault (BadShare (place_in pdu left)) (BadShare at) = cc in
    is_fault pdu Broken left at f (let p : place_in pdu left ≡ at = cc in p)
found_broken pdu (Err (Packed, left)) at f e = absurd (let h : ⊥ = cc in h)

found_packed : (pdu : List ℕ) (r : Reading) (at : ℕ) → client_pdu_at (length pdu) pdu ≡ r → placed_caused share_fault_of pdu r ≡ Err (Compressed at) → FaultStandsAt Packed pdu at
found_packed pdu (Ok v) at f e = absurd (let h : ⊥ = cc in h)
found_packed pdu (Err (Broken, left)) at f e = absurd (let h : ⊥ = cc in h)
found_packed pdu (Err (Packed, left)) at f e =
    let same : SameFault (Compressed (place_in pdu left)) (Compressed at) = cc in
    is_fault pdu Packed left at f (let p : place_in pdu left ≡ at = cc in p)

abbrev no_pdu : ShareFault → Result ClientPdu ShareFault
no_pdu fault = Err fault

first_by : (bytes : List ℕ) (r : Read (List ℕ)) (fault : ShareFault) → fields_at (total_length (length bytes)) bytes ≡ r → share_pdu_by bytes r ≡ no_pdu fault → IsFirstFault bytes fault
first_by bytes (Ok v) (BadShare at) f e =
    let t = total_ok bytes v.0 v.1 (read_is_text (total_length (length bytes)) bytes v.0 v.1 f) in
    inr (t.0, t.1, found_broken t.0 (client_pdu_at (length t.0) t.0) at refl (sym (ap counted_pdu_of t.2) ∙ e))
first_by bytes (Ok v) (Compressed at) f e =
    let t = total_ok bytes v.0 v.1 (read_is_text (total_length (length bytes)) bytes v.0 v.1 f) in
    (t.0, t.1, found_packed t.0 (client_pdu_at (length t.0) t.0) at refl (sym (ap counted_pdu_of t.2) ∙ e))
first_by bytes (Err left) (BadShare at) f e =
    let same : SameFault (BadShare 0) (BadShare at) = cc in
    inl ((left, refused (total_length (length bytes)) bytes left f), let p : at ≡ 0 = cc in p)
first_by bytes (Err left) (Compressed at) f e = absurd (let h : ⊥ = cc in h)

pub first_fault : (bytes : List ℕ) (fault : ShareFault) → share_pdu_of bytes ≡ Err fault → IsFirstFault bytes fault
first_fault bytes fault e = first_by bytes (fields_at (total_length (length bytes)) bytes) fault refl e

told_at : (cause : Cause) (bytes pdu : List ℕ) (at : ℕ) → IsCounted bytes pdu → FaultStandsAt cause pdu at → share_pdu_of bytes ≡ no_pdu (share_fault_of cause at)
told_at cause bytes pdu at c f =
    let place : place_in pdu f.left ≡ at = omega (arith, ap length f.whole, length-append f.front f.left, f.place) in
    counted_there bytes pdu c ∙ ap (placed_caused share_fault_of pdu) (told cause pdu f.left f.fault) ∙ ap (λ k. no_pdu (share_fault_of cause k)) place

pub fault_is_told : (bytes : List ℕ) (fault : ShareFault) → IsFirstFault bytes fault → share_pdu_of bytes ≡ Err fault
fault_is_told bytes (BadShare at) f =
    elim f [
      | inl h ↦
          ap (share_pdu_by bytes) (refusal_is_read (total_length (length bytes)) bytes h.0.0 h.0.1) ∙ ap (λ k. no_pdu (BadShare k)) (sym h.1)
      | inr p ↦ told_at Broken bytes p.0 at p.1 p.2
    ]
fault_is_told bytes (Compressed at) p = told_at Packed bytes p.0 at p.1 p.2
