-- The offset at which a domain PDU is refused.
use Rattle.std.proofs.Common.{◌≡◌, ℕ, ◌-◌, List, [], ◌∷◌, length, refl, ap, sym, ◌∙◌, arith}
use Rattle.std.specs.Prelude.{Result, Ok, Err}
use Rattle.wire_num.specs.FieldValue.{placed}
use Rattle.wire_num.specs.Field.{Read, map_read}
use Rattle.wire_num.specs.Layout.{Layout, fields_at}
use Rattle.tpkt_x224.specs.Grammar.{IsBrokenAt}
use Rattle.tpkt_x224.proofs.Broken.{broken, broken_there, offset_of}
use Rattle.mcs_dom.specs.declared.bad_domain.BadDomain.{BadDomain}
use Rattle.mcs_dom.specs.declared.domain_pdu.DomainPdu.{DomainPdu}
use Rattle.mcs_dom.specs.declared.domain_pdu.DomainPdu.TheVariants.{Erect, Attach, Bye}
use Rattle.mcs_dom.specs.ErectDomain.{erect_domain_request}
use Rattle.mcs_dom.specs.AttachUser.{attach_user_request}
use Rattle.mcs_dom.specs.ChannelJoin.{channel_join_request, join_of}
use Rattle.mcs_dom.specs.SendData.{send_data_request, data_of}
use Rattle.mcs_dom.specs.Ultimatum.{ultimatum, bye_of, basic_ultimatum}
use Rattle.mcs_dom.specs.DomainPdu.{Choice, ErectDomainRequest, AttachUserRequest, ChannelJoinRequest, SendDataRequest, DisconnectProviderUltimatum, BasicUltimatum, Other, choice_of, pdu_at, domain_pdu_of}
use Rattle.mcs_dom.specs.Grammar.{IsBrokenBy, IsBrokenPdu}

abbrev fault_at : ℕ → BadDomain
fault_at at = record { at = at }

abbrev refusal : ℕ → Result DomainPdu BadDomain
refusal at = Err (fault_at at)

same_fault : (n at : ℕ) → refusal n ≡ refusal at → n ≡ at
same_fault n at e = let h : fault_at n ≡ fault_at at = cc in ap (λ f. f.at) h

-- ---- a table whose values are seen otherwise

by_fields : (r : Read (List ℕ)) (layout : Layout) (view : List ℕ → DomainPdu) (bytes : List ℕ) (at : ℕ) → fields_at layout bytes ≡ r
    → placed fault_at bytes (map_read view r) ≡ refusal at
    → IsBrokenAt layout bytes at
by_fields (Ok v) layout view bytes at e f = absurd (let no : ⊥ = cc in no)
by_fields (Err left) layout view bytes at e f = broken layout bytes left at e (same_fault (length bytes - length left) at f)

seen_broken : (layout : Layout) (view : List ℕ → DomainPdu) (bytes : List ℕ) (at : ℕ)
    → placed fault_at bytes (map_read view (fields_at layout bytes)) ≡ refusal at → IsBrokenAt layout bytes at
seen_broken layout view bytes at e = by_fields (fields_at layout bytes) layout view bytes at refl e

broken_seen : (layout : Layout) (view : List ℕ → DomainPdu) (bytes : List ℕ) (at : ℕ) → IsBrokenAt layout bytes at
    → placed fault_at bytes (map_read view (fields_at layout bytes)) ≡ refusal at
broken_seen layout view bytes at b =
    ap (λ r. placed fault_at bytes (map_read view r)) (broken_there layout bytes at b) ∙ ap refusal (offset_of layout bytes at b)

-- ---- each choice

broken_by : (c : Choice) (first : ℕ) (bytes : List ℕ) (at : ℕ) → placed fault_at bytes (pdu_at c first (length bytes) bytes) ≡ refusal at
    → IsBrokenBy c first bytes at
broken_by ErectDomainRequest first bytes at e = seen_broken erect_domain_request (λ _. Erect) bytes at e
broken_by AttachUserRequest first bytes at e = seen_broken attach_user_request (λ _. Attach) bytes at e
broken_by ChannelJoinRequest first bytes at e = seen_broken channel_join_request join_of bytes at e
broken_by SendDataRequest first bytes at e = seen_broken send_data_request (data_of (length bytes)) bytes at e
broken_by DisconnectProviderUltimatum first bytes at e = seen_broken (ultimatum first) (bye_of first) bytes at e
broken_by BasicUltimatum first bytes at e = seen_broken basic_ultimatum (λ _. Bye 3) bytes at e
broken_by Other first bytes at e = let n = same_fault (length bytes - length bytes) at e in omega (arith, n)

by_broken : (c : Choice) (first : ℕ) (bytes : List ℕ) (at : ℕ) → IsBrokenBy c first bytes at
    → placed fault_at bytes (pdu_at c first (length bytes) bytes) ≡ refusal at
by_broken ErectDomainRequest first bytes at b = broken_seen erect_domain_request (λ _. Erect) bytes at b
by_broken AttachUserRequest first bytes at b = broken_seen attach_user_request (λ _. Attach) bytes at b
by_broken ChannelJoinRequest first bytes at b = broken_seen channel_join_request join_of bytes at b
by_broken SendDataRequest first bytes at b = broken_seen send_data_request (data_of (length bytes)) bytes at b
by_broken DisconnectProviderUltimatum first bytes at b = broken_seen (ultimatum first) (bye_of first) bytes at b
by_broken BasicUltimatum first bytes at b = broken_seen basic_ultimatum (λ _. Bye 3) bytes at b
by_broken Other first bytes at b = let n : length bytes - length bytes ≡ at = omega (arith, b) in ap refusal n

pub pdu_broken : (bytes : List ℕ) (at : ℕ) → domain_pdu_of bytes ≡ Err (record { at = at }) → IsBrokenPdu bytes at
pdu_broken [] at e = sym (same_fault 0 at e)
pdu_broken (first ∷ bs) at e = broken_by (choice_of first) first (first ∷ bs) at e

pub broken_pdu : (bytes : List ℕ) (at : ℕ) → IsBrokenPdu bytes at → domain_pdu_of bytes ≡ Err (record { at = at })
broken_pdu [] at b = ap refusal (sym b)
broken_pdu (first ∷ bs) at b = by_broken (choice_of first) first (first ∷ bs) at b
