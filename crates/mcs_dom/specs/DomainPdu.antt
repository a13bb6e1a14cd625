-- The domain PDUs of a client (T.125, 7, DomainMCSPDU, by the packed encoding rules).
use Rattle.std.specs.Prelude.{◌≡◌, ◌≤◌, ℕ, ◌==◌, List, [], ◌∷◌, length, Result, Err, if◌then◌else◌}
use Rattle.wire_num.specs.FieldValue.{placed}
use Rattle.wire_num.specs.Field.{Read, map_read}
use Rattle.wire_num.specs.Layout.{fields_at}
use Rattle.mcs_dom.specs.declared.bad_domain.BadDomain.{BadDomain}
use Rattle.mcs_dom.specs.declared.domain_pdu.DomainPdu.{DomainPdu}
use Rattle.mcs_dom.specs.declared.domain_pdu.DomainPdu.TheVariants.{Erect, Attach, Join, Data, Bye}
use Rattle.mcs_dom.specs.ErectDomain.{erect_domain_request}
use Rattle.mcs_dom.specs.AttachUser.{attach_user_request}
use Rattle.mcs_dom.specs.ChannelJoin.{channel_join_request, join_of}
use Rattle.mcs_dom.specs.SendData.{send_data_request, data_of}
use Rattle.mcs_dom.specs.Ultimatum.{ultimatum, bye_of, basic_ultimatum}

pub data Choice : Type 0 where
  ErectDomainRequest : Choice
  AttachUserRequest : Choice
  ChannelJoinRequest : Choice
  SendDataRequest : Choice
  DisconnectProviderUltimatum : Choice
  BasicUltimatum : Choice
  Other : Choice

-- the choice is in the first six bits; of a request the last two are 0. A sequence by the basic encoding rules begins with 48, which is no choice of a client
abbrev pub choice_of : ℕ → Choice
choice_of first =
    if first == 4 then ErectDomainRequest
    else (if first == 40 then AttachUserRequest
    else (if first == 56 then ChannelJoinRequest
    else (if first == 100 then SendDataRequest
    else (if first == 32 then DisconnectProviderUltimatum
    else (if first == 33 then DisconnectProviderUltimatum
    else (if first == 34 then DisconnectProviderUltimatum
    else (if first == 48 then BasicUltimatum
    else Other)))))))

-- the PDU of a choice, in a text of so many bytes
abbrev pub pdu_at : Choice → ℕ → ℕ → List ℕ → Read DomainPdu
pdu_at ErectDomainRequest first size bs = map_read (λ _. Erect) (fields_at erect_domain_request bs)
pdu_at AttachUserRequest first size bs = map_read (λ _. Attach) (fields_at attach_user_request bs)
pdu_at ChannelJoinRequest first size bs = map_read join_of (fields_at channel_join_request bs)
pdu_at SendDataRequest first size bs = map_read (data_of size) (fields_at send_data_request bs)
pdu_at DisconnectProviderUltimatum first size bs = map_read (bye_of first) (fields_at (ultimatum first) bs)
pdu_at BasicUltimatum first size bs = map_read (λ _. Bye 3) (fields_at basic_ultimatum bs)
pdu_at Other first size bs = Err bs

abbrev pub domain_at : ℕ → List ℕ → Read DomainPdu
domain_at size [] = Err []
domain_at size (first ∷ bs) = pdu_at (choice_of first) first size (first ∷ bs)

-- the PDU that a text is
abbrev pub domain_pdu_of : List ℕ → Result DomainPdu BadDomain
domain_pdu_of bs = placed (λ at. record { at = at }) bs (domain_at (length bs) bs)

-- data have their body at the end of a text of so many bytes
abbrev pub HasBodyAtEnd : ℕ → DomainPdu → Type 0
HasBodyAtEnd size Erect = Unit {0}
HasBodyAtEnd size Attach = Unit {0}
HasBodyAtEnd size (Join user channel) = Unit {0}
HasBodyAtEnd size (Data user channel body) = (body.from ≤ body.to) × (body.to ≡ size)
HasBodyAtEnd size (Bye reason) = Unit {0}
