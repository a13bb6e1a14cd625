-- The definitions on a sample client's packets, and on texts that break a rule.
use Rattle.std.proofs.Common.{◌≡◌, [], ◌∷◌, drop, refl}
use Rattle.std.specs.Prelude.{Ok, Err}
use Rattle.wire_num.specs.FieldValue.{passing_at}
use Rattle.wire_num.specs.Layout.{exactly_at}
use Rattle.mcs_dom.specs.declared.domain_pdu.DomainPdu.TheVariants.{Erect, Attach, Join, Data, Bye}
use Rattle.mcs_dom.specs.ErectDomain.{erect_domain_request}
use Rattle.mcs_dom.specs.AttachUser.{attach_user_request}
use Rattle.mcs_dom.specs.ChannelJoin.{channel_join_request}
use Rattle.mcs_dom.specs.SendData.{send_data_request, send_data_indication}
use Rattle.mcs_dom.specs.Ultimatum.{ultimatum, basic_ultimatum, ultimatum_packet}
use Rattle.mcs_dom.specs.DomainPdu.{domain_pdu_of}

erects : domain_pdu_of (4 ∷ 1 ∷ 0 ∷ 1 ∷ 0 ∷ []) ≡ Ok Erect
unfolding erect_domain_request passing_at
erects = refl

-- the packet of a client that writes two plain numbers of two bytes, behind its Data header
erects_by_plain_numbers : domain_pdu_of (drop 7 (3 ∷ 0 ∷ 0 ∷ 12 ∷ 2 ∷ 240 ∷ 128 ∷ 4 ∷ 0 ∷ 1 ∷ 0 ∷ 1 ∷ [])) ≡ Ok Erect
unfolding erect_domain_request passing_at
erects_by_plain_numbers = refl

-- an integer of two bytes of which one is there
half_an_integer : domain_pdu_of (4 ∷ 1 ∷ 0 ∷ 2 ∷ 7 ∷ []) ≡ Err (record { at = 4 })
unfolding erect_domain_request passing_at
half_an_integer = refl

attaches : domain_pdu_of (40 ∷ []) ≡ Ok Attach
unfolding attach_user_request
attaches = refl

joins : domain_pdu_of (56 ∷ 0 ∷ 6 ∷ 3 ∷ 239 ∷ []) ≡ Ok (Join 1007 1007)
unfolding channel_join_request passing_at
joins = refl

sends : domain_pdu_of (100 ∷ 0 ∷ 6 ∷ 3 ∷ 235 ∷ 112 ∷ 2 ∷ 7 ∷ 8 ∷ []) ≡ Ok (Data 1007 1003 (record { from = 7; to = 9 }))
unfolding send_data_request passing_at exactly_at
sends = refl

leaves : domain_pdu_of (33 ∷ 128 ∷ []) ≡ Ok (Bye 3)
unfolding ultimatum passing_at
leaves = refl

-- by the basic encoding rules, as one client leaves: the whole is one field, and ends the PDU
leaves_by_basic_rules : domain_pdu_of (drop 7 (3 ∷ 0 ∷ 0 ∷ 15 ∷ 2 ∷ 240 ∷ 128 ∷ 48 ∷ 6 ∷ 2 ∷ 2 ∷ 0 ∷ 3 ∷ 48 ∷ 0 ∷ [])) ≡ Ok (Bye 3)
unfolding basic_ultimatum
leaves_by_basic_rules = refl

another_reason_by_basic_rules : domain_pdu_of (48 ∷ 6 ∷ 2 ∷ 2 ∷ 0 ∷ 4 ∷ 48 ∷ 0 ∷ []) ≡ Err (record { at = 0 })
unfolding basic_ultimatum
another_reason_by_basic_rules = refl

cut_by_basic_rules : domain_pdu_of (48 ∷ 6 ∷ 2 ∷ 2 ∷ 0 ∷ 3 ∷ 48 ∷ []) ≡ Err (record { at = 0 })
unfolding basic_ultimatum
cut_by_basic_rules = refl

more_by_basic_rules : domain_pdu_of (48 ∷ 6 ∷ 2 ∷ 2 ∷ 0 ∷ 3 ∷ 48 ∷ 0 ∷ 0 ∷ []) ≡ Err (record { at = 8 })
unfolding basic_ultimatum
more_by_basic_rules = refl

left_over : domain_pdu_of (40 ∷ 0 ∷ []) ≡ Err (record { at = 1 })
unfolding attach_user_request
left_over = refl

no_body : domain_pdu_of (100 ∷ 0 ∷ 6 ∷ 3 ∷ 235 ∷ 112 ∷ 129 ∷ 0 ∷ []) ≡ Err (record { at = 8 })
unfolding send_data_request passing_at exactly_at
no_body = refl

fifth_reason : domain_pdu_of (34 ∷ 128 ∷ []) ≡ Err (record { at = 1 })
unfolding ultimatum passing_at
fifth_reason = refl

indicated : send_data_indication (7 ∷ 8 ∷ []) ≡ 3 ∷ 0 ∷ 0 ∷ 16 ∷ 2 ∷ 240 ∷ 128 ∷ 104 ∷ 0 ∷ 1 ∷ 3 ∷ 235 ∷ 112 ∷ 2 ∷ 7 ∷ 8 ∷ []
indicated = refl

ended : ultimatum_packet 1 ≡ 3 ∷ 0 ∷ 0 ∷ 9 ∷ 2 ∷ 240 ∷ 128 ∷ 32 ∷ 128 ∷ []
ended = refl
