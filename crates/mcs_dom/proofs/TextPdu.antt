-- A domain PDU that stands there is read.
use Rattle.std.proofs.Common.{◌≡◌, inl, inr, ℕ, zero, suc, ◌+◌, ◌-◌, ◌≤◌, true, List, [], ◌∷◌, ◌++◌, length, refl, ap, sym, ◌∙◌, arith, length-append, append-nil}
use Rattle.std.specs.Prelude.{◌↔◌, Result, Ok, Err, IsErr, IfOk}
use Rattle.std.proofs.lemmas.Bool.Decides.{nat_tests}
use Rattle.byteorder.specs.Endian.{big_number}
use Rattle.wire_num.specs.declared.range.Range.{Range}
use Rattle.wire_num.specs.FieldValue.{placed, has_bits}
use Rattle.wire_num.specs.Field.{Read, map_read}
use Rattle.wire_num.specs.Grammar.{IsText}
use Rattle.wire_num.proofs.TextIsRead.{text_is_read}
use Rattle.mcs_dom.specs.declared.bad_domain.BadDomain.{BadDomain}
use Rattle.mcs_dom.specs.declared.domain_pdu.DomainPdu.{DomainPdu}
use Rattle.mcs_dom.specs.declared.domain_pdu.DomainPdu.TheVariants.{Erect, Attach, Join, Data, Bye}
use Rattle.mcs_dom.specs.User.{is_user}
use Rattle.mcs_dom.specs.ErectDomain.{erect_domain_request}
use Rattle.mcs_dom.specs.AttachUser.{attach_user_request}
use Rattle.mcs_dom.specs.ChannelJoin.{channel_join_request, join_of}
use Rattle.mcs_dom.specs.SendData.{send_data_request, data_of}
use Rattle.mcs_dom.specs.Ultimatum.{reason_of, has_reason, ultimatum, bye_of, basic_bytes, basic_ultimatum}
use Rattle.mcs_dom.specs.DomainPdu.{Choice, ErectDomainRequest, AttachUserRequest, ChannelJoinRequest, SendDataRequest, DisconnectProviderUltimatum, BasicUltimatum, choice_of, pdu_at, domain_pdu_of, HasBodyAtEnd}
use Rattle.mcs_dom.specs.Grammar.{IsErectDomain, IsUser, IsJoin, IsData, IsUltimatum, IsDomainPdu}
use Rattle.mcs_dom.proofs.PduText.{pdu_ok}

-- ---- each PDU

user_again : (text : List ℕ) (user : ℕ) → IsUser text user → is_user (big_number 2 text) ≡ true
user_again text user u =
    let fits : big_number 2 text ≤ 64534 = omega (arith, u.is, u.fits) in
    grind (arith, nat_tests, fits)

one_value : (n : ℕ) → big_number 1 (n ∷ []) ≡ n
one_value n = omega arith

erect_again : (bytes : List ℕ) → IsErectDomain bytes → IsText erect_domain_request bytes [] []
unfolding erect_domain_request
erect_again bytes e =
    let later : List ℕ = length e.interval ∷ (e.interval ++ e.more) in (
      length e.height ∷ (e.height ++ later),
      e.whole,
      (length e.height ∷ [], e.height, later, refl, refl, refl, (length e.interval ∷ [], e.interval, e.more, refl, refl, refl, (refl, refl))),
    )

attach_again : (bytes : List ℕ) → bytes ≡ 40 ∷ [] → IsText attach_user_request bytes [] []
unfolding attach_user_request
attach_again bytes e = ([], e, (refl, refl, refl))

join_again : (bytes : List ℕ) (user channel : ℕ) (j : IsJoin bytes user channel)
    → IsText channel_join_request bytes (big_number 2 j.initiator ∷ big_number 2 j.id ∷ []) []
unfolding channel_join_request
join_again bytes user channel j = (
  j.initiator ++ j.id,
  j.whole,
  (
    j.initiator,
    j.id,
    big_number 2 j.id ∷ [],
    j.by.two,
    user_again j.initiator user j.by,
    refl,
    refl,
    (j.id, [], [], j.to.two, refl, sym (append-nil j.id), refl, (refl, refl, refl)),
  ),
)

data_again : (bytes : List ℕ) (user channel : ℕ) (body : Range) (d : IsData bytes user channel body)
    → IsText send_data_request bytes (big_number 2 d.initiator ∷ big_number 2 d.id ∷ d.flags ∷ length d.carried ∷ []) []
unfolding send_data_request
data_again bytes user channel body d =
    let counted : List ℕ = d.count ++ d.carried in
    let last : List ℕ = length d.carried ∷ [] in (
      d.initiator ++ (d.id ++ (d.flags ∷ counted)),
      d.whole,
      (
        d.initiator,
        d.id ++ (d.flags ∷ counted),
        big_number 2 d.id ∷ d.flags ∷ last,
        d.by.two,
        user_again d.initiator user d.by,
        refl,
        refl,
        (
          d.id,
          d.flags ∷ counted,
          d.flags ∷ last,
          d.on.two,
          refl,
          refl,
          refl,
          (
            d.flags ∷ [],
            counted,
            last,
            refl,
            ap (λ n. has_bits 48 n) (one_value d.flags) ∙ d.segmentation,
            refl,
            ap (λ n. n ∷ last) (sym (one_value d.flags)),
            (d.count, d.carried, d.counted, refl, refl, refl),
          ),
        ),
      ),
    )

ultimatum_again : (bytes : List ℕ) (reason : ℕ) (u : IsUltimatum bytes reason) → IsText (ultimatum u.first) bytes (u.second ∷ []) []
unfolding ultimatum
ultimatum_again bytes reason u =
    let known : reason_of u.first u.second ≤ 4 = omega (arith, u.is, u.known) in
    let low : has_reason u.first u.second ≡ true = grind (arith, nat_tests, known) in (
      u.second ∷ [],
      u.whole,
      (
        u.second ∷ [],
        [],
        [],
        refl,
        ap (λ n. has_reason u.first n) (one_value u.second) ∙ low,
        refl,
        ap (λ n. n ∷ []) (sym (one_value u.second)),
        (refl, refl, refl),
      ),
    )

basic_again : (bytes : List ℕ) → bytes ≡ basic_bytes → IsText basic_ultimatum bytes [] []
unfolding basic_ultimatum
basic_again bytes e = ([], e, (refl, refl, refl))

-- ---- the whole

abbrev got : DomainPdu → Result DomainPdu BadDomain
got pdu = Ok pdu

-- a text of the table of its first byte
read_by : (first : ℕ) (rest bytes : List ℕ) (c : Choice) (pdu : DomainPdu) (left : List ℕ) → bytes ≡ first ∷ rest → choice_of first ≡ c
    → pdu_at c first (length bytes) bytes ≡ Ok (pdu, left)
    → domain_pdu_of bytes ≡ got pdu
read_by first rest bytes c pdu left e o r =
    let fault : ℕ → BadDomain = λ at. record { at = at } in
    let first_bytes : List ℕ = first ∷ rest in
    ap domain_pdu_of e
    ∙ ap (λ k. placed fault first_bytes (pdu_at k first (length first_bytes) first_bytes)) o
    ∙ ap (λ xs. placed fault xs (pdu_at c first (length xs) xs)) (sym e)
    ∙ ap (placed fault bytes) r

same_join : (a b user channel : ℕ) → user ≡ a → channel ≡ b → Join a b ≡ Join user channel
same_join a b user channel e f = ap (λ x. Join x b) (sym e) ∙ ap (λ y. Join user y) (sym f)

abbrev place_of : ℕ → ℕ → Range
place_of from to = record { from = from; to = to }

same_data : (a b user channel : ℕ) (place : Range) (from to : ℕ) → user ≡ a → channel ≡ b → place.from ≡ from → place.to ≡ to
    → Data a b (place_of from to) ≡ Data user channel place
same_data a b user channel place from to e f g h =
    ap (λ x. Data x b (place_of from to)) (sym e)
    ∙ ap (λ y. Data user y (place_of from to)) (sym f)
    ∙ ap (λ x. Data user channel (place_of x to)) (sym g)
    ∙ ap (λ y. Data user channel (place_of place.from y)) (sym h)

chosen_by : (first k : ℕ) → first ≡ 32 + k → k ≤ 2 → choice_of first ≡ DisconnectProviderUltimatum
chosen_by first zero e h = let f : first ≡ 32 = omega (arith, e) in ap choice_of f
chosen_by first (suc zero) e h = let f : first ≡ 33 = omega (arith, e) in ap choice_of f
chosen_by first (suc (suc zero)) e h = let f : first ≡ 34 = omega (arith, e) in ap choice_of f
chosen_by first (suc (suc (suc k))) e h = absurd (omega (arith, h))

from_end : (bytes before part : List ℕ) → bytes ≡ before ++ part → length before ≡ length bytes - length part
from_end bytes before part e = omega (arith, ap length e, length-append before part)

abbrev got_read : DomainPdu → Read DomainPdu
got_read pdu = Ok (pdu, [])

pub pdu_again : (bytes : List ℕ) (pdu : DomainPdu) → IsDomainPdu bytes pdu → domain_pdu_of bytes ≡ Ok pdu
pdu_again bytes Erect e =
    read_by 4 (length e.height ∷ (e.height ++ (length e.interval ∷ (e.interval ++ e.more)))) bytes ErectDomainRequest Erect [] e.whole refl
    (ap (map_read (λ _. Erect)) (text_is_read erect_domain_request bytes [] [] (erect_again bytes e)))
pdu_again bytes Attach e =
    read_by 40 [] bytes AttachUserRequest Attach [] e refl (ap (map_read (λ _. Attach)) (text_is_read attach_user_request bytes [] [] (attach_again bytes e)))
pdu_again bytes (Join user channel) j =
    let values : List ℕ = big_number 2 j.initiator ∷ big_number 2 j.id ∷ [] in
    read_by 56 (j.initiator ++ j.id) bytes ChannelJoinRequest (Join user channel) [] j.whole refl
    (ap (map_read join_of) (text_is_read channel_join_request bytes values [] (join_again bytes user channel j))
    ∙ ap got_read (same_join (1001 + big_number 2 j.initiator) (big_number 2 j.id) user channel j.by.is j.to.is))
pdu_again bytes (Data user channel body) d =
    let values : List ℕ = big_number 2 d.initiator ∷ big_number 2 d.id ∷ d.flags ∷ length d.carried ∷ [] in
    let place = d.place in
    read_by 100 (d.initiator ++ (d.id ++ (d.flags ∷ (d.count ++ d.carried)))) bytes SendDataRequest (Data user channel body) [] d.whole refl
    (ap (map_read (data_of (length bytes))) (text_is_read send_data_request bytes values [] (data_again bytes user channel body d))
    ∙ ap got_read (same_data (1001 + big_number 2 d.initiator) (big_number 2 d.id) user channel body (length bytes - length d.carried) (length bytes)
    d.by.is d.on.is
    (place.from ∙ from_end bytes place.before d.carried place.whole) place.to))
pdu_again bytes (Bye reason) (inl u) =
    let k : ℕ = u.first - 32 in
    read_by u.first (u.second ∷ []) bytes DisconnectProviderUltimatum (Bye reason) [] u.whole
    (chosen_by u.first k (omega (arith, u.least)) (omega (arith, u.most)))
    (ap (map_read (bye_of u.first)) (text_is_read (ultimatum u.first) bytes (u.second ∷ []) [] (ultimatum_again bytes reason u))
    ∙ ap (λ r. got_read (Bye r)) (sym u.is))
pdu_again bytes (Bye reason) (inr b) =
    read_by 48 (6 ∷ 2 ∷ 2 ∷ 0 ∷ 3 ∷ 48 ∷ 0 ∷ []) bytes BasicUltimatum (Bye reason) [] b.0 refl
    (ap (map_read (λ _. Bye 3)) (text_is_read basic_ultimatum bytes [] [] (basic_again bytes b.0)) ∙ ap (λ r. got_read (Bye r)) (sym b.1))

-- ---- where none stands

refused_by : (r : Result DomainPdu BadDomain) (bytes : List ℕ) → domain_pdu_of bytes ≡ r → IsErr r → (pdu : DomainPdu) → IsDomainPdu bytes pdu → ⊥
refused_by (Ok v) bytes e err pdu i = let no : ⊥ = cc in no
refused_by (Err fault) bytes e err pdu i =
    let f = pdu_again bytes pdu i in
    let no : ⊥ = cc in no

absent_by : (r : Result DomainPdu BadDomain) (bytes : List ℕ) → domain_pdu_of bytes ≡ r → ((pdu : DomainPdu) → IsDomainPdu bytes pdu → ⊥) → IsErr r
absent_by (Ok v) bytes e none = absurd (none v (pdu_ok bytes v e))
absent_by (Err fault) bytes e none = refl

pub none_stands : (bytes : List ℕ) → IsErr (domain_pdu_of bytes) ↔ ((pdu : DomainPdu) → IsDomainPdu bytes pdu → ⊥)
none_stands bytes = (refused_by (domain_pdu_of bytes) bytes refl, absent_by (domain_pdu_of bytes) bytes refl)

-- ---- the place of a body

body_in : (bytes : List ℕ) (pdu : DomainPdu) → IsDomainPdu bytes pdu → HasBodyAtEnd (length bytes) pdu
body_in bytes Erect e = tt
body_in bytes Attach e = tt
body_in bytes (Join user channel) j = tt
body_in bytes (Data user channel body) d =
    let place = d.place in
    (omega (arith, place.from, place.to, ap length place.whole, length-append place.before d.carried), place.to)
body_in bytes (Bye reason) u = tt

body_by : (r : Result DomainPdu BadDomain) (bytes : List ℕ) → domain_pdu_of bytes ≡ r → IfOk r (HasBodyAtEnd (length bytes))
body_by (Ok pdu) bytes e = body_in bytes pdu (pdu_ok bytes pdu e)
body_by (Err fault) bytes e = tt

pub body_at_end : (bytes : List ℕ) → IfOk (domain_pdu_of bytes) (HasBodyAtEnd (length bytes))
body_at_end bytes = body_by (domain_pdu_of bytes) bytes refl
