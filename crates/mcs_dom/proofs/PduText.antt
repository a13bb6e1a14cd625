-- A domain PDU that was read stands there.
use Rattle.std.proofs.Common.{◌≡◌, ℕ, ◌+◌, ◌-◌, ◌≤◌, Bool, true, false, cond, List, [], ◌∷◌, ◌++◌, length, refl, ap, sym, ◌∙◌, arith, length-append, append_assoc, append-nil, subst, ◌⊎◌, inl, inr}
use Rattle.std.specs.Prelude.{◌==◌, nat_le, slice_index, Ok, Err}
use Rattle.std.proofs.lemmas.Bool.Decides.{nat_tests}
use Rattle.byteorder.specs.Endian.{big_number}
use Rattle.wire_num.specs.FieldValue.{placed}
use Rattle.wire_num.specs.Field.{Read}
use Rattle.wire_num.specs.Layout.{fields_at}
use Rattle.wire_num.specs.Grammar.{IsOneByte, IsText}
use Rattle.wire_num.proofs.Steps.{map_ok}
use Rattle.wire_num.proofs.ReadIsText.{read_is_text}
use Rattle.mcs_dom.specs.declared.bad_domain.BadDomain.{BadDomain}
use Rattle.mcs_dom.specs.declared.domain_pdu.DomainPdu.{DomainPdu}
use Rattle.mcs_dom.specs.declared.domain_pdu.DomainPdu.TheVariants.{Erect, Attach, Bye}
use Rattle.mcs_dom.specs.User.{is_user}
use Rattle.mcs_dom.specs.ErectDomain.{erect_domain_request}
use Rattle.mcs_dom.specs.AttachUser.{attach_user_request}
use Rattle.mcs_dom.specs.ChannelJoin.{channel_join_request, join_of}
use Rattle.mcs_dom.specs.SendData.{send_data_request, data_of}
use Rattle.mcs_dom.specs.Ultimatum.{reason_of, ultimatum, bye_of, basic_bytes, basic_ultimatum}
use Rattle.mcs_dom.specs.DomainPdu.{Choice, ErectDomainRequest, AttachUserRequest, ChannelJoinRequest, SendDataRequest, DisconnectProviderUltimatum, BasicUltimatum, Other, choice_of, pdu_at, domain_at, domain_pdu_of}
use Rattle.mcs_dom.specs.Grammar.{IsErectDomain, IsUser, IsJoin, IsEndOf, IsData, IsUltimatum, IsDomainPdu}

-- ---- one byte, and the user's two

one_byte : (text : List ℕ) → length text ≡ 1 → text ≡ big_number 1 text ∷ []
one_byte [] e = absurd (omega (arith, e))
one_byte (b ∷ []) e = let value : b ≡ big_number 1 (b ∷ []) = omega arith in ap (λ x. x ∷ []) value
one_byte (b ∷ c ∷ text) e = absurd (omega (arith, e))

user_fits : (above : ℕ) → is_user above ≡ true → 1001 + above ≤ 65535
user_fits above e = grind (arith, nat_tests, e)

user_is : (text : List ℕ) → length text ≡ 2 → is_user (big_number 2 text) ≡ true → IsUser text (1001 + big_number 2 text)
user_is text two e = record { two = two; is = refl; fits = user_fits (big_number 2 text) e }

-- a count of one byte, and its content
one_count : (count : List ℕ) (n : ℕ) → IsOneByte count n → count ≡ n ∷ []
one_count [] n p = absurd p
one_count (b ∷ []) n p = ap (λ x. x ∷ []) (sym p)
one_count (b ∷ c ∷ count) n p = absurd p

counted : (bytes count content more : List ℕ) → IsOneByte count (length content) → bytes ≡ count ++ (content ++ more)
    → bytes ≡ length content ∷ (content ++ more)
counted bytes count content more p e = e ∙ ap (λ xs. xs ++ (content ++ more)) (one_count count (length content) p)

-- ---- each PDU

erect_stands : (bytes values left : List ℕ) → IsText erect_domain_request bytes values left → IsErectDomain bytes
unfolding erect_domain_request
erect_stands bytes values left t =
    let height = t.2 in
    let interval = height.6 in
    record {
      height = height.1;
      interval = interval.1;
      more = interval.2;
      whole = t.1 ∙ ap (λ xs. 4 ∷ xs) (counted t.0 height.0 height.1 height.2 height.3 height.5
          ∙ ap (λ xs. length height.1 ∷ (height.1 ++ xs)) (counted height.2 interval.0 interval.1 interval.2 interval.3 interval.5));
    }

attach_stands : (bytes values left : List ℕ) → IsText attach_user_request bytes values left → bytes ≡ 40 ∷ []
unfolding attach_user_request
attach_stands bytes values left t = t.1 ∙ ap (λ xs. 40 ∷ xs) t.2.1

join_stands : (bytes values left : List ℕ) → IsText channel_join_request bytes values left → IsJoin bytes (1001 + slice_index values 0) (slice_index values 1)
unfolding channel_join_request
join_stands bytes values left t =
    let user = t.2 in
    let channel = user.7 in
    let all : values ≡ big_number 2 user.0 ∷ big_number 2 channel.0 ∷ [] =
    user.6 ∙ ap (λ xs. big_number 2 user.0 ∷ xs) (channel.6 ∙ ap (λ xs. big_number 2 channel.0 ∷ xs) channel.7.0) in
    let stands : IsJoin bytes (1001 + big_number 2 user.0) (big_number 2 channel.0) = record {
      initiator = user.0;
      id = channel.0;
      whole = t.1 ∙ ap (λ xs. 56 ∷ xs) (user.5 ∙ ap (λ xs. user.0 ++ xs) (channel.5 ∙ ap (λ xs. channel.0 ++ xs) channel.7.1 ∙ append-nil channel.0));
      by = user_is user.0 user.3 user.4;
      to = record { two = channel.3; is = refl };
    } in
    subst (λ vs. IsJoin bytes (1001 + slice_index vs 0) (slice_index vs 1)) (sym all) stands

-- the last bytes, seen from the end
at_end : (bytes before part : List ℕ) → bytes ≡ before ++ part → IsEndOf bytes part (record { from = length bytes - length part; to = length bytes })
at_end bytes before part e = record {
  before = before;
  whole = e;
  from = omega (arith, ap length e, length-append before part);
  to = refl;
}

-- the bytes before a body
abbrev pub before_body : List ℕ → List ℕ → ℕ → List ℕ → List ℕ
before_body initiator id flags count = 100 ∷ (initiator ++ (id ++ (flags ∷ count)))

pub regrouped : (initiator id : List ℕ) (flags : ℕ) (count body : List ℕ)
    → 100 ∷ (initiator ++ (id ++ (flags ∷ (count ++ body)))) ≡ before_body initiator id flags count ++ body
regrouped initiator id flags count body =
    ap (λ xs. 100 ∷ xs) (ap (λ xs. initiator ++ xs) (sym (append_assoc id (flags ∷ count) body)) ∙ sym (append_assoc initiator (id ++ (flags ∷ count)) body))

abbrev DataOf : List ℕ → List ℕ → Type 0
DataOf bytes values =
    IsData bytes (1001 + slice_index values 0) (slice_index values 1) (record { from = length bytes - slice_index values 3; to = length bytes })

data_stands : (bytes values left : List ℕ) → IsText send_data_request bytes values left → DataOf bytes values
unfolding send_data_request
data_stands bytes values left t =
    let user = t.2 in
    let channel = user.7 in
    let flags = channel.7 in
    let body = flags.7 in
    let bits : ℕ = big_number 1 flags.0 in
    let all : values ≡ big_number 2 user.0 ∷ big_number 2 channel.0 ∷ bits ∷ length body.1 ∷ [] =
    user.6 ∙ ap (λ xs. big_number 2 user.0 ∷ xs) (channel.6 ∙ ap (λ xs. big_number 2 channel.0 ∷ xs) (flags.6 ∙ ap (λ xs. bits ∷ xs) body.4)) in
    let whole : bytes ≡ 100 ∷ (user.0 ++ (channel.0 ++ (bits ∷ (body.0 ++ body.1)))) =
    t.1 ∙ ap (λ xs. 100 ∷ xs) (user.5 ∙ ap (λ xs. user.0 ++ xs) (channel.5
    ∙ ap (λ xs. channel.0 ++ xs) (flags.5 ∙ ap (λ xs. xs ++ flags.1) (one_byte flags.0 flags.3) ∙ ap (λ xs. bits ∷ xs) body.3))) in
    let stands : DataOf bytes (big_number 2 user.0 ∷ big_number 2 channel.0 ∷ bits ∷ length body.1 ∷ []) = record {
      initiator = user.0;
      id = channel.0;
      flags = bits;
      count = body.0;
      carried = body.1;
      whole = whole;
      by = user_is user.0 user.3 user.4;
      on = record { two = channel.3; is = refl };
      segmentation = flags.4;
      counted = body.2;
      place = at_end bytes (before_body user.0 channel.0 bits body.0) body.1 (whole ∙ regrouped user.0 channel.0 bits body.0 body.1);
    } in
    subst (DataOf bytes) (sym all) stands

-- a first byte that chooses an ultimatum
chooses : (a b c d e f g h : Bool) → cond a ErectDomainRequest (cond b AttachUserRequest (cond c ChannelJoinRequest (cond d SendDataRequest
    (cond e DisconnectProviderUltimatum (cond f DisconnectProviderUltimatum (cond g DisconnectProviderUltimatum (cond h BasicUltimatum Other)))))))
    ≡ DisconnectProviderUltimatum
    → (e ≡ true) ⊎ ((f ≡ true) ⊎ (g ≡ true))
chooses true b c d e f g h p = absurd (let no : ⊥ = cc in no)
chooses false true c d e f g h p = absurd (let no : ⊥ = cc in no)
chooses false false true d e f g h p = absurd (let no : ⊥ = cc in no)
chooses false false false true e f g h p = absurd (let no : ⊥ = cc in no)
chooses false false false false true f g h p = inl refl
chooses false false false false false true g h p = inr (inl refl)
chooses false false false false false false true h p = inr (inr refl)
chooses false false false false false false false true p = absurd (let no : ⊥ = cc in no)
chooses false false false false false false false false p = absurd (let no : ⊥ = cc in no)

record InOrder (first : ℕ) : Type 0 where
  least : 32 ≤ first
  most : first ≤ 34

in_order : (first n : ℕ) → (first == n) ≡ true → 32 ≤ n → n ≤ 34 → InOrder first
in_order first n e low high =
    let same : first ≡ n = grind (arith, nat_tests, e) in
    record { least = omega (arith, same, low); most = omega (arith, same, high) }

chosen_by : (first : ℕ) → ((first == 32) ≡ true) ⊎ (((first == 33) ≡ true) ⊎ ((first == 34) ≡ true)) → InOrder first
chosen_by first (inl e) = in_order first 32 e (omega arith) (omega arith)
chosen_by first (inr (inl e)) = in_order first 33 e (omega arith) (omega arith)
chosen_by first (inr (inr e)) = in_order first 34 e (omega arith) (omega arith)

chosen : (first : ℕ) → choice_of first ≡ DisconnectProviderUltimatum → InOrder first
chosen first e =
    chosen_by first (chooses (first == 4) (first == 40) (first == 56) (first == 100) (first == 32) (first == 33) (first == 34) (first == 48) e)

known_reason : (reason : ℕ) → nat_le reason 4 ≡ true → reason ≤ 4
known_reason reason e = grind (arith, nat_tests, e)

ultimatum_stands : (first : ℕ) (bytes values left : List ℕ) → InOrder first → IsText (ultimatum first) bytes values left
    → IsUltimatum bytes (reason_of first (slice_index values 0))
unfolding ultimatum
ultimatum_stands first bytes values left o t =
    let second = t.2 in
    let value : ℕ = big_number 1 second.0 in
    let all : values ≡ value ∷ [] = second.6 ∙ ap (λ xs. value ∷ xs) second.7.0 in
    let stands : IsUltimatum bytes (reason_of first value) = record {
      first = first;
      second = value;
      whole = t.1 ∙ ap (λ xs. first ∷ xs) (second.5 ∙ ap (λ xs. xs ++ second.1) (one_byte second.0 second.3) ∙ ap (λ xs. value ∷ xs) second.7.1);
      least = o.least;
      most = o.most;
      is = refl;
      known = known_reason (reason_of first value) second.4;
    } in
    subst (λ vs. IsUltimatum bytes (reason_of first (slice_index vs 0))) (sym all) stands

basic_stands : (bytes values left : List ℕ) → IsText basic_ultimatum bytes values left → bytes ≡ basic_bytes
unfolding basic_ultimatum
basic_stands bytes values left t = t.1 ∙ ap (λ xs. basic_bytes ++ xs) t.2.1

-- ---- the whole

abbrev Stands : List ℕ → DomainPdu → Type 0
Stands bytes pdu = IsDomainPdu bytes pdu

stands_by : (c : Choice) (first : ℕ) (bytes : List ℕ) (y : DomainPdu × List ℕ) → choice_of first ≡ c → pdu_at c first (length bytes) bytes ≡ Ok y
    → Stands bytes y.0
stands_by ErectDomainRequest first bytes y o e =
    let m = map_ok (λ _. Erect) (fields_at erect_domain_request bytes) y e in
    subst (Stands bytes) m.2 (erect_stands bytes m.0.0 m.0.1 (read_is_text erect_domain_request bytes m.0.0 m.0.1 m.1))
stands_by AttachUserRequest first bytes y o e =
    let m = map_ok (λ _. Attach) (fields_at attach_user_request bytes) y e in
    subst (Stands bytes) m.2 (attach_stands bytes m.0.0 m.0.1 (read_is_text attach_user_request bytes m.0.0 m.0.1 m.1))
stands_by ChannelJoinRequest first bytes y o e =
    let m = map_ok join_of (fields_at channel_join_request bytes) y e in
    subst (Stands bytes) m.2 (join_stands bytes m.0.0 m.0.1 (read_is_text channel_join_request bytes m.0.0 m.0.1 m.1))
stands_by SendDataRequest first bytes y o e =
    let m = map_ok (data_of (length bytes)) (fields_at send_data_request bytes) y e in
    subst (Stands bytes) m.2 (data_stands bytes m.0.0 m.0.1 (read_is_text send_data_request bytes m.0.0 m.0.1 m.1))
stands_by DisconnectProviderUltimatum first bytes y o e =
    let m = map_ok (bye_of first) (fields_at (ultimatum first) bytes) y e in
    subst (Stands bytes) m.2 (inl (ultimatum_stands first bytes m.0.0 m.0.1 (chosen first o) (read_is_text (ultimatum first) bytes m.0.0 m.0.1 m.1)))
stands_by BasicUltimatum first bytes y o e =
    let m = map_ok (λ _. Bye 3) (fields_at basic_ultimatum bytes) y e in
    subst (Stands bytes) m.2 (inr (basic_stands bytes m.0.0 m.0.1 (read_is_text basic_ultimatum bytes m.0.0 m.0.1 m.1), refl))
stands_by Other first bytes y o e = absurd (let no : ⊥ = cc in no)

domain_stands : (bytes : List ℕ) (y : DomainPdu × List ℕ) → domain_at (length bytes) bytes ≡ Ok y → Stands bytes y.0
domain_stands [] y e = absurd (let no : ⊥ = cc in no)
domain_stands (first ∷ bs) y e = stands_by (choice_of first) first (first ∷ bs) y refl e

placed_ok : (bs : List ℕ) (r : Read DomainPdu) (pdu : DomainPdu) → placed (λ at. let fault : BadDomain = record { at = at } in fault) bs r ≡ Ok pdu
    → (left : List ℕ) × (r ≡ Ok (pdu, left))
placed_ok bs (Ok v) pdu e =
    let h : v.0 ≡ pdu = cc in (v.1, ap (λ q. Ok (q, v.1)) h)
placed_ok bs (Err left) pdu e = absurd (let no : ⊥ = cc in no)

pub pdu_ok : (bytes : List ℕ) (pdu : DomainPdu) → domain_pdu_of bytes ≡ Ok pdu → IsDomainPdu bytes pdu
pdu_ok bytes pdu e =
    let p = placed_ok bytes (domain_at (length bytes) bytes) pdu e in
    domain_stands bytes (pdu, p.0) p.1
