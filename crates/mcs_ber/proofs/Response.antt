-- A Connect-Response is its headers and its content.
use Rattle.std.proofs.Common.{◌≡◌, ℕ, ◌+◌, List, [], ◌∷◌, ◌++◌, length, ap, ◌∙◌, sym, subst, append_assoc, append-nil, length-append, arith, refl}
use Rattle.byteorder.specs.Endian.{big_bytes}
use Rattle.wire_num.specs.Length.{ber_len_of}
use Rattle.wire_num.specs.Written.{AppendsFront}
use Rattle.wire_num.proofs.Fronts.{front_before, front_after}
use Rattle.tpkt_x224.specs.Tpkt.{packet_of}
use Rattle.tpkt_x224.specs.Data.{data_header}
use Rattle.mcs_ber.specs.ConnectResponse.{response_content, response_headers, connect_response}

-- ---- two parts

pub both : (old first second middle new whole : List ℕ) → whole ≡ first ++ second → middle ≡ old ++ first → new ≡ middle ++ second → new ≡ old ++ whole
both old first second middle new whole w e f =
    f ∙ ap (λ xs. xs ++ second) e ∙ append_assoc old first second ∙ ap (λ xs. old ++ xs) (sym w)

pub first_begun : (old first second new whole : List ℕ) → whole ≡ first ++ second → AppendsFront old first new → AppendsFront old whole new
first_begun old first second new whole w f =
    let P : List ℕ → Type 0 = λ xs. AppendsFront old xs new in subst P (sym w) (front_before old first second new f)

pub second_begun : (old first second middle new whole : List ℕ) → whole ≡ first ++ second → middle ≡ old ++ first → AppendsFront middle second new → AppendsFront old whole new
second_begun old first second middle new whole w e f =
    let P : List ℕ → Type 0 = λ xs. AppendsFront old xs new in subst P (sym w) (front_after old first second middle new e f)

-- nothing was written
pub none_begun : (old more new : List ℕ) → new ≡ old → AppendsFront old more new
none_begun old more new e = record { sent = []; rest = more; whole = refl; written = e ∙ sym (append-nil old) }

-- ---- the packet

framed : (ber content : List ℕ) → packet_of (data_header ++ ((127 ∷ 102 ∷ []) ++ (ber ++ content)))
    ≡ ((3 ∷ 0 ∷ big_bytes 2 (9 + length ber + length content)) ++ (data_header ++ ((127 ∷ 102 ∷ []) ++ ber))) ++ content
framed ber content =
    let e : 4 + length (data_header ++ ((127 ∷ 102 ∷ []) ++ (ber ++ content))) ≡ 9 + length ber + length content = omega (arith, length-append ber content) in
    ap (λ n. (3 ∷ 0 ∷ big_bytes 2 n) ++ (data_header ++ ((127 ∷ 102 ∷ []) ++ (ber ++ content)))) e

content_size : (user : List ℕ) → length (response_content user) ≡ 35 + length (ber_len_of (length user)) + length user
content_size user = omega (arith, length-append (ber_len_of (length user)) user)

pub response_is : (user : List ℕ) (n : ℕ) → n ≡ 35 + length (ber_len_of (length user)) + length user → connect_response user ≡ response_headers n ++ response_content user
unfolding connect_response response_headers
response_is user n e =
    framed (ber_len_of (length (response_content user))) (response_content user)
    ∙ ap (λ k. ((3 ∷ 0 ∷ big_bytes 2 (9 + length (ber_len_of k) + k)) ++ (data_header ++ ((127 ∷ 102 ∷ []) ++ ber_len_of k))) ++ response_content user) (content_size user ∙ sym e)
